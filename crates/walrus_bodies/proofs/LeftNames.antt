-- What the arguments at marks name of which some are left out, and what the operators name that they show.
use Rattle.std.proofs.Common.{◌≡◌, ℕ, ◌≤◌, Bool, true, false, List, [], ◌∷◌, refl, sym, ap, subst, ◌∙◌, inl, inr}
use Rattle.std.specs.Prelude.{◌⊎◌, Contains, filter, flat_map, ◌&&◌, ◌||◌, not, nat_eq, if◌then◌else◌}
use Rattle.std.specs.List.{list_any}
use Rattle.std.proofs.lemmas.Bool.{and_parts, eq-eqb, eqb-true, leb-true}
use Rattle.std.proofs.lemmas.List.Elements.{Contains-append_cases, Contains-append_left, Contains-append_right}
use Rattle.walrus_base.proofs.Lists.{Contains-none}
use Rattle.wasm_text.specs.RawArg.{RawArg}
use Rattle.wasm_text.specs.RawArg.TheVariants as args
use Rattle.wasm_text.specs.Operators.{Op}
use Rattle.wasm_text.specs.Marks.{all_args, arg_names, args_at}
use Rattle.wasm_text.specs.Unmarked.{is_access, is_local, needs_none}
use Rattle.walrus_bodies.specs.Shown.{AreShown, needs_mark}
use Rattle.walrus_bodies.specs.declared.plain_code.LeftOut.{LeftOut}

any_first : (x y : Bool) → x ≡ true → (x || y) ≡ true
any_first true y e = refl
any_first false y e = cc

any_later : (x y : Bool) → y ≡ true → (x || y) ≡ true
any_later true y e = refl
any_later false y e = e

any_of : (x y : Bool) → (x || y) ≡ true → (x ≡ true) ⊎ (y ≡ true)
any_of true y e = inl refl
any_of false y e = inr e

module _ {X : Type 0} (g : RawArg → List X) (x : X) where
  -- one of these, which doesn't pass, gives it
  record Gives (p : RawArg → Bool) (xs : List RawArg) : Type 0 where
    arg : RawArg
    passed_over : p arg ≡ false
    given : Contains (g arg) x
    there : (asks : RawArg → Bool) → asks arg ≡ true → list_any asks xs ≡ true

  gives_more : (p : RawArg → Bool) (a : RawArg) (xs : List RawArg) → Gives p xs → Gives p (a ∷ xs)
  gives_more p a xs h = record { arg = h.arg; passed_over = h.passed_over; given = h.given; there = λ asks e. any_later (asks a) (list_any asks xs) (h.there asks e) }

  front : (p : RawArg → Bool) (a : RawArg) (xs : List RawArg) (t : Bool) → p a ≡ t → Contains (g a) x ⊎ (Contains (flat_map g (filter p xs)) x ⊎ Gives p xs) → Contains (flat_map g (if t then a ∷ filter p xs else filter p xs)) x ⊎ Gives p (a ∷ xs)
  front p a xs true e (inl c) = inl (Contains-append_left (g a) (flat_map g (filter p xs)) x c)
  front p a xs true e (inr (inl c)) = inl (Contains-append_right (g a) (flat_map g (filter p xs)) x c)
  front p a xs false e (inl c) = inr (record { arg = a; passed_over = e; given = c; there = λ asks h. any_first (asks a) (list_any asks xs) h })
  front p a xs false e (inr (inl c)) = inl c
  front p a xs t e (inr (inr h)) = inr (gives_more p a xs h)

  -- it comes of one that passes, or of one that doesn't
  pick : (p : RawArg → Bool) (xs : List RawArg) → Contains (flat_map g xs) x → Contains (flat_map g (filter p xs)) x ⊎ Gives p xs
  pick p [] c = absurd (Contains-none x c)
  pick p (a ∷ xs) c =
      front p a xs (p a) refl (elim (Contains-append_cases (g a) (flat_map g xs) x c) as (λ _. Contains (g a) x ⊎ (Contains (flat_map g (filter p xs)) x ⊎ Gives p xs)) [
        | inl k ↦ inl k
        | inr k ↦ inr (pick p xs k)
      ])

  back : (p : RawArg → Bool) (a : RawArg) (xs : List RawArg) (t : Bool) → (Contains (flat_map g (filter p xs)) x → Contains (flat_map g xs) x) → Contains (flat_map g (if t then a ∷ filter p xs else filter p xs)) x → Contains (flat_map g (a ∷ xs)) x
  back p a xs true rec c = elim (Contains-append_cases (g a) (flat_map g (filter p xs)) x c) as (λ _. Contains (flat_map g (a ∷ xs)) x) [
    | inl k ↦ Contains-append_left (g a) (flat_map g xs) x k
    | inr k ↦ Contains-append_right (g a) (flat_map g xs) x (rec k)
  ]
  back p a xs false rec c = Contains-append_right (g a) (flat_map g xs) x (rec c)

  unpick : (p : RawArg → Bool) (xs : List RawArg) → Contains (flat_map g (filter p xs)) x → Contains (flat_map g xs) x
  unpick p [] c = c
  unpick p (a ∷ xs) c = back p a xs (p a) (unpick p xs) c

  -- all that are asked for give it, so one that is there does
  pub asked_gives : (asks : RawArg → Bool) → ((a : RawArg) → asks a ≡ true → Contains (g a) x) → (xs : List RawArg) → list_any asks xs ≡ true → Contains (flat_map g xs) x
  asked_gives asks gives [] e = cc
  asked_gives asks gives (a ∷ xs) e = elim (any_of (asks a) (list_any asks xs) e) as (λ _. Contains (flat_map g (a ∷ xs)) x) [
    | inl k ↦ Contains-append_left (g a) (flat_map g xs) x (gives a k)
    | inr k ↦ Contains-append_right (g a) (flat_map g xs) x (asked_gives asks gives xs k)
  ]

-- ---- those without marks

pub local_is : (n : ℕ) (a : RawArg) → is_local n a ≡ true → a ≡ args.Local n
local_is n (args.Local m) e = ap args.Local (eqb-true m n e)
local_is n (args.Function k) e = cc
local_is n (args.«Type» k) e = cc
local_is n (args.Table k) e = cc
local_is n (args.Memory k) e = cc
local_is n (args.Global k) e = cc
local_is n (args.Tag k) e = cc
local_is n (args.Element k) e = cc
local_is n (args.Data k) e = cc
local_is n (args.Label k) e = cc
local_is n (args.Count k) e = cc
local_is n (args.Number k) e = cc
local_is n (args.Byte b) e = cc
local_is n (args.S32 z) e = cc
local_is n (args.S64 z) e = cc
local_is n (args.F32 bits) e = cc
local_is n (args.F64 bits) e = cc
local_is n (args.Value v) e = cc
local_is n (args.Heap h) e = cc
local_is n (args.Block b) e = cc
local_is n (args.Access flags memory offset) e = cc

-- an access to memory 0
pub record IsAccess (a : RawArg) : Type 0 where
  pub flags : ℕ
  pub offset : ℕ
  pub is : a ≡ args.Access flags 0 offset

pub access_is : (a : RawArg) → is_access a ≡ true → IsAccess a
access_is (args.Access flags memory offset) e = record { flags = flags; offset = offset; is = ap (λ n. args.Access flags n offset) (eqb-true memory 0 e) }
access_is (args.Local m) e = cc
access_is (args.Function k) e = cc
access_is (args.«Type» k) e = cc
access_is (args.Table k) e = cc
access_is (args.Memory k) e = cc
access_is (args.Global k) e = cc
access_is (args.Tag k) e = cc
access_is (args.Element k) e = cc
access_is (args.Data k) e = cc
access_is (args.Label k) e = cc
access_is (args.Count k) e = cc
access_is (args.Number k) e = cc
access_is (args.Byte b) e = cc
access_is (args.S32 z) e = cc
access_is (args.S64 z) e = cc
access_is (args.F32 bits) e = cc
access_is (args.F64 bits) e = cc
access_is (args.Value v) e = cc
access_is (args.Heap h) e = cc
access_is (args.Block b) e = cc

-- what goes without a mark: a local from one on, or an access to memory 0
abbrev pub Unmarked : LeftOut → RawArg → Type 0
Unmarked out a = ((n : ℕ) × ((a ≡ args.Local n) × (out.first ≤ n))) ⊎ (IsAccess a × (out.accessed ≡ true))

needless : (out : LeftOut) (a : RawArg) → needs_none out.first out.accessed a ≡ true → Unmarked out a
needless out (args.Local n) e = inl (n, (refl, leb-true out.first n e))
needless out (args.Access flags memory offset) e = let p = and_parts out.accessed (nat_eq memory 0) e in inr (access_is (args.Access flags memory offset) p.1, p.0)
needless out (args.Function k) e = cc
needless out (args.«Type» k) e = cc
needless out (args.Table k) e = cc
needless out (args.Memory k) e = cc
needless out (args.Global k) e = cc
needless out (args.Tag k) e = cc
needless out (args.Element k) e = cc
needless out (args.Data k) e = cc
needless out (args.Label k) e = cc
needless out (args.Count k) e = cc
needless out (args.Number k) e = cc
needless out (args.Byte b) e = cc
needless out (args.S32 z) e = cc
needless out (args.S64 z) e = cc
needless out (args.F32 bits) e = cc
needless out (args.F64 bits) e = cc
needless out (args.Value v) e = cc
needless out (args.Heap h) e = cc
needless out (args.Block b) e = cc

by_parts : (x y : Bool) → (x && not y) ≡ false → (x ≡ false) ⊎ (y ≡ true)
by_parts true true e = inr refl
by_parts true false e = cc
by_parts false y e = inl refl

-- what needs no mark names nothing, or goes without one
pub passed_over : (out : LeftOut) (a : RawArg) → needs_mark out a ≡ false → (arg_names a ≡ false) ⊎ Unmarked out a
passed_over out a e = elim (by_parts (arg_names a) (needs_none out.first out.accessed a) e) as (λ _. (arg_names a ≡ false) ⊎ Unmarked out a) [
  | inl k ↦ inl k
  | inr k ↦ inr (needless out a k)
]

pub silent_local : (n : ℕ) (a : RawArg) → arg_names a ≡ false → is_local n a ≡ false
silent_local n (args.Local m) e = cc
silent_local n (args.Access flags memory offset) e = refl
silent_local n (args.Function k) e = refl
silent_local n (args.«Type» k) e = refl
silent_local n (args.Table k) e = refl
silent_local n (args.Memory k) e = refl
silent_local n (args.Global k) e = refl
silent_local n (args.Tag k) e = refl
silent_local n (args.Element k) e = refl
silent_local n (args.Data k) e = refl
silent_local n (args.Label k) e = refl
silent_local n (args.Count k) e = refl
silent_local n (args.Number k) e = refl
silent_local n (args.Byte b) e = refl
silent_local n (args.S32 z) e = refl
silent_local n (args.S64 z) e = refl
silent_local n (args.F32 bits) e = refl
silent_local n (args.F64 bits) e = refl
silent_local n (args.Value v) e = refl
silent_local n (args.Heap h) e = refl
silent_local n (args.Block b) e = refl

pub silent_access : (a : RawArg) → arg_names a ≡ false → is_access a ≡ false
silent_access (args.Local m) e = refl
silent_access (args.Access flags memory offset) e = cc
silent_access (args.Function k) e = refl
silent_access (args.«Type» k) e = refl
silent_access (args.Table k) e = refl
silent_access (args.Memory k) e = refl
silent_access (args.Global k) e = refl
silent_access (args.Tag k) e = refl
silent_access (args.Element k) e = refl
silent_access (args.Data k) e = refl
silent_access (args.Label k) e = refl
silent_access (args.Count k) e = refl
silent_access (args.Number k) e = refl
silent_access (args.Byte b) e = refl
silent_access (args.S32 z) e = refl
silent_access (args.S64 z) e = refl
silent_access (args.F32 bits) e = refl
silent_access (args.F64 bits) e = refl
silent_access (args.Value v) e = refl
silent_access (args.Heap h) e = refl
silent_access (args.Block b) e = refl

-- ---- the marks of a body, and its operators

module _ (out : LeftOut) (bytes left : List ℕ) (texts : List Op) (s : AreShown out bytes left texts) {X : Type 0} (g : RawArg → List X) (quiet : (a : RawArg) → arg_names a ≡ false → g a ≡ [])
    (alike : (flags offset flags' offset' : ℕ) → g (args.Access flags 0 offset) ≡ g (args.Access flags' 0 offset')) (x : X) where
  as_access : (a b : RawArg) → IsAccess a → IsAccess b → Contains (g a) x → Contains (g b) x
  as_access a b h k c = subst (λ (l : List X). Contains l x) (ap g h.is ∙ alike h.flags h.offset k.flags k.offset ∙ sym (ap g k.is)) c

  marked_among : Gives g x (needs_mark out) (args_at bytes left) → Contains (flat_map g (all_args texts)) x
  marked_among h = elim (passed_over out h.arg h.passed_over) as (λ _. Contains (flat_map g (all_args texts)) x) [
    | inl q ↦ absurd (Contains-none x (subst (λ (l : List X). Contains l x) (quiet h.arg q) h.given))
    | inr u ↦ elim u as (λ _. Contains (flat_map g (all_args texts)) x) [
      | inl l ↦ asked_gives g x (is_local l.0) (λ b e. subst (λ (a : RawArg). Contains (g a) x) (l.1.0 ∙ sym (local_is l.0 b e)) h.given) (all_args texts)
          (s.among (is_local l.0) (silent_local l.0) (h.there (is_local l.0) (ap (is_local l.0) l.1.0 ∙ eq-eqb l.0 l.0 refl)))
      | inr m ↦ asked_gives g x is_access (λ b e. as_access h.arg b m.0 (access_is b e) h.given) (all_args texts) (s.among is_access silent_access (h.there is_access (ap is_access m.0.is)))
    ]
  ]

  -- what they name, the operators name
  pub from_marks : Contains (flat_map g (args_at bytes left)) x → Contains (flat_map g (all_args texts)) x
  from_marks c = elim (pick g x (needs_mark out) (args_at bytes left) c) as (λ _. Contains (flat_map g (all_args texts)) x) [
    | inl k ↦ unpick g x (needs_mark out) (all_args texts) (subst (λ (l : List RawArg). Contains (flat_map g l) x) (sym s.needed) k)
    | inr h ↦ marked_among h
  ]

  -- what these name, they name, or it is a local or the memory whose marks are left out
  abbrev pub FromLeft : Type 0
  FromLeft = Contains (flat_map g (args_at bytes left)) x ⊎ (((n : ℕ) × ((out.first ≤ n) × Contains (g (args.Local n)) x)) ⊎ ((out.accessed ≡ true) × ((flags offset : ℕ) × Contains (g (args.Access flags 0 offset)) x)))

  pub to_marks : Contains (flat_map g (all_args texts)) x → FromLeft
  to_marks c = elim (pick g x (needs_mark out) (all_args texts) c) as (λ _. FromLeft) [
    | inl k ↦ inl (unpick g x (needs_mark out) (args_at bytes left) (subst (λ (l : List RawArg). Contains (flat_map g l) x) s.needed k))
    | inr h ↦ elim (passed_over out h.arg h.passed_over) as (λ _. FromLeft) [
      | inl q ↦ absurd (Contains-none x (subst (λ (l : List X). Contains l x) (quiet h.arg q) h.given))
      | inr u ↦ elim u as (λ _. FromLeft) [
        | inl l ↦ inr (inl (l.0, (l.1.1, subst (λ (a : RawArg). Contains (g a) x) l.1.0 h.given)))
        | inr m ↦ inr (inr (m.1, (m.0.flags, m.0.offset, subst (λ (a : RawArg). Contains (g a) x) m.0.is h.given)))
      ]
    ]
  ]
