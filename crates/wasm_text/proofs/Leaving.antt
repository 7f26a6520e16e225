-- Marks that are left out, and flags of what has none.
use Rattle.std.proofs.Common.{◌≡◌, ℕ, ◌+◌, ◌<◌, ◌≤◌, ◌⊎◌, inl, inr, Bool, true, false, List, [], ◌∷◌, ◌++◌, length, map, drop, get_or, refl, sym, ap, ap₂, subst, ◌∙◌, arith}
use Rattle.std.specs.Prelude.{nat_eq, nat_le, ◌&&◌, ◌||◌, Vec}
use Rattle.std.specs.List.{list_any}
use Rattle.std.proofs.lemmas.List.{append-nil}
use Rattle.std.specs.declared.alloc.Global.{Global}
use Rattle.std.proofs.lemmas.Bool.{eq-eqb, le-leb, and_parts as parts, false≢true as untrue}
use Rattle.std.proofs.lemmas.List.Folds.{list_any-append}
use Rattle.wasm_forms.specs.Grammar.{Is, U32}
use Rattle.wasm_operators.specs.declared.operator.RawArg.{RawArg}
use Rattle.wasm_operators.specs.declared.operator.RawArg.TheVariants as args
use Rattle.wasm_operators.specs.declared.kind.Kind.{Kind}
use Rattle.wasm_operators.specs.declared.kind.Kind.TheVariants as kinds
use Rattle.wasm_operators.specs.Forms.{arg_form, args_form, access}
use Rattle.wasm_operators.specs.Spelling.{arg_bytes}
use Rattle.wasm_text.specs.declared.limits.Limits.{Limits}
use Rattle.wasm_text.specs.declared.unmarked.Unmarked.{Unmarked}
use Rattle.wasm_text.specs.Places.{between, Stands, IsShortest, IfPlace}
use Rattle.wasm_text.specs.Marks.{place_of, kind_of, form_of, AreInOrder, shifted}
use Rattle.wasm_text.specs.Scans.{mark_at, IsMarked, IsMarkedIfPadded, IsIndexed, HasArgs, ScansArgs}
use Rattle.wasm_text.specs.Unmarked.{needs_none, IsUnneeded, AreLeft, is_local, is_access, AreNamed, Flags, HasLeft, ScansLeft, IsShortAccess}
use Rattle.wasm_text.proofs.Steps.{order_from}
use Rattle.wasm_text.proofs.Between.{join}
use Rattle.wasm_text.proofs.Forms.{stands_byte, unsigned_byte}
use Rattle.wasm_text.proofs.Shortest.{number_once, lone_between}
use Rattle.wasm_text.proofs.Scans.{of_one, marked_arg, marked_args, local_scans, access_text, place_as}

-- ---- marks that are left

-- each may be
pub all_left : (first : ℕ) (accessed : Bool) (bytes marks : List ℕ) → AreLeft first accessed bytes marks marks
all_left first accessed bytes [] = refl
all_left first accessed bytes (mark ∷ marks) = inr (marks, (refl, all_left first accessed bytes marks))

-- no more than there are
pub left_few : (first : ℕ) (accessed : Bool) (bytes all left : List ℕ) → AreLeft first accessed bytes all left → length left ≤ length all
left_few first accessed bytes [] left e = omega (arith, ap length e)
left_few first accessed bytes (mark ∷ all) left (inl (none, more)) = omega (arith, left_few first accessed bytes all left more)
left_few first accessed bytes (mark ∷ all) left (inr (rest, (e, more))) = omega (arith, ap length e, left_few first accessed bytes all rest more)

-- those behind others
pub left_behind : (first : ℕ) (accessed : Bool) (bytes all left all' left' : List ℕ) → AreLeft first accessed bytes all left → AreLeft first accessed bytes all' left' → AreLeft first accessed bytes (all ++ all') (left ++ left')
left_behind first accessed bytes [] left all' left' e h = subst (λ (l : List ℕ). AreLeft first accessed bytes all' (l ++ left')) (sym e) h
left_behind first accessed bytes (mark ∷ all) left all' left' (inl (none, more)) h = inl (none, left_behind first accessed bytes all left all' left' more h)
left_behind first accessed bytes (mark ∷ all) left all' left' (inr (rest, (e, more))) h = inr (rest ++ left', (ap (λ l. l ++ left') e, left_behind first accessed bytes all rest all' left' more h))

-- in order as before
pub left_in_order : (first : ℕ) (accessed : Bool) (bytes : List ℕ) (from : ℕ) (all left : List ℕ) → AreInOrder bytes from all → AreLeft first accessed bytes all left → AreInOrder bytes from left
left_in_order first accessed bytes from [] left h e = subst (λ (l : List ℕ). AreInOrder bytes from l) (sym e) h
left_in_order first accessed bytes from (mark ∷ all) left (there, (arg, (behind, (s, rest)))) (inl (none, more)) =
    order_from bytes from behind left (omega (arith, there, s.forward)) (left_in_order first accessed bytes behind all left rest more)
left_in_order first accessed bytes from (mark ∷ all) left (there, (arg, (behind, (s, rest)))) (inr (some, (e, more))) =
    subst (λ (l : List ℕ). AreInOrder bytes from l) (sym e) (there, (arg, (behind, (s, left_in_order first accessed bytes behind all some rest more))))

-- what needs no mark needs none where one more kind needs none
needless_still : (first : ℕ) (accessed accessed' : Bool) (arg : RawArg) → (accessed ≡ true → accessed' ≡ true) → needs_none first accessed arg ≡ true → needs_none first accessed' arg ≡ true
needless_still first accessed accessed' (args.Local n) h e = e
needless_still first accessed accessed' (args.Access flags memory offset) h e = let p = parts accessed (nat_eq memory 0) e in ap₂ (λ x y. x && y) (h p.0) p.1
needless_still first accessed accessed' arg h e = absurd (untrue e)

pub left_still : (first : ℕ) (accessed accessed' : Bool) (bytes all left : List ℕ) → (accessed ≡ true → accessed' ≡ true) → AreLeft first accessed bytes all left → AreLeft first accessed' bytes all left
left_still first accessed accessed' bytes [] left h e = e
left_still first accessed accessed' bytes (mark ∷ all) left h (inl (u, more)) =
    inl (record { arg = u.arg; behind = u.behind; stands = u.stands; needless = needless_still first accessed accessed' u.arg h u.needless; spelled = u.spelled }, left_still first accessed accessed' bytes all left h more)
left_still first accessed accessed' bytes (mark ∷ all) left h (inr (rest, (e, more))) = inr (rest, (e, left_still first accessed accessed' bytes all rest h more))

-- ---- flags

-- none anew
pub nothing_flagged : (unmarked : Unmarked) (named : List RawArg) → Flags unmarked unmarked named
nothing_flagged unmarked named = record { same = refl; locals = λ n h. inl h; memory = λ h. inl h; stays = λ h. h }

is_flagged : (flag : Type 0) (n k : ℕ) → flag ⊎ (k ≡ n) → flag ⊎ (list_any (is_local k) (args.Local n ∷ []) ≡ true)
is_flagged flag n k (inl h) = inl h
is_flagged flag n k (inr e) = inr (ap (λ t. t || false) (eq-eqb n k (sym e)))

-- one of a local
one_flagged : (before after : Unmarked) (n : ℕ) → after.first ≡ before.first → after.accessed ≡ before.accessed
    → ((k : ℕ) → get_or after.named.items k false ≡ true → (get_or before.named.items k false ≡ true) ⊎ (k ≡ n)) → Flags before after (args.Local n ∷ [])
one_flagged before after n first accessed named = record {
  same = first;
  locals = λ k h. is_flagged (get_or before.named.items k false ≡ true) n k (named k h);
  memory = λ h. inl (sym accessed ∙ h);
  stays = λ h. accessed ∙ h;
}

-- what is named behind what was named before
either : (x y : Bool) → (x ≡ true) ⊎ (y ≡ true) → (x || y) ≡ true
either true y h = refl
either false y (inl e) = absurd (untrue e)
either false y (inr e) = e

any_more : (p : RawArg → Bool) (named more : List RawArg) (flag : Type 0) → (flag → list_any p named ≡ true) → flag ⊎ (list_any p more ≡ true) → list_any p (named ++ more) ≡ true
any_more p named more flag f (inl h) = list_any-append p named more ∙ either (list_any p named) (list_any p more) (inl (f h))
any_more p named more flag f (inr h) = list_any-append p named more ∙ either (list_any p named) (list_any p more) (inr h)

pub named_more : (before after : Unmarked) (named more : List RawArg) → AreNamed before named → Flags before after more → AreNamed after (named ++ more)
named_more before after named more a f = record {
  locals = λ n h. any_more (is_local n) named more (get_or before.named.items n false ≡ true) (a.locals n) (f.locals n h);
  memory = λ h. any_more is_access named more (before.accessed ≡ true) a.memory (f.memory h);
}

-- ---- what a scan finds

-- arguments whose marks are all left
pub marked_left : (listed : List Kind) (limits : Limits) (before after : Unmarked) (bytes : List ℕ) (at behind : ℕ) (old new : List ℕ)
    → (h : HasArgs (args_form listed) limits bytes at behind old new) → Flags before after h.args → HasLeft listed limits before after bytes at behind old new
marked_left listed limits before after bytes at behind old new h flags = record {
  all = map (shifted at) h.marks;
  found = record { args = h.args; marks = h.marks; is = h.is; shown = h.shown; put = refl; fit = h.fit; forward = h.forward; within = h.within };
  left = map (shifted at) h.marks;
  are_left = all_left after.first after.accessed bytes (map (shifted at) h.marks);
  put = h.put;
  flags = flags;
}

-- the same where nothing is flagged
pub scans_left : (listed : List Kind) (limits : Limits) (unmarked : Unmarked) (bytes : List ℕ) (at : ℕ) (old new : List ℕ) (behind : ℕ)
    → ScansArgs (args_form listed) limits bytes at old new behind → ScansLeft listed limits unmarked unmarked bytes at old new behind
scans_left listed limits unmarked bytes at old new behind =
    place_as behind (λ (h : HasArgs (args_form listed) limits bytes at behind old new). marked_left listed limits unmarked unmarked bytes at behind old new h (nothing_flagged unmarked h.args))

-- an argument without its one mark
none_left : (kind : Kind) (limits : Limits) (before after : Unmarked) (bytes : List ℕ) (at behind mark : ℕ) (old : List ℕ) (arg : RawArg) → (found : HasArgs (args_form (kind ∷ [])) limits bytes at behind [] (mark ∷ [])) → found.args ≡ arg ∷ []
    → IsUnneeded after.first after.accessed bytes mark → Flags before after (arg ∷ []) → HasLeft (kind ∷ []) limits before after bytes at behind old old
none_left kind limits before after bytes at behind mark old arg found is unneeded flags = record {
  all = mark ∷ [];
  found = found;
  left = [];
  are_left = inl (unneeded, refl);
  put = sym (append-nil old);
  flags = subst (λ (xs : List RawArg). Flags before after xs) (sym is) flags;
}

-- what stands at a place is what stands at its mark
unneeded_at : (first : ℕ) (accessed : Bool) (bytes : List ℕ) (at behind kind : ℕ) (arg : RawArg) → kind < 16 → Stands (form_of kind) bytes at behind arg → needs_none first accessed arg ≡ true → arg_bytes arg ≡ between at behind bytes
    → IsUnneeded first accessed bytes (mark_at at kind)
unneeded_at first accessed bytes at behind kind arg small stands needless spelled =
    let place : place_of (mark_at at kind) ≡ at = omega (arith, small) in
    let same : kind_of (mark_at at kind) ≡ kind = omega (arith, small) in
    record {
      arg = arg;
      behind = behind;
      stands = subst (λ (k : ℕ). Stands (form_of k) bytes (place_of (mark_at at kind)) behind arg) (sym same) (subst (λ (k : ℕ). Stands (form_of kind) bytes k behind arg) (sym place) stands);
      needless = needless;
      spelled = spelled ∙ ap (λ k. between k behind bytes) (sym place);
    }

-- ---- locals

local_left : (limits : Limits) (before after : Unmarked) (bytes : List ℕ) (at behind n : ℕ) (old new : List ℕ) → Stands U32 bytes at behind n → n < limits.locals → before.first ≤ n → after.first ≡ before.first → after.accessed ≡ before.accessed
    → ((k : ℕ) → get_or after.named.items k false ≡ true → (get_or before.named.items k false ≡ true) ⊎ (k ≡ n))
    → (IsShortest (between at behind bytes) × (new ≡ old)) ⊎ (new ≡ old ++ mark_at at 0 ∷ []) → HasLeft (kinds.Local ∷ []) limits before after bytes at behind old new
unfolding form_of arg_form
local_left limits before after bytes at behind n old new s small past first accessed named (inl (one, kept)) =
    let text : Is (form_of 0) (between at behind bytes) (args.Local n) = (n, (refl, s.text)) in
    let stands : Stands (form_of 0) bytes at behind (args.Local n) = record { forward = s.forward; within = s.within; text = text } in
    let is : Is (args_form (kinds.Local ∷ [])) (between at behind bytes) (args.Local n ∷ []) = of_one kinds.Local (between at behind bytes) (args.Local n ∷ []) (n, (refl, s.text)) in
    let needless : needs_none after.first after.accessed (args.Local n) ≡ true = ap (λ k. nat_le k n) first ∙ le-leb before.first n past in
    subst (λ (k : List ℕ). HasLeft (kinds.Local ∷ []) limits before after bytes at behind old k) (sym kept)
    (none_left kinds.Local limits before after bytes at behind (mark_at at 0) old (args.Local n)
    (marked_arg (args_form (kinds.Local ∷ [])) limits bytes at behind 0 [] (mark_at at 0 ∷ []) (args.Local n) (args.Local n) (omega arith) stands is (λ f l. refl) refl small refl)
    (marked_args (args_form (kinds.Local ∷ [])) limits bytes at behind 0 [] (mark_at at 0 ∷ []) (args.Local n) (args.Local n) (omega arith) stands is (λ f l. refl) refl small refl)
    (unneeded_at after.first after.accessed bytes at behind 0 (args.Local n) (omega arith) stands needless (number_once 5 4294967296 bytes at behind n (omega arith) one s))
    (one_flagged before after n first accessed named))
local_left limits before after bytes at behind n old new s small past first accessed named (inr put) =
    let text : Is (form_of 0) (between at behind bytes) (args.Local n) = (n, (refl, s.text)) in
    let stands : Stands (form_of 0) bytes at behind (args.Local n) = record { forward = s.forward; within = s.within; text = text } in
    let is : Is (args_form (kinds.Local ∷ [])) (between at behind bytes) (args.Local n ∷ []) = of_one kinds.Local (between at behind bytes) (args.Local n ∷ []) (n, (refl, s.text)) in
    marked_left (kinds.Local ∷ []) limits before after bytes at behind old new
    (marked_arg (args_form (kinds.Local ∷ [])) limits bytes at behind 0 old new (args.Local n) (args.Local n) (omega arith) stands is (λ f l. refl) refl small put)
    (subst (λ (xs : List RawArg). Flags before after xs)
    (sym (marked_args (args_form (kinds.Local ∷ [])) limits bytes at behind 0 old new (args.Local n) (args.Local n) (omega arith) stands is (λ f l. refl) refl small put)) (one_flagged before after n first accessed named))

-- the index in one byte
pub short_stands : (bytes : List ℕ) (at b n : ℕ) → drop at bytes ≡ b ∷ drop (at + 1) bytes → at < length bytes → b < 128 → n ≡ b → Stands U32 bytes at (at + 1) n
short_stands bytes at b n lead there low e =
    subst (λ (k : ℕ). Stands U32 bytes at (at + 1) k) (sym e) (stands_byte U32 bytes at b b lead there (unsigned_byte 5 4294967296 b (omega arith) low (omega (arith, low))))

-- one below the first that needs no mark
pub low_local : (limits : Limits) (unmarked : Unmarked) (bytes : List ℕ) (at behind n : ℕ) (old new : List ℕ) (place : ℕ) → n < limits.locals → IfPlace behind (Stands U32 bytes at behind n) → IsMarked at 0 behind old new place
    → ScansLeft (kinds.Local ∷ []) limits unmarked unmarked bytes at old new place
low_local limits unmarked bytes at behind n old new place small s (e, put) =
    scans_left (kinds.Local ∷ []) limits unmarked bytes at old new place
    (local_scans limits bytes at old new place (subst (λ (k : ℕ). IfPlace k (IsIndexed limits.locals 0 bytes at k old new)) (sym e)
    (place_as behind (λ (t : Stands U32 bytes at behind n). record { number = n; stands = t; small = small; put = put }) s)))

pub short_local : (limits : Limits) (before after : Unmarked) (bytes : List ℕ) (at n : ℕ) (old : List ℕ) → Stands U32 bytes at (at + 1) n → n < limits.locals → before.first ≤ n
    → after.first ≡ before.first → after.accessed ≡ before.accessed → ((k : ℕ) → get_or after.named.items k false ≡ true → (get_or before.named.items k false ≡ true) ⊎ (k ≡ n))
    → ScansLeft (kinds.Local ∷ []) limits before after bytes at old old (at + 1)
short_local limits before after bytes at n old s small past first accessed named =
    inr (local_left limits before after bytes at (at + 1) n old old s small past first accessed named (inl (lone_between bytes at (at + 1) (omega arith), refl)))

pub long_local : (limits : Limits) (before after : Unmarked) (bytes : List ℕ) (at behind n : ℕ) (old new : List ℕ) (place : ℕ) → IfPlace behind (Stands U32 bytes at behind n) → n < limits.locals → before.first ≤ n
    → after.first ≡ before.first → after.accessed ≡ before.accessed → ((k : ℕ) → get_or after.named.items k false ≡ true → (get_or before.named.items k false ≡ true) ⊎ (k ≡ n))
    → IsMarkedIfPadded bytes at 0 behind old new place → ScansLeft (kinds.Local ∷ []) limits before after bytes at old new place
long_local limits before after bytes at behind n old new place s small past first accessed named (e, put) =
    subst (λ (k : ℕ). ScansLeft (kinds.Local ∷ []) limits before after bytes at old new k) (sym e)
    (place_as behind (λ (t : Stands U32 bytes at behind n). local_left limits before after bytes at behind n old new t small past first accessed named put) s)

-- ---- accesses

pub access_left : (limits : Limits) (before after : Unmarked) (bytes : List ℕ) (at behind : ℕ) (old : List ℕ) → 0 < limits.memories → after.first ≡ before.first → after.named ≡ before.named → after.accessed ≡ true
    → IsShortAccess bytes at behind → HasLeft (kinds.Access ∷ []) limits before after bytes at behind old old
unfolding form_of arg_form
access_left limits before after bytes at behind old some first named accessed s =
    let arg : RawArg = args.Access s.flags 0 s.offset in
    let lead : Stands U32 bytes at (at + 1) s.flags = stands_byte U32 bytes at s.flags s.flags s.first (omega (arith, s.stands.forward, s.stands.within)) (unsigned_byte 5 4294967296 s.flags (omega arith) (omega (arith, s.small)) (omega (arith, s.small))) in
    let text : Is access (between at behind bytes) arg = access_text bytes at (at + 1) behind s.flags s.offset s.small lead s.stands in
    let stands : Stands (form_of 6) bytes at behind arg = record { forward = omega (arith, s.stands.forward); within = s.stands.within; text = text } in
    let is : Is (args_form (kinds.Access ∷ [])) (between at behind bytes) (arg ∷ []) = of_one kinds.Access (between at behind bytes) (arg ∷ []) (arg, (refl, text)) in
    let spelled : arg_bytes arg ≡ between at behind bytes =
    ap₂ (λ x y. x ++ y) (number_once 5 4294967296 bytes at (at + 1) s.flags (omega arith) (lone_between bytes at (at + 1) (omega arith)) lead) (number_once 10 18446744073709551616 bytes (at + 1) behind s.offset (omega arith) s.shortest s.stands)
    ∙ join bytes at (at + 1) behind (omega arith) (omega (arith, s.stands.forward)) in
    let flags : Flags before after (arg ∷ []) = record { same = first; locals = λ n h. inl (sym (ap (λ (v : Vec Bool Global). get_or v.items n false) named) ∙ h); memory = λ h. inr refl; stays = λ h. accessed } in
    none_left kinds.Access limits before after bytes at behind (mark_at at 6) old arg
    (marked_arg (args_form (kinds.Access ∷ [])) limits bytes at behind 6 [] (mark_at at 6 ∷ []) arg arg (omega arith) stands is (λ f l. refl) refl some refl)
    (marked_args (args_form (kinds.Access ∷ [])) limits bytes at behind 6 [] (mark_at at 6 ∷ []) arg arg (omega arith) stands is (λ f l. refl) refl some refl)
    (unneeded_at after.first after.accessed bytes at behind 6 arg (omega arith) stands (ap (λ t. t && true) accessed) spelled)
    flags
