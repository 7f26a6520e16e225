-- Flags of the locals that arguments at marks name.
use Rattle.std.proofs.Common.{◌≡◌, ℕ, zero, suc, ◌+◌, ◌-◌, ◌<◌, ◌≤◌, ◌⊎◌, inl, inr, Bool, true, false, List, [], ◌∷◌, ◌++◌, length, take, drop, get_or, map, refl, sym, ap, ap₂, subst, ◌∙◌, arith, replicate}
use Rattle.std.specs.Prelude.{◌≢◌, ◌↔◌, Contains, nat_eq, nat_le, nat_lt, flat_map, slice_set}
use Rattle.std.specs.List.{list_all}
use Rattle.std.proofs.lemmas.Bool.{ltb-true, and_parts as parts}
use Rattle.std.proofs.lemmas.Bool.Decides.{eqb_tells}
use Rattle.std.proofs.lemmas.Grind.{get_or-set_at}
use Rattle.std.proofs.lemmas.List.{get_or-set_other, get_or-map, length-replicate, length-map, map-append, drop_all, take_all}
use Rattle.std.proofs.lemmas.List.Elements.{Contains-append_cases, Contains-append_left, Contains-append_right, Contains-get_or}
use Rattle.wasm_text.specs.RawArg.{RawArg}
use Rattle.wasm_text.specs.Places.{between, IsNumberAt}
use Rattle.wasm_text.specs.Marks.{place_of, kind_of, AreInOrder, args_at, all_args}
use Rattle.walrus_base.specs.Operators.{Arg, Index, Label, Local, Number, Count, Byte, S32, S64, Bits32, Bits64, Value, Heap, Block, Access, Op, arg_locals, op_locals, locals_of}
use Rattle.walrus_code.specs.FromRaw.{arg_of}
use Rattle.wasm_text.specs.Classes.{is_plain}
use Rattle.walrus_bodies.specs.Blocks.{are_nested}
use Rattle.walrus_bodies.specs.Locals.{AreMarked, Flags, indices_named}
use Rattle.walrus_bodies.specs.Names.{OfArgument}
use Rattle.walrus_bodies.specs.Placed.{moved_arg, placed_ops}
use Rattle.walrus_bodies.specs.Plain.{is_plain_arg, is_plain_op, are_plain}
use Rattle.walrus_bodies.specs.Texts.{texts_at}
use Rattle.walrus_bodies.specs.Text.{bytes_of, entry_of, left_out_of, marks_of, texts_of, first_local_of, local_count_of, ops_in}
use Rattle.walrus_bodies.specs.declared.text.Text.{Text}
use Rattle.walrus_bodies.proofs.OrderLemmas.{left_out_named, shown_of}
use Rattle.walrus_bodies.proofs.LeftNames.{FromLeft, asked_gives, from_marks, local_is, to_marks}
use Rattle.wasm_text.specs.RawArg.TheVariants as raw
use Rattle.wasm_text.specs.Unmarked.{is_local}
use Rattle.wasm_text.specs.Operators as wire
use Rattle.wasm_text.proofs.Marked.{by_kind}
use Rattle.walrus_bodies.proofs.AtMarks.{local_at}
use Rattle.walrus_bodies.proofs.NamesShown.{AreLeft, next_at, left_at, indices_quiet, flat_texts}
use Rattle.walrus_bodies.proofs.HeldLemmas.{plain}
use Rattle.walrus_base.proofs.InSet.{none_in as nothing}

-- ---- one flag

pub only : (p x : ℕ) → Contains (p ∷ []) x → x ≡ p
only p x (zero, low, is) = sym is
only p x (suc k, low, is) = absurd (omega (arith, low))

flags_kept : (old : List Bool) (indices : List ℕ) → ((x : ℕ) → Contains indices x → x < length old → ⊥) → Flags old old indices
flags_kept old indices none x = (
  λ h. inl h,
  λ h. elim h as (λ _. get_or old x false ≡ true) [
    | inl k ↦ k
    | inr k ↦ absurd (none x k.0 k.1)
  ],
)

flags_none : (old : List Bool) (indices : List ℕ) → indices ≡ [] → Flags old old indices
flags_none old indices e = flags_kept old indices (λ x c low. nothing x (subst (λ (xs : List ℕ). Contains xs x) e c))

flags_past : (old : List Bool) (i : ℕ) → length old ≤ i → Flags old old (i ∷ [])
flags_past old i past = flags_kept old (i ∷ []) (λ x c low. let e = only i x c in omega (arith, e, low, past))

module _ (old : List Bool) (i : ℕ) (low : i < length old) where
  was : (x : ℕ) → (nat_eq x i ≡ true) × (x ≡ i) ⊎ ((nat_eq x i ≡ false) × (x ≢ i)) → get_or (slice_set old i true) x false ≡ true → (get_or old x false ≡ true) ⊎ (Contains (i ∷ []) x × (x < length old))
  was x (inl e) h = inr ((0, omega arith, sym e.1), omega (arith, e.1, low))
  was x (inr e) h = inl (sym (get_or-set_other old i x true false e.1) ∙ h)

  still : (x : ℕ) → (nat_eq x i ≡ true) × (x ≡ i) ⊎ ((nat_eq x i ≡ false) × (x ≢ i)) → get_or old x false ≡ true → get_or (slice_set old i true) x false ≡ true
  still x (inl e) h = get_or-set_at old i x true false e.1 low
  still x (inr e) h = get_or-set_other old i x true false e.1 ∙ h

  now : (x : ℕ) → (get_or old x false ≡ true) ⊎ (Contains (i ∷ []) x × (x < length old)) → get_or (slice_set old i true) x false ≡ true
  now x (inl h) = still x (eqb_tells x i) h
  now x (inr h) = get_or-set_at old i x true false (only i x h.0) low

  flags_one : Flags old (slice_set old i true) (i ∷ [])
  flags_one x = (was x (eqb_tells x i), now x)

module _ (old mid new : List Bool) (is js : List ℕ) (long : length mid ≡ length old) where
  to_both : (x : ℕ) → Flags old mid is → (get_or mid x false ≡ true) ⊎ (Contains js x × (x < length mid)) → (get_or old x false ≡ true) ⊎ (Contains (is ++ js) x × (x < length old))
  to_both x f (inr h) = inr (Contains-append_right is js x h.0, omega (arith, h.1, long))
  to_both x f (inl h) = elim ((f x).0 h) as (λ _. (get_or old x false ≡ true) ⊎ (Contains (is ++ js) x × (x < length old))) [
    | inl k ↦ inl k
    | inr k ↦ inr (Contains-append_left is js x k.0, k.1)
  ]

  from_both : (x : ℕ) → Flags old mid is → (get_or old x false ≡ true) ⊎ (Contains (is ++ js) x × (x < length old)) → (get_or mid x false ≡ true) ⊎ (Contains js x × (x < length mid))
  from_both x f (inl h) = inl ((f x).1 (inl h))
  from_both x f (inr h) = elim (Contains-append_cases is js x h.0) as (λ _. (get_or mid x false ≡ true) ⊎ (Contains js x × (x < length mid))) [
    | inl k ↦ inl ((f x).1 (inr (k, h.1)))
    | inr k ↦ inr (k, omega (arith, h.1, long))
  ]

  flags_both : Flags old mid is → Flags mid new js → Flags old new (is ++ js)
  flags_both f g x = (λ h. to_both x f ((g x).0 h), λ h. (g x).1 (from_both x f h))

-- ---- at a mark

as_named : (old new : List Bool) (arg : RawArg) (indices : List ℕ) → indices_named arg ≡ indices → Flags old new indices → Flags old new (indices_named arg)
as_named old new arg indices e f = subst (λ (xs : List ℕ). Flags old new xs) (sym e) f

pub other_flag : (bytes : List ℕ) (mark : ℕ) (old : List Bool) → kind_of mark ≢ 0 → OfArgument bytes mark (λ arg. Flags old old (indices_named arg))
other_flag bytes mark old n0 arg behind s =
    let none = by_kind (λ a. indices_named a ≡ []) (kind_of mark) (between (place_of mark) behind bytes) arg (λ e. absurd (n0 e)) (λ _ n. refl) (λ _ n. refl) (λ _ n. refl) (λ _ n. refl) (λ _ n. refl) (λ _ flags memory offset. refl) (λ n. refl) (λ z. refl) (λ z. refl) (λ _ b. refl) s.text in
    flags_none old (indices_named arg) none

pub local_flag : (bytes : List ℕ) (mark i : ℕ) (old : List Bool) → kind_of mark ≡ 0 → IsNumberAt bytes (place_of mark) i → i < length old → OfArgument bytes mark (λ arg. Flags old (slice_set old i true) (indices_named arg))
local_flag bytes mark i old k is low arg behind s = as_named old (slice_set old i true) arg (i ∷ []) (ap indices_named (local_at bytes mark i k is arg behind s)) (flags_one old i low)

pub past_flag : (bytes : List ℕ) (mark i : ℕ) (old : List Bool) → kind_of mark ≡ 0 → IsNumberAt bytes (place_of mark) i → length old ≤ i → OfArgument bytes mark (λ arg. Flags old old (indices_named arg))
past_flag bytes mark i old k is past arg behind s = as_named old old arg (i ∷ []) (ap indices_named (local_at bytes mark i k is arg behind s)) (flags_past old i past)

-- ---- at all marks

-- what flagging those that are left does, flagging all does
pub record Flagging (bytes marks left : List ℕ) (old now : List Bool) : Type 0 where
  pub ordered : AreLeft bytes left
  pub then_all : (new : List Bool) → Flags now new (flat_map indices_named (args_at bytes left)) → Flags old new (flat_map indices_named (args_at bytes marks))
  pub as_many : length now ≡ length old

pub flag_first : (bytes marks : List ℕ) (old : List Bool) → AreInOrder bytes 0 marks → Flagging bytes marks marks old old
flag_first bytes marks old h = record { ordered = (0, h); then_all = λ new f. f; as_many = refl }

pub flag_more : (bytes marks : List ℕ) (i d : ℕ) (old now next : List Bool) → i < length marks → Flagging bytes marks (drop i marks) old now → OfArgument bytes (get_or marks i d) (λ arg. Flags now next (indices_named arg)) → length next ≡ length now → Flagging bytes marks (drop (i + 1) marks) old next
flag_more bytes marks i d old now next h g one long =
    let n = next_at bytes marks i d h g.ordered in
    let more = flat_map indices_named (args_at bytes (drop (i + 1) marks)) in
    let here : flat_map indices_named (args_at bytes (drop i marks)) ≡ indices_named n.arg ++ more = ap (λ l. flat_map indices_named (args_at bytes l)) (left_at marks i d h) ∙ ap (flat_map indices_named) n.args in
    record {
      ordered = (n.behind, n.ordered);
      then_all = λ new f. g.then_all new (subst (λ (xs : List ℕ). Flags now new xs) (sym here) (flags_both now next new (indices_named n.arg) more long (one n.arg n.behind n.stands) f));
      as_many = long ∙ g.as_many;
    }

pub flag_all : (bytes marks : List ℕ) (i : ℕ) (old now : List Bool) → length marks ≤ i → Flagging bytes marks (drop i marks) old now → Flags old now (flat_map indices_named (args_at bytes marks))
flag_all bytes marks i old now h g = g.then_all now (flags_none now (flat_map indices_named (args_at bytes (drop i marks))) (ap (λ l. flat_map indices_named (args_at bytes l)) (drop_all i marks h)))

-- ---- from one on

-- flagged are those that were, and those from one up to another, as far as they have flags
abbrev pub FlagsTo : (first i : ℕ) → (old new : List Bool) → Type 0
FlagsTo first i old new = (x : ℕ) → (get_or new x false ≡ true) ↔ ((get_or old x false ≡ true) ⊎ ((first ≤ x) × (x < i) × (x < length old)))

pub none_from : (first : ℕ) (old : List Bool) → FlagsTo first first old old
none_from first old x = (
  λ h. inl h,
  λ h. elim h as (λ _. get_or old x false ≡ true) [
    | inl k ↦ k
    | inr k ↦ absurd (omega (arith, k.0, k.1))
  ],
)

module _ (first i : ℕ) (old now : List Bool) (f : FlagsTo first i old now) (behind : first ≤ i) (low : i < length now) (long : length now ≡ length old) where
  one_to : (x : ℕ) → (get_or now x false ≡ true) ⊎ (Contains (i ∷ []) x × (x < length now)) → (get_or old x false ≡ true) ⊎ ((first ≤ x) × (x < i + 1) × (x < length old))
  one_to x (inr h) = let e = only i x h.0 in inr (omega (arith, e, behind), omega (arith, e), omega (arith, h.1, long))
  one_to x (inl h) = elim ((f x).0 h) as (λ _. (get_or old x false ≡ true) ⊎ ((first ≤ x) × (x < i + 1) × (x < length old))) [
    | inl k ↦ inl k
    | inr k ↦ inr (k.0, omega (arith, k.1), k.2)
  ]

  one_from : (x : ℕ) → (nat_eq x i ≡ true) × (x ≡ i) ⊎ ((nat_eq x i ≡ false) × (x ≢ i)) → (get_or old x false ≡ true) ⊎ ((first ≤ x) × (x < i + 1) × (x < length old)) → (get_or now x false ≡ true) ⊎ (Contains (i ∷ []) x × (x < length now))
  one_from x t (inl h) = inl ((f x).1 (inl h))
  one_from x (inl e) (inr h) = inr ((0, omega arith, sym e.1), omega (arith, h.2, long))
  one_from x (inr e) (inr h) = let n : x < i = ne_lt x i e.1 h.1 in inl ((f x).1 (inr (h.0, n, h.2)))
    where
      ne_lt : (a b : ℕ) → (a ≡ b → ⊥) → a < b + 1 → a < b
      ne_lt a b n l = omega (arith, n, l)

  pub one_more : FlagsTo first (i + 1) old (slice_set now i true)
  one_more x = (λ h. one_to x ((flags_one now i low x).0 h), λ h. (flags_one now i low x).1 (one_from x (eqb_tells x i) h))

-- ---- the locals of a body lie one behind another

moved_locals : (by : ℕ) (a : Arg) → arg_locals (moved_arg by a) ≡ map (λ x. by + x) (arg_locals a)
moved_locals by (Index x) = refl
moved_locals by (Local n) = refl
moved_locals by (Label n) = refl
moved_locals by (Number n) = refl
moved_locals by (Count n) = refl
moved_locals by (Byte n) = refl
moved_locals by (S32 z) = refl
moved_locals by (S64 z) = refl
moved_locals by (Bits32 n) = refl
moved_locals by (Bits64 n) = refl
moved_locals by (Value v) = refl
moved_locals by (Heap h) = refl
moved_locals by (Block b) = refl
moved_locals by (Access flags memory offset) = refl

flat_moved : (by : ℕ) (xs : List RawArg) → flat_map (λ a. map (λ x. by + x) (indices_named a)) xs ≡ map (λ x. by + x) (flat_map indices_named xs)
flat_moved by [] = refl
flat_moved by (x ∷ xs) = ap (λ l. map (λ n. by + n) (indices_named x) ++ l) (flat_moved by xs) ∙ sym (map-append (λ n. by + n) (indices_named x) (flat_map indices_named xs))

locals_named : (t : Text) → locals_of (placed_ops t.first_local (texts_at (entry_of t).count (bytes_of t))) ≡ map (λ x. t.first_local + x) (flat_map indices_named (all_args (texts_at (entry_of t).count (bytes_of t))))
locals_named t =
    let first = t.first_local in
    let texts = texts_at (entry_of t).count (bytes_of t) in
    flat_texts arg_locals (λ (a : RawArg). map (λ x. first + x) (indices_named a)) first (λ a. moved_locals first (arg_of a)) texts ∙ flat_moved first (all_args texts)

-- ---- each of them lies in the window

flat_within : {A : Type 0} (P : ℕ → Type 0) (g : A → List ℕ) (p : A → Bool) → ((a : A) → p a ≡ true → (x : ℕ) → Contains (g a) x → P x) → (xs : List A) → list_all p xs ≡ true → (x : ℕ) → Contains (flat_map g xs) x → P x
flat_within P g p each [] e x c = absurd (nothing x c)
flat_within P g p each (a ∷ xs) e x c =
    let q = parts (p a) (list_all p xs) e in
    elim (Contains-append_cases (g a) (flat_map g xs) x c) as (λ _. P x) [
      | inl k ↦ each a q.0 x k
      | inr k ↦ flat_within P g p each xs q.1 x k
    ]

module _ (first count : ℕ) where
  arg_within : (a : Arg) → is_plain_arg first count a ≡ true → (x : ℕ) → Contains (arg_locals a) x → x < first + count
  arg_within (Local n) e x c = let is = only n x c in let low = ltb-true n (first + count) (parts (nat_le first n) (nat_lt n (first + count)) e).1 in omega (arith, is, low)
  arg_within (Index i) e x c = absurd (nothing x c)
  arg_within (Label n) e x c = absurd (nothing x c)
  arg_within (Number n) e x c = absurd (nothing x c)
  arg_within (Count n) e x c = absurd (nothing x c)
  arg_within (Byte n) e x c = absurd (nothing x c)
  arg_within (S32 z) e x c = absurd (nothing x c)
  arg_within (S64 z) e x c = absurd (nothing x c)
  arg_within (Bits32 n) e x c = absurd (nothing x c)
  arg_within (Bits64 n) e x c = absurd (nothing x c)
  arg_within (Value v) e x c = absurd (nothing x c)
  arg_within (Heap h) e x c = absurd (nothing x c)
  arg_within (Block b) e x c = absurd (nothing x c)
  arg_within (Access flags memory offset) e x c = absurd (nothing x c)

  op_within : (o : Op) → is_plain_op first count o ≡ true → (x : ℕ) → Contains (op_locals o) x → x < first + count
  op_within o e = flat_within (λ x. x < first + count) arg_locals (is_plain_arg first count) arg_within o.args (parts (is_plain o.op) (list_all (is_plain_arg first count) o.args) e).1

  ops_within : (ops : List Op) → are_plain first count ops ≡ true → (x : ℕ) → Contains (locals_of ops) x → x < first + count
  ops_within ops e = flat_within (λ x. x < first + count) op_locals (is_plain_op first count) op_within ops (parts (list_all (is_plain_op first count) ops) (are_nested ops) e).0

-- ---- the flags of a body

never : (count x : ℕ) → get_or (replicate count false) x false ≡ true → ⊥
never zero x h = cc
never (suc count) zero h = cc
never (suc count) (suc x) h = never count x h

contains_moved : (by : ℕ) (is : List ℕ) (n : ℕ) → Contains is n → Contains (map (λ x. by + x) is) (by + n)
contains_moved by is n (k, low, e) = (k, omega (arith, low, length-map is (λ x. by + x)), get_or-map (λ x. by + x) is k n (by + n) low ∙ ap (λ x. by + x) e)

moved_contains : (by : ℕ) (is : List ℕ) (x : ℕ) → Contains (map (λ x. by + x) is) x → (n : ℕ) × (Contains is n × (x ≡ by + n))
moved_contains by is x (k, low, e) =
    let there : k < length is = omega (arith, low, length-map is (λ x. by + x)) in
    (get_or is k 0, (Contains-get_or is k 0 there, sym e ∙ get_or-map (λ x. by + x) is k 0 x there))

module _ (first count : ℕ) (start flags : List Bool) (indices places : List ℕ) (long : length start ≡ count) (none : (x : ℕ) → get_or start x false ≡ true → ⊥) (f : Flags start flags indices) (moved : places ≡ map (λ x. first + x) indices)
    (within : (x : ℕ) → Contains places x → x < first + count) where
  is_marked : (x : ℕ) → Contains places x → (first ≤ x) × (get_or flags (x - first) false ≡ true)
  is_marked x c =
      let m = moved_contains first indices x (subst (λ (xs : List ℕ). Contains xs x) moved c) in
      let low = within x c in
      let e : x - first ≡ m.0 = omega (arith, m.1.1) in
      (omega (arith, m.1.1), ap (λ k. get_or flags k false) e ∙ (f m.0).1 (inr (m.1.0, omega (arith, low, m.1.1, long))))

  is_there : (x : ℕ) → (first ≤ x) × (get_or flags (x - first) false ≡ true) → Contains places x
  is_there x h = elim ((f (x - first)).0 h.1) as (λ _. Contains places x) [
    | inl k ↦ absurd (none (x - first) k)
    | inr k ↦ let e : first + (x - first) ≡ x = omega (arith, h.0) in subst (λ (y : ℕ). Contains places y) e (subst (λ (xs : List ℕ). Contains xs (first + (x - first))) (sym moved) (contains_moved first indices (x - first) k.0))
  ]

  window : AreMarked first flags places
  window x = (is_marked x, is_there x)

-- flagged at marks, and from the first local on whose marks are left out
module _ (t : Text) (start mid flags : List Bool) (none : start ≡ replicate (entry_of t).locals false) (marked : Flags start mid (flat_map indices_named (args_at (bytes_of t) (marks_of t)))) (long : length mid ≡ length start)
    (others : (x : ℕ) → (get_or flags x false ≡ true) ↔ ((get_or mid x false ≡ true) ⊎ (((left_out_of t).first ≤ x) × (x < length mid)))) where
  abbrev texts : List wire.Op
  texts = texts_at (entry_of t).count (bytes_of t)

  abbrev named : List ℕ
  named = flat_map indices_named (all_args texts)

  alike : (flags offset flags' offset' : ℕ) → indices_named (raw.Access flags 0 offset) ≡ indices_named (raw.Access flags' 0 offset')
  alike flags offset flags' offset' = refl

  as_many : length start ≡ (entry_of t).locals
  as_many = ap length none ∙ length-replicate (entry_of t).locals false

  is_named : (x : ℕ) → (get_or mid x false ≡ true) ⊎ (((left_out_of t).first ≤ x) × (x < length mid)) → (get_or start x false ≡ true) ⊎ (Contains named x × (x < length start))
  is_named x (inl h) = elim ((marked x).0 h) as (λ _. (get_or start x false ≡ true) ⊎ (Contains named x × (x < length start))) [
    | inl k ↦ inl k
    | inr k ↦ inr (from_marks (left_out_of t) (bytes_of t) (marks_of t) texts (shown_of t) indices_named indices_quiet alike x k.0, k.1)
  ]
  is_named x (inr h) =
      let low : x < (entry_of t).locals = omega (arith, h.1, long, as_many) in
      inr (asked_gives indices_named x (is_local x) (λ b e. subst (λ (a : RawArg). Contains (indices_named a) x) (sym (local_is x b e)) (0, omega arith, refl)) (all_args texts) ((left_out_named t).each_local x h.0 low), omega (arith, h.1, long))

  of_left : (x : ℕ) → x < length start → FromLeft (left_out_of t) (bytes_of t) (marks_of t) texts (shown_of t) indices_named indices_quiet alike x → (get_or mid x false ≡ true) ⊎ (((left_out_of t).first ≤ x) × (x < length mid))
  of_left x low (inl c) = inl ((marked x).1 (inr (c, low)))
  of_left x low (inr (inl l)) = let is = only l.0 x l.1.1 in inr (omega (arith, is, l.1.0), omega (arith, low, long))
  of_left x low (inr (inr m)) = absurd (nothing x m.1.2)

  is_flagged : (x : ℕ) → (get_or start x false ≡ true) ⊎ (Contains named x × (x < length start)) → (get_or mid x false ≡ true) ⊎ (((left_out_of t).first ≤ x) × (x < length mid))
  is_flagged x (inl h) = inl ((marked x).1 (inl h))
  is_flagged x (inr h) = of_left x h.1 (to_marks (left_out_of t) (bytes_of t) (marks_of t) texts (shown_of t) indices_named indices_quiet alike x h.0)

  all_flagged : Flags start flags named
  all_flagged x = (λ h. is_named x ((others x).0 h), λ h. (others x).1 (is_flagged x h))

  pub used_shown : AreMarked (first_local_of t) flags (locals_of (ops_in t))
  unfolding texts_of first_local_of
  used_shown =
      let ops = placed_ops t.first_local texts in
      window t.first_local (entry_of t).locals start flags named (locals_of ops) as_many (λ x h. never (entry_of t).locals x (sym (ap (λ l. get_or l x false) none) ∙ h)) all_flagged (locals_named t) (ops_within t.first_local (entry_of t).locals ops (plain t))

-- each local is named from the first one on whose marks are left out
pub each_named : (t : Text) (index : ℕ) → (left_out_of t).first ≤ index → (x : ℕ) → index ≤ x → x < local_count_of t → Contains (locals_of (ops_in t)) (first_local_of t + x)
unfolding texts_of first_local_of local_count_of
each_named t index from x behind low =
    let texts = texts_at (entry_of t).count (bytes_of t) in
    let named = flat_map indices_named (all_args texts) in
    let here : Contains named x = asked_gives indices_named x (is_local x) (λ b e. subst (λ (a : RawArg). Contains (indices_named a) x) (sym (local_is x b e)) (0, omega arith, refl)) (all_args texts) ((left_out_named t).each_local x (omega (arith, from, behind)) low) in
    subst (λ (xs : List ℕ). Contains xs (t.first_local + x)) (sym (locals_named t)) (contains_moved t.first_local named x here)

pub all_off : (n k : ℕ) (old new : List Bool) → old ≡ [] → k ≡ 0 → new ≡ take n old ++ replicate (n - k) false → new ≡ replicate n false
all_off n k old new e z is =
    let m : n - k ≡ n = omega (arith, z) in
    is ∙ ap₂ (λ o i. take n o ++ replicate i false) e m ∙ ap (λ l. l ++ replicate n false) (take_all n [] (omega arith))

pub count_is : (t : Text) → local_count_of t ≡ (entry_of t).locals
unfolding local_count_of
count_is t = refl
