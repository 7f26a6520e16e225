-- Locals that lie one behind another, and keep their indices: nothing is made to tell them.
use Rattle.std.proofs.Common.{◌≡◌, ℕ, zero, suc, ◌+◌, ◌-◌, ◌<◌, ◌≤◌, ◌++◌, inl, inr, Bool, true, false, List, [], ◌∷◌, length, map, take, get_or, Option, Some, None, refl, sym, ap, ap₂, ◌∙◌, subst, arith}
use Rattle.std.specs.Prelude.{Contains, IsSome, flat_map, nat_eq, nat_le, nat_lt, slice_index_or, unwrap_or}
use Rattle.std.specs.List.{list_all, list_any, range_with_len}
use Rattle.std.proofs.lemmas.Bool.{and_parts, leb-true, ltb-true}
use Rattle.std.proofs.lemmas.List.{get_or-map, length-map, take_all}
use Rattle.std.proofs.lemmas.List.Elements.{Contains-append_cases}
use Rattle.std.proofs.lemmas.List.FromFn.{get_or-map-range_with_len, length-map-range_with_len, length-range_with_len, map-range_with_len_more}
use Rattle.walrus_base.specs.Arena.{item_at}
use Rattle.walrus_base.specs.Types.{ValType, I32}
use Rattle.walrus_base.specs.TypeDef.{TypeDef}
use Rattle.walrus_base.specs.Operators.{Arg, Index, Label, Local, Number, Count, Byte, S32, S64, Bits32, Bits64, Value, Heap, Block, Access, Op, arg_locals, op_locals, locals_of}
use Rattle.walrus_base.specs.Value.{val_type}
use Rattle.walrus_base.specs.declared.value.ValType.{ValType as DeclaredValType}
use Rattle.walrus_bodies.proofs.FlagLemmas.{only}
use Rattle.walrus_bodies.specs.Blocks.{are_nested}
use Rattle.walrus_bodies.specs.Classes.{is_plain}
use Rattle.walrus_bodies.specs.Locals.{AreMarked}
use Rattle.walrus_bodies.specs.Plain.{are_plain, is_plain_arg, is_plain_op}
use Rattle.walrus_functions.specs.Declaring.{AreRuns, group_of}
use Rattle.walrus_functions.specs.EmittedBody.{takes}
use Rattle.walrus_functions.specs.Held.{held_at}
use Rattle.walrus_functions.specs.Kept.{KeepsIndices, StayInPlace}
use Rattle.walrus_functions.specs.Writing.{HasSignature}
use Rattle.walrus_functions.proofs.AmongLemmas.{among, tested}
use Rattle.walrus_functions.proofs.KeptLemmas.{flagged}
use Rattle.wasm_forms.proofs.Bind.{some_same}
use Rattle.walrus_base.proofs.InSet.{none_in as nothing}
use Rattle.walrus_base.proofs.Turns.{map_more, map_snoc}

abbrev some : ValType ℕ → Option (ValType ℕ)
some v = Some v

-- ---- what they hold

module _ (slots : List (Option (ValType ℕ))) (first : ℕ) (wanted : List DeclaredValType) where
  pub typed_at : (i : ℕ) (d : DeclaredValType) → i < length wanted → map (item_at slots) (range_with_len first (length wanted)) ≡ map Some (map val_type wanted) → item_at slots (first + i) ≡ Some (val_type (slice_index_or wanted i d))
  typed_at i d low all =
      let lower : i < length (map val_type wanted) = omega (arith, low, length-map wanted val_type) in
      sym (get_or-map-range_with_len (item_at slots) first (length wanted) i (first + i) None low refl)
      ∙ ap (λ (os : List (Option (ValType ℕ))). get_or os i None) all
      ∙ get_or-map some (map val_type wanted) i (val_type d) None lower
      ∙ ap some (get_or-map val_type wanted i d (val_type d) low)

  pub typed_more : (i : ℕ) (d : DeclaredValType) → i < length wanted → map (item_at slots) (range_with_len first i) ≡ map Some (map val_type (take i wanted)) → item_at slots (first + i) ≡ Some (val_type (slice_index_or wanted i d)) → map (item_at slots) (range_with_len first (i + 1)) ≡ map Some (map val_type (take (i + 1) wanted))
  typed_more i d low so_far this =
      map-range_with_len_more (item_at slots) first i (first + i) refl
      ∙ ap₂ (λ (os : List (Option (ValType ℕ))) (o : Option (ValType ℕ)). os ++ o ∷ []) so_far this
      ∙ sym (ap (map some) (map_more val_type wanted i d low) ∙ map_snoc some (map val_type (take i wanted)) (val_type (slice_index_or wanted i d)))

  pub typed_all : (i : ℕ) → length wanted ≤ i → i ≤ length wanted → map (item_at slots) (range_with_len first i) ≡ map Some (map val_type (take i wanted)) → map (item_at slots) (range_with_len first (length wanted)) ≡ map Some (map val_type wanted)
  typed_all i past within so_far =
      let same : length wanted ≡ i = omega (arith, past, within) in
      ap (λ (n : ℕ). map (item_at slots) (range_with_len first n)) same ∙ so_far ∙ ap (λ (ws : List DeclaredValType). map Some (map val_type ws)) (take_all i wanted past)

-- as many parameters as types
pub as_many_fit : (def : Option TypeDef) (slots : List (Option (ValType ℕ))) (parameters : List ℕ) (wanted : List (ValType ℕ)) (first params : ℕ) → takes def ≡ Some wanted → parameters ≡ range_with_len first params → HasSignature def slots parameters → length wanted ≡ params
as_many_fit def slots parameters wanted first params taken are s =
    let same : wanted ≡ s.0 = some_same wanted s.0 (sym taken ∙ s.1.0) in
    ap length same ∙ sym (length-map s.0 some) ∙ ap length (sym s.1.1) ∙ length-map parameters (item_at slots) ∙ ap length are ∙ length-range_with_len first params

-- ---- runs of their types

module _ (slots : List (Option (ValType ℕ))) (first : ℕ) where
  -- the type of a local that is there
  pub held_there : (x : ℕ) (v : ValType ℕ) → Some v ≡ item_at slots x → held_at slots x ≡ v
  held_there x v at = ap (λ (o : Option (ValType ℕ)). unwrap_or o I32) (sym at)

  pub runs_none : (n : ℕ) (gs : List (ℕ × DeclaredValType)) → n ≡ 0 → gs ≡ [] → AreRuns (map (held_at slots) (range_with_len first n)) (map group_of gs)
  runs_none n gs none empty = subst (λ (k : ℕ). AreRuns (map (held_at slots) (range_with_len first k)) (map group_of gs)) (sym none)
      (subst (λ (hs : List (ℕ × DeclaredValType)). AreRuns [] (map group_of hs)) (sym empty) (record { all = refl; filled = λ k d low. absurd (omega (arith, low)); changes = tt }))

  -- one local
  pub held_one : (n : ℕ) → n ≡ 1 → held_at slots first ∷ [] ≡ map (held_at slots) (range_with_len first n)
  held_one n one = sym (ap (λ (k : ℕ). map (held_at slots) (range_with_len first k)) one)

  -- one local more
  pub held_next : (n m x : ℕ) (v : ValType ℕ) → m ≡ n + 1 → first + n ≡ x → Some v ≡ item_at slots x → map (held_at slots) (range_with_len first m) ≡ map (held_at slots) (range_with_len first n) ++ v ∷ []
  held_next n m x v next here at =
      ap (λ (k : ℕ). map (held_at slots) (range_with_len first k)) next
      ∙ map-range_with_len_more (held_at slots) first n x here
      ∙ ap (λ (w : ValType ℕ). map (held_at slots) (range_with_len first n) ++ w ∷ []) (held_there x v at)

some_there : (o : Option (ValType ℕ)) → IsSome o → o ≡ Some (unwrap_or o I32)
some_there None there = absurd cc
some_there (Some v) there = refl

pub all_there : (slots : List (Option (ValType ℕ))) (first n : ℕ) → ((x : ℕ) → first ≤ x → x < first + n → IsSome (item_at slots x)) → map (item_at slots) (range_with_len first n) ≡ map Some (map (held_at slots) (range_with_len first n))
all_there slots first zero there = refl
all_there slots first (suc n) there =
    ap₂ (λ (o : Option (ValType ℕ)) (os : List (Option (ValType ℕ))). o ∷ os) (some_there (item_at slots first) (there first (omega arith) (omega arith)))
    (all_there slots (first + 1) n (λ x from low. there x (omega (arith, from)) (omega (arith, low))))

-- ---- which of them are used

flat_within : {A : Type 0} (P : ℕ → Type 0) (g : A → List ℕ) (p : A → Bool) → ((a : A) → p a ≡ true → (x : ℕ) → Contains (g a) x → P x) → (xs : List A) → list_all p xs ≡ true → (x : ℕ) → Contains (flat_map g xs) x → P x
flat_within P g p each [] e x c = absurd (nothing x c)
flat_within P g p each (a ∷ xs) e x c =
    let q = and_parts (p a) (list_all p xs) e in
    elim (Contains-append_cases (g a) (flat_map g xs) x c) as (λ _. P x) [
      | inl k ↦ each a q.0 x k
      | inr k ↦ flat_within P g p each xs q.1 x k
    ]

module _ (first count : ℕ) where
  abbrev Within : ℕ → Type 0
  Within x = (first ≤ x) × (x < first + count)

  arg_within : (a : Arg) → is_plain_arg first count a ≡ true → (x : ℕ) → Contains (arg_locals a) x → Within x
  arg_within (Local n) e x c =
      let is = only n x c in
      let p = and_parts (nat_le first n) (nat_lt n (first + count)) e in
      let from = leb-true first n p.0 in
      let low = ltb-true n (first + count) p.1 in
      (omega (arith, is, from), omega (arith, is, low))
  arg_within (Index i) e x c = absurd (nothing x c)
  arg_within (Label n) e x c = absurd (nothing x c)
  arg_within (Number n) e x c = absurd (nothing x c)
  arg_within (Count n) e x c = absurd (nothing x c)
  arg_within (Byte n) e x c = absurd (nothing x c)
  arg_within (S32 z) e x c = absurd (nothing x c)
  arg_within (S64 z) e x c = absurd (nothing x c)
  arg_within (Bits32 n) e x c = absurd (nothing x c)
  arg_within (Bits64 n) e x c = absurd (nothing x c)
  arg_within (Value v) e x c = absurd (nothing x c)
  arg_within (Heap h) e x c = absurd (nothing x c)
  arg_within (Block b) e x c = absurd (nothing x c)
  arg_within (Access flags memory offset) e x c = absurd (nothing x c)

  op_within : (o : Op) → is_plain_op first count o ≡ true → (x : ℕ) → Contains (op_locals o) x → Within x
  op_within o e = flat_within Within arg_locals (is_plain_arg first count) arg_within o.args (and_parts (is_plain o.op) (list_all (is_plain_arg first count) o.args) e).1

  module _ (ops : List Op) (plain : are_plain first count ops ≡ true) where
    within : (x : ℕ) → Contains (locals_of ops) x → Within x
    within = flat_within Within op_locals (is_plain_op first count) op_within ops (and_parts (list_all (is_plain_op first count) ops) (are_nested ops) plain).0

    -- whether each of them is used
    abbrev pub uses : List Bool
    uses = map (λ x. list_any (nat_eq x) (locals_of ops)) (range_with_len first count)

    pub as_many : length uses ≡ count
    as_many = length-map-range_with_len (λ x. list_any (nat_eq x) (locals_of ops)) first count

    told : (x : ℕ) → Within x → get_or uses (x - first) false ≡ list_any (nat_eq x) (locals_of ops)
    told x w = get_or-map-range_with_len (λ y. list_any (nat_eq y) (locals_of ops)) first count (x - first) x false (omega (arith, w.0, w.1)) (omega (arith, w.0))

    pub marked : AreMarked first uses (locals_of ops)
    marked x = (
      λ c. let w = within x c in (w.0, told x w ∙ tested x (locals_of ops) c),
      λ h.
          let low = flagged uses (x - first) h.1 in
          let w : Within x = (h.0, omega (arith, h.0, low, as_many)) in
          among x (locals_of ops) (sym (told x w) ∙ h.1),
    )

-- those behind the parameters are used, and those that are used keep their indices
named_stay : (slots : List (Option (ValType ℕ))) (used : List ℕ) (first params count : ℕ) → ((flags : List Bool) → ((i : ℕ) → params ≤ i → i < count → slice_index_or flags i false ≡ true) → KeepsIndices slots flags first params count) → ((x : ℕ) → params ≤ x → x < count → Contains used (first + x)) → StayInPlace slots used first params count
named_stay slots used first params count kept named flags marked = kept flags (λ i from low.
    let back : (first + i) - first ≡ i = omega arith in
    sym (ap (λ (n : ℕ). get_or flags n false) back) ∙ ((marked (first + i)).0 (named i from low)).1)

-- the same in other words
pub named_stay_as : (slots : List (Option (ValType ℕ))) (used : List ℕ) (first params count from given many : ℕ) → from ≡ first → given ≡ params → many ≡ count → ((flags : List Bool) → ((i : ℕ) → given ≤ i → i < many → slice_index_or flags i false ≡ true) → KeepsIndices slots flags from given many) → ((x : ℕ) → given ≤ x → x < count → Contains used (first + x)) → StayInPlace slots used first params count
named_stay_as slots used first params count from given many e f g kept named =
    let are : (x : ℕ) → given ≤ x → x < many → Contains used (from + x) = λ x behind low. subst (λ (n : ℕ). Contains used (n + x)) (sym e) (named x behind (omega (arith, low, g))) in
    subst (λ (n : ℕ). StayInPlace slots used n params count) e (subst (λ (n : ℕ). StayInPlace slots used from n count) f (subst (λ (n : ℕ). StayInPlace slots used from given n) g (named_stay slots used from given many kept are)))
