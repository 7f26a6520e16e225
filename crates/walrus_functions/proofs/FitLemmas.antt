-- Whether a function's type takes what its parameters hold, and what the locals hold that it declares.
use Rattle.std.proofs.Common.{◌≡◌, ◌↔◌, ℕ, zero, suc, ◌<◌, ◌≤◌, ◌+◌, ◌++◌, Bool, true, false, IsTrue, List, [], ◌∷◌, length, map, take, Option, Some, None, Result, Ok, Err, refl, sym, ap, ap₂, ◌∙◌, subst, arith}
use Rattle.std.specs.Prelude.{All, Contains, IsSome, slice_index_or, unwrap_or}
use Rattle.std.proofs.lemmas.List.{length-map, take_all}
use Rattle.std.proofs.lemmas.List.Elements.{All-head, All-tail, Contains-append_right}
use Rattle.wasm_forms.specs.declared.types.RawVal.{RawVal}
use Rattle.walrus_base.specs.Arena.{item_at}
use Rattle.walrus_base.specs.Types.{ValType, I32}
use Rattle.walrus_base.specs.TypeDef.{TypeDef}
use Rattle.walrus_base.specs.Value.{val_type}
use Rattle.walrus_base.specs.contracts.value.ValTypePartialEq.TheImpl as equality
use Rattle.walrus_base.specs.declared.value.ValType.{ValType as DeclaredValType}
use Rattle.walrus_code.specs.Names.{Lookup, named_val}
use Rattle.walrus_code.specs.Results.{val_is_exact}
use Rattle.walrus_code.specs.declared.error.IrError.{IrError}
use Rattle.walrus_code.specs.declared.error.IrError.TheVariants.{Malformed, Memory, NoIndex, NotWritable, TooLarge}
use Rattle.walrus_functions.specs.Declaring.{AreRuns, Declares}
use Rattle.walrus_functions.specs.EmittedBody.{takes}
use Rattle.walrus_functions.specs.Held.{held_at}
use Rattle.walrus_functions.specs.Writing.{HasSignature, HasOneOf, DeclaresLocals}
use Rattle.walrus_functions.proofs.RunLemmas.{type_among}
use Rattle.wasm_forms.proofs.Bind.{some_same}
use Rattle.walrus_base.proofs.FunctionSame.{cons_head as head_same, cons_tail as tail_same, val_same}
use Rattle.walrus_base.proofs.Turns.{map_more, map_snoc}
use Rattle.walrus_base.proofs.Standing.{some_of as there}

-- no test both passes and fails
pub untrue : (b : Bool) → b ≡ true → b ≡ false → ⊥
untrue true t f = cc
untrue false t f = cc

-- lists that are the same where each element is there
pub all_same : {T : Type 0} (xs ys : List T) → map Some xs ≡ map Some ys → xs ≡ ys
all_same [] [] h = refl
all_same [] (y ∷ ys) h = absurd cc
all_same (x ∷ xs) [] h = absurd cc
all_same {T} (x ∷ xs) (y ∷ ys) h = ap₂ (λ (z : T) (zs : List T). z ∷ zs) (some_same x y (head_same _ _ _ _ h)) (all_same xs ys (tail_same _ _ _ _ h))

-- a local that holds a type
pub held_is : (o : Option (ValType ℕ)) (held ty : DeclaredValType) (r : Bool) → Some (val_type held) ≡ o → r ≡ (equality.ghosts).eq held ty → IsTrue r ↔ (o ≡ Some (val_type ty))
held_is o held ty r at is = (
  λ h. sym at ∙ ap (λ (v : ValType ℕ). Some v) ((val_same held ty).0 (sym is ∙ h)),
  λ h. is ∙ (val_same held ty).1 (some_same (val_type held) (val_type ty) (at ∙ h)),
)

-- one that isn't there
pub held_none : (o : Option (ValType ℕ)) (v : ValType ℕ) → None ≡ o → IsTrue false ↔ (o ≡ Some v)
held_none o v at = (λ h. absurd cc, λ h. let wrong : None ≡ Some v = at ∙ h in absurd cc)

-- locals and types, each seen through two functions
module _ {A B C D E : Type 0} (f : B → E) (h : A → B) (g : D → E) (k : C → D) where
  -- what is the same all along is the same at each place
  pub same_at : (xs : List A) (ys : List C) (i : ℕ) (d : A) (e : C) → i < length xs → i < length ys → map f (map h xs) ≡ map g (map k ys) → f (h (slice_index_or xs i d)) ≡ g (k (slice_index_or ys i e))
  same_at [] ys i d e low high all = absurd (omega (arith, low))
  same_at (x ∷ xs) [] i d e low high all = absurd (omega (arith, high))
  same_at (x ∷ xs) (y ∷ ys) zero d e low high all = head_same _ _ _ _ all
  same_at (x ∷ xs) (y ∷ ys) (suc i) d e low high all = same_at xs ys i d e (omega (arith, low)) (omega (arith, high)) (tail_same _ _ _ _ all)

  -- lists of the same are as long
  pub as_long : (xs : List A) (ys : List C) → map f (map h xs) ≡ map g (map k ys) → length xs ≡ length ys
  as_long xs ys all = sym (length-map xs h) ∙ sym (length-map (map h xs) f) ∙ ap length all ∙ length-map (map k ys) g ∙ length-map ys k

  -- the same up to the next place
  pub same_more : (xs : List A) (ys : List C) (i : ℕ) (d : A) (e : C) → i < length xs → i < length ys → map f (map h (take i xs)) ≡ map g (map k (take i ys)) → f (h (slice_index_or xs i d)) ≡ g (k (slice_index_or ys i e)) → map f (map h (take (i + 1) xs)) ≡ map g (map k (take (i + 1) ys))
  same_more xs ys i d e low high so_far this =
      ap (map f) (map_more h xs i d low)
      ∙ map_snoc f (map h (take i xs)) (h (slice_index_or xs i d))
      ∙ ap₂ (λ (os : List E) (o : E). os ++ o ∷ []) so_far this
      ∙ sym (ap (map g) (map_more k ys i e high) ∙ map_snoc g (map k (take i ys)) (k (slice_index_or ys i e)))

  -- the same to the end
  pub same_all : (xs : List A) (ys : List C) (i : ℕ) → length xs ≤ i → length ys ≤ i → map f (map h (take i xs)) ≡ map g (map k (take i ys)) → map f (map h xs) ≡ map g (map k ys)
  same_all xs ys i past over all = ap (λ (zs : List A). map f (map h zs)) (sym (take_all i xs past)) ∙ all ∙ ap (λ (zs : List C). map g (map k zs)) (take_all i ys over)

pub fit : (def : Option TypeDef) (slots : List (Option (ValType ℕ))) (parameters : List ℕ) (wanted : List (ValType ℕ)) (r : Bool) → takes def ≡ Some wanted → (IsTrue r ↔ (map (item_at slots) parameters ≡ map Some wanted)) → IsTrue r ↔ HasSignature def slots parameters
fit def slots parameters wanted r taken same = (
  λ h. (wanted, (taken, same.0 h)),
  λ s. same.1 (s.1.1 ∙ ap (map Some) (some_same s.0 wanted (sym s.1.0 ∙ taken))),
)

-- ---- locals that are there

pub all_held : {A : Type 0} (f : A → ℕ) (slots : List (Option (ValType ℕ))) (ids : List A) → All (λ id. IsSome (item_at slots (f id))) ids → map (item_at slots) (map f ids) ≡ map Some (map (λ id. held_at slots (f id)) ids)
all_held f slots [] h = refl
all_held {A} f slots (id ∷ ids) h =
    let first = there (item_at slots (f id)) (All-head (λ (id : A). IsSome (item_at slots (f id))) id ids h) in
    let rest = all_held f slots ids (All-tail (λ (id : A). IsSome (item_at slots (f id))) id ids h) in
    ap₂ (λ (o : Option (ValType ℕ)) (os : List (Option (ValType ℕ))). o ∷ os) (first.1 ∙ ap (λ (o : Option (ValType ℕ)). Some (unwrap_or o I32)) (sym first.1)) rest

-- the local of a type that is held
holder : (slots : List (Option (ValType ℕ))) (order : List ℕ) (types : List (ValType ℕ)) (v : ValType ℕ) → map (item_at slots) order ≡ map Some types → Contains types v → (x : ℕ) × (Contains order x × (item_at slots x ≡ Some v))
holder slots [] [] v are (k, low, is) = absurd (omega arith)
holder slots [] (t ∷ types) v are among = absurd cc
holder slots (x ∷ order) [] v are among = absurd cc
holder slots (x ∷ order) (t ∷ types) v are (zero, low, is) = (x, ((zero, omega arith, refl), head_same _ _ _ _ are ∙ ap (λ (w : ValType ℕ). Some w) is))
holder slots (x ∷ order) (t ∷ types) v are (suc k, low, is) =
    let lower : k < length types = omega (arith, low) in
    let rest = holder slots order types v (tail_same _ _ _ _ are) (k, lower, is) in
    (rest.0, (Contains-append_right (x ∷ []) order rest.0 rest.1.0, rest.1.1))

one_of : (slots : List (Option (ValType ℕ))) (order : List ℕ) (types : List (ValType ℕ)) (groups : List (ℕ × ValType ℕ)) (P : ValType ℕ → Type 0) → map (item_at slots) order ≡ map Some types → AreRuns types groups → (g : ℕ × ValType ℕ) → Contains groups g → P g.1 → HasOneOf slots order P
one_of slots order types groups P typed runs g among p =
    let x = holder slots order types g.1 typed (subst (λ (ts : List (ValType ℕ)). Contains ts g.1) runs.all (type_among groups runs.filled g among)) in
    (x.0, (g.1, (x.1.0, x.1.1, p)))

pub declares_locals : {X : Type 0} (names : Lookup) (slots : List (Option (ValType ℕ))) (order : List ℕ) (types : List (ValType ℕ)) (groups : List (ℕ × ValType ℕ)) (view : X → List (ℕ × RawVal)) (result : Result X IrError) → map (item_at slots) order ≡ map Some types → AreRuns types groups → Declares names groups view result → DeclaresLocals names slots order view result
declares_locals names slots order types groups view (Ok x) typed runs is = record { types = types; typed = typed; groups = groups; runs = runs; indexed = is }
declares_locals names slots order types groups view (Err NoIndex) typed runs is = one_of slots order types groups (λ v. named_val names v ≡ None) typed runs is.0 is.1.0 is.1.1
declares_locals names slots order types groups view (Err NotWritable) typed runs is = one_of slots order types groups (λ v. val_is_exact v ≡ true) typed runs is.0 is.1.0 is.1.1
declares_locals names slots order types groups view (Err (Memory e)) typed runs is = tt
declares_locals names slots order types groups view (Err Malformed) typed runs is = is
declares_locals names slots order types groups view (Err TooLarge) typed runs is = is
