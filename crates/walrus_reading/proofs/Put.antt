-- An item that is put back with a name.
use Rattle.std.proofs.Common.{◌≡◌, ℕ, zero, suc, ◌+◌, Bool, true, false, List, [], ◌∷◌, map, refl, sym, ap, subst, ◌∙◌, arith}
use Rattle.std.specs.Prelude.{Option, Some, None, IsSome, option_map, slice_set}
use Rattle.std.proofs.lemmas.List.{map-set}
use Rattle.walrus_base.specs.Arena.{item_at}
use Rattle.walrus_model.specs.Abstract.{Name}
use Rattle.walrus_reading.specs.Shown.{mend_type_name}
use Rattle.walrus_reading.specs.Renamed.{named_at, named_if, renamed_from}
use Rattle.walrus_reading.proofs.Becoming.{here, same_here, set_here}

absent : {X : Type 0} (o : Option X) (f : X → X) → (IsSome o → ⊥) → o ≡ option_map f o
absent None f none = refl
absent (Some x) f none = absurd (none refl)

module _ {X : Type 0} (mend : (Option Name → Option Name) → X → X) (whole : (x : X) → mend (λ old. old) x ≡ x) where
  module _ (test : Bool → Option Name → Option Name) (off : test false ≡ (λ old. old)) (place at : ℕ) (same : place ≡ at) where
    -- where an item stands, and another is put back
    pub put_there : {T : Type 0} (value : T → X) (slots : List (Option T)) (last : T) (v : X) → item_at (map (option_map value) slots) place ≡ Some v → value last ≡ mend (test true) v
        → map (option_map value) (slice_set slots place (Some last)) ≡ renamed_from mend (here mend whole test off at) 0 (map (option_map value) slots)
    put_there {T} value slots last v there is =
        map-set (option_map value) slots place (Some last)
        ∙ set_here mend whole test off at 0 place (map (option_map value) slots) (Some (value last)) (let e : at ≡ 0 + place = omega (arith, same) in e)
        (subst (λ (o : Option X). IsSome o) (sym there) refl) (ap Some is ∙ ap (option_map (mend (test true))) (sym there))

    -- where what stands is as it would be
    pub stays_there : (slots : List (Option X)) → item_at slots place ≡ option_map (mend (test true)) (item_at slots place) → slots ≡ renamed_from mend (here mend whole test off at) 0 slots
    stays_there slots is = same_here mend whole test off at 0 place slots (let e : at ≡ 0 + place = omega (arith, same) in e) is

  -- where an item gets a name
  pub put_back : {T : Type 0} (value : T → X) (slots : List (Option T)) (place at : ℕ) (name : Name) (last : T) (v : X) → place ≡ at → item_at (map (option_map value) slots) place ≡ Some v → value last ≡ mend (λ old. Some name) v
      → map (option_map value) (slice_set slots place (Some last)) ≡ named_at mend at name (map (option_map value) slots)
  put_back value slots place at name last v same there is = put_there (λ b. named_if b name) refl place at same value slots last v there is

  -- where there is none
  pub none_put : (slots : List (Option X)) (place at : ℕ) (name : Name) → place ≡ at → (IsSome (item_at slots place) → ⊥) → slots ≡ named_at mend at name slots
  none_put slots place at name same none = stays_there (λ b. named_if b name) refl place at same slots (absent (item_at slots place) (mend (λ old. Some name)) none)

-- the same where the list of names itself is written
pub name_put : (old new : List (Option (Option Name))) (place at : ℕ) (name : Name) → place ≡ at → IsSome (item_at old place) → new ≡ slice_set old place (Some (Some name)) → new ≡ named_at mend_type_name at name old
name_put old new place at name same live is =
    is ∙ set_here mend_type_name (λ x. refl) (λ b. named_if b name) refl at 0 place old (Some (Some name)) (let e : at ≡ 0 + place = omega (arith, same) in e) live (becomes (item_at old place) live) where
      becomes : (o : Option (Option Name)) → IsSome o → Some (Some name) ≡ option_map (mend_type_name (λ old. Some name)) o
      becomes None h = absurd cc
      becomes (Some x) h = refl

-- where something stands in one row, something stands in the other of the same
pub both_there : {X Y Z : Type 0} (f : X → Y) (g : X → Z) (xs : List (Option X)) (i : ℕ) → IsSome (item_at (map (option_map f) xs) i) → IsSome (item_at (map (option_map g) xs) i)
both_there f g [] i h = absurd cc
both_there f g (None ∷ xs) zero h = absurd cc
both_there f g (Some x ∷ xs) zero h = refl
both_there f g (x ∷ xs) (suc i) h = both_there f g xs i h

-- what stands at a place, seen as a value
pub seen_there : {T U : Type 0} (value : T → U) (slots : List (Option T)) (i : ℕ) (x : T) → item_at slots i ≡ Some x → item_at (map (option_map value) slots) i ≡ Some (value x)
seen_there value [] i x h = absurd cc
seen_there value (s ∷ slots) zero x h = ap (option_map value) h
seen_there value (s ∷ slots) (suc i) x h = seen_there value slots i x h
