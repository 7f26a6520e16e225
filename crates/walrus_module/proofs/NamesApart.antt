-- Names of exports that differ, by their neighbours in order.
use Rattle.std.specs.Borrow.{Bor}
use Rattle.std.proofs.Common.{◌≡◌, ℕ, ◌<◌, Bool, List, [], ◌∷◌, length, get_or, map, not, sym, subst, arith}
use Rattle.std.specs.Prelude.{◌≢◌, AllPairs, IsPermutation, IsSorted}
use Rattle.std.specs.Bool.{Decides}
use Rattle.std.proofs.lemmas.List.{get_or-map, length-map}
use Rattle.wasm_wire.specs.Names.{NeighboursDiffer, by_bytes}
use Rattle.wasm_wire.proofs.Names.{told_by_neighbours}
use Rattle.walrus_items.specs.Exports.{ExportValue}
use Rattle.walrus_module.specs.Tested.{AreApart, AreNamedApart}

abbrev Text : Type 0
Text = Bor (List ℕ)

-- ---- pairs, through a map

module _ {A B : Type 0} (g : A → B) (R : B → B → Type 0) where
  pub unmapped_pairs : (xs : List A) → AllPairs R (map g xs) → AllPairs (λ (x : A) (y : A). R (g x) (g y)) xs
  unmapped_pairs xs h i j d less within =
      let far : j < length (map g xs) = omega (arith, within, length-map xs g) in
      let near : i < length xs = omega (arith, less, within) in
      subst (λ (x : B). R x (g (get_or xs j d))) (get_or-map g xs i d (g d) near)
      (subst (λ (y : B). R (get_or (map g xs) i (g d)) y) (get_or-map g xs j d (g d) within) (h i j (g d) less far))

  pub mapped_pairs : (xs : List A) → AllPairs (λ (x : A) (y : A). R (g x) (g y)) xs → AllPairs R (map g xs)
  mapped_pairs [] h i j e less within = absurd (omega (arith, within))
  mapped_pairs (x ∷ xs) h i j e less within =
      let all = x ∷ xs in
      let far : j < length all = omega (arith, within, length-map all g) in
      let near : i < length all = omega (arith, less, far) in
      subst (λ (u : B). R u (get_or (map g all) j e)) (sym (get_or-map g all i x e near))
      (subst (λ (v : B). R (g (get_or all i x)) v) (sym (get_or-map g all j x e far)) (h i j x less far))

-- ---- texts

abbrev now : Text → List ℕ
now n = n.now

abbrev Other : List ℕ → List ℕ → Type 0
Other x y = x ≢ y

-- what the comparison of neighbours answered of texts in order
pub apart : (given sorted lent : List Text) (alike : Bool) → IsPermutation given sorted → IsSorted by_bytes sorted → lent ≡ sorted
    → Decides (not alike) (NeighboursDiffer lent) → Decides (not alike) (AreApart given)
apart given sorted lent alike moved rising same decides =
    let told = told_by_neighbours given sorted lent (not alike) moved rising same decides in
    (λ was. unmapped_pairs now Other given (told.0 was), λ differ. told.1 (mapped_pairs now Other given differ))

-- ---- exports of these names

abbrev own : ExportValue → List ℕ
own e = e.name

pub named_apart : (all : List ExportValue) (names : List Text) (b : Bool) → map now names ≡ map own all → Decides b (AreApart names) → Decides b (AreNamedApart all)
named_apart all names b same decides = (
  (λ e. unmapped_pairs own Other all (subst (AllPairs Other) same (mapped_pairs now Other names (decides.0 e)))),
  λ h. decides.1 (unmapped_pairs now Other names (subst (AllPairs Other) (sym same) (mapped_pairs own Other all h))),
)
