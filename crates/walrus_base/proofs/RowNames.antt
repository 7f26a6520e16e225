-- The types that a row of types names.
use Rattle.std.proofs.Common.{◌≡◌, ℕ, ◌+◌, ◌<◌, List, ◌∷◌, ◌++◌, length, map, drop, get_or, ap, sym, ◌∙◌, add-one, append_assoc, drop-cons}
use Rattle.std.specs.List.{flat_map}
use Rattle.std.proofs.lemmas.Grind.{flat_map-append}
use Rattle.walrus_base.specs.Types.{HeapType, heap_names}

module _ {X V : Type 0} (view : X → V) (heaps : V → List (HeapType ℕ)) where
  -- what a row names
  abbrev pub row_names : List X → List ℕ
  row_names xs = flat_map heap_names (flat_map heaps (map view xs))

  pub row_step : (xs : List X) (i : ℕ) (d : X) (before now all : List ℕ) → i < length xs → before ++ row_names (drop i xs) ≡ all
      → now ≡ before ++ flat_map heap_names (heaps (view (get_or xs i d))) → now ++ row_names (drop (i + 1) xs) ≡ all
  row_step xs i d before now all in_row so_far puts =
      let x = get_or xs i d in
      let rest = drop (i + 1) xs in
      let whole : drop i xs ≡ x ∷ rest = rw add-one (drop-cons xs i d in_row) in
      ap (λ t. t ++ row_names rest) puts ∙ append_assoc before (flat_map heap_names (heaps (view x))) (row_names rest)
      ∙ ap (λ t. before ++ t) (sym (flat_map-append heap_names (heaps (view x)) (flat_map heaps (map view rest))))
      ∙ ap (λ t. before ++ row_names t) (sym whole) ∙ so_far
