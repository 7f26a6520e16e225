-- The sections that are left, one after another.
use Rattle.std.proofs.Common.{◌≡◌, ℕ, ◌+◌, List, [], ◌∷◌, ◌++◌, map, refl, sym, ap, ◌∙◌}
use Rattle.std.specs.Prelude.{Option, Some, None}
use Rattle.std.proofs.lemmas.List.{append_assoc}
use Rattle.walrus.specs.Base.Arena.{entries_from, items}

module _ {A : Type 0} where
  abbrev values_from : ℕ → List (Option A) → List A
  values_from k xs = map (λ (e : ℕ × A). e.1) (entries_from k xs)

  -- the places don't tell the values
  shifted : (k j : ℕ) (xs : List (Option A)) → values_from k xs ≡ values_from j xs
  shifted k j [] = refl
  shifted k j (None ∷ xs) = shifted (k + 1) (j + 1) xs
  shifted k j (Some x ∷ xs) = ap (λ (l : List A). x ∷ l) (shifted (k + 1) (j + 1) xs)

  -- past a place where nothing is
  pub past_none : (done all : List A) (rest left : List (Option A)) → rest ≡ None ∷ left → done ++ items rest ≡ all → done ++ items left ≡ all
  past_none done all rest left is so =
      ap (λ (l : List A). done ++ l) (shifted 0 1 left ∙ sym (ap items is)) ∙ so

  -- past one where this is
  pub past_some : (done new all : List A) (rest left : List (Option A)) (x : A) → rest ≡ Some x ∷ left → new ≡ done ++ x ∷ [] → done ++ items rest ≡ all → new ++ items left ≡ all
  past_some done new all rest left x is more so =
      ap (λ (l : List A). l ++ items left) more
      ∙ append_assoc done (x ∷ []) (items left)
      ∙ ap (λ (l : List A). done ++ x ∷ l) (shifted 0 1 left)
      ∙ ap (λ (l : List A). done ++ l) (sym (ap items is))
      ∙ so
