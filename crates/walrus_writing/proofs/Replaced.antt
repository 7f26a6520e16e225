-- What all items of a vector are put in the place of.
use Rattle.std.proofs.Common.{◌≡◌, List, [], ◌∷◌, length, map, ap, refl, sym, ◌∙◌}
use Rattle.std.specs.Iterator.{Drains}
use Rattle.std.specs.Vec.Iter.{into_iter_items, into_iter_len, into_iter_steps}
use Rattle.std.specs.declared.vec.IntoIter.{IntoIter}
use Rattle.std.proofs.lemmas.Iterator.{items_from_drains}
use Rattle.std.proofs.lemmas.Iterator.Adapters.{YieldsList-from_vec}

same : {A : Type 0} (xs : List A) → map (λ (x : A). x) xs ≡ xs
same [] = refl
same (x ∷ xs) = ap (λ l. x ∷ l) (same xs)

-- what a vector's items are told in turn, to the last
pub told_all : {A Z : Type 0} (xs all : List A) (s : IntoIter A Z) → into_iter_items s ≡ all → into_iter_len s ≡ length all → Drains (into_iter_steps {X = A} {Z = Z}) s xs → xs ≡ all
told_all xs all s is long h = sym (same xs) ∙ items_from_drains xs (h.1.0, h.1.1, λ _. (h.0, h.1.2)) (YieldsList-from_vec all is long)
