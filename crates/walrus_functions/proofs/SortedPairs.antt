-- A list that is sorted, pair by pair.
use Rattle.std.proofs.Common.{List, [], ◌∷◌, arith}
use Rattle.std.specs.Prelude.{AllPairs}
use Rattle.std.proofs.lemmas.List.Elements.{All-from_recursion}
use Rattle.std.proofs.lemmas.List.Kept.{AllPairs-cons}
use Rattle.walrus_functions.proofs.LawOrder.{Sorted}

-- the recursive form of a relation on pairs is that by places
pub pairs_of : {X : Type 0} (R : X → X → Type 0) (xs : List X) → Sorted R xs → AllPairs R xs
pairs_of R [] h = λ i j d less low. absurd (omega (arith, low))
pairs_of R (x ∷ xs) h = AllPairs-cons R x xs (All-from_recursion (R x) xs h.0) (pairs_of R xs h.1)
