use Rattle.std.proofs.Common.{ℕ, List, map, refl, subst}
use Rattle.std.specs.Prelude.{IsPermutation, IsSorted}
use Rattle.std.specs.List.{IsDistinct}
use Rattle.std.proofs.lemmas.Cmp.{nat_eq_equiv}
use Rattle.std.proofs.lemmas.List.Sorted.{Contains-permutation, IsPermutation-sym}
use Rattle.std.proofs.lemmas.Map.Keys.{IsDistinct-IsPermutation}
use Rattle.walrus_functions.specs.Declaring.{AreInOrder, lowest_of, key_of, by_key, same_local}
use Rattle.walrus_functions.proofs.StrictLemmas.{strictly, seen-distinct, same_last}
use Rattle.walrus_functions.proofs.ValueLemmas.{lowest_alike}
use Rattle.walrus_functions.proofs.declared.in_order.Goals as goal

pub returns : goal.returns
returns c =
    let up = c.sort_unstable.new.self.items in
    let lowest = lowest_of c.in_ok-lowest.lowest in
    let keys = map (key_of lowest) c.args.found.now in
    let moved : IsPermutation keys up = subst (λ (ks : List (ℕ × ℕ × ℕ)). IsPermutation ks up) c.in_ok-keys.ensures c.sort_unstable.ensures.permutation in
    let sorted : IsSorted by_key up = c.sort_unstable.ensures.sorted in
    let apart : IsDistinct same_last keys = seen-distinct (key_of lowest) same_local (λ x y. refl) c.args.found.now c.requires in
    let order : AreInOrder c.args.found.now up = record {
      lowest = lowest;
      least = c.in_ok-lowest.ensures;
      which = λ k. (Contains-permutation _ _ k (IsPermutation-sym _ _ moved), Contains-permutation _ _ k moved);
      sorted = strictly up sorted (IsDistinct-IsPermutation same_last (λ x y. nat_eq_equiv.symm x.2 y.2) keys up moved apart);
    } in
    (order, lowest_alike c.in_ok-lowest.lowest)
