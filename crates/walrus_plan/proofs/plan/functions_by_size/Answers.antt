use Rattle.std.proofs.Common.{◌∙◌, ℕ, List, map, sym, ap, subst, refl}
use Rattle.std.specs.List.Sorted.{IsPermutation}
use Rattle.std.proofs.lemmas.List.Sorted.{IsPermutation-map}
use Rattle.std.specs.Ordering.{is_lt}
use Rattle.walrus_base.specs.Id.{place}
use Rattle.walrus_base.proofs.Lists.{map-map}
use Rattle.walrus_plan.specs.Sizes.{by_size}
use Rattle.walrus_base.proofs.ZipTurns.{sorted_seen}
use Rattle.walrus_plan.proofs.plan.functions_by_size.Goals as goal

pub returns-clause-value : goal.returns-clause-value
returns-clause-value c = record {
  sized = map (λ s. (s.0.0, place s.1)) c.sort_unstable.new.self.items;
  is = c.in_ok-ids.ensures.value ∙ ap (map (λ s. place s.1)) c.as_slice.ensures.value ∙ sym (map-map (λ s. s.1) (λ s. (s.0.0, place s.1)) c.sort_unstable.new.self.items);
  moved = subst (λ (xs : List (ℕ × ℕ)). IsPermutation xs (map (λ s. (s.0.0, place s.1)) c.sort_unstable.new.self.items)) c.in_ok-sized.ensures.value
      (IsPermutation-map (λ s. (s.0.0, place s.1)) _ _ c.sort_unstable.ensures.permutation);
  sorted = sorted_seen (λ s. (s.0.0, place s.1)) _ (λ x y. is_lt (by_size x y)) (λ x y. refl) c.sort_unstable.new.self.items c.sort_unstable.ensures.sorted;
}
