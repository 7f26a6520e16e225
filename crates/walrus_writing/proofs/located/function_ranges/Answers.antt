use Rattle.std.proofs.Common.{◌≡◌, ◌∙◌, ℕ, List, map, sym, ap, subst, refl}
use Rattle.std.specs.List.Sorted.{IsPermutation, IsSorted}
use Rattle.std.specs.Ordering.{is_lt}
use Rattle.std.proofs.lemmas.List.Sorted.{IsPermutation-map}
use Rattle.walrus_base.specs.Id.{place}
use Rattle.walrus_base.specs.declared.id.Id.{Id}
use Rattle.walrus_base.specs.declared.keys.FunctionKey.{FunctionKey}
use Rattle.walrus_items.specs.Transform.{range_of}
use Rattle.walrus_base.proofs.ZipTurns.{sorted_seen}
use Rattle.walrus_writing.specs.Located.{by_ends}
use Rattle.walrus_contents.proofs.ExportedRefs.{if_ok}
use Rattle.walrus_writing.proofs.located.function_ranges.Goals as goal

pub returns-clause-value : goal.returns-clause-value
returns-clause-value c =
    let view : Id FunctionKey × (ℕ × ℕ) → ℕ × (ℕ × ℕ) = λ e. (place e.0, e.1) in
    let sorted = c.sort_unstable.new.self.items in
    if_ok _ _ c.ranges_of.result
    (λ found same.
    let is : map range_of found.items ≡ map view sorted = same ∙ ap (map view) c.as_slice.ensures.value in
    record {
      moved = subst (λ (l : List (ℕ × (ℕ × ℕ))). IsPermutation l (map range_of found.items)) c.in_ok-pairs.ensures.value
          (subst (λ (l : List (ℕ × (ℕ × ℕ))). IsPermutation (map view c.in_ok-pairs.pairs.items) l) (sym is) (IsPermutation-map view c.in_ok-pairs.pairs.items sorted c.sort_unstable.ensures.permutation));
      sorted = subst (λ (l : List (ℕ × (ℕ × ℕ))). IsSorted by_ends l) (sym is) (sorted_seen view _ (λ x y. is_lt (by_ends x y)) (λ x y. refl) sorted c.sort_unstable.ensures.sorted);
    })
    c.ranges_of.ensures.value
