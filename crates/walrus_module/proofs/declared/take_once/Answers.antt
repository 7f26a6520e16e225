use Rattle.std.proofs.Common.{◌≡◌}
use Rattle.std.specs.Prelude.{IsSorted}
use Rattle.std.specs.List.{dedup}
use Rattle.std.proofs.lemmas.List.Filters.{dedup_is}
use Rattle.walrus_functions.proofs.OnceLemmas.{once, same_id, by_place}
use Rattle.walrus_module.proofs.declared.take_once.Goals as goal

pub returns : goal.returns
returns c =
    let up = c.sort_unstable.new.self.items in
    let is : c.dedup.new.self.items ≡ dedup same_id up = dedup_is same_id _ _ c.dedup.ensures.filtered in
    let sorted : IsSorted by_place up = c.sort_unstable.ensures.sorted in
    once _ up c.dedup.new.self.items c.sort_unstable.ensures.permutation sorted is
