use Rattle.std.proofs.Common.{map, ap, ◌∙◌}
use Rattle.walrus_base.specs.Arena.{entries}
use Rattle.walrus_base.specs.TypesLeft.{place_and_def}
use Rattle.walrus_base.proofs.OwnIdLemmas.{entries-own_ids}
use Rattle.walrus_base.proofs.module_types.ModuleTypes.iter.Goals as goal

pub returns : goal.returns
returns c =
    c.over.ensures ∙ ap (λ places. map (λ entry. place_and_def entry.1) (entries places)) c.as_slice.ensures.value
    ∙ entries-own_ids 0 c.args.self.now.places.items c.args.self.now.under_own_ids
