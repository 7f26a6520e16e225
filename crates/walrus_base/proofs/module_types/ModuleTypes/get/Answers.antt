use Rattle.std.proofs.Common.{◌∙◌, zero-add}
use Rattle.walrus_base.specs.Id.{place}
use Rattle.walrus_base.specs.TypeDef.{type_def}
use Rattle.walrus_base.proofs.OwnIdLemmas.{own_place}
use Rattle.walrus_base.proofs.SlotLemmas.{live_here, live_seen}
use Rattle.walrus_base.proofs.module_types.ModuleTypes.get.Goals as goal

pub returns-clause-own : goal.returns-clause-own
returns-clause-own c =
    let places = c.args.self.now.places.items in
    let live = live_seen type_def places (place c.args.id) c.requires in
    own_place 0 places (place c.args.id) c.in-Some.ty c.args.self.now.under_own_ids
    (live_here places (place c.args.id) c.index.result c.index-2.result.now c.in-Some.ty live c.index.ensures c.index-2.ensures c.in-Some.is)
    ∙ zero-add (place c.args.id)
