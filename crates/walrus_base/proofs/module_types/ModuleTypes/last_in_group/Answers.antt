use Rattle.std.proofs.Common.{◌∙◌, ◌<◌, sym, refl, arith}
use Rattle.walrus_base.specs.Id.{place}
use Rattle.walrus_base.specs.ModuleTypes.{type_slots}
use Rattle.walrus_base.specs.TypeDef.{type_def}
use Rattle.walrus_base.proofs.WholeLemmas.{last_between, not_empty}
use Rattle.walrus_base.proofs.module_types.ModuleTypes.last_in_group.Goals as goal

pub overflow_sub-get : goal.overflow_sub-get
overflow_sub-get c =
    let types = c.args.self.now in
    let ty = c.get.result.now in
    let held : ty.first < ty.end = not_empty (type_slots types) types.whole (place c.args.id) ty.first ty.end (type_def ty) c.get.ensures.value refl in
    omega (arith, held)

pub returns : goal.returns
returns c =
    let types = c.args.self.now in
    let ty = c.get.result.now in
    c.at.ensures ∙ sym (last_between (type_slots types) types.whole (place c.args.id) ty.first ty.end (type_def ty) c.get.ensures.value refl (place c.args.id))
