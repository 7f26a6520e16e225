use Rattle.std.proofs.Common.{ap, map, ◌++◌, ◌∙◌, arith}
use Rattle.walrus.specs.Base.Id.{place}
use Rattle.walrus.specs.Base.ModuleTypes.{type_names}
use Rattle.walrus_edits.specs.ItemSteps.{name_told}
use Rattle.walrus_edits.specs.ItemValues.{type_names_in}
use Rattle.walrus_edits.proofs.NameSteps.{types_end, types_turn}
use Rattle.walrus_edits.proofs.name_records.push_type_names.Goals as goal

pub types-preserved : goal.types-preserved
types-preserved c =
    types_turn place (type_names c.args.types.now) _ _ _ _ c.types.id-index _ _ _ c.types-test.true c.index.ensures c.get.ensures.named c.in_ok-push_name.ensures c.types.invariant

pub returns : goal.returns
returns c =
    types_end place (type_names c.args.types.now) _ _ _ c.types.id-index c.types.invariant (omega arith)
    ∙ ap (λ ps. map name_told c.args.to.now.items ++ type_names_in (type_names c.args.types.now) ps) (ap (map place) c.deref-id-items.ensures.value ∙ c.in_ok-ids.ensures.value)
