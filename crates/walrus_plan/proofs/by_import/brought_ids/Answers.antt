use Rattle.walrus_base.specs.Arena.{items}
use Rattle.walrus_base.specs.Operators.{Functions, Tables, Memories, Tags, Globals}
use Rattle.walrus_items.specs.Imports.{import_value, imports}
use Rattle.walrus_plan.proofs.BroughtBy.{comes_on}
use Rattle.walrus_plan.proofs.by_import.brought_ids.Goals as goal

pub imports-preserved : goal.imports-preserved
imports-preserved c =
    let i = import_value c.in-Some.import.now in
    let all = items (imports c.args.all.now) in
    let longer = c.in_ok-push.ensures in
    let kept = c.imports.invariant in (
      tt,
      tt,
      comes_on Functions _ _ i _ _ all c.in-Some.ensures.steps longer.functions kept.2,
      comes_on Tables _ _ i _ _ all c.in-Some.ensures.steps longer.tables kept.3,
      comes_on Memories _ _ i _ _ all c.in-Some.ensures.steps longer.memories kept.4,
      comes_on Tags _ _ i _ _ all c.in-Some.ensures.steps longer.tags kept.5,
      comes_on Globals _ _ i _ _ all c.in-Some.ensures.steps longer.globals kept.6,
    )
