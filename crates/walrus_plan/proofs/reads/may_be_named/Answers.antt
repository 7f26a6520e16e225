use Rattle.std.proofs.Common.{sym, ◌∙◌}
use Rattle.walrus_code.specs.Code.{item_of}
use Rattle.walrus_items.specs.Globals.{globals}
use Rattle.walrus_contents.proofs.NamedLemmas.{among}
use Rattle.walrus_plan.specs.Reads.{may_name}
use Rattle.walrus_plan.proofs.ReadsBefore.{fails_with}
use Rattle.walrus_plan.proofs.reads.may_be_named.Goals as goal

pub returns-then-not-may_one_be_named : goal.returns-then-not-may_one_be_named
returns-then-not-may_one_be_named c =
    fails_with (may_name (globals c.args.parts.globals.now) c.args.from) _ _ (among item_of c.args.named.now c.loop-item.item-index _ c.loop-item-test.true) (sym c.may_one_be_named.ensures ∙ c.if-not-may_one_be_named.true)
