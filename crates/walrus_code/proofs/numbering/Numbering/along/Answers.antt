use Rattle.std.proofs.Common.{◌∙◌}
use Rattle.walrus_code.proofs.Placing.{along_turn, new_at}
use Rattle.walrus_code.proofs.numbering.Numbering.along.Goals as goal

pub push-requires-clause-is_new : goal.push-requires-clause-is_new
push-requires-clause-is_new g c = c.ids.invariant.numbered _ ∙ new_at c.args.order.now c.ids.id-index _ c.ids-test.true c.requires.distinct

pub ids-preserved : goal.ids-preserved
ids-preserved g c = along_turn c.ids.numbers c.push.new.self c.args.order.now c.ids.id-index _ c.ids-test.true c.requires.distinct c.ids.invariant c.in_ok-push.ensures
