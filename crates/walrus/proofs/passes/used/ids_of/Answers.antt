use Rattle.std.proofs.Common.{ap, ◌∙◌}
use Rattle.walrus_base.specs.Marks.{marks_left}
use Rattle.walrus.proofs.Marking.{made_begins, made_ends, made_goes}
use Rattle.walrus.proofs.passes.used.ids_of.Goals as goal

pub ids-init : goal.ids-init
ids-init g c =
    (tt, tt, made_begins c.args.marks.now c.new-ids.result _ c.new-ids.ensures (ap marks_left c.into_iter-id-iterator.ensures.into_iter_gives ∙ c.iter-id-items.ensures))

pub ids-preserved : goal.ids-preserved
ids-preserved g c =
    (tt, tt, made_goes c.args.marks.now c.ids.ids c.insert.new.self _ (marks_left c.ids.id-iterator) (marks_left c.next.new.self) c.in-Some.ensures.steps c.in_ok-insert.ensures.1 c.ids.invariant.2)

pub returns : goal.returns
returns g c = made_ends c.args.marks.now c.ids.ids _ c.in-None.ensures.steps.0 c.ids.invariant.2
