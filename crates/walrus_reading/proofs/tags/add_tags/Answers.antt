use Rattle.walrus_items.specs.Tags.{tags}
use Rattle.walrus_model.specs.Sections.{tag_of}
use Rattle.walrus_reading.specs.Held.{HoldsTag}
use Rattle.walrus_reading.proofs.Rows.{none_yet, one_more, all_done}
use Rattle.walrus_reading.proofs.tags.add_tags.Goals as goal

pub loop-ty-init : goal.loop-ty-init
loop-ty-init c = none_yet HoldsTag tag_of c.args.raw.now (tags c.args.all.now) (tags c.reserve.new.self) c.reserve.ensures.same

pub loop-ty-preserved : goal.loop-ty-preserved
loop-ty-preserved c =
    one_more HoldsTag tag_of c.args.raw.now c.loop-ty.ty-index _ (tags c.args.all.now) (tags c.loop-ty.all) (tags c.add_tag.new.all)
    c.loop-ty-test.true c.loop-ty.invariant c.in_ok-add_tag.ensures.added

pub returns-clause-added : goal.returns-clause-added
returns-clause-added c = all_done HoldsTag tag_of c.args.raw.now c.loop-ty.ty-index (tags c.args.all.now) (tags c.loop-ty.all) c.loop-ty-test.false c.loop-ty.invariant
