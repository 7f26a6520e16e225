use Rattle.std.proofs.Common.{◌∙◌}
use Rattle.walrus_reading.specs.Shown.{shown}
use Rattle.walrus_reading.specs.Sink.{bounds_of}
use Rattle.walrus_reading.proofs.SectionsTaken.{one_more_section}
use Rattle.walrus_reading.proofs.names.take_sections.Goals as goal

pub sections-preserved : goal.sections-preserved
sections-preserved c = (
  c.in_ok-take_section.ensures.same ∙ c.sections.invariant.0,
  one_more_section (bounds_of c.args.namer.now.bounds) (bounds_of c.sections.namer.bounds) c.args.customs.now c.sections.custom-index _ (shown c.args.namer.now.contents) (shown c.sections.namer.contents) (shown c.take_section.new.namer.contents)
      c.sections-test.true c.sections.invariant.0 c.sections.invariant.1 c.in_ok-take_section.ensures.taken,
)
