use Rattle.walrus_producers.specs.Seen.{producers}
use Rattle.walrus_reading.proofs.ProducersHeld.{one_more_section}
use Rattle.walrus_reading.proofs.producers.add_sections.Goals as goal

pub sections-preserved : goal.sections-preserved
sections-preserved c =
    one_more_section c.args.customs.now c.sections.custom-index _ (producers c.args.made.now) (producers c.sections.made) (producers c.add_fields.new.made) c.sections-test.true c.sections.invariant c.in_ok-add_fields.ensures.added
