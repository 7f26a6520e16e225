use Rattle.std.proofs.Common.{map}
use Rattle.wasm_frames.specs.Record.{custom_record}
use Rattle.walrus_producers.specs.Seen.{producers}
use Rattle.walrus_reading.proofs.ProducersHeld.{with_own}
use Rattle.walrus_reading.proofs.producers.add_producers.Goals as goal

pub returns-clause-held : goal.returns-clause-held
returns-clause-held c =
    with_own (map custom_record c.args.customs.now) (producers c.args.made.now) (producers c.add_sections.new.made) c.add_own_producer.new.made c.requires.none c.in_ok-add_sections.ensures.added c.in_ok-add_own_producer.ensures.value
