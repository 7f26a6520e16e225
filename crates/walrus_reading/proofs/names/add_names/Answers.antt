use Rattle.std.proofs.Common.{map}
use Rattle.wasm_frames.specs.Record.{custom_record}
use Rattle.walrus_reading.specs.Shown.{shown}
use Rattle.walrus_reading.specs.Sink.{bounds_of}
use Rattle.walrus_reading.proofs.Whole.{all_named_then}
use Rattle.walrus_reading.proofs.names.add_names.Goals as goal

pub returns-clause-named : goal.returns-clause-named
returns-clause-named c =
    all_named_then (bounds_of c.args.bounds) (bounds_of c.take_sections.new.namer.bounds) (map custom_record c.args.customs.now) (shown c.args.contents) (shown c.take_sections.new.namer.contents) (shown c.finish.new.namer.contents)
    c.in_ok-take_sections.ensures.same c.in_ok-take_sections.ensures.taken c.in_ok-finish.ensures.finished
