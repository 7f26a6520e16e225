use Rattle.std.proofs.Common.{◌≡◌, map, take}
use Rattle.wasm_frames.specs.Record.{custom_record}
use Rattle.walrus_reading.specs.Shown.{shown}
use Rattle.walrus_reading.specs.Sink.{bounds_of}
use Rattle.walrus_reading.specs.TakenNames.{TakesNames}
use Rattle.walrus_reading.proofs.names.take_sections.Given as goal

-- the sections so far are taken, and the bounds are the same
abbrev pub invariant-sections : goal.invariant-sections
invariant-sections l =
    (bounds_of l.namer.bounds ≡ bounds_of l.fn.namer.bounds)
    × TakesNames (bounds_of l.fn.namer.bounds) (map custom_record (take l.custom-index l.customs)) (shown l.fn.namer.contents) (shown l.namer.contents)
