use Rattle.std.proofs.Common.{map, take}
use Rattle.wasm_frames.specs.Record.{custom_record}
use Rattle.walrus_producers.specs.Seen.{producers}
use Rattle.walrus_reading.specs.Producers.{AddsSections}
use Rattle.walrus_reading.proofs.producers.add_sections.Given as goal

-- the sections so far are read
abbrev pub invariant-sections : goal.invariant-sections
invariant-sections l = AddsSections (map custom_record (take l.custom-index l.customs)) (producers l.fn.made) (producers l.made)
