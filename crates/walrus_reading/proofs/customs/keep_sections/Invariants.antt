use Rattle.std.proofs.Common.{◌≡◌, ◌++◌, map, drop}
use Rattle.wasm_frames.specs.Record.{custom_record}
use Rattle.walrus_reading.specs.Customs.{kept_customs, section_seen}
use Rattle.walrus_reading.proofs.customs.keep_sections.Given as goal

-- the sections so far, and those that are kept of what is left
abbrev pub invariant-sections : goal.invariant-sections
invariant-sections l = map section_seen l.made.items ++ kept_customs (map custom_record (drop l.custom-index l.customs)) ≡ kept_customs (map custom_record l.customs)
