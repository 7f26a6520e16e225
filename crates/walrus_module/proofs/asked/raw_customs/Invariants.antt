use Rattle.std.proofs.Common.{◌≡◌, ◌++◌, map, drop}
use Rattle.wasm_frames.specs.Record.{custom_record}
use Rattle.walrus_module.specs.Asked.{section_seen}
use Rattle.walrus_module.proofs.asked.raw_customs.Given as goal

-- the records so far, and those of the sections that are still to come
abbrev pub invariant-loop-section : goal.invariant-loop-section
invariant-loop-section l = map custom_record l.raws.items ++ map section_seen (drop l.section-index l.asked) ≡ map section_seen l.asked
