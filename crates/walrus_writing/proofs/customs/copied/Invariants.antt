use Rattle.std.proofs.Common.{◌≡◌, ◌++◌, map, drop}
use Rattle.wasm_frames.specs.Record.{custom_record}
use Rattle.walrus_writing.proofs.customs.copied.Given as goal

-- the sections so far, and those that are still to come
abbrev pub invariant-sections : goal.invariant-sections
invariant-sections l = map custom_record l.raw.items ++ map custom_record (drop l.section-index l.own) ≡ map custom_record l.own
