use Rattle.std.proofs.Common.{◌≡◌, ◌++◌, map, take}
use Rattle.wasm_frames.specs.Frames.{CustomSection}
use Rattle.wasm_frames.specs.Record.{custom_record}
use Rattle.wasm_writer.specs.Spelling.{all_spelled}
use Rattle.wasm_writer.specs.Writing.{written}
use Rattle.wasm_wire.specs.ModuleSpelling.{group_of}
use Rattle.walrus_writing.proofs.one_section.write_customs.Given as goal

-- those of the group so far are written
abbrev pub invariant-sections : goal.invariant-sections
invariant-sections l = written l.to ≡ written l.fn.to ++ all_spelled (map CustomSection (group_of l.group (map custom_record (take l.section-index l.customs))))
