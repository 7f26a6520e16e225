use Rattle.std.proofs.Common.{take}
use Rattle.std.specs.Prelude.{All}
use Rattle.wasm_frames.specs.Record.{custom_record}
use Rattle.wasm_frames.specs.Frames.{CustomSection}
use Rattle.wasm_writer.specs.Spelling.{SectionFits}
use Rattle.wasm_wire.proofs.written.customs_len.Given as goal

abbrev pub invariant-customs : goal.invariant-customs
invariant-customs l = All (λ c. SectionFits (CustomSection (custom_record c))) (take l.custom-index l.customs)
