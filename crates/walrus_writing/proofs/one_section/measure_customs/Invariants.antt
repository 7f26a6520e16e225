use Rattle.std.proofs.Common.{take}
use Rattle.std.specs.Prelude.{All}
use Rattle.wasm_frames.specs.Frames.{CustomSection}
use Rattle.wasm_frames.specs.Record.{custom_record}
use Rattle.wasm_writer.specs.Spelling.{SectionFits}
use Rattle.walrus_writing.proofs.one_section.measure_customs.Given as goal

-- those so far fit
abbrev pub invariant-sections : goal.invariant-sections
invariant-sections l = All (λ c. SectionFits (CustomSection (custom_record c))) (take l.section-index l.customs)
