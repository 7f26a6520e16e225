use Rattle.std.proofs.Common.{length, map, take}
use Rattle.std.specs.Prelude.{All}
use Rattle.wasm_frames.specs.Record.{custom_record}
use Rattle.wasm_frames.specs.Frames.{CustomSection}
use Rattle.wasm_writer.specs.Spelling.{SectionFits}
use Rattle.wasm_wire.specs.declared.written.CustomGroup.TheVariants.{Dylink}
use Rattle.wasm_wire.specs.ModuleWriting.{IsUnlessHuge, group_spelled}
use Rattle.wasm_wire.proofs.places.dylinks_len.Given as goal

abbrev pub invariant-customs : goal.invariant-customs
invariant-customs l = record {
  counted : IsUnlessHuge l.total (length (group_spelled Dylink (map custom_record (take l.custom-index l.customs))));
  fit : All (λ c. SectionFits (CustomSection (custom_record c))) (take l.custom-index l.customs);
}
