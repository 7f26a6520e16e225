use Rattle.std.proofs.Common.{List, length, map, refl, subst}
use Rattle.std.specs.Prelude.{Ok, Err, All}
use Rattle.wasm_entries.specs.declared.record.RawData.{RawData}
use Rattle.wasm_entries.specs.Record.{data_entry}
use Rattle.wasm_frames.specs.declared.record.RawBody.{RawBody}
use Rattle.wasm_frames.specs.declared.record.RawCustom.{RawCustom}
use Rattle.wasm_frames.specs.Record.{Custom, Module, sections, body_record, custom_record}
use Rattle.wasm_frames.specs.Frames.{CustomSection, Code, DataSegments}
use Rattle.wasm_writer.specs.Spelling.{all_spelled, SectionFits}
use Rattle.wasm_wire.specs.ModuleSpelling.{before_code, ModuleFits}
use Rattle.wasm_wire.specs.ModuleWriting.{front_of}
use Rattle.wasm_wire.proofs.ModuleWritten.{section_too_large}
use Rattle.wasm_wire.proofs.ModuleMeasured.{told_of, part_too_large, front_fits}
use Rattle.wasm_wire.proofs.written.sections_len.Goals as goal

pub returns-in_err-before : goal.returns-in_err-before
returns-in_err-before c =
    let m : Module = sections c.args.raw.now in
    part_too_large c.from_residual.result c.in_err-before.field-0.0 (length (all_spelled (before_code m))) (ModuleFits (front_of m)) (ModuleFits m) (front_fits m) c.in_err-before.ensures c.from_residual.ensures.1

pub returns-in_err-segments : goal.returns-in_err-segments
returns-in_err-segments c = section_too_large c.from_residual-in_err-segments.result c.in_err-segments.field-0.0 (DataSegments (map data_entry c.args.raw.now.data_.items)) (ModuleFits (sections c.args.raw.now)) (λ f. f.data_segments) (told_of (Err c.in_err-segments.field-0.0) (λ (l : List RawData). DataSegments (map data_entry l)) _ _ c.deref-2.ensures.value (c.in_err-segments.ensures (DataSegments (map data_entry c.deref-2.result.now)) refl)) c.from_residual-in_err-segments.ensures.1

pub returns : goal.returns
returns c =
    let f : ModuleFits (front_of (sections c.args.raw.now)) = c.in_ok-before.ensures.1 in
    record {
      types = f.types;
      imports = f.imports;
      functions = f.functions;
      tables = f.tables;
      memories = f.memories;
      tags = f.tags;
      globals = f.globals;
      exports = f.exports;
      start = f.start;
      elements = f.elements;
      data_count = f.data_count;
      bodies = (told_of (Ok c.in_ok-bodies.bodies) (λ (l : List RawBody). Code (map body_record l)) _ _ c.deref.ensures.value c.in_ok-bodies.ensures).1;
      data_segments = (told_of (Ok c.in_ok-segments.segments) (λ (l : List RawData). DataSegments (map data_entry l)) _ _ c.deref-2.ensures.value (c.in_ok-segments.ensures (DataSegments (map data_entry c.deref-2.result.now)) refl)).1;
      customs = subst (λ (l : List RawCustom). All (λ (x : Custom). SectionFits (CustomSection x)) (map custom_record l)) c.deref-3.ensures.value c.in_ok-customs.ensures;
    }
