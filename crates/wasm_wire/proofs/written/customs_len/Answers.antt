use Rattle.std.proofs.Common.{subst}
use Rattle.std.specs.Prelude.{All}
use Rattle.std.proofs.lemmas.List.{take_all}
use Rattle.std.proofs.lemmas.List.Elements.{All-more, All-map}
use Rattle.wasm_frames.specs.declared.record.RawCustom.{RawCustom}
use Rattle.wasm_frames.specs.Record.{Custom, custom_record}
use Rattle.wasm_frames.specs.Frames.{CustomSection}
use Rattle.wasm_writer.specs.Spelling.{SectionFits}
use Rattle.wasm_wire.proofs.ModuleWritten.{custom_too_large}
use Rattle.wasm_wire.proofs.written.customs_len.Goals as goal

pub returns-in_err-len : goal.returns-in_err-len
returns-in_err-len c = custom_too_large c.from_residual.result c.in_err-len.field-0.0 c.args.customs.now c.customs.custom-index _ c.customs-test.true c.in_err-len.ensures c.from_residual.ensures.1

pub customs-preserved : goal.customs-preserved
customs-preserved c = All-more (λ (x : RawCustom). SectionFits (CustomSection (custom_record x))) c.args.customs.now c.customs.custom-index _ c.customs-test.true c.customs.invariant c.in_ok-len.ensures.1

pub returns : goal.returns
returns c =
    All-map (λ (x : Custom). SectionFits (CustomSection x)) custom_record c.args.customs.now
    (subst (All (λ (x : RawCustom). SectionFits (CustomSection (custom_record x)))) (take_all c.customs.custom-index c.args.customs.now c.customs-test.false) c.customs.invariant)
