use Rattle.std.proofs.Common.{subst}
use Rattle.std.specs.Prelude.{All}
use Rattle.std.proofs.lemmas.List.{take_all}
use Rattle.std.proofs.lemmas.List.Elements.{All-map, All-more}
use Rattle.wasm_frames.specs.Frames.{CustomSection}
use Rattle.wasm_frames.specs.Record.{Custom, custom_record}
use Rattle.wasm_frames.specs.declared.record.RawCustom.{RawCustom}
use Rattle.wasm_writer.specs.Spelling.{SectionFits}
use Rattle.walrus_writing.proofs.one_section.measure_customs.Goals as goal

pub sections-preserved : goal.sections-preserved
sections-preserved c = All-more (λ (x : RawCustom). SectionFits (CustomSection (custom_record x))) c.args.customs.now c.sections.section-index _ c.sections-test.true c.sections.invariant c.in_ok-measure_custom.ensures

pub returns : goal.returns
returns c =
    All-map (λ (x : Custom). SectionFits (CustomSection x)) custom_record c.args.customs.now
    (subst (All (λ (x : RawCustom). SectionFits (CustomSection (custom_record x)))) (take_all c.sections.section-index c.args.customs.now c.sections-test.false) c.sections.invariant)
