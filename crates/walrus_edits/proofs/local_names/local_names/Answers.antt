use Rattle.std.proofs.Common.{◌∙◌, ap, map, refl, arith}
use Rattle.wasm_frames.specs.declared.record.RawCustom.{RawCustom}
use Rattle.walrus_edits.specs.LocalNames.{are_known, local_told}
use Rattle.walrus_edits.proofs.LocalSteps.{handed_all, handed_more, handed_none}
use Rattle.walrus_edits.proofs.local_names.local_names.Goals as goal

pub sections-init : goal.sections-init
sections-init c = (refl, handed_none _ _ (ap (map local_told) c.new.ensures.items))

pub sections-preserved : goal.sections-preserved
sections-preserved c = (
  c.in_ok-take_section.ensures.same ∙ c.sections.invariant.0,
  handed_more _ (are_known c.sections.sink.functions) _ c.sections.section-index _ _ _ c.sections.invariant.0 c.sections-test.true c.sections.invariant.1 c.in_ok-take_section.ensures.taken,
)

pub returns-clause-value : goal.returns-clause-value
returns-clause-value c = handed_all _ _ _ _ _ (ap (map (λ (s : RawCustom). s.bytes.now)) c.deref-section-items.ensures.value ∙ c.in_ok-sections.ensures) c.sections.invariant.1 (omega arith)
