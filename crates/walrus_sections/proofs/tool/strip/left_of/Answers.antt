use Rattle.std.proofs.Common.{inl, inr, refl}
use Rattle.walrus_sections.proofs.ChoiceLemmas.{is_not}
use Rattle.walrus_sections.proofs.tool.strip.left_of.Goals as goal

pub returns-then-section_goes : goal.returns-then-section_goes
returns-then-section_goes c = inl (c.section_goes.ensures.0 c.if-section_goes.true, refl)

pub returns-else-section_goes : goal.returns-else-section_goes
returns-else-section_goes c = inr (is_not _ _ c.section_goes.ensures c.if-section_goes.false, refl)
