use Rattle.std.proofs.Common.{subst}
use Rattle.walrus_sections.specs.FitSteps.{BeginsWith}
use Rattle.walrus_sections.specs.declared.tool.fits.Part.{Part as HeldPart}
use Rattle.walrus_sections.proofs.Stars.{along_star, along_turn}
use Rattle.walrus_sections.proofs.tool.fits.compare.Goals as goal

pub returns-in_default-part : goal.returns-in_default-part
returns-in_default-part c =
    along_star c.args.name.now c.args.text.now c.parts.behind.now c.parts.left.now c.in-Some.rest.now c.in-Some.part c.parts.invariant c.in-Some.ensures c.in_default-part.not-Byte

pub parts-preserved : goal.parts-preserved
parts-preserved c =
    along_turn c.args.name.now c.args.text.now c.parts.behind.now c.parts.left.now c.in-Some.rest.now c.in-Some-split_first.others.now c.in-Byte.wanted c.in-Some-split_first.byte.now c.parts.invariant (subst (λ (p : HeldPart). BeginsWith c.parts.behind.now p c.in-Some.rest.now) c.in-Byte.is c.in-Some.ensures) c.in-Some-split_first.ensures.cases c.if-byte-wanted.false
