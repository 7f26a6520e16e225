use Rattle.walrus_sections.proofs.Fronts.{TextFrom}
use Rattle.walrus_sections.proofs.beginnings.is_text.Given as goal

-- what stands in front is white space alone
abbrev pub invariant-space : goal.invariant-space
invariant-space l = TextFrom l.at l.bytes
