use Rattle.std.proofs.Common.{take}
use Rattle.walrus_sections.proofs.StripLemmas.{AllMet}
use Rattle.walrus_sections.proofs.tool.strip.all_fit.Given as goal

-- those before are met
abbrev pub invariant-loop-choice : goal.invariant-loop-choice
invariant-loop-choice l = AllMet l.pieces (take l.choice-index l.choices)
