use Rattle.std.proofs.Common.{ℕ, List, ◌∷◌, [], ap, ◌∙◌, subst}
use Rattle.walrus_functions.specs.Marked.{Marks}
use Rattle.walrus_functions.proofs.MarkLemmas.{marks_none}
use Rattle.walrus_functions.proofs.marks.mark_arg.Goals as goal

pub returns-in-Some-clause-marks : goal.returns-in-Some-clause-marks
returns-in-Some-clause-marks c h = subst (λ (ps : List ℕ). Marks c.args.first c.args.marks.now.items c.mark.new.marks.items ps) (ap (λ (p : ℕ). p ∷ []) c.index.ensures ∙ c.in-Some.ensures) (c.mark.ensures.marks h)

pub returns-in-None-clause-marks : goal.returns-in-None-clause-marks
returns-in-None-clause-marks c _ = subst (λ (ps : List ℕ). Marks c.args.first c.args.marks.now.items c.args.marks.now.items ps) c.in-None.ensures (marks_none c.args.first c.args.marks.now.items)
