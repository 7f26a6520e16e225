use Rattle.walrus.specs.Items.Exports.{exports}
use Rattle.walrus.specs.Items.Functions.{functions}
use Rattle.walrus_tools.specs.FunctionMeaning.{texts}
use Rattle.walrus_tools.proofs.MeantTexts.{TextsSoFar}
use Rattle.walrus_tools.proofs.function_meaning.marks_of.Given as goal

-- what the texts before mean is marked
abbrev pub invariant-texts : goal.invariant-texts
invariant-texts l = TextsSoFar (functions l.all) (exports l.exported) (texts l.meant) l.text-index l.marking.marks
