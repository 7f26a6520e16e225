use Rattle.std.proofs.Common.{◌≡◌, ◌++◌, drop}
use Rattle.mulkavesh.specs.Choices.{texts_said}
use Rattle.walrus_tools.specs.FunctionMeaning.{texts}
use Rattle.mulkavesh.proofs.choices.texts_said.Given as goal

-- what is made, and the functions of the values that are left, are all of them
abbrev pub invariant-values : goal.invariant-values
invariant-values l = texts l.functions.items ++ texts_said (drop l.named-index l.values) ≡ texts_said l.fn.values
