use Rattle.std.proofs.Common.{◌≡◌, ◌++◌, drop}
use Rattle.mulkavesh.specs.Choices.{choices_about}
use Rattle.walrus_sections.specs.Choice.{choices_seen}
use Rattle.mulkavesh.proofs.choices.choices_about.Given as goal

-- what is made, and what is said by the values that are left, are all that is said
abbrev pub invariant-values : goal.invariant-values
invariant-values l = choices_seen l.choices.items ++ choices_about l.about (drop l.named-index l.values) ≡ choices_about l.about l.fn.values
