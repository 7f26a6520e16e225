use Rattle.std.proofs.Common.{◌↔◌, length}
use Rattle.walrus_sections.specs.Choice.{IsList}
use Rattle.walrus_sections.proofs.choice.are_choices.Given as goal

-- the bytes are a list where what is left is one
abbrev pub invariant-records : goal.invariant-records
invariant-records l = IsList l.bytes ↔ IsList l.left

-- the bytes that are left
abbrev pub decreases-records : goal.decreases-records
decreases-records l = length l.left
