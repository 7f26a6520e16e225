use Rattle.std.proofs.Common.{◌↔◌, length}
use Rattle.walrus_sections.specs.Choice.{AllGo}
use Rattle.walrus_sections.proofs.choice.all_go.Given as goal

-- the bytes are a list of what goes where what is left is one
abbrev pub invariant-records : goal.invariant-records
invariant-records l = AllGo l.bytes ↔ AllGo l.left

-- the bytes that are left
abbrev pub decreases-records : goal.decreases-records
decreases-records l = length l.left
