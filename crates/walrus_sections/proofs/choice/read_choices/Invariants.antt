use Rattle.std.proofs.Common.{length}
use Rattle.walrus_sections.specs.Choice.{choices_seen}
use Rattle.walrus_sections.proofs.Records.{SoFar}
use Rattle.walrus_sections.proofs.choice.read_choices.Given as goal

-- the choices so far, and the bytes behind them
abbrev pub invariant-records : goal.invariant-records
invariant-records l = SoFar l.bytes (choices_seen l.choices.items) l.left

-- the bytes that are left
abbrev pub decreases-records : goal.decreases-records
decreases-records l = length l.left
