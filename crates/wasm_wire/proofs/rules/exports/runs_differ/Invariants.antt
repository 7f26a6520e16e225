use Rattle.std.proofs.Common.{◌-◌, length, map}
use Rattle.wasm_wire.proofs.Keys.{DifferUpTo}
use Rattle.wasm_wire.proofs.rules.exports.runs_differ.Given as goal

-- the names of the keys in front differ, and their last number isn't the next one
abbrev pub invariant-runs : goal.invariant-runs
invariant-runs l = DifferUpTo (map (λ e. e.name.now) l.exports) l.keys l.begin

abbrev pub decreases-runs : goal.decreases-runs
decreases-runs l = length l.keys - l.begin
