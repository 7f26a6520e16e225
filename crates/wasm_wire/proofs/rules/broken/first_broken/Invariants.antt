use Rattle.std.proofs.Common.{ℕ, ◌<◌, get_or}
use Rattle.wasm_frames.specs.Record.{sections}
use Rattle.wasm_wire.specs.Gathering.{context}
use Rattle.wasm_wire.specs.Broken.{RuleHolds}
use Rattle.wasm_wire.specs.declared.rules.broken.BrokenRule.{BrokenRule}
use Rattle.wasm_wire.proofs.rules.broken.first_broken.Given as goal

-- the rules so far hold
abbrev pub invariant-loop-rule : goal.invariant-loop-rule
invariant-loop-rule l = (k : ℕ) (d : BrokenRule) → k < l.rule-index → RuleHolds (get_or l.rule-items k d) (context l.declared) (sections l.raw)
