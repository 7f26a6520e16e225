use Rattle.std.proofs.Common.{arith}
use Rattle.wasm_frames.specs.Record.{sections}
use Rattle.wasm_wire.specs.Gathering.{context}
use Rattle.wasm_wire.specs.Broken.{RuleHolds}
use Rattle.wasm_wire.proofs.NamedRules.{each_kept, each_listed}
use Rattle.wasm_wire.proofs.rules.broken.first_broken.Goals as goal

pub returns : goal.returns
returns c =
    each_kept _ _ (each_listed (λ r. RuleHolds r (context c.args.declared.now) (sections c.args.raw.now))
    (λ k d within. c.loop-rule.invariant k d (omega (arith, within, c.loop-rule-test.false))))
