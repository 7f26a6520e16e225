use Rattle.std.proofs.Common.{◌∷◌, []}
use Rattle.wasm_entries.proofs.Steps.{adds_spent, keeps_same, keeps_put}
use Rattle.wasm_entries.proofs.operator.write_bare.Goals as goal

pub returns-in_err-push-clause-adds : goal.returns-in_err-push-clause-adds
returns-in_err-push-clause-adds c = adds_spent c.from_residual.result c.args.to.now.items c.push.new.self.items (c.args.byte ∷ []) (Unit {0}) c.from_residual.ensures.1

pub returns-in_err-push-clause-keeps : goal.returns-in_err-push-clause-keeps
returns-in_err-push-clause-keeps c = keeps_same c.args.to.now.items c.push.new.self.items c.in_err-push.ensures.items

pub returns-clause-keeps : goal.returns-clause-keeps
returns-clause-keeps c = keeps_put c.args.to.now.items c.push.new.self.items _ c.in_ok-push.ensures.items
