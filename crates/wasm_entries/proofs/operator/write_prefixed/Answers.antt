use Rattle.std.proofs.Common.{◌∷◌, []}
use Rattle.wasm_forms.proofs.Keeping.{keeps_behind}
use Rattle.wasm_entries.proofs.Steps.{adds_spent, keeps_same}
use Rattle.wasm_entries.proofs.operator.write_prefixed.Goals as goal

pub returns-in_err-push-clause-adds : goal.returns-in_err-push-clause-adds
returns-in_err-push-clause-adds c = adds_spent c.from_residual.result c.args.to.now.items c.push.new.self.items (0xFB ∷ c.args.byte ∷ []) (Unit {0}) c.from_residual.ensures.1

pub returns-in_err-push-clause-keeps : goal.returns-in_err-push-clause-keeps
returns-in_err-push-clause-keeps c = keeps_same c.args.to.now.items c.push.new.self.items c.in_err-push.ensures.items

pub returns-clause-keeps : goal.returns-clause-keeps
returns-clause-keeps c = keeps_behind c.args.to.now.items c.push.new.self.items c.write_bare.new.to.items _ c.in_ok-push.ensures.items c.write_bare.ensures.keeps
