use Rattle.std.proofs.Common.{◌∙◌}
use Rattle.wasm_entries.proofs.Steps.{adds_spent, keeps_same, keeps_put, put_behind}
use Rattle.wasm_entries.specs.TypeSpelling.{limits_bytes, LimitsFit}
use Rattle.wasm_entries.proofs.limits.write_limits.Goals as goal

pub returns-in_err-push-clause-adds : goal.returns-in_err-push-clause-adds
returns-in_err-push-clause-adds c = adds_spent c.from_residual.result c.args.to.now.items c.push.new.self.items (limits_bytes c.args.limits.now) (LimitsFit c.args.limits.now) c.from_residual.ensures.1

pub returns-in_err-push-clause-keeps : goal.returns-in_err-push-clause-keeps
returns-in_err-push-clause-keeps c = keeps_same c.args.to.now.items c.push.new.self.items c.in_err-push.ensures.items

pub returns-in_err-write_u64-clause-adds : goal.returns-in_err-write_u64-clause-adds
returns-in_err-write_u64-clause-adds c = adds_spent c.from_residual-in_err-write_u64.result c.args.to.now.items c.write_u64.new.to.items (limits_bytes c.args.limits.now) (LimitsFit c.args.limits.now) c.from_residual-in_err-write_u64.ensures.1

pub returns-in_err-write_u64-clause-keeps : goal.returns-in_err-write_u64-clause-keeps
returns-in_err-write_u64-clause-keeps c = keeps_put c.args.to.now.items c.write_u64.new.to.items _ (c.in_err-write_u64.ensures.written ∙ c.in_ok-push.ensures.items)

pub returns-in_err-write_u64-2-clause-adds : goal.returns-in_err-write_u64-2-clause-adds
returns-in_err-write_u64-2-clause-adds c = adds_spent c.from_residual-in_err-write_u64-2.result c.args.to.now.items c.write_u64-in-Some.new.to.items (limits_bytes c.args.limits.now) (LimitsFit c.args.limits.now) c.from_residual-in_err-write_u64-2.ensures.1

pub returns-in_err-write_u64-2-clause-keeps : goal.returns-in_err-write_u64-2-clause-keeps
returns-in_err-write_u64-2-clause-keeps c = keeps_put c.args.to.now.items c.write_u64-in-Some.new.to.items _ (c.in_err-write_u64-2.ensures.written ∙ (put_behind c.args.to.now.items c.push.new.self.items c.write_u64.new.to.items _ _ c.in_ok-push.ensures.items c.in_ok-write_u64.ensures.written))
