use Rattle.std.proofs.Common.{◌∙◌}
use Rattle.wasm_forms.proofs.Keeping.{keeps_behind}
use Rattle.wasm_entries.proofs.Steps.{adds_spent, keeps_same, keeps_put, put_behind}
use Rattle.wasm_entries.specs.Record.{data_mode}
use Rattle.wasm_entries.specs.Spelling.{data_mode_bytes}
use Rattle.wasm_entries.proofs.segment.write_data_mode.Goals as goal

pub returns-in_err-push-in-Passive-clause-adds : goal.returns-in_err-push-in-Passive-clause-adds
returns-in_err-push-in-Passive-clause-adds c = adds_spent c.from_residual.result c.args.to.now.items c.push.new.self.items (data_mode_bytes (data_mode c.args.mode.now)) (Unit {0}) c.from_residual.ensures.1

pub returns-in_err-push-in-Passive-clause-keeps : goal.returns-in_err-push-in-Passive-clause-keeps
returns-in_err-push-in-Passive-clause-keeps c = keeps_same c.args.to.now.items c.push.new.self.items c.in_err-push-in-Passive.ensures.items

pub returns-in_ok-push-in-Passive-clause-keeps : goal.returns-in_ok-push-in-Passive-clause-keeps
returns-in_ok-push-in-Passive-clause-keeps c = keeps_put c.args.to.now.items c.push.new.self.items _ c.in_ok-push-in-Passive.ensures.items

pub returns-in_err-push-in-Active-clause-adds : goal.returns-in_err-push-in-Active-clause-adds
returns-in_err-push-in-Active-clause-adds c = adds_spent c.from_residual-in_err-push-in-Active.result c.args.to.now.items c.push-then-memory-eq0.new.self.items (data_mode_bytes (data_mode c.args.mode.now)) (Unit {0}) c.from_residual-in_err-push-in-Active.ensures.1

pub returns-in_err-push-in-Active-clause-keeps : goal.returns-in_err-push-in-Active-clause-keeps
returns-in_err-push-in-Active-clause-keeps c = keeps_same c.args.to.now.items c.push-then-memory-eq0.new.self.items c.in_err-push-in-Active.ensures.items

pub returns-then-memory-eq0-clause-keeps : goal.returns-then-memory-eq0-clause-keeps
returns-then-memory-eq0-clause-keeps c = keeps_behind c.args.to.now.items c.push-then-memory-eq0.new.self.items c.write_expression.new.to.items _ c.in_ok-push-in-Active.ensures.items c.write_expression.ensures.keeps

pub returns-in_err-push-in-Active-2-clause-adds : goal.returns-in_err-push-in-Active-2-clause-adds
returns-in_err-push-in-Active-2-clause-adds c = adds_spent c.from_residual-in_err-push-in-Active-2.result c.args.to.now.items c.push-in-Active.new.self.items (data_mode_bytes (data_mode c.args.mode.now)) (Unit {0}) c.from_residual-in_err-push-in-Active-2.ensures.1

pub returns-in_err-push-in-Active-2-clause-keeps : goal.returns-in_err-push-in-Active-2-clause-keeps
returns-in_err-push-in-Active-2-clause-keeps c = keeps_same c.args.to.now.items c.push-in-Active.new.self.items c.in_err-push-in-Active-2.ensures.items

pub returns-in_err-write_u32-in-Active-clause-adds : goal.returns-in_err-write_u32-in-Active-clause-adds
returns-in_err-write_u32-in-Active-clause-adds c = adds_spent c.from_residual-in_err-write_u32-in-Active.result c.args.to.now.items c.write_u32.new.to.items (data_mode_bytes (data_mode c.args.mode.now)) (Unit {0}) c.from_residual-in_err-write_u32-in-Active.ensures.1

pub returns-in_err-write_u32-in-Active-clause-keeps : goal.returns-in_err-write_u32-in-Active-clause-keeps
returns-in_err-write_u32-in-Active-clause-keeps c = keeps_put c.args.to.now.items c.write_u32.new.to.items _ (c.in_err-write_u32-in-Active.ensures.written ∙ c.in_ok-push-in-Active-2.ensures.items)

pub returns-in_ok-write_u32-in-Active-clause-keeps : goal.returns-in_ok-write_u32-in-Active-clause-keeps
returns-in_ok-write_u32-in-Active-clause-keeps c = keeps_behind c.args.to.now.items c.write_u32.new.to.items c.write_expression-in-Active.new.to.items _ (put_behind c.args.to.now.items c.push-in-Active.new.self.items c.write_u32.new.to.items _ _ c.in_ok-push-in-Active-2.ensures.items c.in_ok-write_u32-in-Active.ensures.written) c.write_expression-in-Active.ensures.keeps
