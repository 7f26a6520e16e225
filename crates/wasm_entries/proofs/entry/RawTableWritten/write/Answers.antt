use Rattle.std.proofs.Common.{◌∙◌}
use Rattle.wasm_forms.proofs.Keeping.{keeps_behind}
use Rattle.wasm_entries.proofs.Steps.{adds_spent, keeps_same, keeps_put, put_behind}
use Rattle.wasm_entries.specs.Record.{table_entry}
use Rattle.wasm_entries.specs.Spelling.{table_bytes, TableFits}
use Rattle.wasm_entries.proofs.entry.RawTableWritten.write.Goals as goal

pub returns-in_err-push-in-Some-clause-adds : goal.returns-in_err-push-in-Some-clause-adds
returns-in_err-push-in-Some-clause-adds c = adds_spent c.from_residual.result c.args.to.now.items c.push.new.self.items (table_bytes (table_entry c.args.self.now)) (TableFits (table_entry c.args.self.now)) c.from_residual.ensures.1

pub returns-in_err-push-in-Some-clause-keeps : goal.returns-in_err-push-in-Some-clause-keeps
returns-in_err-push-in-Some-clause-keeps c = keeps_same c.args.to.now.items c.push.new.self.items c.in_err-push-in-Some.ensures.items

pub returns-in_err-push-in-Some-2-clause-adds : goal.returns-in_err-push-in-Some-2-clause-adds
returns-in_err-push-in-Some-2-clause-adds c = adds_spent c.from_residual-in_err-push-in-Some-2.result c.args.to.now.items c.push-in-Some.new.self.items (table_bytes (table_entry c.args.self.now)) (TableFits (table_entry c.args.self.now)) c.from_residual-in_err-push-in-Some-2.ensures.1

pub returns-in_err-push-in-Some-2-clause-keeps : goal.returns-in_err-push-in-Some-2-clause-keeps
returns-in_err-push-in-Some-2-clause-keeps c = keeps_put c.args.to.now.items c.push-in-Some.new.self.items _ (c.in_err-push-in-Some-2.ensures.items ∙ c.in_ok-push-in-Some.ensures.items)

pub returns-in_err-write_table_type-in-Some-clause-keeps : goal.returns-in_err-write_table_type-in-Some-clause-keeps
returns-in_err-write_table_type-in-Some-clause-keeps c = keeps_behind c.args.to.now.items c.push-in-Some.new.self.items c.write_table_type-in-Some.new.to.items _ (put_behind c.args.to.now.items c.push.new.self.items c.push-in-Some.new.self.items _ _ c.in_ok-push-in-Some.ensures.items c.in_ok-push-in-Some-2.ensures.items) c.in_err-write_table_type-in-Some.ensures.keeps

pub returns-in_ok-write_table_type-in-Some-clause-keeps : goal.returns-in_ok-write_table_type-in-Some-clause-keeps
returns-in_ok-write_table_type-in-Some-clause-keeps c = keeps_behind c.args.to.now.items c.write_table_type-in-Some.new.to.items c.write_expression.new.to.items _ (put_behind c.args.to.now.items c.push-in-Some.new.self.items c.write_table_type-in-Some.new.to.items _ _ (put_behind c.args.to.now.items c.push.new.self.items c.push-in-Some.new.self.items _ _ c.in_ok-push-in-Some.ensures.items c.in_ok-push-in-Some-2.ensures.items) c.in_ok-write_table_type-in-Some.ensures.adds.0) c.write_expression.ensures.keeps

pub returns-in-None-clause-keeps : goal.returns-in-None-clause-keeps
returns-in-None-clause-keeps c = c.write_table_type.ensures.keeps
