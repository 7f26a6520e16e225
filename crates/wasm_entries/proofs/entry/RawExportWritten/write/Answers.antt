use Rattle.std.proofs.Common.{◌∙◌}
use Rattle.wasm_entries.proofs.Steps.{adds_spent, keeps_put, put_behind}
use Rattle.wasm_entries.specs.Record.{export_entry}
use Rattle.wasm_entries.specs.Spelling.{export_bytes, ExportFits}
use Rattle.wasm_entries.proofs.entry.RawExportWritten.write.Goals as goal

pub returns-in_err-push-clause-adds : goal.returns-in_err-push-clause-adds
returns-in_err-push-clause-adds c = adds_spent c.from_residual-in_err-push.result c.args.to.now.items c.push.new.self.items (export_bytes (export_entry c.args.self.now)) (ExportFits (export_entry c.args.self.now)) c.from_residual-in_err-push.ensures.1

pub returns-in_err-push-clause-keeps : goal.returns-in_err-push-clause-keeps
returns-in_err-push-clause-keeps c = keeps_put c.args.to.now.items c.push.new.self.items _ (c.in_err-push.ensures.items ∙ c.in_ok-write_name.ensures.written.0)

pub returns-in_err-write_u32-clause-adds : goal.returns-in_err-write_u32-clause-adds
returns-in_err-write_u32-clause-adds c = adds_spent c.from_residual-in_err-write_u32.result c.args.to.now.items c.write_u32.new.to.items (export_bytes (export_entry c.args.self.now)) (ExportFits (export_entry c.args.self.now)) c.from_residual-in_err-write_u32.ensures.1

pub returns-in_err-write_u32-clause-keeps : goal.returns-in_err-write_u32-clause-keeps
returns-in_err-write_u32-clause-keeps c = keeps_put c.args.to.now.items c.write_u32.new.to.items _ (c.in_err-write_u32.ensures.written ∙ (put_behind c.args.to.now.items c.write_name.new.to.items c.push.new.self.items _ _ c.in_ok-write_name.ensures.written.0 c.in_ok-push.ensures.items))

pub returns-clause-keeps : goal.returns-clause-keeps
returns-clause-keeps c = keeps_put c.args.to.now.items c.write_u32.new.to.items _ (put_behind c.args.to.now.items c.push.new.self.items c.write_u32.new.to.items _ _ (put_behind c.args.to.now.items c.write_name.new.to.items c.push.new.self.items _ _ c.in_ok-write_name.ensures.written.0 c.in_ok-push.ensures.items) c.in_ok-write_u32.ensures.written)
