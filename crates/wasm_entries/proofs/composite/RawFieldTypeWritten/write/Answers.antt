use Rattle.std.proofs.Common.{◌∙◌}
use Rattle.wasm_entries.proofs.Steps.{adds_spent, adds_exit, keeps_put, put_behind}
use Rattle.wasm_entries.specs.TypeSpelling.{field_bytes, storage_bytes}
use Rattle.wasm_entries.proofs.composite.RawFieldTypeWritten.write.Goals as goal

pub returns-in_err-write_storage-clause-adds : goal.returns-in_err-write_storage-clause-adds
returns-in_err-write_storage-clause-adds c = adds_exit (Unit {0}) c.from_residual.result c.in_err-write_storage.field-0.0 c.args.to.now.items c.write_storage.new.to.items (storage_bytes c.args.self.now.storage) c.args.to.now.items c.write_storage.new.to.items (field_bytes c.args.self.now) (Unit {0}) (Unit {0}) c.from_residual.ensures.1 (λ _. tt) c.in_err-write_storage.ensures.adds

pub returns-in_err-write_storage-clause-keeps : goal.returns-in_err-write_storage-clause-keeps
returns-in_err-write_storage-clause-keeps c = c.in_err-write_storage.ensures.keeps

pub returns-in_err-push-clause-adds : goal.returns-in_err-push-clause-adds
returns-in_err-push-clause-adds c = adds_spent c.from_residual-in_err-push.result c.args.to.now.items c.push.new.self.items (field_bytes c.args.self.now) (Unit {0}) c.from_residual-in_err-push.ensures.1

pub returns-in_err-push-clause-keeps : goal.returns-in_err-push-clause-keeps
returns-in_err-push-clause-keeps c = keeps_put c.args.to.now.items c.push.new.self.items _ (c.in_err-push.ensures.items ∙ c.in_ok-write_storage.ensures.adds.0)

pub returns-clause-keeps : goal.returns-clause-keeps
returns-clause-keeps c = keeps_put c.args.to.now.items c.push.new.self.items _ (put_behind c.args.to.now.items c.write_storage.new.to.items c.push.new.self.items _ _ c.in_ok-write_storage.ensures.adds.0 c.in_ok-push.ensures.items)
