use Rattle.std.proofs.Common.{◌∙◌}
use Rattle.wasm_forms.proofs.Keeping.{keeps_behind}
use Rattle.wasm_entries.proofs.Steps.{adds_spent, keeps_same, keeps_put, put_behind}
use Rattle.wasm_entries.specs.Spelling.{desc_bytes, DescFits}
use Rattle.wasm_entries.proofs.entry.write_desc.Goals as goal

pub returns-in_err-push-in-Function-clause-adds : goal.returns-in_err-push-in-Function-clause-adds
returns-in_err-push-in-Function-clause-adds c = adds_spent c.from_residual.result c.args.to.now.items c.push.new.self.items (desc_bytes c.args.desc.now) (DescFits c.args.desc.now) c.from_residual.ensures.1

pub returns-in_err-push-in-Function-clause-keeps : goal.returns-in_err-push-in-Function-clause-keeps
returns-in_err-push-in-Function-clause-keeps c = keeps_same c.args.to.now.items c.push.new.self.items c.in_err-push-in-Function.ensures.items

pub returns-in_err-write_u32-in-Function-clause-adds : goal.returns-in_err-write_u32-in-Function-clause-adds
returns-in_err-write_u32-in-Function-clause-adds c = adds_spent c.from_residual-in_err-write_u32-in-Function.result c.args.to.now.items c.write_u32.new.to.items (desc_bytes c.args.desc.now) (DescFits c.args.desc.now) c.from_residual-in_err-write_u32-in-Function.ensures.1

pub returns-in_err-write_u32-in-Function-clause-keeps : goal.returns-in_err-write_u32-in-Function-clause-keeps
returns-in_err-write_u32-in-Function-clause-keeps c = keeps_put c.args.to.now.items c.write_u32.new.to.items _ (c.in_err-write_u32-in-Function.ensures.written ∙ c.in_ok-push-in-Function.ensures.items)

pub returns-in_ok-write_u32-in-Function-clause-keeps : goal.returns-in_ok-write_u32-in-Function-clause-keeps
returns-in_ok-write_u32-in-Function-clause-keeps c = keeps_put c.args.to.now.items c.write_u32.new.to.items _ (put_behind c.args.to.now.items c.push.new.self.items c.write_u32.new.to.items _ _ c.in_ok-push-in-Function.ensures.items c.in_ok-write_u32-in-Function.ensures.written)

pub returns-in_err-push-in-Table-clause-adds : goal.returns-in_err-push-in-Table-clause-adds
returns-in_err-push-in-Table-clause-adds c = adds_spent c.from_residual-in_err-push-in-Table.result c.args.to.now.items c.push-in-Table.new.self.items (desc_bytes c.args.desc.now) (DescFits c.args.desc.now) c.from_residual-in_err-push-in-Table.ensures.1

pub returns-in_err-push-in-Table-clause-keeps : goal.returns-in_err-push-in-Table-clause-keeps
returns-in_err-push-in-Table-clause-keeps c = keeps_same c.args.to.now.items c.push-in-Table.new.self.items c.in_err-push-in-Table.ensures.items

pub returns-in_ok-push-in-Table-clause-keeps : goal.returns-in_ok-push-in-Table-clause-keeps
returns-in_ok-push-in-Table-clause-keeps c = keeps_behind c.args.to.now.items c.push-in-Table.new.self.items c.write_table_type.new.to.items _ c.in_ok-push-in-Table.ensures.items c.write_table_type.ensures.keeps

pub returns-in_err-push-in-Memory-clause-adds : goal.returns-in_err-push-in-Memory-clause-adds
returns-in_err-push-in-Memory-clause-adds c = adds_spent c.from_residual-in_err-push-in-Memory.result c.args.to.now.items c.push-in-Memory.new.self.items (desc_bytes c.args.desc.now) (DescFits c.args.desc.now) c.from_residual-in_err-push-in-Memory.ensures.1

pub returns-in_err-push-in-Memory-clause-keeps : goal.returns-in_err-push-in-Memory-clause-keeps
returns-in_err-push-in-Memory-clause-keeps c = keeps_same c.args.to.now.items c.push-in-Memory.new.self.items c.in_err-push-in-Memory.ensures.items

pub returns-in_ok-push-in-Memory-clause-keeps : goal.returns-in_ok-push-in-Memory-clause-keeps
returns-in_ok-push-in-Memory-clause-keeps c = keeps_behind c.args.to.now.items c.push-in-Memory.new.self.items c.write_limits.new.to.items _ c.in_ok-push-in-Memory.ensures.items c.write_limits.ensures.keeps

pub returns-in_err-push-in-Global-clause-adds : goal.returns-in_err-push-in-Global-clause-adds
returns-in_err-push-in-Global-clause-adds c = adds_spent c.from_residual-in_err-push-in-Global.result c.args.to.now.items c.push-in-Global.new.self.items (desc_bytes c.args.desc.now) (DescFits c.args.desc.now) c.from_residual-in_err-push-in-Global.ensures.1

pub returns-in_err-push-in-Global-clause-keeps : goal.returns-in_err-push-in-Global-clause-keeps
returns-in_err-push-in-Global-clause-keeps c = keeps_same c.args.to.now.items c.push-in-Global.new.self.items c.in_err-push-in-Global.ensures.items

pub returns-in_ok-push-in-Global-clause-keeps : goal.returns-in_ok-push-in-Global-clause-keeps
returns-in_ok-push-in-Global-clause-keeps c = keeps_behind c.args.to.now.items c.push-in-Global.new.self.items c.write_global_type.new.to.items _ c.in_ok-push-in-Global.ensures.items c.write_global_type.ensures.keeps

pub returns-in_err-push-in-Tag-clause-adds : goal.returns-in_err-push-in-Tag-clause-adds
returns-in_err-push-in-Tag-clause-adds c = adds_spent c.from_residual-in_err-push-in-Tag.result c.args.to.now.items c.push-in-Tag.new.self.items (desc_bytes c.args.desc.now) (DescFits c.args.desc.now) c.from_residual-in_err-push-in-Tag.ensures.1

pub returns-in_err-push-in-Tag-clause-keeps : goal.returns-in_err-push-in-Tag-clause-keeps
returns-in_err-push-in-Tag-clause-keeps c = keeps_same c.args.to.now.items c.push-in-Tag.new.self.items c.in_err-push-in-Tag.ensures.items

pub returns-in_err-push-in-Tag-2-clause-adds : goal.returns-in_err-push-in-Tag-2-clause-adds
returns-in_err-push-in-Tag-2-clause-adds c = adds_spent c.from_residual-in_err-push-in-Tag-2.result c.args.to.now.items c.push-in-Tag-2.new.self.items (desc_bytes c.args.desc.now) (DescFits c.args.desc.now) c.from_residual-in_err-push-in-Tag-2.ensures.1

pub returns-in_err-push-in-Tag-2-clause-keeps : goal.returns-in_err-push-in-Tag-2-clause-keeps
returns-in_err-push-in-Tag-2-clause-keeps c = keeps_put c.args.to.now.items c.push-in-Tag-2.new.self.items _ (c.in_err-push-in-Tag-2.ensures.items ∙ c.in_ok-push-in-Tag.ensures.items)

pub returns-in_err-write_u32-in-Tag-clause-adds : goal.returns-in_err-write_u32-in-Tag-clause-adds
returns-in_err-write_u32-in-Tag-clause-adds c = adds_spent c.from_residual-in_err-write_u32-in-Tag.result c.args.to.now.items c.write_u32-in-Tag.new.to.items (desc_bytes c.args.desc.now) (DescFits c.args.desc.now) c.from_residual-in_err-write_u32-in-Tag.ensures.1

pub returns-in_err-write_u32-in-Tag-clause-keeps : goal.returns-in_err-write_u32-in-Tag-clause-keeps
returns-in_err-write_u32-in-Tag-clause-keeps c = keeps_put c.args.to.now.items c.write_u32-in-Tag.new.to.items _ (c.in_err-write_u32-in-Tag.ensures.written ∙ (put_behind c.args.to.now.items c.push-in-Tag.new.self.items c.push-in-Tag-2.new.self.items _ _ c.in_ok-push-in-Tag.ensures.items c.in_ok-push-in-Tag-2.ensures.items))

pub returns-in_ok-write_u32-in-Tag-clause-keeps : goal.returns-in_ok-write_u32-in-Tag-clause-keeps
returns-in_ok-write_u32-in-Tag-clause-keeps c = keeps_put c.args.to.now.items c.write_u32-in-Tag.new.to.items _ (put_behind c.args.to.now.items c.push-in-Tag-2.new.self.items c.write_u32-in-Tag.new.to.items _ _ (put_behind c.args.to.now.items c.push-in-Tag.new.self.items c.push-in-Tag-2.new.self.items _ _ c.in_ok-push-in-Tag.ensures.items c.in_ok-push-in-Tag-2.ensures.items) c.in_ok-write_u32-in-Tag.ensures.written)
