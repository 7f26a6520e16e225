use Rattle.std.proofs.Common.{◌∙◌, ◌∷◌, ◌++◌}
use Rattle.wasm_entries.proofs.Steps.{adds_spent, adds_exit, keeps_put, put_behind}
use Rattle.wasm_forms.specs.Spelling.{number_bytes}
use Rattle.wasm_entries.proofs.operator.write_array_new_fixed.Goals as goal

pub returns-in_err-write_typed-clause-adds : goal.returns-in_err-write_typed-clause-adds
returns-in_err-write_typed-clause-adds c = adds_exit (Unit {0}) c.from_residual.result c.in_err-write_typed.field-0.0 c.args.to.now.items c.write_typed.new.to.items (0xFB ∷ 0x08 ∷ number_bytes c.args.ty) c.args.to.now.items c.write_typed.new.to.items (0xFB ∷ 0x08 ∷ (number_bytes c.args.ty ++ number_bytes c.args.count)) (Unit {0}) (Unit {0}) c.from_residual.ensures.1 (λ _. tt) c.in_err-write_typed.ensures.adds

pub returns-in_err-write_typed-clause-keeps : goal.returns-in_err-write_typed-clause-keeps
returns-in_err-write_typed-clause-keeps c = c.in_err-write_typed.ensures.keeps

pub returns-in_err-write_u32-clause-adds : goal.returns-in_err-write_u32-clause-adds
returns-in_err-write_u32-clause-adds c = adds_spent c.from_residual-in_err-write_u32.result c.args.to.now.items c.write_u32.new.to.items (0xFB ∷ 0x08 ∷ (number_bytes c.args.ty ++ number_bytes c.args.count)) (Unit {0}) c.from_residual-in_err-write_u32.ensures.1

pub returns-in_err-write_u32-clause-keeps : goal.returns-in_err-write_u32-clause-keeps
returns-in_err-write_u32-clause-keeps c = keeps_put c.args.to.now.items c.write_u32.new.to.items _ (c.in_err-write_u32.ensures.written ∙ c.in_ok-write_typed.ensures.adds.0)

pub returns-clause-keeps : goal.returns-clause-keeps
returns-clause-keeps c = keeps_put c.args.to.now.items c.write_u32.new.to.items _ (put_behind c.args.to.now.items c.write_typed.new.to.items c.write_u32.new.to.items _ _ c.in_ok-write_typed.ensures.adds.0 c.in_ok-write_u32.ensures.written)
