use Rattle.wasm_forms.proofs.Keeping.{keeps_behind}
use Rattle.wasm_entries.proofs.Steps.{adds_exit}
use Rattle.wasm_forms.specs.Types.{reference_bytes}
use Rattle.wasm_entries.specs.TypeSpelling.{table_type_bytes, LimitsFit}
use Rattle.wasm_entries.proofs.limits.write_table_type.Goals as goal

pub returns-in_err-write_reference_type-clause-adds : goal.returns-in_err-write_reference_type-clause-adds
returns-in_err-write_reference_type-clause-adds c = adds_exit (Unit {0}) c.from_residual.result c.in_err-write_reference_type.field-0.0 c.args.to.now.items c.write_reference_type.new.to.items (reference_bytes c.args.ty.now.element) c.args.to.now.items c.write_reference_type.new.to.items (table_type_bytes c.args.ty.now) (Unit {0}) (LimitsFit c.args.ty.now.limits) c.from_residual.ensures.1 (λ _. tt) c.in_err-write_reference_type.ensures.adds

pub returns-in_err-write_reference_type-clause-keeps : goal.returns-in_err-write_reference_type-clause-keeps
returns-in_err-write_reference_type-clause-keeps c = c.in_err-write_reference_type.ensures.keeps

pub returns-clause-keeps : goal.returns-clause-keeps
returns-clause-keeps c = keeps_behind c.args.to.now.items c.write_reference_type.new.to.items c.write_limits.new.to.items _ c.in_ok-write_reference_type.ensures.adds.0 c.write_limits.ensures.keeps
