use Rattle.wasm_forms.proofs.Keeping.{keeps_behind}
use Rattle.wasm_forms.proofs.write.write_vector.Goals as goal

pub returns-clause-keeps : goal.returns-clause-keeps
returns-clause-keeps g c = keeps_behind c.args.to.now.items c.write_u32.new.to.items c.write_row.new.to.items _ c.in_ok-write_u32.ensures.written c.write_row.ensures.keeps
