use Rattle.wasm_forms.proofs.Keeping.{keeps_behind}
use Rattle.wasm_entries.proofs.Steps.{adds_spent, keeps_same}
use Rattle.wasm_entries.specs.Record.{comp}
use Rattle.wasm_entries.specs.TypeSpelling.{comp_bytes, CompFits}
use Rattle.wasm_entries.proofs.composite.write_composite.Goals as goal

pub returns-in_err-push-in-Func-clause-adds : goal.returns-in_err-push-in-Func-clause-adds
returns-in_err-push-in-Func-clause-adds c = adds_spent c.from_residual.result c.args.to.now.items c.push.new.self.items (comp_bytes (comp c.args.composite.now)) (CompFits (comp c.args.composite.now)) c.from_residual.ensures.1

pub returns-in_err-push-in-Func-clause-keeps : goal.returns-in_err-push-in-Func-clause-keeps
returns-in_err-push-in-Func-clause-keeps c = keeps_same c.args.to.now.items c.push.new.self.items c.in_err-push-in-Func.ensures.items

pub returns-in_ok-push-in-Func-clause-keeps : goal.returns-in_ok-push-in-Func-clause-keeps
returns-in_ok-push-in-Func-clause-keeps c = keeps_behind c.args.to.now.items c.push.new.self.items c.write_signature.new.to.items _ c.in_ok-push-in-Func.ensures.items c.write_signature.ensures.keeps

pub returns-in_err-push-in-Struct-clause-adds : goal.returns-in_err-push-in-Struct-clause-adds
returns-in_err-push-in-Struct-clause-adds c = adds_spent c.from_residual-in_err-push-in-Struct.result c.args.to.now.items c.push-in-Struct.new.self.items (comp_bytes (comp c.args.composite.now)) (CompFits (comp c.args.composite.now)) c.from_residual-in_err-push-in-Struct.ensures.1

pub returns-in_err-push-in-Struct-clause-keeps : goal.returns-in_err-push-in-Struct-clause-keeps
returns-in_err-push-in-Struct-clause-keeps c = keeps_same c.args.to.now.items c.push-in-Struct.new.self.items c.in_err-push-in-Struct.ensures.items

pub returns-in_ok-push-in-Struct-clause-keeps : goal.returns-in_ok-push-in-Struct-clause-keeps
returns-in_ok-push-in-Struct-clause-keeps c = keeps_behind c.args.to.now.items c.push-in-Struct.new.self.items c.write_vector.new.to.items _ c.in_ok-push-in-Struct.ensures.items c.write_vector.ensures.keeps

pub returns-in_err-push-in-Array-clause-adds : goal.returns-in_err-push-in-Array-clause-adds
returns-in_err-push-in-Array-clause-adds c = adds_spent c.from_residual-in_err-push-in-Array.result c.args.to.now.items c.push-in-Array.new.self.items (comp_bytes (comp c.args.composite.now)) (CompFits (comp c.args.composite.now)) c.from_residual-in_err-push-in-Array.ensures.1

pub returns-in_err-push-in-Array-clause-keeps : goal.returns-in_err-push-in-Array-clause-keeps
returns-in_err-push-in-Array-clause-keeps c = keeps_same c.args.to.now.items c.push-in-Array.new.self.items c.in_err-push-in-Array.ensures.items

pub returns-in_ok-push-in-Array-clause-keeps : goal.returns-in_ok-push-in-Array-clause-keeps
returns-in_ok-push-in-Array-clause-keeps c = keeps_behind c.args.to.now.items c.push-in-Array.new.self.items c.write.new.to.items _ c.in_ok-push-in-Array.ensures.items c.write.ensures.keeps
