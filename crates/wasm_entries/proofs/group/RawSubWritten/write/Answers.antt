use Rattle.wasm_forms.proofs.Keeping.{keeps_behind}
use Rattle.wasm_entries.proofs.Steps.{adds_spent, keeps_same, put_behind}
use Rattle.wasm_entries.specs.Record.{sub}
use Rattle.wasm_entries.specs.TypeSpelling.{sub_bytes, SubFits}
use Rattle.wasm_entries.proofs.group.RawSubWritten.write.Goals as goal

pub returns-in_err-push-clause-adds : goal.returns-in_err-push-clause-adds
returns-in_err-push-clause-adds c = adds_spent c.from_residual.result c.args.to.now.items c.push.new.self.items (sub_bytes (sub c.args.self.now)) (SubFits (sub c.args.self.now)) c.from_residual.ensures.1

pub returns-in_err-push-clause-keeps : goal.returns-in_err-push-clause-keeps
returns-in_err-push-clause-keeps c = keeps_same c.args.to.now.items c.push.new.self.items c.in_err-push.ensures.items

pub returns-in_err-write_vector-clause-keeps : goal.returns-in_err-write_vector-clause-keeps
returns-in_err-write_vector-clause-keeps c = keeps_behind c.args.to.now.items c.push.new.self.items c.write_vector.new.to.items _ c.in_ok-push.ensures.items c.in_err-write_vector.ensures.keeps

pub returns-clause-keeps : goal.returns-clause-keeps
returns-clause-keeps c = keeps_behind c.args.to.now.items c.write_vector.new.to.items c.write_composite-2.new.to.items _ (put_behind c.args.to.now.items c.push.new.self.items c.write_vector.new.to.items _ _ c.in_ok-push.ensures.items c.in_ok-write_vector.ensures.adds.0) c.write_composite-2.ensures.keeps
