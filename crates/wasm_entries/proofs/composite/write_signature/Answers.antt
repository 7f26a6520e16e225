use Rattle.wasm_forms.proofs.Keeping.{keeps_behind}
use Rattle.wasm_entries.specs.Record.{func_type}
use Rattle.wasm_entries.proofs.Groups.{wrote_signature}
use Rattle.wasm_entries.proofs.composite.write_signature.Goals as goal

pub returns-clause-adds : goal.returns-clause-adds
returns-clause-adds c =
    wrote_signature (func_type c.args.func.now) c.deref.result.now c.deref-2.result.now c.write_vector-2.result c.args.to.now.items c.write_vector.new.to.items c.write_vector-2.new.to.items
    c.deref.ensures.value c.deref-2.ensures.value c.in_ok-write_vector.ensures.adds.0 c.in_ok-write_vector.ensures.adds.1.0 c.write_vector-2.ensures.adds

pub returns-in_err-write_vector-clause-keeps : goal.returns-in_err-write_vector-clause-keeps
returns-in_err-write_vector-clause-keeps c = c.in_err-write_vector.ensures.keeps

pub returns-clause-keeps : goal.returns-clause-keeps
returns-clause-keeps c = keeps_behind c.args.to.now.items c.write_vector.new.to.items c.write_vector-2.new.to.items _ c.in_ok-write_vector.ensures.adds.0 c.write_vector-2.ensures.keeps
