use Rattle.wasm_payloads.proofs.Fields.{fields_add}
use Rattle.wasm_payloads.proofs.spell_producers.write_fields.Goals as goal

pub returns-clause-adds : goal.returns-clause-adds
returns-clause-adds c = fields_add c.write_vector.result c.args.fields.now c.args.to.now.items c.write_vector.new.to.items c.write_vector.ensures.adds
