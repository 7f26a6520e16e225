use Rattle.wasm_payloads.specs.Lent.{locals_entry, FunctionFits}
use Rattle.wasm_payloads.specs.Spelling.{function_bytes}
use Rattle.wasm_payloads.proofs.Entries.{part_adds}
use Rattle.wasm_payloads.proofs.spell_names.write_locals.Goals as goal

pub returns-clause-adds : goal.returns-clause-adds
returns-clause-adds c = part_adds locals_entry function_bytes FunctionFits c.write_part.result 2 c.args.locals.now c.args.to.now.items c.write_part.new.to.items c.write_part.ensures.adds
