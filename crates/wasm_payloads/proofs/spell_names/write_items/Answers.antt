use Rattle.wasm_payloads.specs.Lent.{entry, EntryFits}
use Rattle.wasm_payloads.specs.Spelling.{entry_bytes}
use Rattle.wasm_payloads.proofs.Entries.{part_adds}
use Rattle.wasm_payloads.proofs.spell_names.write_items.Goals as goal

pub returns-clause-adds : goal.returns-clause-adds
returns-clause-adds c = part_adds entry entry_bytes EntryFits c.write_part.result c.args.id c.args.names.now c.args.to.now.items c.write_part.new.to.items c.write_part.ensures.adds
