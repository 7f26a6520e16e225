use Rattle.std.proofs.Common.{flat_map, take}
use Rattle.wasm_entries.specs.Record.{import_entry}
use Rattle.walrus_edits.specs.ItemValues.{with_brought}
use Rattle.walrus_edits.proofs.TellSteps.{HasTold}
use Rattle.walrus_edits.proofs.item_list.tell_imports.Given as goal

-- the imports so far are told
abbrev pub invariant-imports : goal.invariant-imports
invariant-imports l = HasTold l.fn.to.items l.to.items (flat_map (λ i. with_brought (import_entry i)) (take l.import-index l.imports))
