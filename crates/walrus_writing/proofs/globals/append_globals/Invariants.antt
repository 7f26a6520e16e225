use Rattle.std.specs.Prelude.{⊤}
use Rattle.wasm_entries.specs.Record.{global_entry}
use Rattle.wasm_entries.specs.Spelling.{global_bytes}
use Rattle.walrus_base.specs.Arena.{items}
use Rattle.walrus_code.specs.Indices.{index_of}
use Rattle.walrus_items.specs.Globals.{globals, globals_left}
use Rattle.walrus_writing.specs.Appended.{AppendsEntries}
use Rattle.walrus_writing.proofs.ItemsLeft.{GlobalsWritten}
use Rattle.walrus_writing.proofs.globals.append_globals.Given as goal

-- what was appended is that of the globals so far, and those that are still to come complete them
abbrev pub invariant-loop-global : goal.invariant-loop-global
invariant-loop-global l =
    goal.iterator-loop-global.can_next l.global-iterator
    × goal.iterator-loop-global.is_finite l.global-iterator
    × AppendsEntries global_entry global_bytes (λ _. ⊤) (λ raw. GlobalsWritten (index_of l.indices) (items (globals l.all)) raw (globals_left l.global-iterator)) l.count l.fn.to.items l.to.items
