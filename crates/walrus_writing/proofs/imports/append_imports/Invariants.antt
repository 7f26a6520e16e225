use Rattle.std.proofs.Common.{map}
use Rattle.wasm_entries.specs.Record.{import_entry}
use Rattle.wasm_entries.specs.Spelling.{ImportFits, import_bytes}
use Rattle.walrus_base.specs.Arena.{entries}
use Rattle.walrus_code.specs.Indices.{index_of}
use Rattle.walrus_items.specs.Imports.{imports, import_entries_left}
use Rattle.walrus_contents.specs.View.{parts_view}
use Rattle.walrus_model.proofs.Walked.{Walked}
use Rattle.walrus_writing.specs.Appended.{AppendsEntries}
use Rattle.walrus_writing.proofs.ImportedEntries.{Completes}
use Rattle.walrus_writing.proofs.imports.append_imports.Given as goal

-- those left stand at their places; what was appended is that of the imports so far, and the entries of those left complete them
abbrev pub invariant-loop-import : goal.invariant-loop-import
invariant-loop-import l =
    goal.iterator-loop-import.can_next l.import-iterator
    × goal.iterator-loop-import.is_finite l.import-iterator
    × Walked (λ i. Unit {0}) (imports l.parts.imports.now) (import_entries_left l.import-iterator)
    × AppendsEntries import_entry import_bytes ImportFits
    (λ raw. Completes (index_of l.indices) (parts_view l.parts) (map import_entry raw) (map (λ e. e.0) (import_entries_left l.import-iterator)) (map (λ e. e.0) (entries (imports l.parts.imports.now))))
    l.count l.fn.to.items l.to.items
