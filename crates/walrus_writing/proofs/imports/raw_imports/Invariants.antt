use Rattle.std.proofs.Common.{map}
use Rattle.wasm_entries.specs.Record.{import_entry}
use Rattle.walrus_base.specs.Arena.{entries}
use Rattle.walrus_code.specs.Indices.{index_of}
use Rattle.walrus_items.specs.Imports.{imports, import_entries_left}
use Rattle.walrus_contents.specs.View.{parts_view}
use Rattle.walrus_model.proofs.Walked.{Walked}
use Rattle.walrus_writing.proofs.ImportedEntries.{Completes}
use Rattle.walrus_writing.proofs.imports.raw_imports.Given as goal

-- those left stand at their places, and their entries complete the entries of all
abbrev pub invariant-loop-import : goal.invariant-loop-import
invariant-loop-import l =
    goal.iterator-loop-import.can_next l.import-iterator
    × goal.iterator-loop-import.is_finite l.import-iterator
    × Walked (λ i. Unit {0}) (imports l.parts.imports.now) (import_entries_left l.import-iterator)
    × Completes (index_of l.indices) (parts_view l.parts) (map import_entry l.raw.items) (map (λ e. e.0) (import_entries_left l.import-iterator)) (map (λ e. e.0) (entries (imports l.parts.imports.now)))
