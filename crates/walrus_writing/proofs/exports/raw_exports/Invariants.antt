use Rattle.std.proofs.Common.{◌≡◌, ◌++◌, map, Some}
use Rattle.std.specs.Prelude.{All}
use Rattle.std.specs.Str.{IsUtf8}
use Rattle.wasm_entries.specs.Record.{export_entry}
use Rattle.walrus_base.specs.Arena.{items}
use Rattle.walrus_code.specs.Indices.{index_of}
use Rattle.walrus_items.specs.Exports.{exports, exports_left}
use Rattle.walrus_contents.specs.View.{export_of}
use Rattle.walrus_writing.specs.Parts.{export_with_index}
use Rattle.walrus_writing.proofs.exports.raw_exports.Given as goal

-- the exports so far, and those that are still to come
abbrev pub invariant-loop-export : goal.invariant-loop-export
invariant-loop-export l =
    goal.iterator-loop-export.can_next l.export-iterator
    × goal.iterator-loop-export.is_finite l.export-iterator
    × All (λ e. IsUtf8 e.name.now) l.raw.items
    × (map (λ e. Some (export_entry e)) l.raw.items ++ map (λ v. export_with_index (index_of l.indices) (export_of v)) (exports_left l.export-iterator) ≡ map (λ v. export_with_index (index_of l.indices) (export_of v)) (items (exports l.all_exports)))
