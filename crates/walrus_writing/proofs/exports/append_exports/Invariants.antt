use Rattle.wasm_entries.specs.Record.{export_entry}
use Rattle.wasm_entries.specs.Spelling.{ExportFits, export_bytes}
use Rattle.walrus_base.specs.Arena.{items}
use Rattle.walrus_code.specs.Indices.{index_of}
use Rattle.walrus_items.specs.Exports.{exports, exports_left}
use Rattle.walrus_writing.specs.Appended.{AppendsEntries}
use Rattle.walrus_writing.proofs.AppendedExports.{ExportsWritten}
use Rattle.walrus_writing.proofs.exports.append_exports.Given as goal

-- what was appended is that of the exports so far, and those that are still to come complete them
abbrev pub invariant-loop-export : goal.invariant-loop-export
invariant-loop-export l =
    goal.iterator-loop-export.can_next l.export-iterator
    × goal.iterator-loop-export.is_finite l.export-iterator
    × AppendsEntries export_entry export_bytes ExportFits (λ raw. ExportsWritten (index_of l.indices) (items (exports l.all_exports)) raw (exports_left l.export-iterator)) l.count l.fn.to.items l.to.items
