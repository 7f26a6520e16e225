use Rattle.std.proofs.Common.{◌<◌, refl, rules}
use Rattle.wasm_entries.specs.Record.{export_entry}
use Rattle.wasm_entries.specs.Spelling.{ExportFits, export_bytes}
use Rattle.wasm_frames.specs.Frames.{Exports}
use Rattle.walrus_base.specs.Arena.{items}
use Rattle.walrus_code.specs.Indices.{index_of}
use Rattle.walrus_items.specs.Exports.{exports}
use Rattle.walrus_writing.specs.BySection.{AreExports}
use Rattle.walrus_writing.proofs.AppendedRows.{entries_listed}
use Rattle.walrus_writing.proofs.one_section.write_exports.Goals as goal

pub returns : goal.returns
returns c =
    let few : c.in_ok-count.count < 4294967296 = search rules in
    entries_listed export_entry export_bytes ExportFits Exports 7 (λ es. refl) (λ es fit small. (fit, small)) (AreExports (index_of c.args.indices.now) (items (exports c.args.all.now)))
    c.in_ok-count.count c.in_ok-row.row.items c.append_exports.new.to.items c.as_slice.result.now _ _ c.in_ok-row.ensures.items few c.in_ok-count.ensures c.as_slice.ensures.value c.in_ok-write_listed.ensures
