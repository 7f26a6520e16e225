use Rattle.std.proofs.Common.{◌≡◌, ap, ◌∙◌, List, Some}
use Rattle.std.specs.Str.{IsUtf8}
use Rattle.wasm_entries.specs.Record.{export_entry}
use Rattle.wasm_entries.specs.Spelling.{ExportFits, export_bytes}
use Rattle.wasm_entries.specs.declared.record.RawExport.{RawExport}
use Rattle.walrus_base.specs.Arena.{items}
use Rattle.walrus_code.specs.Indices.{index_of}
use Rattle.walrus_contents.specs.View.{export_of}
use Rattle.walrus_items.specs.Exports.{exports, exports_left, export_value}
use Rattle.walrus_writing.specs.BySection.{AreExports}
use Rattle.walrus_writing.specs.Parts.{export_with_index}
use Rattle.walrus_writing.proofs.AppendedExports.{ExportsWritten, exports_begin, exports_done, exports_more}
use Rattle.walrus_writing.proofs.AppendedRows.{none_appended, one_appended, said_else}
use Rattle.walrus_writing.proofs.exports.append_exports.Goals as goal

pub loop-export-init : goal.loop-export-init
loop-export-init c =
    let names = index_of c.args.indices.now in
    let every = items (exports c.args.all_exports.now) in (
      tt,
      tt,
      none_appended export_entry export_bytes ExportFits (λ (raw : List RawExport). ExportsWritten names every raw (exports_left c.into_iter-export-iterator.result)) _
          (exports_begin names every _ (ap exports_left c.into_iter-export-iterator.ensures.into_iter_gives ∙ c.iter-export-items.ensures)),
    )

pub loop-export-preserved : goal.loop-export-preserved
loop-export-preserved c =
    let names = index_of c.args.indices.now in
    let every = items (exports c.args.all_exports.now) in (
      tt,
      tt,
      one_appended export_entry export_bytes ExportFits (λ (raw : List RawExport). ExportsWritten names every raw (exports_left c.loop-export.export-iterator)) (λ (raw : List RawExport). ExportsWritten names every raw (exports_left c.next.new.self))
          (λ (raw : RawExport). (Some (export_entry raw) ≡ export_with_index names (export_of (export_value c.in-Some.export.now))) × IsUtf8 raw.name.now) _ _ _ _ _
          (λ raw one w said. exports_more names every raw one _ _ _ c.in-Some.ensures.steps w said)
          c.loop-export.invariant.2 c.in_ok-count.ensures,
    )

pub returns : goal.returns
returns c =
    let names = index_of c.args.indices.now in
    let every = items (exports c.args.all_exports.now) in
    said_else export_entry export_bytes ExportFits (λ (raw : List RawExport). ExportsWritten names every raw (exports_left c.loop-export.export-iterator)) (AreExports names every) _ _ _
    (λ raw w. exports_done names every raw _ c.in-None.ensures.steps.0 w)
    c.loop-export.invariant.2
