use Rattle.wasm_entries.specs.Record as entries
use Rattle.walrus_code.specs.Indices.{index_of}
use Rattle.walrus_contents.specs.View.{parts_view}
use Rattle.walrus_writing.proofs.ImportedEntries.{import_written}
use Rattle.walrus_writing.proofs.imports.raw_import.Goals as goal

pub returns : goal.returns
returns c =
    let w : entries.Import = record { from = c.as_str.result.now; name = c.as_str-2.result.now; desc = c.in_ok-desc.desc } in
    import_written (index_of c.args.indices.now) (parts_view c.args.parts) _ c.in_ok-raw.raw w c.in_ok-raw.ensures c.in_ok-desc.ensures c.as_str.ensures.value c.as_str-2.ensures.value c.as_str.utf8 c.as_str-2.utf8
