use Rattle.std.proofs.Common.{◌<◌, refl, rules}
use Rattle.wasm_entries.specs.Record.{import_entry}
use Rattle.wasm_entries.specs.Spelling.{ImportFits, import_bytes}
use Rattle.wasm_frames.specs.Frames.{Imports}
use Rattle.walrus_code.specs.Indices.{index_of}
use Rattle.walrus_writing.specs.BySection.{AreImports}
use Rattle.walrus_writing.proofs.AppendedRows.{entries_listed}
use Rattle.walrus_writing.proofs.one_section.write_imports.Goals as goal

pub returns : goal.returns
returns c =
    let few : c.in_ok-count.count < 4294967296 = search rules in
    entries_listed import_entry import_bytes ImportFits Imports 2 (λ es. refl) (λ es fit small. (fit, small)) (AreImports c.args.parts (index_of c.args.indices.now))
    c.in_ok-count.count c.in_ok-row.row.items c.append_imports.new.to.items c.as_slice.result.now _ _ c.in_ok-row.ensures.items few c.in_ok-count.ensures c.as_slice.ensures.value c.in_ok-write_listed.ensures
