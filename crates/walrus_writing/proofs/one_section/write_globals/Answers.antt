use Rattle.std.proofs.Common.{◌<◌, refl, rules}
use Rattle.std.specs.Prelude.{⊤}
use Rattle.wasm_entries.specs.Record.{global_entry}
use Rattle.wasm_entries.specs.Spelling.{global_bytes}
use Rattle.wasm_frames.specs.Frames.{Globals}
use Rattle.walrus_base.specs.Arena.{items}
use Rattle.walrus_code.specs.Indices.{index_of}
use Rattle.walrus_items.specs.Globals.{globals}
use Rattle.walrus_writing.specs.BySection.{AreGlobals}
use Rattle.walrus_writing.proofs.AppendedRows.{entries_listed}
use Rattle.walrus_writing.proofs.one_section.write_globals.Goals as goal

pub returns : goal.returns
returns c =
    let few : c.in_ok-count.count < 4294967296 = search rules in
    entries_listed global_entry global_bytes (λ _. ⊤) Globals 6 (λ es. refl) (λ es fit small. (fit.0, small)) (AreGlobals (index_of c.args.indices.now) (items (globals c.args.all.now)))
    c.in_ok-count.count c.in_ok-row.row.items c.append_globals.new.to.items c.as_slice.result.now _ _ c.in_ok-row.ensures.items few c.in_ok-count.ensures c.as_slice.ensures.value c.in_ok-write_listed.ensures
