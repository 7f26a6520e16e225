use Rattle.std.proofs.Common.{◌+◌, length, map, filter_map, ap, sym, ◌∙◌}
use Rattle.wasm_entries.specs.Record.{import_entry}
use Rattle.wasm_wire.specs.Context.{imported, desc_function}
use Rattle.wasm_copy.proofs.Listed.{imported_entries}
use Rattle.wasm_copy.proofs.listing.count_functions.Goals as goal

pub returns : goal.returns
returns c =
    ap (λ n. n + length c.as_slice-functions.result.now) (c.count_imported.ensures.value ∙ ap (λ is. length (filter_map (λ i. desc_function (import_entry i).desc) is)) c.deref.ensures.value ∙ ap length (sym (imported_entries c.args.records.now.imports.items)))
    ∙ ap (λ n. length (imported desc_function (map import_entry c.args.records.now.imports.items)) + n) (ap length c.as_slice-functions.ensures.value)
