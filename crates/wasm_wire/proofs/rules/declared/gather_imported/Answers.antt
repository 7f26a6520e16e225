use Rattle.std.proofs.Common.{[], ◌++◌, sym, ap, ◌∙◌}
use Rattle.std.specs.List.{cons_option}
use Rattle.wasm_entries.specs.Record.{Import, import_entry}
use Rattle.wasm_entries.specs.declared.record.RawImport.{RawImport}
use Rattle.wasm_wire.proofs.Gathered.{filter_more}
use Rattle.wasm_wire.proofs.rules.declared.gather_imported.Goals as goal

pub loop-import-preserved : goal.loop-import-preserved
loop-import-preserved g c =
    c.in_ok-found.ensures ∙ ap (λ l. l ++ cons_option c.of.result []) c.loop-import.invariant
    ∙ sym (filter_more import_entry (λ (i : Import). g.K.Kind.of i.desc) c.args.imports.now c.loop-import.import-index c.import-item.result c.of.result c.loop-import-test.true (ap (λ (i : RawImport). g.K.Kind.of (import_entry i).desc) (sym c.import-item.is) ∙ sym (c.of.ensures ∙ ap g.K.Kind.of c.desc.ensures)))
