use Rattle.std.proofs.Common.{◌∙◌, refl, sym, subst}
use Rattle.wasm_entries.specs.Record.{Import, import_entry}
use Rattle.wasm_entries.specs.declared.record.RawImport.{RawImport}
use Rattle.walrus_code.specs.Indices.{ids_at}
use Rattle.walrus_base.proofs.Taking.{mapped_all}
use Rattle.walrus_reading.specs.Imported.{AddsImport}
use Rattle.walrus_reading.specs.Stays.{DescStays}
use Rattle.walrus_reading.proofs.Brought.{all_imported, none_imported, one_more_imported}
use Rattle.walrus_reading.proofs.imports.add_imports.Goals as goal

pub add_import-requires : goal.add_import-requires
add_import-requires c = record {
  stays = subst (λ (x : RawImport). DescStays (ids_at c.args.indices.now) (import_entry x).desc) (sym c.entry-item.is)
      (mapped_all (λ (x : Import). DescStays (ids_at c.args.indices.now) x.desc) import_entry c.args.raw.now c.loop-entry.entry-index c.entry-item.result c.requires.stay c.loop-entry-test.true);
}

pub loop-entry-init : goal.loop-entry-init
loop-entry-init c =
    none_imported c.args.raw.now c.args.contents.now _
    (record {
      imports = c.reserve.ensures.same ∙ c.requires.none.imports;
      tables = c.requires.none.tables;
      memories = c.requires.none.memories;
      tags = c.requires.none.tags;
      globals = c.requires.none.globals;
      elements = c.requires.none.elements;
      data_segments = c.requires.none.data_segments;
    }) c.requires.no_functions (record { types = refl; locals = refl; elements = refl; data_ = refl; exports = refl; producers = refl; name = refl })

pub loop-entry-preserved : goal.loop-entry-preserved
loop-entry-preserved c =
    one_more_imported c.args.raw.now c.args.contents.now c.loop-entry.entry-index c.entry-item.result c.loop-entry.contents c.add_import.new.contents c.loop-entry-test.true c.loop-entry.invariant
    (subst (λ (x : RawImport). AddsImport (import_entry x) c.loop-entry.contents c.add_import.new.contents) c.entry-item.is c.in_ok-add_import.ensures.added)

pub returns-clause-held : goal.returns-clause-held
returns-clause-held c = all_imported c.args.raw.now c.args.contents.now c.loop-entry.entry-index c.loop-entry.contents c.loop-entry-test.false c.loop-entry.invariant

pub returns-clause-others : goal.returns-clause-others
returns-clause-others c = c.loop-entry.invariant.others
