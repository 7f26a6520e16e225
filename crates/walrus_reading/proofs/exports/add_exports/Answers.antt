use Rattle.std.proofs.Common.{◌≡◌, ◌∙◌}
use Rattle.std.specs.Prelude.{Some}
use Rattle.walrus_code.specs.Indices.{ids_at}
use Rattle.wasm_entries.specs.Record.{Export, export_entry}
use Rattle.walrus_model.specs.Sections.{space_of}
use Rattle.walrus_items.specs.Exports.{exports}
use Rattle.walrus_base.proofs.Taking.{mapped_all}
use Rattle.walrus_reading.proofs.Placed.{no_exports, one_more_export, all_exports}
use Rattle.walrus_reading.proofs.exports.add_exports.Goals as goal

pub add_export-requires : goal.add_export-requires
add_export-requires c = record {
  declared = mapped_all (λ (e : Export). ids_at c.args.indices.now (space_of e.kind) e.index ≡ Some e.index) export_entry c.args.raw.now c.loop-entry.entry-index _ c.requires.declared c.loop-entry-test.true;
}

pub loop-entry-init : goal.loop-entry-init
loop-entry-init c = no_exports c.args.raw.now (exports c.reserve.new.self) (c.reserve.ensures.same ∙ c.requires.none)

pub loop-entry-preserved : goal.loop-entry-preserved
loop-entry-preserved c = one_more_export c.args.raw.now c.loop-entry.entry-index _ (exports c.loop-entry.all) (exports c.add_export.new.all) c.loop-entry-test.true c.loop-entry.invariant c.in_ok-add_export.ensures.added

pub returns-clause-added : goal.returns-clause-added
returns-clause-added c = all_exports c.args.raw.now c.loop-entry.entry-index (exports c.loop-entry.all) c.loop-entry-test.false c.loop-entry.invariant
