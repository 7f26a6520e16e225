use Rattle.std.proofs.Common.{ap, ◌∙◌, List, map, ◌++◌, Some}
use Rattle.std.specs.Str.{IsUtf8}
use Rattle.std.proofs.lemmas.List.Elements.{All-push}
use Rattle.wasm_entries.specs.Record.{export_entry}
use Rattle.wasm_entries.specs.declared.record.RawExport.{RawExport}
use Rattle.walrus_base.specs.Arena.{items}
use Rattle.walrus_code.specs.Indices.{index_of}
use Rattle.walrus_items.specs.Exports.{exports, exports_left}
use Rattle.walrus_contents.specs.View.{export_of}
use Rattle.walrus_writing.specs.Parts.{export_with_index}
use Rattle.walrus_writing.proofs.ItemsLeft.{next_has}
use Rattle.walrus_base.proofs.ZipTurns.{list_turn}
use Rattle.walrus_writing.proofs.exports.raw_exports.Goals as goal

pub loop-export-preserved : goal.loop-export-preserved
loop-export-preserved c =
    let all = map (λ v. export_with_index (index_of c.args.indices.now) (export_of v)) (items (exports c.args.all_exports.now)) in (
      tt,
      tt,
      rw (c.in_ok-push.ensures.items) (All-push (λ (e : RawExport). IsUtf8 e.name.now) c.loop-export.raw.items c.in-Some-raw_export.one c.loop-export.invariant.2 c.in-Some-raw_export.ensures.text),
      ap (λ (raw : List RawExport). map (λ e. Some (export_entry e)) raw ++ map (λ v. export_with_index (index_of c.args.indices.now) (export_of v)) (exports_left c.next.new.self)) c.in_ok-push.ensures.items
          ∙ list_turn (λ e. Some (export_entry e)) (λ v. export_with_index (index_of c.args.indices.now) (export_of v)) c.loop-export.raw.items c.in-Some-raw_export.one _ _ _ all c.loop-export.invariant.3 c.in-Some.ensures.steps c.in-Some-raw_export.ensures.value,
    )

pub unreachable-requires : goal.unreachable-requires
unreachable-requires c =
    let all = map (λ v. export_with_index (index_of c.args.indices.now) (export_of v)) (items (exports c.args.all_exports.now)) in
    next_has (map (λ e. Some (export_entry e)) c.loop-export.raw.items) (λ v. export_with_index (index_of c.args.indices.now) (export_of v)) _ _ _ all c.loop-export.invariant.3 c.in-Some.ensures.steps c.requires.indexed c.in_default.ensures.value
