use Rattle.std.proofs.Common.{List, length, map, subst, take_all}
use Rattle.std.specs.Prelude.{All}
use Rattle.std.proofs.lemmas.List.Elements.{All-more, All-map}
use Rattle.wasm_frames.specs.declared.record.RawCustom.{RawCustom}
use Rattle.wasm_frames.specs.Record.{Custom, custom_record}
use Rattle.wasm_frames.specs.Frames.{CustomSection}
use Rattle.wasm_writer.specs.Spelling.{SectionFits}
use Rattle.wasm_wire.specs.declared.written.CustomGroup.TheVariants.{Dylink}
use Rattle.wasm_wire.specs.ModuleWriting.{IsUnlessHuge, group_spelled}
use Rattle.wasm_wire.proofs.Checked.{all_unmapped}
use Rattle.wasm_wire.proofs.ModuleMeasured.{group_len, part_untold}
use Rattle.wasm_wire.proofs.places.dylinks_len.Goals as goal

pub returns-in_err-len : goal.returns-in_err-len
returns-in_err-len c =
    let xs : List RawCustom = c.args.customs.now in
    part_untold c.from_residual.result c.in_err-len.field-0.0 _ (length (group_spelled Dylink (map custom_record xs))) _ (All (λ (x : Custom). SectionFits (CustomSection x)) (map custom_record xs))
    (λ f. all_unmapped (λ (x : Custom). SectionFits (CustomSection x)) custom_record xs f c.customs.custom-index _ c.customs-test.true) c.in_err-len.ensures c.from_residual.ensures.1

pub customs-preserved : goal.customs-preserved
customs-preserved c = record {
  counted = group_len _ c.customs.total c.in_ok-len.len Dylink c.args.customs.now c.customs.custom-index _ c.customs-test.true c.customs.invariant.counted c.in_ok-len.ensures.0 c.saturating_add-total.ensures;
  fit = All-more (λ (x : RawCustom). SectionFits (CustomSection (custom_record x))) c.args.customs.now c.customs.custom-index _ c.customs-test.true c.customs.invariant.fit c.in_ok-len.ensures.1;
}

pub returns : goal.returns
returns c =
    let xs : List RawCustom = c.args.customs.now in
    let all = take_all c.customs.custom-index xs c.customs-test.false in (
      subst (λ (l : List RawCustom). IsUnlessHuge c.customs.total (length (group_spelled Dylink (map custom_record l)))) all c.customs.invariant.counted,
      All-map (λ (x : Custom). SectionFits (CustomSection x)) custom_record xs (subst (All (λ (x : RawCustom). SectionFits (CustomSection (custom_record x)))) all c.customs.invariant.fit),
    )
