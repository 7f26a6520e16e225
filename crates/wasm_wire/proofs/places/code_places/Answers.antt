use Rattle.std.proofs.Common.{◌≡◌, ℕ, ◌+◌, ◌<◌, ◌^◌, List, length, map, sym, ap, ◌∙◌, subst, arith}
use Rattle.std.specs.Prelude.{All}
use Rattle.wasm_frames.specs.declared.record.RawCustom.{RawCustom}
use Rattle.wasm_frames.specs.Record.{Custom, Module, sections, body_record, custom_record}
use Rattle.wasm_frames.specs.Frames.{CustomSection}
use Rattle.wasm_writer.specs.Spelling.{all_spelled, SectionFits}
use Rattle.wasm_wire.specs.declared.written.CustomGroup.TheVariants.{Dylink}
use Rattle.wasm_wire.specs.ModuleSpelling.{customs_of, before_code, code_place, ModuleFits}
use Rattle.wasm_wire.specs.ModuleWriting.{front_of, group_spelled}
use Rattle.wasm_wire.proofs.ModuleMeasured.{places_untold, part_unplaced, places_in, front_fits}
use Rattle.wasm_wire.proofs.places.code_places.Goals as goal

pub returns-in_err-sections_len : goal.returns-in_err-sections_len
returns-in_err-sections_len c = places_untold c.from_residual.result c.in_err-sections_len.field-0.0 (sections c.args.raw.now) c.in_err-sections_len.ensures c.from_residual.ensures.1

pub returns-in_err-dylinks : goal.returns-in_err-dylinks
returns-in_err-dylinks c =
    let m : Module = sections c.args.raw.now in
    part_unplaced c.from_residual-in_err-dylinks.result c.in_err-dylinks.field-0.0 _ (All (λ (x : Custom). SectionFits (CustomSection x)) (map custom_record c.deref.result.now)) m
    (λ f. subst (λ (l : List RawCustom). All (λ (x : Custom). SectionFits (CustomSection x)) (map custom_record l)) (sym c.deref.ensures.value) f.customs) c.in_err-dylinks.ensures c.from_residual-in_err-dylinks.ensures.1

pub returns-in_err-before : goal.returns-in_err-before
returns-in_err-before c =
    let m : Module = sections c.args.raw.now in
    part_unplaced c.from_residual-in_err-before.result c.in_err-before.field-0.0 (length (all_spelled (before_code m))) (ModuleFits (front_of m)) m (front_fits m) c.in_err-before.ensures c.from_residual-in_err-before.ensures.1

pub returns : goal.returns
returns c =
    let m : Module = sections c.args.raw.now in
    let n : ℕ = c.total_len-start.result in
    let low : n < 2 ^ 63 = c.if-start.false in
    let sum : n ≡ 8 + c.in_ok-dylinks.dylinks + c.in_ok-before.before = c.total_len-start.ensures low in
    let dylinks : c.in_ok-dylinks.dylinks ≡ length (all_spelled (customs_of Dylink m)) =
    c.in_ok-dylinks.ensures.0 (omega (arith, sum, low)) ∙ ap (λ (l : List RawCustom). length (group_spelled Dylink (map custom_record l))) c.deref.ensures.value in
    let before : c.in_ok-before.before ≡ length (all_spelled (before_code m)) = c.in_ok-before.ensures.0 (omega (arith, sum, low)) in
    let start : n ≡ code_place m = omega (arith, sum, dylinks, before) in
    places_in c.places_of_code.result n (map body_record c.deref-2.result.now) m start (ap (map body_record) c.deref-2.ensures.value) c.in_ok-sections_len.ensures c.places_of_code.ensures
