use Rattle.std.proofs.Common.{◌≡◌, ℕ, List, ◌++◌, map, ap, ◌∙◌, subst}
use Rattle.wasm_entries.specs.Record.{data_entry}
use Rattle.wasm_frames.specs.declared.record.RawCustom.{RawCustom}
use Rattle.wasm_frames.specs.Record.{Module, sections, body_record, custom_record}
use Rattle.wasm_frames.specs.Frames.{CustomSection, Code, DataSegments}
use Rattle.wasm_writer.specs.Spelling.{all_spelled}
use Rattle.wasm_writer.specs.Writing.{written}
use Rattle.wasm_wire.specs.declared.written.CustomGroup.{CustomGroup}
use Rattle.wasm_wire.specs.declared.written.CustomGroup.TheVariants.{Dylink, Names, Producers, Others}
use Rattle.wasm_wire.specs.ModuleSpelling.{group_of, if_any, customs_of, before_code, standard_sections, customs_behind}
use Rattle.wasm_wire.specs.ModuleWriting.{Appends}
use Rattle.wasm_wire.proofs.ModuleWritten.{group_bytes, grown, listed_grown, at_last}
use Rattle.wasm_wire.proofs.written.write_sections.Goals as goal

-- of the list itself
group_as : (g : CustomGroup) (xs ys : List RawCustom) (old new : List ℕ) → xs ≡ ys → new ≡ old ++ group_bytes g xs → new ≡ old ++ group_bytes g ys
group_as g xs ys old new e h = h ∙ ap (λ (l : List RawCustom). old ++ group_bytes g l) e

pub returns : goal.returns
returns c =
    let m : Module = sections c.args.raw.now in
    let xs : List RawCustom = c.args.raw.now.customs.items in
    let old : List ℕ = written c.args.writer.now in
    let w1 : List ℕ = written c.write_customs.new.writer in
    let w2 : List ℕ = written c.write_before_code.new.writer in
    let w3 : List ℕ = written c.bodies_section.new.self in
    let w4 : List ℕ = written c.data_section.new.self in
    let w5 : List ℕ = written c.write_customs-2.new.writer in
    let w6 : List ℕ = written c.write_customs-3.new.writer in
    let w7 : List ℕ = written c.write_customs-4.new.writer in
    let first : w1 ≡ old ++ group_bytes Dylink xs = group_as Dylink _ xs old w1 c.deref.ensures.value c.in_ok-write_customs.ensures in
    let code : w3 ≡ w1 ++ all_spelled (before_code m ++ if_any Code m.bodies) = listed_grown w1 w2 w3 (before_code m) Code _ m.bodies (ap (map body_record) c.deref-2.ensures.value) c.in_ok-write_before_code.ensures c.in_ok-bodies_section.ensures.appends.0 in
    let standard : w4 ≡ w1 ++ all_spelled (standard_sections m) =
    listed_grown w1 w3 w4 (before_code m ++ if_any Code m.bodies) DataSegments _ m.data_segments (ap (map data_entry) c.deref-3.ensures.value) code c.in_ok-data_section.ensures.appends.0 in
    let front : w4 ≡ old ++ all_spelled (customs_of Dylink m ++ standard_sections m) = grown old w1 w4 (customs_of Dylink m) (standard_sections m) first standard in
    let names : w5 ≡ w4 ++ group_bytes Names xs = group_as Names _ xs w4 w5 c.deref-4.ensures.value c.in_ok-write_customs-2.ensures in
    let producers : w6 ≡ w5 ++ group_bytes Producers xs = group_as Producers _ xs w5 w6 c.deref-5.ensures.value c.in_ok-write_customs-3.ensures in
    let two : w6 ≡ w4 ++ all_spelled (customs_of Names m ++ customs_of Producers m) = grown w4 w5 w6 (customs_of Names m) (customs_of Producers m) names producers in
    let others : Appends c.write_customs-4.result w6 w7 (customs_of Others m) =
    subst (λ (l : List RawCustom). Appends c.write_customs-4.result w6 w7 (map CustomSection (group_of Others (map custom_record l)))) c.deref-6.ensures.value c.write_customs-4.ensures in
    at_last c.write_customs-4.result old w4 w7 (customs_of Dylink m ++ standard_sections m) (customs_behind m) front
    (at_last c.write_customs-4.result w4 w6 w7 (customs_of Names m ++ customs_of Producers m) (customs_of Others m) two others)
