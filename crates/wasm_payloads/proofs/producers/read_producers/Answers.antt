use Rattle.std.proofs.Common.{◌≡◌, ℕ, ◌<◌, ◌≤◌, ◌+◌, ◌-◌, List, [], ◌∷◌, ◌++◌, map, sym, ap, ◌∙◌, arith, Bor}
use Rattle.std.specs.Prelude.{Some}
use Rattle.std.proofs.lemmas.List.{map-append}
use Rattle.wasm_forms.specs.Grammar.{U32, at}
use Rattle.wasm_payloads.specs.declared.producers.RawField.{RawField}
use Rattle.wasm_payloads.specs.Producers.{Field, field, field_record}
use Rattle.wasm_payloads.specs.Steps.{times_at}
use Rattle.wasm_payloads.proofs.Found.{field_at, field_found, field_lacks, counted_fields, fields_found, good_some, good_none}
use Rattle.wasm_payloads.proofs.FieldTurns.{fields_begun, fields_step, fields_fault, fields_done}
use Rattle.wasm_payloads.proofs.producers.read_producers.Goals as goal

abbrev count_view : ℕ × Bor (List ℕ) → ℕ × List ℕ
count_view r = (r.0, r.1.now)

abbrev field_view : RawField × Bor (List ℕ) → Field × List ℕ
field_view r = (field_record r.0, r.1.now)

pub fields-init : goal.fields-init
fields-init c = fields_begun field_at c.in-Some.count c.in-Some.behind.now (map field_record c.new-fields.result.items) (ap (map field_record) c.new-fields.ensures.items)

pub returns-in_default-2 : goal.returns-in_default-2
returns-in_default-2 c =
    let l : c.fields._taken < c.in-Some.count = omega arith in
    let u : at U32 c.args.bytes.now ≡ Some (c.in-Some.count, c.in-Some.behind.now) = good_some count_view c.read_u32.result (at U32 c.args.bytes.now) c.in_ok-count.field-0 (c.in-Some.count, c.in-Some.behind) c.in_ok-count.ensures c.in-Some.is c.read_u32.ensures.gives in
    let n = good_none field_view c.read_field.result (at field c.fields.rest.now) c.in_ok-found.field-0 c.in_ok-found.ensures c.in_default-2.is c.read_field.ensures in
    fields_found c.args.bytes.now (map field_record c.fields.fields.items)
    (ap (λ y. y.0) (sym (counted_fields c.args.bytes.now c.in-Some.behind.now c.in-Some.count u))
    ∙ fields_fault field_at c.in-Some.count c.fields._taken c.fields.rest.now (times_at field_at c.in-Some.count c.in-Some.behind.now).0 (map field_record c.fields.fields.items) l c.fields.invariant (field_lacks c.fields.rest.now n))

pub fields-preserved : goal.fields-preserved
fields-preserved c =
    let l : c.fields._taken < c.in-Some.count = omega arith in
    let x = field_record c.in-Some-2.found in
    let s = good_some field_view c.read_field.result (at field c.fields.rest.now) c.in_ok-found.field-0 (c.in-Some-2.found, c.in-Some-2.after) c.in_ok-found.ensures c.in-Some-2.is c.read_field.ensures in
    fields_step field_at c.in-Some.count c.fields._taken c.fields.rest.now c.in-Some-2.after.now (times_at field_at c.in-Some.count c.in-Some.behind.now).0 (map field_record c.fields.fields.items) x l c.fields.invariant (field_found c.fields.rest.now c.in-Some-2.after.now x s)
    ∙ ap (λ y. y ++ (times_at field_at (c.in-Some.count - (c.fields._taken + 1)) c.in-Some-2.after.now).0) (sym (ap (map field_record) c.in_ok-push.ensures.items ∙ map-append field_record c.fields.fields.items (c.in-Some-2.found ∷ [])))

pub returns : goal.returns
returns c =
    let l : c.in-Some.count ≤ c.fields._taken = omega arith in
    let u : at U32 c.args.bytes.now ≡ Some (c.in-Some.count, c.in-Some.behind.now) = good_some count_view c.read_u32.result (at U32 c.args.bytes.now) c.in_ok-count.field-0 (c.in-Some.count, c.in-Some.behind) c.in_ok-count.ensures c.in-Some.is c.read_u32.ensures.gives in
    fields_found c.args.bytes.now (map field_record c.fields.fields.items)
    (ap (λ y. y.0) (sym (counted_fields c.args.bytes.now c.in-Some.behind.now c.in-Some.count u))
    ∙ fields_done field_at c.in-Some.count c.fields._taken c.fields.rest.now (times_at field_at c.in-Some.count c.in-Some.behind.now).0 (map field_record c.fields.fields.items) l c.fields.invariant)
