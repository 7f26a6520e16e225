use Rattle.std.proofs.Common.{◌∙◌, ℕ, length, map, refl, sym, ap, subst}
use Rattle.std.specs.Global.{Vec}
use Rattle.std.specs.Prelude.{Ok, Option}
use Rattle.std.proofs.lemmas.List.{length-map}
use Rattle.std.proofs.lemmas.Result.{err_from_is_err_and}
use Rattle.wasm_frames.specs.Record.{custom_record, sections}
use Rattle.wasm_frames.specs.declared.record.Raw.{Raw}
use Rattle.walrus_base.specs.Id.{place}
use Rattle.walrus_base.specs.declared.id.Id.{Id}
use Rattle.walrus_base.specs.declared.keys.FunctionKey.{FunctionKey}
use Rattle.walrus_code.specs.Indices.{index_of}
use Rattle.walrus_items.specs.declared.transform.CodeTransform.{CodeTransform}
use Rattle.walrus_writing.specs.BySection.{GivesOrNone}
use Rattle.walrus_writing.specs.Customs.{task}
use Rattle.walrus_writing.specs.Located.{TellsBodies}
use Rattle.walrus_writing.specs.Records.{Spells}
use Rattle.walrus_plan.specs.Places.{places}
use Rattle.walrus_writing.proofs.Indexed.{ids_indexed, ids_typed}
use Rattle.walrus_writing.proofs.FollowedPlan.{followed}
use Rattle.walrus_writing.proofs.Refusing.{as_many_bodies, bodies_refused, items_told, measure_refused, memory_refused, module_refused, module_written, refuses_any}
use Rattle.walrus_writing.proofs.write.write_items.Goals as goal

pub make-requires : goal.make-requires
make-requires c = record {
  planned = c.requires.planned;
  indexed = ids_indexed c.args.parts c.requires.there (index_of c.args.prepared.indices) (places c.args.prepared.plan) c.requires.planned.is_plan c.requires.planned.numbered c.args.prepared.plan.own_functions.items _ c.requires.planned.lists.own refl c.args.choices.now.features;
}

pub raw_functions-requires : goal.raw_functions-requires
raw_functions-requires c = record {
  indexed = ids_typed c.args.parts c.requires.there (index_of c.args.prepared.indices) (places c.args.prepared.plan) c.requires.planned.is_plan c.requires.planned.numbered c.args.prepared.plan.own_functions.items _ c.requires.planned.lists.own c.as_slice-order.ensures.value;
}

pub raw_items-requires-clause-planned : goal.raw_items-requires-clause-planned
raw_items-requires-clause-planned c = (c.args.prepared, c.requires.planned)

pub returns-in-Some-clause-spells : goal.returns-in-Some-clause-spells
returns-in-Some-clause-spells c =
    let job = task c.args.choices.now (index_of c.args.prepared.indices) (map custom_record c.args.own.now) in
    subst (λ (o : Option (Vec ℕ)). GivesOrNone (λ (v : Vec ℕ). Spells c.args.parts job v.items) (Ok o)) c.in-Some.is c.in_ok-by_section.ensures.spells

pub returns-in_err-by_section-clause-refused : goal.returns-in_err-by_section-clause-refused
returns-in_err-by_section-clause-refused c =
    let p = err_from_is_err_and c.from_residual.result c.from_residual.ensures.1 in
    let job = task c.args.choices.now (index_of c.args.prepared.indices) (map custom_record c.args.own.now) in
    rw (p.1, p.2) (memory_refused c.args.parts job (Vec ℕ × CodeTransform) (Vec ℕ) (λ v. Spells c.args.parts job v.items) _ c.in_err-by_section.ensures.spells)

pub returns-in_err-made-clause-refused : goal.returns-in_err-made-clause-refused
returns-in_err-made-clause-refused c =
    let p = err_from_is_err_and c.from_residual-in_err-made.result c.from_residual-in_err-made.ensures.1 in
    rw (p.1, p.2) (bodies_refused c.args.parts (task c.args.choices.now (index_of c.args.prepared.indices) (map custom_record c.args.own.now)) (Vec ℕ × CodeTransform) _ c.in_err-made.ensures.fails)

pub returns-in_err-raw-clause-refused : goal.returns-in_err-raw-clause-refused
returns-in_err-raw-clause-refused c =
    let p = err_from_is_err_and c.from_residual-in_err-raw.result c.from_residual-in_err-raw.ensures.1 in
    rw (p.1, p.2) (refuses_any c.args.parts (task c.args.choices.now (index_of c.args.prepared.indices) (map custom_record c.args.own.now)) (Vec ℕ × CodeTransform) Raw _ (c.in_err-raw.ensures.refused c.args.choices.now (followed c.args.parts c.args.prepared c.requires.planned c.args.choices.now c.in_ok-functions.functions.items c.in_ok-made.made _ c.in_ok-functions.ensures.value c.as_slice-order.ensures.value c.in_ok-made.ensures.written)))

pub bodies_told-requires : goal.bodies_told-requires
bodies_told-requires c = record {
  as_many = λ asked.
      sym (length-map c.order_asked-left.result.items (λ (i : Id FunctionKey). place i))
      ∙ ap (λ (l : Vec (Id FunctionKey)). length (map place l.items)) (c.order_asked-left.ensures asked)
      ∙ as_many_bodies c.args.parts (task c.args.choices.now (index_of c.args.prepared.indices) (map custom_record c.args.own.now)) (map place c.args.prepared.plan.own_functions.items) (sections c.in_ok-raw.raw) (c.in_ok-raw.ensures.records c.args.choices.now (followed c.args.parts c.args.prepared c.requires.planned c.args.choices.now c.in_ok-functions.functions.items c.in_ok-made.made _ c.in_ok-functions.ensures.value c.as_slice-order.ensures.value c.in_ok-made.ensures.written));
}

pub returns-in_err-transform-clause-refused : goal.returns-in_err-transform-clause-refused
returns-in_err-transform-clause-refused c =
    let p = err_from_is_err_and c.from_residual-in_err-transform.result c.from_residual-in_err-transform.ensures.1 in
    rw (p.1, p.2) (measure_refused c.args.parts (task c.args.choices.now (index_of c.args.prepared.indices) (map custom_record c.args.own.now)) (map place c.args.prepared.plan.own_functions.items) (sections c.in_ok-raw.raw) (c.in_ok-raw.ensures.records c.args.choices.now (followed c.args.parts c.args.prepared c.requires.planned c.args.choices.now c.in_ok-functions.functions.items c.in_ok-made.made _ c.in_ok-functions.ensures.value c.as_slice-order.ensures.value c.in_ok-made.ensures.written)) (Vec ℕ × CodeTransform) _ c.in_err-transform.ensures.refused)

pub returns-in_err-bytes-clause-refused : goal.returns-in_err-bytes-clause-refused
returns-in_err-bytes-clause-refused c =
    let p = err_from_is_err_and c.from_residual-in_err-bytes.result c.from_residual-in_err-bytes.ensures.1 in
    rw (p.1, p.2) (module_refused c.args.parts (task c.args.choices.now (index_of c.args.prepared.indices) (map custom_record c.args.own.now)) (map place c.args.prepared.plan.own_functions.items) (sections c.in_ok-raw.raw) (c.in_ok-raw.ensures.records c.args.choices.now (followed c.args.parts c.args.prepared c.requires.planned c.args.choices.now c.in_ok-functions.functions.items c.in_ok-made.made _ c.in_ok-functions.ensures.value c.as_slice-order.ensures.value c.in_ok-made.ensures.written)) (Vec ℕ × CodeTransform) _ c.in_err-bytes.ensures)

pub returns-clause-spells : goal.returns-clause-spells
returns-clause-spells c =
    module_written c.args.parts (task c.args.choices.now (index_of c.args.prepared.indices) (map custom_record c.args.own.now)) (map place c.args.prepared.plan.own_functions.items) (sections c.in_ok-raw.raw) (c.in_ok-raw.ensures.records c.args.choices.now (followed c.args.parts c.args.prepared c.requires.planned c.args.choices.now c.in_ok-functions.functions.items c.in_ok-made.made _ c.in_ok-functions.ensures.value c.as_slice-order.ensures.value c.in_ok-made.ensures.written)) c.in_ok-bytes.bytes.items c.in_ok-bytes.ensures.0 c.in_ok-bytes.ensures.1

pub returns-clause-told : goal.returns-clause-told
returns-clause-told c =
    λ asked. items_told c.args.parts (task c.args.choices.now (index_of c.args.prepared.indices) (map custom_record c.args.own.now)) (map place c.args.prepared.plan.own_functions.items) (sections c.in_ok-raw.raw) (c.in_ok-raw.ensures.records c.args.choices.now (followed c.args.parts c.args.prepared c.requires.planned c.args.choices.now c.in_ok-functions.functions.items c.in_ok-made.made _ c.in_ok-functions.ensures.value c.as_slice-order.ensures.value c.in_ok-made.ensures.written)) c.in_ok-transform.transform
    (subst (λ (l : Vec (Id FunctionKey)). TellsBodies (sections c.in_ok-raw.raw) (map place l.items) c.in_ok-transform.transform) (c.order_asked-left.ensures asked) (c.in_ok-transform.ensures.told asked))
