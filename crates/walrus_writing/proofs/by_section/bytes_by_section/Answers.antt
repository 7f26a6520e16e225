use Rattle.std.proofs.Common.{◌∙◌, ◌++◌, ℕ, List, Option, [], length, map, refl, ap, subst}
use Rattle.std.specs.Prelude.{not, option_and_then, option_map}
use Rattle.wasm_frames.specs.Frames.{header}
use Rattle.wasm_frames.specs.Record.{custom_record}
use Rattle.walrus_base.specs.Id.{place}
use Rattle.walrus_base.specs.Locals.{locals}
use Rattle.walrus_base.specs.Operators.{Functions}
use Rattle.walrus_base.specs.declared.id.Id.{Id}
use Rattle.walrus_base.specs.declared.keys.FunctionKey.{FunctionKey}
use Rattle.walrus_code.specs.Indices.{index_of}
use Rattle.walrus_plan.specs.Places.{places}
use Rattle.walrus_writing.specs.Bodies.{AreBodies}
use Rattle.walrus_writing.specs.BySection.{told_module}
use Rattle.walrus_writing.specs.Customs.{chosen_producers, sections_of, task}
use Rattle.walrus_writing.specs.Names.{all_local_names, first_own, if_chosen, names_said}
use Rattle.walrus_writing.specs.Parts.{BodySeen, unplaced}
use Rattle.walrus_writing.proofs.Indexed.{ids_indexed, start_indexed}
use Rattle.walrus_writing.proofs.NamesLemmas.{few_behind, few_brought}
use Rattle.walrus_writing.proofs.NamesSpelled.{sections_given}
use Rattle.walrus_writing.proofs.Refusing.{module_written, records_made}
use Rattle.walrus_writing.proofs.WritesSections.{in_turn}
use Rattle.walrus_writing.proofs.by_section.bytes_by_section.Goals as goal

pub first_index-first-requires : goal.first_index-first-requires
first_index-first-requires c = record { few = few_brought c.args.prepared.now.plan (c.requires.planned.few Functions) }

pub write_code-requires : goal.write_code-requires
write_code-requires c = record {
  indexed = ids_indexed c.args.parts c.requires.there (index_of c.args.prepared.now.indices) (places c.args.prepared.now.plan) c.requires.planned.is_plan c.requires.planned.numbered c.args.prepared.now.plan.own_functions.items _ c.requires.planned.lists.own c.as_slice-order.ensures.value c.args.choices.now.features;
  few = few_behind c.args.prepared.now.plan c.first_index-first.result (length c.as_slice-order.result.now) c.first_index-first.ensures (ap length c.as_slice-order.ensures.value) (c.requires.planned.few Functions);
}

pub returns : goal.returns
returns c =
    let p = c.args.parts in
    let prepared = c.args.prepared.now in
    let choices = c.args.choices.now in
    let names = index_of prepared.indices in
    let plan = c.requires.planned in
    let own = map custom_record c.args.own.now in
    let job = task choices names own in
    let front = c.in_ok-bytes.ensures in
    let code = c.in_ok-named.ensures in
    let bodies = code.written.bodies in
    let used = map (λ (b : BodySeen). b.used) bodies in
    let producers = chosen_producers p choices in
    let said = if_chosen choices.names (names_said p (places prepared.plan) (first_own prepared.plan) used) in
    let spelled = c.in_ok-payloads.ensures used (λ asked. code.written.names_are asked ∙ ap (λ first. all_local_names (locals p.locals.now) first used) c.first_index-first.ensures) in
    let started : Option ℕ = option_and_then (names Functions) (option_map place p.start) in
    let section = map unplaced code.texts in
    let all = in_turn p names front.functions started prepared.data_count section own c.in_ok-payloads.payloads header c.in_ok-bytes.bytes.items c.write_code.new.to.items c.write_back.new.to.items front.stand code.stands c.in_ok-write_back.ensures in
    let t = all.told in
    let m = told_module t front.functions started prepared.data_count section (own ++ sections_of c.in_ok-payloads.payloads) in
    module_written p job (map place prepared.plan.own_functions.items) m
    (records_made p job names refl prepared.plan t.types t.imports_raw front.functions t.tables_raw t.memories_raw t.tags_raw t.globals_raw t.exports_raw bodies t.elements_raw t.segments_raw prepared.data_count
    plan.matched plan.reads plan.is_plan plan.numbered plan.few
    plan.lists.types plan.lists.brought plan.lists.tables plan.lists.memories plan.lists.tags plan.lists.globals
    t.types_are t.imports_are
    front.functions_are
    t.tables_are.0 t.tables_are.1 t.tables_are.2
    t.memories_are.0 t.memories_are.1 t.tags_are
    t.globals_are.0 t.globals_are.1 t.globals_are.2
    t.exports_are.0 t.exports_are.1
    started (start_indexed p c.requires.there names (places prepared.plan) plan.is_plan plan.numbered)
    (subst (λ (ids : List (Id FunctionKey)). AreBodies p names choices.features ids bodies) c.as_slice-order.ensures.value code.written.are)
    plan.lists.elements t.elements_are.0 t.elements_are.1 t.elements_are.2 t.elements_are.3
    plan.lists.data_segments t.segments_are.0 t.segments_are.1 t.segments_are.2 plan.data_count
    [] section (own ++ sections_of c.in_ok-payloads.payloads) refl (ap (map unplaced) code.written.texts_are)
    (ap (λ l. own ++ l) (sections_given said producers c.in_ok-payloads.payloads (c.is_none.ensures ∙ ap not c.if-is_none.false) spelled)))
    c.write_back.new.to.items
    all.stand
    all.fit
