use Rattle.std.proofs.Common.{ap, ◌∙◌, List, sym, subst, refl, map, Some}
use Rattle.std.specs.Prelude.{All, IsSome}
use Rattle.std.proofs.lemmas.Result.{err_from_is_err_and}
use Rattle.wasm_entries.specs.Record.{element_entry}
use Rattle.walrus_base.specs.Arena.{items}
use Rattle.walrus_code.specs.Indices.{index_of}
use Rattle.walrus_constants.specs.Segments.{named_element}
use Rattle.walrus_contents.specs.View.{element_of, tables_of}
use Rattle.walrus_items.specs.Elements.{ElementValue, elements, elements_left}
use Rattle.walrus_model.specs.Sections as said
use Rattle.walrus_writing.specs.Elements.{IsSpelledElement}
use Rattle.walrus_writing.proofs.DataRecords.{all_own}
use Rattle.walrus_writing.proofs.ElementRecords.{all_chosen, all_stand, element_refused, no_import}
use Rattle.walrus_writing.proofs.ItemsLeft.{first_among, next_has, own_step, written_begins, written_done, written_more, written_spelled}
use Rattle.walrus_writing.proofs.elements.raw_elements.Goals as goal

pub returns-in_err-one-clause-fails : goal.returns-in_err-one-clause-fails
returns-in_err-one-clause-fails c =
    let every = items (elements c.args.all.now) in
    let named = λ (e : ElementValue). named_element (index_of c.args.indices.now) (element_of e) in
    let p = err_from_is_err_and c.from_residual-in_err-one.result c.from_residual-in_err-one.ensures.1 in
    let w = c.loop-segment.invariant.2 in
    rw (p.1, p.2) (element_refused (index_of c.args.indices.now) (tables_of c.args.all_tables.now) _ every _ (first_among _ _ _ c.in-Some.ensures.steps every w.among)
    (next_has (map (λ e. Some (said.element_of (element_entry e))) c.loop-segment.raw.items) named _ _ _ _ w.made (own_step _ _ _ c.in-Some.ensures.steps no_import refl)
    (subst (λ (l : List ElementValue). All (λ o. IsSome o) (map named l)) (sym (all_own every)) c.requires.indexed))
    c.in_err-one.ensures)

pub loop-segment-preserved : goal.loop-segment-preserved
loop-segment-preserved c = (
  tt,
  tt,
  written_more _ _ _ _ _ _ _ _ _ _ _ c.in-Some.ensures.steps c.loop-segment.invariant.2 _ refl c.in_ok-push.ensures.items (c.in_ok-one.ensures.1, c.in_ok-one.ensures.2) c.in_ok-one.ensures.3 (sym c.in_ok-one.ensures.0),
)

pub loop-segment-init : goal.loop-segment-init
loop-segment-init c = (
  tt,
  tt,
  written_begins _ _ _ _ _ (items (elements c.args.all.now)) _ _ c.in_ok-raw.ensures.items (ap elements_left c.into_iter-segment-iterator.ensures.into_iter_gives ∙ c.iter-segment-items.ensures),
)

pub returns-clause-value : goal.returns-clause-value
returns-clause-value c =
    written_done _ _ _ _ _ _ _ _ c.in-None.ensures.steps.0 c.loop-segment.invariant.2
    ∙ ap (map (λ (e : ElementValue). named_element (index_of c.args.indices.now) (element_of e))) (all_own (items (elements c.args.all.now)))

pub returns-clause-stand : goal.returns-clause-stand
returns-clause-stand c = all_stand (index_of c.args.indices.now) (tables_of c.args.all_tables.now) _ c.loop-segment.invariant.2.stand

pub returns-clause-chosen : goal.returns-clause-chosen
returns-clause-chosen c = all_chosen (index_of c.args.indices.now) (tables_of c.args.all_tables.now) _ c.loop-segment.invariant.2.stand

pub returns-clause-spelled : goal.returns-clause-spelled
returns-clause-spelled c = subst (All IsSpelledElement) (all_own (items (elements c.args.all.now))) (written_spelled _ _ _ _ _ _ _ _ c.in-None.ensures.steps.0 c.loop-segment.invariant.2)
