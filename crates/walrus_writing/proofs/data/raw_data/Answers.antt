use Rattle.std.proofs.Common.{ap, ◌∙◌, List, sym, subst, refl, map, Some}
use Rattle.std.specs.Prelude.{All, IsSome}
use Rattle.std.proofs.lemmas.Result.{err_from_is_err_and}
use Rattle.wasm_entries.specs.Record.{data_entry}
use Rattle.walrus_base.specs.Arena.{items}
use Rattle.walrus_code.specs.Indices.{index_of}
use Rattle.walrus_constants.specs.Segments.{named_data}
use Rattle.walrus_contents.specs.View.{data_of}
use Rattle.walrus_items.specs.Data.{DataValue, data_segments, data_segments_left}
use Rattle.walrus_model.specs.Sections as said
use Rattle.walrus_writing.specs.Segments.{IsSpelledData}
use Rattle.walrus_writing.proofs.DataRecords.{all_own, no_import, segment_refused}
use Rattle.walrus_writing.proofs.ItemsLeft.{first_among, next_has, own_step, written_begins, written_done, written_more, written_spelled}
use Rattle.walrus_writing.proofs.data.raw_data.Goals as goal

pub returns-in_err-one-clause-fails : goal.returns-in_err-one-clause-fails
returns-in_err-one-clause-fails c =
    let every = items (data_segments c.args.all.now) in
    let named = λ (d : DataValue). named_data (index_of c.args.indices.now) (data_of d) in
    let p = err_from_is_err_and c.from_residual-in_err-one.result c.from_residual-in_err-one.ensures.1 in
    let w = c.loop-segment.invariant.2 in
    rw (p.1, p.2) (segment_refused (index_of c.args.indices.now) _ every _ (first_among _ _ _ c.in-Some.ensures.steps every w.among)
    (next_has (map (λ d. Some (said.data_of (data_entry d))) c.loop-segment.raw.items) named _ _ _ _ w.made (own_step _ _ _ c.in-Some.ensures.steps no_import refl)
    (subst (λ (l : List DataValue). All (λ o. IsSome o) (map named l)) (sym (all_own every)) c.requires.indexed))
    c.in_err-one.ensures)

pub loop-segment-preserved : goal.loop-segment-preserved
loop-segment-preserved c = (tt, tt, written_more _ _ _ _ _ _ _ _ _ _ _ c.in-Some.ensures.steps c.loop-segment.invariant.2 _ refl c.in_ok-push.ensures.items c.in_ok-one.ensures.1 c.in_ok-one.ensures.2 (sym c.in_ok-one.ensures.0))

pub loop-segment-init : goal.loop-segment-init
loop-segment-init c = (
  tt,
  tt,
  written_begins _ _ _ _ _ (items (data_segments c.args.all.now)) _ _ c.in_ok-raw.ensures.items (ap data_segments_left c.into_iter-segment-iterator.ensures.into_iter_gives ∙ c.iter-segment-items.ensures),
)

pub returns-clause-value : goal.returns-clause-value
returns-clause-value c =
    written_done _ _ _ _ _ _ _ _ c.in-None.ensures.steps.0 c.loop-segment.invariant.2
    ∙ ap (map (λ (d : DataValue). named_data (index_of c.args.indices.now) (data_of d))) (all_own (items (data_segments c.args.all.now)))

pub returns-clause-stand : goal.returns-clause-stand
returns-clause-stand c = c.loop-segment.invariant.2.stand

pub returns-clause-spelled : goal.returns-clause-spelled
returns-clause-spelled c = subst (All IsSpelledData) (all_own (items (data_segments c.args.all.now))) (written_spelled _ _ _ _ _ _ _ _ c.in-None.ensures.steps.0 c.loop-segment.invariant.2)
