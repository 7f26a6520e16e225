use Rattle.std.proofs.Common.{ap, ◌∙◌, sym, refl, map, Some}
use Rattle.std.proofs.lemmas.Result.{err_from_is_err_and}
use Rattle.wasm_entries.specs.Record.{global_entry}
use Rattle.walrus_base.specs.Arena.{items}
use Rattle.walrus_base.specs.Id.{place}
use Rattle.walrus_code.specs.Indices.{index_of}
use Rattle.walrus_constants.specs.Named.{named_global}
use Rattle.walrus_contents.specs.View.{global_of}
use Rattle.walrus_items.specs.Globals.{globals, globals_left}
use Rattle.walrus_model.specs.Sections as said
use Rattle.walrus_writing.proofs.ItemsLeft.{first_among, next_has, none_brings, one_brings, own_step, global_refused, written_begins, written_done, written_more, written_past, written_spelled}
use Rattle.walrus_writing.proofs.globals.raw_globals.Goals as goal

pub raw_global-requires : goal.raw_global-requires
raw_global-requires c = record { own = none_brings place _ _ _ c.global_import.ensures c.is_none.ensures c.if-is_none.true }

pub returns-in_err-one-clause-fails : goal.returns-in_err-one-clause-fails
returns-in_err-one-clause-fails c =
    let every = items (globals c.args.all.now) in
    let p = err_from_is_err_and c.from_residual-in_err-one.result c.from_residual-in_err-one.ensures.1 in
    let w = c.loop-global.invariant.2 in
    rw (p.1, p.2) (global_refused (index_of c.args.indices.now) _ every _ (first_among _ _ _ c.in-Some.ensures.steps every w.among)
    (next_has (map (λ g. Some (said.global_of (global_entry g))) c.loop-global.raw.items) (λ g. named_global (index_of c.args.indices.now) (global_of g)) _ _ _ _ w.made (own_step _ _ _ c.in-Some.ensures.steps (λ x. x.imported_by) (none_brings place _ _ _ c.global_import.ensures c.is_none.ensures c.if-is_none.true)) c.requires.indexed)
    c.in_err-one.ensures)

pub loop-global-preserved-in-Continue-branch-3 : goal.loop-global-preserved-in-Continue-branch-3
loop-global-preserved-in-Continue-branch-3 c = (
  tt,
  tt,
  written_more _ _ _ _ _ _ _ _ _ _ _ c.in-Some.ensures.steps c.loop-global.invariant.2 _ (none_brings place _ _ _ c.global_import.ensures c.is_none.ensures c.if-is_none.true) c.in_ok-push.ensures.items c.in_ok-one.ensures.1 c.in_ok-one.ensures.2 (sym c.in_ok-one.ensures.0),
)

pub loop-global-preserved : goal.loop-global-preserved
loop-global-preserved c = (tt, tt, written_past _ _ _ _ _ _ _ _ _ _ _ c.in-Some.ensures.steps c.loop-global.invariant.2 (one_brings place _ _ _ c.global_import.ensures c.is_none.ensures c.if-is_none.false) refl)

pub loop-global-init : goal.loop-global-init
loop-global-init c = (
  tt,
  tt,
  written_begins _ _ _ _ _ (items (globals c.args.all.now)) _ _ c.in_ok-raw.ensures.items (ap globals_left c.into_iter-global-iterator.ensures.into_iter_gives ∙ c.iter-global-items.ensures),
)

pub returns-clause-value : goal.returns-clause-value
returns-clause-value c = written_done _ _ _ _ _ _ _ _ c.in-None.ensures.steps.0 c.loop-global.invariant.2

pub returns-clause-stand : goal.returns-clause-stand
returns-clause-stand c = c.loop-global.invariant.2.stand

pub returns-clause-spelled : goal.returns-clause-spelled
returns-clause-spelled c = written_spelled _ _ _ _ _ _ _ _ c.in-None.ensures.steps.0 c.loop-global.invariant.2
