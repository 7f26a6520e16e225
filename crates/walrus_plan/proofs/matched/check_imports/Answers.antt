use Rattle.std.proofs.Common.{ap, ◌∙◌, refl}
use Rattle.std.proofs.lemmas.Result.{err_from_is_err_and}
use Rattle.walrus_items.specs.Imports.{import_value, imports, import_entries_left}
use Rattle.walrus_contents.specs.View as seen
use Rattle.walrus_contents.specs.View.{parts_view}
use Rattle.walrus_model.proofs.Walked.{walk_begins}
use Rattle.walrus_theorem.proofs.Matches.{imports_live}
use Rattle.walrus_plan.proofs.Matching.{MatchedAt, import_there, imports_all, imports_go}
use Rattle.walrus_plan.proofs.matched.check_imports.Goals as goal

pub loop-id-init : goal.loop-id-init
loop-id-init c =
    let p = c.args.parts in
    (tt, tt, walk_begins (MatchedAt (parts_view p) (imports p.imports.now)) (imports p.imports.now) _ (ap import_entries_left c.into_iter-id-iterator.ensures.into_iter_gives ∙ c.iter_entries-id-items.ensures))

pub check_import-requires : goal.check_import-requires
check_import-requires c =
    let p = c.args.parts in
    let at = import_there (parts_view p) (imports p.imports.now) (λ i. refl) _ _ _ c.in-Some.ensures.steps c.loop-id.invariant.2 in
    let value = seen.import_of (import_value c.in-Some.import.now) in
    record { there = c.requires.there; live = imports_live (parts_view p) c.requires.there _ value at; named = (value, at, refl) }

pub loop-id-preserved : goal.loop-id-preserved
loop-id-preserved c =
    let p = c.args.parts in
    (tt, tt, imports_go (parts_view p) (imports p.imports.now) (λ i. refl) _ _ _ c.in-Some.ensures.steps c.loop-id.invariant.2 c.in_ok-check_import.ensures)

pub returns-in_err-check_import : goal.returns-in_err-check_import
returns-in_err-check_import c =
    let p = err_from_is_err_and c.from_residual.result c.from_residual.ensures.1 in
    rw (p.1, p.2) c.in_err-check_import.ensures

pub returns : goal.returns
returns c =
    let p = c.args.parts in
    imports_all (parts_view p) (imports p.imports.now) (λ i. refl) _ c.in-None.ensures.steps.0 c.loop-id.invariant.2
