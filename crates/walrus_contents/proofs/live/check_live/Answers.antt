use Rattle.std.proofs.Common.{◌≡◌, List, ◌++◌, ap, map, ◌∙◌, subst}
use Rattle.std.proofs.lemmas.Result.{err_from_is_err_and}
use Rattle.walrus_code.specs.Code.{item_of}
use Rattle.walrus_code.specs.declared.items.ItemId.{ItemId}
use Rattle.walrus_base.specs.Operators.{Item}
use Rattle.walrus_contents.specs.Named.{other_roots}
use Rattle.walrus_contents.specs.There.{AreLive, OneIsDead}
use Rattle.walrus_model.specs.Dead.{HasDead}
use Rattle.walrus_contents.specs.View.{lent, parts_view}
use Rattle.walrus_contents.proofs.LiveLemmas.{functions_checked, others_dead}
use Rattle.walrus_contents.proofs.NamedLemmas.{refusal_map}
use Rattle.walrus_contents.proofs.live.check_live.Goals as goal

pub returns-in_err-check_exports : goal.returns-in_err-check_exports
returns-in_err-check_exports c =
    let p = err_from_is_err_and c.from_residual.result c.from_residual.ensures.1 in
    rw (p.1, p.2) c.in_err-check_exports.ensures

pub returns-in_err-check_all : goal.returns-in_err-check_all
returns-in_err-check_all c =
    let p = err_from_is_err_and c.from_residual-in_err-check_all.result c.from_residual-in_err-check_all.ensures.1 in
    let parts = c.args.parts in
    let v = parts_view parts in
    let names = other_roots (lent parts) in
    let are : map item_of c.as_slice.result.now ≡ names = ap (λ (ids : List ItemId). map item_of ids) c.as_slice.ensures.value ∙ c.in_ok-push_other_roots.ensures ∙ ap (λ (ids : List ItemId). map item_of ids ++ names) c.new-named.ensures.items in
    rw (p.1, p.2) (refusal_map (OneIsDead v (map item_of c.as_slice.result.now)) (HasDead v)
    (λ dead. others_dead (lent parts) (subst (OneIsDead v) are dead))
    c.in_err-check_all.field-0.0 c.in_err-check_all.ensures)

pub returns-in_err-check_types : goal.returns-in_err-check_types
returns-in_err-check_types c =
    let p = err_from_is_err_and c.from_residual-in_err-check_types.result c.from_residual-in_err-check_types.ensures.1 in
    rw (p.1, p.2) c.in_err-check_types.ensures

pub returns-in_err-check_imports : goal.returns-in_err-check_imports
returns-in_err-check_imports c =
    let p = err_from_is_err_and c.from_residual-in_err-check_imports.result c.from_residual-in_err-check_imports.ensures.1 in
    rw (p.1, p.2) c.in_err-check_imports.ensures

pub returns-in_err-check_tables : goal.returns-in_err-check_tables
returns-in_err-check_tables c =
    let p = err_from_is_err_and c.from_residual-in_err-check_tables.result c.from_residual-in_err-check_tables.ensures.1 in
    rw (p.1, p.2) c.in_err-check_tables.ensures

pub returns-in_err-check_tags : goal.returns-in_err-check_tags
returns-in_err-check_tags c =
    let p = err_from_is_err_and c.from_residual-in_err-check_tags.result c.from_residual-in_err-check_tags.ensures.1 in
    rw (p.1, p.2) c.in_err-check_tags.ensures

pub returns-in_err-check_globals : goal.returns-in_err-check_globals
returns-in_err-check_globals c =
    let p = err_from_is_err_and c.from_residual-in_err-check_globals.result c.from_residual-in_err-check_globals.ensures.1 in
    rw (p.1, p.2) c.in_err-check_globals.ensures

pub returns-in_err-check_elements : goal.returns-in_err-check_elements
returns-in_err-check_elements c =
    let p = err_from_is_err_and c.from_residual-in_err-check_elements.result c.from_residual-in_err-check_elements.ensures.1 in
    rw (p.1, p.2) c.in_err-check_elements.ensures

pub returns-in_err-check_data : goal.returns-in_err-check_data
returns-in_err-check_data c =
    let p = err_from_is_err_and c.from_residual-in_err-check_data.result c.from_residual-in_err-check_data.ensures.1 in
    rw (p.1, p.2) c.in_err-check_data.ensures

pub returns : goal.returns
returns c =
    let parts = c.args.parts in
    let v = parts_view parts in
    let names = other_roots (lent parts) in
    let are : map item_of c.as_slice.result.now ≡ names = ap (λ (ids : List ItemId). map item_of ids) c.as_slice.ensures.value ∙ c.in_ok-push_other_roots.ensures ∙ ap (λ (ids : List ItemId). map item_of ids ++ names) c.new-named.ensures.items in
    functions_checked (lent parts) (record {
      exports = c.in_ok-check_exports.ensures;
      others = subst (λ (xs : List Item). AreLive v xs) are c.in_ok-check_all.ensures;
      imports = c.in_ok-check_imports.ensures;
      types = c.in_ok-check_types.ensures;
      tables = c.in_ok-check_tables.ensures;
      tags = c.in_ok-check_tags.ensures;
      globals = c.in_ok-check_globals.ensures;
      elements = c.in_ok-check_elements.ensures;
      data_segments = c.in_ok-check_data.ensures;
    }) c.check_functions.result c.check_functions.ensures
