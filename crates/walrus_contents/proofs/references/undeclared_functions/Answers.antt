use Rattle.std.proofs.Common.{◌≡◌, ◌∙◌, List, ap, arith, eqb-true, map, sym}
use Rattle.std.proofs.lemmas.List.{length-map}
use Rattle.std.specs.Prelude.{filter, not, vec_len}
use Rattle.std.specs.Global.{Vec}
use Rattle.walrus_base.specs.Id.{place}
use Rattle.walrus_base.specs.Marks.{is_marked, places_marked}
use Rattle.walrus_base.specs.declared.id.Id.{Id}
use Rattle.walrus_base.specs.declared.keys.FunctionKey.{FunctionKey}
use Rattle.walrus_model.specs.Declared.{AreUndeclared}
use Rattle.walrus_model.specs.Live.{IsLive}
use Rattle.walrus_contents.specs.View.{lent, parts_view}
use Rattle.walrus_contents.proofs.ExportedRefs.{if_ok, none_named, undeclared}
use Rattle.walrus_contents.proofs.references.undeclared_functions.Goals as goal

pub returns-then-is_empty-clause-undeclared : goal.returns-then-is_empty-clause-undeclared
returns-then-is_empty-clause-undeclared c =
    let ids = c.in_ok-named.named in
    let none : vec_len ids ≡ 0 = eqb-true (vec_len ids) 0 (sym c.is_empty.ensures ∙ c.if-is_empty.true) in
    none_named (lent c.args.parts) (map place ids.items) c.in_ok-named.ensures.names (length-map ids.items place ∙ omega (arith, none, ids.ok.0))

pub returns-clause-undeclared : goal.returns-clause-undeclared
returns-clause-undeclared c =
    let marks = c.in_ok-named_marks.named_marks in
    let holds = is_marked c.in_ok-declared_marks.declared_marks in
    let view = parts_view c.args.parts in
    let same : (ids : List (Id FunctionKey)) (all : List (Id FunctionKey)) → ids ≡ all → map place ids ≡ map place all = λ ids all e. ap (λ (xs : List (Id FunctionKey)). map place xs) e in
    if_ok (λ (ids : Vec (Id FunctionKey)). map place ids.items ≡ filter (λ f. not (holds f)) (places_marked marks)) (λ (ids : Vec (Id FunctionKey)). AreUndeclared (IsLive view) view (map place ids.items)) c.marked_without.result
    (λ ids is. undeclared (lent c.args.parts) marks.marks.items holds (map place c.as_slice.result.now) (map place c.as_slice-2.result.now)
    (same _ _ c.as_slice.ensures.value ∙ c.in_ok-named.ensures.names) (same _ _ c.as_slice-2.ensures.value ∙ c.in_ok-declared.ensures.names)
    c.in_ok-named_marks.ensures.marks c.in_ok-declared_marks.ensures.marks (map place ids.items) is)
    c.marked_without.ensures.are
