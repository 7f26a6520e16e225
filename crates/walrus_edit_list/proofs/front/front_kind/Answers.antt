use Rattle.std.proofs.Common.{ap, map, ◌∙◌}
use Rattle.std.proofs.lemmas.Result.{err_from_is_err_and}
use Rattle.walrus_base.specs.Id.{place}
use Rattle.walrus_code.specs.Code.{ops_of}
use Rattle.walrus_code.specs.Indices.{ids_at}
use Rattle.walrus_edit_list.specs.Joined.{Fronts}
use Rattle.walrus_edit_list.proofs.RefusingBodies.{kind_fronts, kind_refuses, text_fronts}
use Rattle.walrus_edit_list.proofs.front.front_kind.Goals as goal

pub returns-in_err-front : goal.returns-in_err-front
returns-in_err-front c =
    let p = err_from_is_err_and c.from_residual-in_err-front.result c.from_residual-in_err-front.ensures.1 in
    rw (p.1, p.2) (kind_refuses (ids_at c.args.ids.now) c.args.types.now c.args.features.now c.args.bytes.now c.args.kind.now c.in-Local.own c.as_slice.result.now c.in-Local.is (ap (map place) c.as_slice.ensures.value ∙ c.in_ok-parameters.ensures) _ c.in_err-front.ensures)

pub returns : goal.returns
returns c =
    kind_fronts (ids_at c.args.ids.now) c.args.types.now c.args.features.now c.args.bytes.now c.args.kind.now c.in-Local.own c.as_slice.result.now c.in-Local.is (ap (map place) c.as_slice.ensures.value ∙ c.in_ok-parameters.ensures)
    (ops_of c.in_ok-front.front.items) c.put_front.new.own c.in_ok-front.ensures c.in_ok-put_front.ensures.0 c.in_ok-put_front.ensures.1

pub returns-in-Some : goal.returns-in-Some
returns-in-Some c =
    let fronts : Fronts c.args.bytes.now c.in-Local.own c.in-Some.made = rw c.in-Some.is at c.in_ok-made.ensures in
    text_fronts (ids_at c.args.ids.now) c.args.types.now c.args.features.now c.args.bytes.now c.args.kind.now c.in-Local.own c.as_slice.result.now c.in-Local.is (ap (map place) c.as_slice.ensures.value ∙ c.in_ok-parameters.ensures)
    (ops_of c.in_ok-front.front.items) c.in-Some.made c.requires.ids c.in_ok-front.ensures fronts
