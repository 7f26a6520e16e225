use Rattle.std.specs.Prelude.{Contains}
use Rattle.std.proofs.lemmas.Result.{err_from_is_err_and}
use Rattle.walrus_code.specs.Code.{item_of}
use Rattle.walrus_model.specs.Refers.{KeepsToo}
use Rattle.walrus_contents.specs.Named.{own_written}
use Rattle.walrus_contents.specs.There.{IsSound, IsUnsound}
use Rattle.walrus_contents.specs.View.{parts_view}
use Rattle.walrus_contents.proofs.NamedLemmas.{puts_both, refusal_map, unsound_not}
use Rattle.walrus_contents.proofs.names.push_item_names.Goals as goal

pub returns-in_err-push_written_names : goal.returns-in_err-push_written_names
returns-in_err-push_written_names c =
    let p = err_from_is_err_and c.from_residual.result c.from_residual.ensures.1 in
    let v = parts_view c.args.parts in
    let x = item_of c.args.item in
    rw (p.1, p.2) (refusal_map (IsUnsound v x) (IsSound v x → ⊥) (unsound_not v x) c.in_err-push_written_names.field-0.0 c.in_err-push_written_names.ensures)

pub returns : goal.returns
returns c =
    let v = parts_view c.args.parts in
    let x = item_of c.args.item in
    let put = c.in_ok-push_written_names.ensures in
    (put.0, puts_both (Contains (own_written v x)) (KeepsToo v x) c.args.to.now c.push_written_names.new.to c.push_kept_names.new.to put.1 c.in_ok-push_kept_names.ensures)
