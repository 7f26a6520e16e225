use Rattle.std.proofs.lemmas.Result.{err_from_is_err_and}
use Rattle.std.proofs.Common.{List, map, subst, sym}
use Rattle.std.specs.Prelude.{◌↔◌, Contains}
use Rattle.walrus_base.specs.Operators.{Item}
use Rattle.walrus_code.specs.Code.{item_of}
use Rattle.walrus_code.specs.declared.items.ItemId.{ItemId}
use Rattle.walrus_model.specs.Dead.{HasDead}
use Rattle.walrus_contents.specs.Named.{own_written}
use Rattle.walrus_contents.specs.There.{IsUnsound}
use Rattle.walrus_contents.specs.View.{lent, parts_view}
use Rattle.walrus_contents.proofs.Groups.{groups_whole}
use Rattle.walrus_contents.proofs.LiveLemmas.{item_checked, unsound_dead}
use Rattle.walrus_contents.proofs.NamedLemmas.{all_put, refusal_map}
use Rattle.walrus_contents.proofs.live.check_item.Goals as goal

pub returns-in_err-push_written_names : goal.returns-in_err-push_written_names
returns-in_err-push_written_names c =
    let p = err_from_is_err_and c.from_residual.result c.from_residual.ensures.1 in
    let v = parts_view c.args.parts in
    let x = item_of c.args.item in
    rw (p.1, p.2) (refusal_map (IsUnsound v x) (HasDead v) (unsound_dead v x) c.in_err-push_written_names.field-0.0 c.in_err-push_written_names.ensures)

pub returns : goal.returns
returns c =
    let v = parts_view c.args.parts in
    let x = item_of c.args.item in
    let put = c.in_ok-push_written_names.ensures in
    let own : Item → Type 0 = Contains (own_written v x) in
    let are : (y : Item) → Contains (map item_of c.as_slice.result.now) y ↔ own y = subst (λ (ids : List ItemId). (y : Item) → Contains (map item_of ids) y ↔ own y) (sym c.as_slice.ensures.value) (all_put own _ _ c.clear.ensures.items put.1) in
    item_checked v (groups_whole (lent c.args.parts) c.groups_are_whole.ensures) x _ are put.0 c.check_all.result c.check_all.ensures
