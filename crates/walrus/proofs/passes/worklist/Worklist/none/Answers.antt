use Rattle.std.proofs.Common.{ℕ, List, map, sym, ap, ◌∙◌, subst}
use Rattle.walrus_code.specs.Code.{item_of}
use Rattle.walrus_code.specs.declared.items.ItemId.{ItemId}
use Rattle.walrus_contents.specs.View.{lent, parts_view}
use Rattle.walrus.specs.Worklist.{IsRoomForLive}
use Rattle.walrus.proofs.Entered.{keeps_none}
use Rattle.walrus.proofs.Room.{room_for_places}
use Rattle.walrus.proofs.passes.worklist.Worklist.none.Goals as goal

pub returns-clause-kept : goal.returns-clause-kept
returns-clause-kept c =
    let parts = c.args.parts in
    keeps_none (parts_view parts) _ c.in_ok-none.ensures.unmarked c.in_ok-none.ensures.places
    (ap (λ (ids : List ItemId). map item_of ids) c.in_ok-with_capacity.ensures.items)
    (subst (λ (n : ℕ). IsRoomForLive (parts_view parts) n) (sym (c.in_ok-with_capacity.ensures.exact ∙ c.in-Some.ensures)) (room_for_places (lent parts)))
