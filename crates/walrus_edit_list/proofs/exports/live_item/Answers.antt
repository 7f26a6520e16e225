use Rattle.std.proofs.Common.{sym}
use Rattle.std.proofs.lemmas.Bool.{iff_false}
use Rattle.walrus_contents.specs.View.{parts_view}
use Rattle.walrus_module.specs.View.{held_view}
use Rattle.walrus_edit_list.proofs.Exporting.{live_named}
use Rattle.walrus_edit_list.proofs.exports.live_item.Goals as goal

pub returns-then-is_live : goal.returns-then-is_live
returns-then-is_live g c = (
  c.item_of-item.ensures,
  live_named (parts_view c.parts.result) (held_view c.args.module.now) _ _ _ c.parts.ensures c.item_id.ensures c.item_of-item.ensures
      (c.is_live.ensures.0 c.if-is_live.true),
)

pub returns : goal.returns
returns g c = λ live.
    iff_false c.is_live.ensures c.if-is_live.false
    (live_named (held_view c.args.module.now) (parts_view c.parts.result) _ _ _ (sym c.parts.ensures) (sym c.item_of-item.ensures) (sym c.item_id.ensures) live)
