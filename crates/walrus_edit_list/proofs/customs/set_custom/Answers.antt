use Rattle.std.proofs.Common.{◌≡◌, ◌<◌, get_or, length, rules}
use Rattle.walrus_edit_list.specs.Held.{custom_value}
use Rattle.walrus_edit_list.proofs.Places.{put}
use Rattle.walrus_edit_list.proofs.customs.set_custom.Goals as goal

pub returns : goal.returns
returns c =
    let here : c.index_mut.result.now ≡ get_or c.args.all.now.items c.args.number c.index_mut.result.now = search rules in
    let lt : c.args.number < length c.args.all.now.items = search rules in
    let made = c.in_ok-put_bytes.ensures in
    put custom_value c.args.all.now.items c.args.number c.index_mut.result.now here (λ was. record was { bytes = c.args.bytes.now }) c.put_bytes.new.slot
    made.0 lt made.1 made.2
