use Rattle.std.proofs.Common.{rules}
use Rattle.walrus_base.specs.Arena.{IsLive}
use Rattle.walrus_edit_list.specs.Held.{custom_value, customs}
use Rattle.walrus_edit_list.proofs.Places.{emptied}
use Rattle.walrus_edit_list.proofs.customs.delete_custom.Goals as goal

pub returns : goal.returns
returns c =
    let live : IsLive (customs c.args.all.now.items) c.args.number = search rules in
    emptied custom_value c.args.all.now.items c.args.number live
