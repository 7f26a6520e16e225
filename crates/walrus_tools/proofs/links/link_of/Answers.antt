use Rattle.std.proofs.Common.{◌∙◌}
use Rattle.walrus.specs.Base.Arena.{items}
use Rattle.walrus.specs.Code.Code.{item_of}
use Rattle.walrus.specs.Items.Exports.{exports}
use Rattle.walrus_tools.proofs.LinkLemmas.{exported_so, link_same}
use Rattle.walrus_tools.proofs.links.link_of.Goals as goal

pub returns : goal.returns
returns c =
    let x = item_of c.args.item in
    link_same x _ _ _ _ _ _ (c.in_ok-owned.ensures ∙ c.name_in.ensures)
    (c.in_ok-names_of.ensures ∙ c.requires.grouped x ∙ exported_so (items (exports c.args.parts.exports.now)) x) c.body_size.ensures
