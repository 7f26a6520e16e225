use Rattle.std.proofs.Common.{◌≡◌, map, take}
use Rattle.walrus.specs.Code.Code.{item_of}
use Rattle.walrus.specs.Contents.View.{parts_view}
use Rattle.walrus.specs.Items.Transform.{range_of}
use Rattle.walrus_tools.specs.Links.{link_of, link_seen}
use Rattle.walrus_tools.proofs.links.links_of.Given as goal

-- what is told of the items before
abbrev pub invariant-items : goal.invariant-items
invariant-items l = map link_seen l.links.items ≡ map (link_of (parts_view l.parts) (map range_of l.bodies)) (map item_of (take l.item-index l.items))
