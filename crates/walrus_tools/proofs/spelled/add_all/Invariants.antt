use Rattle.std.proofs.Common.{◌≡◌, ◌++◌, flat_map, map, take}
use Rattle.walrus_tools.specs.Spelled.{NoneLong}
use Rattle.walrus_tools.proofs.spelled.add_all.Given as goal

-- behind what was there stand the bytes of those before, none of them too long
abbrev pub invariant-added : goal.invariant-added
invariant-added g l = (l.to.items ≡ l.initial.to.items ++ flat_map g.T.Told.spell (map g.T.Told.seen (take l.item-index l.all))) × NoneLong g.T.Told.IsLong (map g.T.Told.seen (take l.item-index l.all))
