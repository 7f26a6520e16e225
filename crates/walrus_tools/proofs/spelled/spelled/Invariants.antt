use Rattle.std.proofs.Common.{◌≡◌, flat_map, map, take}
use Rattle.walrus_tools.specs.Spelled.{NoneLong}
use Rattle.walrus_tools.proofs.spelled.spelled.Given as goal

-- the bytes of those before, none of them too long
abbrev pub invariant-told : goal.invariant-told
invariant-told g l = (l.list.items ≡ flat_map g.T.Told.spell (map g.T.Told.seen (take l.item-index l.all))) × NoneLong g.T.Told.IsLong (map g.T.Told.seen (take l.item-index l.all))
