-- What an arena ends as, where one of its items is lent.
use Rattle.std.specs.Prelude.{ℕ}
use Rattle.std.specs.Borrow.{Lends, Fml, RattleType, MutBor}
use Rattle.walrus_base.specs.Arena.{with_item}
use Rattle.walrus_base.specs.declared.arena.TombstoneArena.{TombstoneArena}
use Rattle.walrus_base.specs.contracts.arena.TombstoneArena.{the_row}

-- once the borrow r ends, the place has the last value written through r
abbrev pub LendsItem : (K T : RattleType) → MutBor (TombstoneArena K.Denot T.Denot) → ℕ → MutBor T.Denot → Fml
LendsItem K T arena place r = Lends (the_row K T) T arena r (with_item arena.now place)
