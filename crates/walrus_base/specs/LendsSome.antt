-- What an option ends as, whose value is lent.
use Rattle.std.specs.Prelude.{Option, Some}
use Rattle.std.specs.Borrow.{Lends, Fml, RattleType, MutBor}
use Rattle.std.specs.contracts.option.Option.{the_row}

-- the option ends as `Some` of the last value written through r
abbrev pub LendsSome : (T : RattleType) → MutBor (Option T.Denot) → MutBor T.Denot → Fml
LendsSome T o r = Lends (the_row T) T o r (λ w. Some w)
