-- What a collection ends as, where one of its items is lent.
use Rattle.std.specs.Prelude.{ℕ}
use Rattle.std.specs.Borrow.{Lends, Fml, RattleType, MutBor}
use Rattle.walrus_base.specs.Arena.{with_item}
use Rattle.walrus_items.specs.declared.items.Items.{Items}
use Rattle.walrus_items.specs.contracts.items.Items.{the_row}

-- the collection with this item at a place
abbrev pub with_held : {K T : Type 0} → Items K T → ℕ → T → Items K T
with_held all place item = record all { arena = with_item all.arena place item }

-- once the borrow r ends, the place has the last value written through r
abbrev pub LendsItem : (K T : RattleType) → MutBor (Items K.Denot T.Denot) → ℕ → MutBor T.Denot → Fml
LendsItem K T all place r = Lends (the_row K T) T all r (λ last. with_held all.now place last)
