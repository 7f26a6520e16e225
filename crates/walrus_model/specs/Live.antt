-- Which items a module has.
use Rattle.std.specs.Prelude.{ℕ, IsSome}
use Rattle.walrus_base.specs.Operators.{Space, Types, Functions, Tables, Memories, Tags, Globals, Elements, DataSegments, Item}
use Rattle.walrus_model.specs.Abstract.{Abstract}

-- the index space has an item of this number
abbrev pub Has : Abstract → Space → ℕ → Type 0
Has m Types i = IsSome (m.types i)
Has m Functions i = IsSome (m.functions i)
Has m Tables i = IsSome (m.tables i)
Has m Memories i = IsSome (m.memories i)
Has m Tags i = IsSome (m.tags i)
Has m Globals i = IsSome (m.globals i)
Has m Elements i = IsSome (m.elements i)
Has m DataSegments i = IsSome (m.data_segments i)

-- the module has this item: there is one of its number in its index space
abbrev pub IsLive : Abstract → Item → Type 0
IsLive m x = Has m x.0 x.1
