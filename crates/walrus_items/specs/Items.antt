-- Items by their index space and place ("Structure > Modules > Indices").
use Rattle.std.specs.Prelude.{ℕ, Bool, ◌&&◌, nat_eq}
use Rattle.walrus_base.specs.Operators.{Space, Types, Functions, Tables, Memories, Tags, Globals, Elements, DataSegments, Item}

-- a number for each index space
abbrev pub space_number : Space → ℕ
space_number Types = 0
space_number Functions = 1
space_number Tables = 2
space_number Memories = 3
space_number Tags = 4
space_number Globals = 5
space_number Elements = 6
space_number DataSegments = 7

-- whether two items are one
abbrev pub is_item : Item → Item → Bool
is_item x y = nat_eq (space_number x.0) (space_number y.0) && nat_eq x.1 y.1
