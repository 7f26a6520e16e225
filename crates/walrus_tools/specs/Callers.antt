-- Who refers to an item of a module.
use Rattle.std.specs.Prelude.{ℕ, ◌≡◌, ◌<◌, ◌≤◌, ◌↔◌, ◌⊎◌, List, [], ◌∷◌, ◌++◌, AllPairs, Contains}
use Rattle.walrus.specs.Base.Operators.{Space, Types, Functions, Tables, Memories, Tags, Globals, Elements, DataSegments, Item}
use Rattle.walrus.specs.Contents.There.{IsSound}
use Rattle.walrus.specs.Items.Items.{space_number}
use Rattle.walrus.specs.Model.Abstract.{Abstract}
use Rattle.walrus.specs.Model.Live.{Has, IsLive}
use Rattle.walrus.specs.Model.Refers.{Refers}
use Rattle.walrus_tools.specs.declared.referrers.Kind.{Kind}
use Rattle.walrus_tools.specs.declared.referrers.Kind.TheVariants as kinds

-- an item comes before another: by kind (types, functions, tables, memories, tags, globals, elements, data), and then by index
abbrev pub IsBefore : Item → Item → Type 0
IsBefore x y = (space_number x.0 < space_number y.0) ⊎ ((x.0 ≡ y.0) × (x.1 < y.1))

-- these are the items that refer to y, each once, by kind and index
pub record AreCallers (v : Abstract) (y : Item) (callers : List Item) : Type 0 where
  pub rising : AllPairs IsBefore callers
  pub are : (x : Item) → Contains callers x ↔ (IsLive v x × Refers v x y)

-- an item of the module isn't sound
abbrev pub HasUnsound : Abstract → Type 0
HasUnsound v = (x : Item) × IsLive v x × (IsSound v x → ⊥)

-- ---- on the way

-- the kind of items of an index space
abbrev pub space_of : Kind → Space
space_of kinds.Types = Types
space_of kinds.Functions = Functions
space_of kinds.Tables = Tables
space_of kinds.Memories = Memories
space_of kinds.Tags = Tags
space_of kinds.Globals = Globals
space_of kinds.Elements = Elements
space_of kinds.Data = DataSegments

-- all items of the index space have smaller numbers
abbrev pub IsPastSpace : Abstract → Space → (end : ℕ) → Type 0
IsPastSpace v space end = (i : ℕ) → Has v space i → i < end

-- x stands behind these if it refers to y, and else they are as they were
abbrev pub AddsIfCaller : Abstract → (x y : Item) → (old new : List Item) → Type 0
AddsIfCaller v x y old new = (IsLive v x × Refers v x y × (new ≡ old ++ x ∷ [])) ⊎ (((IsLive v x × Refers v x y) → ⊥) × (new ≡ old))

-- these are those that come before z of the items that refer to y
pub record CallersBefore (v : Abstract) (y z : Item) (callers : List Item) : Type 0 where
  pub rising : AllPairs IsBefore callers
  pub are : (x : Item) → Contains callers x ↔ (IsBefore x z × (IsLive v x × Refers v x y))

-- these are those of the items that refer to y whose kinds come up to this one
pub record CallersThrough (v : Abstract) (y : Item) (space : Space) (callers : List Item) : Type 0 where
  pub rising : AllPairs IsBefore callers
  pub are : (x : Item) → Contains callers x ↔ ((space_number x.0 ≤ space_number space) × (IsLive v x × Refers v x y))
