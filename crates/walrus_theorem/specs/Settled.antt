-- What a second run leaves of what the first one wrote.
use Rattle.std.specs.Prelude.{ℕ, IsSome, ◌≡◌}
use Rattle.walrus_base.specs.Operators.{Types, Item}
use Rattle.walrus_base.specs.Shape.{SameShape}
use Rattle.walrus_model.specs.Abstract.{Abstract, Subject}
use Rattle.walrus_model.specs.Carried.{Carried}
use Rattle.walrus_model.specs.Config.{Config}
use Rattle.walrus_model.specs.Live.{IsLive}
use Rattle.walrus_model.specs.Names.{own_name, MayBeNamed, AreNamed}
use Rattle.walrus_model.specs.Renaming.{Renaming, unchanged}

-- the item is a type, and has the shape of a type that n has
abbrev pub IsLike : Abstract → Abstract → Item → Type 0
IsLike n n2 (Types, j) = (i : ℕ) × SameShape n.types i n2.types j
IsLike n n2 x = ⊥

-- n2 has all of n under one renaming, imports, exports and start among it, and nothing more but types of shapes that n has. Its names, those
-- of types aside, are those of n: n names no other subjects than the module, items, and locals that are used. Its producers and its custom
-- sections are those of n. This speaks of all names under each configuration: where none are written, neither has any.
pub record Settles (c : Config) (n n2 : Abstract) : Type 0 where
  pub renaming : Renaming
  pub carried : Carried (IsLive n) (IsLike n n2) renaming n n2
  pub names : AreNamed (own_name n) (IsLive n) renaming n n2
  pub no_others : (y : Subject) → IsSome (own_name n y) → MayBeNamed (IsLive n) unchanged n y
  pub producers : n2.producers ≡ n.producers
  pub customs : n2.customs ≡ n.customs
