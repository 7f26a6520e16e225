-- Why an item stays: a chain of references that leads to it from a root.
use Rattle.std.specs.Prelude.{◌≡◌, ◌≢◌, AllPairs, List, [], ◌∷◌, Option, Some, None}
use Rattle.walrus_base.specs.Operators.{Item}
use Rattle.walrus_model.specs.Abstract.{Abstract}
use Rattle.walrus_model.specs.Reached.{Reached}
use Rattle.walrus_model.specs.Refers.{Refers}
use Rattle.walrus_model.specs.Roots.{IsRoot}

-- from the first item on each refers to the next, and the last is x
abbrev pub IsWay : Abstract → (first : Item) → (others : List Item) → Item → Type 0
IsWay v first [] x = first ≡ x
IsWay v first (next ∷ others) x = Refers v first next × IsWay v next others x

-- a chain of references, in which no item stands twice: its first item is a root, each refers to the next, and the last is x
pub record IsChain (v : Abstract) (chain : List Item) (x : Item) : Type 0 where
  pub first : Item
  pub others : List Item
  pub is : chain ≡ first ∷ others
  pub rooted : IsRoot v first
  pub leads : IsWay v first others x
  pub once : AllPairs (λ y z. y ≢ z) chain

-- such a chain, or none where the item isn't reached
abbrev pub Explains : Abstract → Item → Option (List Item) → Type 0
Explains v x None = Reached v x → ⊥
Explains v x (Some chain) = IsChain v chain x
