-- Whether imports and items name each other, one by one.
use Rattle.std.specs.Prelude.{ℕ, Option, Some, ◌≡◌}
use Rattle.walrus_base.specs.Operators.{Space, Functions, Tables, Memories, Tags, Globals, Item}
use Rattle.walrus_model.specs.Abstract.{Abstract, Import}
use Rattle.walrus_model.specs.WellMade.{import_of}
use Rattle.walrus_items.specs.declared.error.Error.{Error}
use Rattle.walrus_items.specs.declared.error.Error.TheVariants.{NoIndex, TwoIndices}
use Rattle.walrus_theorem.specs.Refused.{HasTwoIndices, LacksIndex}

-- the import of this number is there, and names the item
abbrev pub IsNamedBy : Abstract → Item → ℕ → Type 0
IsNamedBy v x i = (y : Import) × (v.imports i ≡ Some y) × (y.item ≡ x)

-- the import that is said to bring an item, if one is, is there and names it
abbrev pub IsAnswered : Abstract → (brought_by : Option ℕ) → Item → Type 0
IsAnswered v brought_by x = (i : ℕ) → brought_by ≡ Some i → IsNamedBy v x i

-- the import that is said to bring it isn't there, or names another item
abbrev pub IsUnanswered : Abstract → (brought_by : Option ℕ) → Item → Type 0
IsUnanswered v brought_by x = (i : ℕ) × ((brought_by ≡ Some i) × (IsNamedBy v x i → ⊥))

-- each item of an index space is answered
abbrev pub AreAnswered : Abstract → Space → Type 0
AreAnswered v space = (i : ℕ) → IsAnswered v (import_of v (space, i)) (space, i)

-- and of all index spaces that imports bring items to
pub record AreItemsAnswered (v : Abstract) : Type 0 where
  pub functions : AreAnswered v Functions
  pub tables : AreAnswered v Tables
  pub memories : AreAnswered v Memories
  pub tags : AreAnswered v Tags
  pub globals : AreAnswered v Globals

-- what each import names says to be brought by it
abbrev pub AreImportsAnswered : Abstract → Type 0
AreImportsAnswered v = (i : ℕ) (y : Import) → v.imports i ≡ Some y → import_of v y.item ≡ Some i

-- ---- where they don't, each refusal comes with its cause

abbrev pub RefusesUnmatched : Abstract → Error → Type 0
RefusesUnmatched v TwoIndices = HasTwoIndices v
RefusesUnmatched v NoIndex = LacksIndex v
RefusesUnmatched v _ = ⊥
