-- The chosen part of a module as another module.
use Rattle.std.specs.Prelude.{ℕ, map, Option, IsSome, option_map, ◌≡◌, ◌⊎◌}
use Rattle.walrus_base.specs.Operators.{Space, Types, Functions, Tables, Memories, Tags, Globals, Elements, DataSegments, Item}
use Rattle.walrus_model.specs.Abstract.{Abstract}
use Rattle.walrus_model.specs.Kept.{IsImportOf}
use Rattle.walrus_model.specs.Renaming.{Renaming, renamed_table, renamed_memory, renamed_tag, renamed_global, renamed_element, renamed_data, renamed_import, renamed_export}
use Rattle.walrus_model.specs.Same.{SameType, SameFunction, BothAnd}

-- each chosen item is there again under its new number, the same by S, and nothing else is there but what was added
pub record Carries {X : Type 0} (K : ℕ → Type 0) (Added : ℕ → Type 0) (r : ℕ → ℕ) (S : ℕ → X → X → Type 0) (xs ys : ℕ → Option X) : Type 0 where
  pub same : (i : ℕ) → K i → BothAnd (S i) (xs i) (ys (r i))
  pub onto : (j : ℕ) → IsSome (ys j) → ((i : ℕ) × K i × (r i ≡ j)) ⊎ Added j

-- no two chosen items get one number
abbrev pub KeepsApart : (ℕ → Type 0) → (ℕ → ℕ) → Type 0
KeepsApart K r = (i j : ℕ) → K i → K j → r i ≡ r j → i ≡ j

-- the chosen ones of one space
abbrev pub In : (Item → Type 0) → Space → ℕ → Type 0
In K space i = K (space, i)

-- The chosen items of m, and what was added, make up all of n, under r. Two types may become one, other items not.
pub record Carried (K Added : Item → Type 0) (r : Renaming) (m n : Abstract) : Type 0 where
  pub types : Carries (In K Types) (In Added Types) (r.numbers Types) (SameType (r.numbers Types)) m.types n.types
  pub imports : Carries (IsImportOf K m) (λ i. ⊥) r.imports (λ i x y. y ≡ renamed_import r x) m.imports n.imports
  pub functions : Carries (In K Functions) (In Added Functions) (r.numbers Functions) (SameFunction r) m.functions n.functions
  pub tables : Carries (In K Tables) (In Added Tables) (r.numbers Tables) (λ i x y. y ≡ renamed_table r x) m.tables n.tables
  pub memories : Carries (In K Memories) (In Added Memories) (r.numbers Memories) (λ i x y. y ≡ renamed_memory r x) m.memories n.memories
  pub tags : Carries (In K Tags) (In Added Tags) (r.numbers Tags) (λ i x y. y ≡ renamed_tag r x) m.tags n.tags
  pub globals : Carries (In K Globals) (In Added Globals) (r.numbers Globals) (λ i x y. y ≡ renamed_global r x) m.globals n.globals
  pub elements : Carries (In K Elements) (In Added Elements) (r.numbers Elements) (λ i x y. y ≡ renamed_element r x) m.elements n.elements
  pub data_segments : Carries (In K DataSegments) (In Added DataSegments) (r.numbers DataSegments) (λ i x y. y ≡ renamed_data r x) m.data_segments n.data_segments
  pub imports_apart : KeepsApart (IsImportOf K m) r.imports
  pub apart : (space : Space) → (space ≡ Types → ⊥) → KeepsApart (In K space) (r.numbers space)
  pub exports : n.exports ≡ map (renamed_export r) m.exports
  pub start : n.start ≡ option_map (r.numbers Functions) m.start
