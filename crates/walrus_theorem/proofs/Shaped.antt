-- What a module has whose text is a spelling.
use Rattle.std.proofs.Common.{◌≡◌, ℕ, ◌<◌, ◌≤◌, [], length}
use Rattle.std.specs.Prelude.{Option, Some, IsSome}
use Rattle.walrus_base.specs.Operators.{Types}
use Rattle.walrus_model.specs.BlockHandlers.{params_of}
use Rattle.walrus_model.specs.Abstract.{Abstract, Subject, AnItem, Body, LocalFunction, Function}
use Rattle.walrus_model.specs.Config.{Config}
use Rattle.walrus_model.specs.Names.{body_of, own_name}
use Rattle.walrus_model.specs.Sections.{Said, body_with, passes, is_on_table, is_on_memory}
use Rattle.walrus_model.specs.WellMade.{ImportsMatch}
use Rattle.walrus_theorem.specs.Pinned.{IsWrittenAs}
use Rattle.walrus_theorem.specs.Spelling.{UsesAll}

-- below what is there, all is there
abbrev pub Closes : {X : Type 0} → (ℕ → Option X) → Type 0
Closes xs = (j m : ℕ) → m < j → IsSome (xs j) → IsSome (xs m)

-- the body is one of these parameters
abbrev pub IsBodyWith : Abstract → ℕ → Body → Type 0
IsBodyWith n ty b = (said : Said) × (b ≡ body_with (params_of (n.types ty)) said)

pub record Shaped (n : Abstract) : Type 0 where
  pub types : Closes n.types
  pub imports : Closes n.imports
  pub functions : Closes n.functions
  pub tables : Closes n.tables
  pub memories : Closes n.memories
  pub tags : Closes n.tags
  pub globals : Closes n.globals
  pub elements : Closes n.elements
  pub data_segments : Closes n.data_segments
  pub bodies : (f : ℕ) (g : Function) (b : Body) → n.functions f ≡ Some g → g.kind ≡ LocalFunction b → IsBodyWith n g.ty b
  pub uses : (f : ℕ) (b : Body) → body_of n f ≡ Some b → UsesAll b
  pub matched : ImportsMatch n
  pub named_once : (x : Subject) → length (n.named x) ≤ 1
  pub types_there : (i : ℕ) → IsSome (own_name n (AnItem (Types, i))) → IsSome (n.types i)
  pub table_segments : n.table_segments ≡ (λ t e. passes (λ y. is_on_table t y.kind) (n.elements e))
  pub memory_segments : n.memory_segments ≡ (λ y d. passes (λ x. is_on_memory y x.kind) (n.data_segments d))
  pub handler_types : n.handler_types ≡ (λ f. [])
  pub section_roots : n.section_roots ≡ []

-- a module that v in memory is written as
pub record Side (c : Config) (v n : Abstract) : Type 0 where
  pub shaped : Shaped n
  pub is : IsWrittenAs c v n
