-- How far bytes are a module: all of them, not even the header, or up to a place (Binary Format > Modules).
use Rattle.std.specs.Prelude.{◌≡◌, ℕ, ◌+◌, ◌<◌, List, ◌++◌, length}
use Rattle.wasm_frames.specs.declared.read.Framed.{Framed}
use Rattle.wasm_frames.specs.declared.read.Framed.TheVariants as found
use Rattle.wasm_frames.specs.Record.{Module, sections}
use Rattle.wasm_frames.specs.Frames.{Section, IsSection, AreSections, header, Frames}

-- the magic number and the version don't stand in front of these bytes
abbrev pub LacksHeader : List ℕ → Type 0
LacksHeader bytes = (rest : List ℕ) → bytes ≡ header ++ rest → ⊥

-- no section, which would stand at this place, stands in front of these bytes
abbrev pub LacksSection : ℕ → List ℕ → Type 0
LacksSection place bytes = (front back : List ℕ) (s : Section) → bytes ≡ front ++ back → IsSection place front s → ⊥

-- behind the header stand whole sections up to this place, and behind them bytes that no section begins
pub record StandsUntil (bytes : List ℕ) (place : ℕ) : Type 0 where
  pub whole : List ℕ
  pub rest : List ℕ
  pub parts : List Section
  pub headed : bytes ≡ header ++ (whole ++ rest)
  pub framed : AreSections 8 whole parts
  pub reached : place ≡ 8 + length whole
  pub left : 0 < length rest
  pub stops : LacksSection place rest

-- what was found of the bytes is so
abbrev pub IsFramed : List ℕ → Framed → Type 0
IsFramed bytes (found.Whole raw) = Frames bytes (sections raw)
IsFramed bytes found.NoHeader = LacksHeader bytes
IsFramed bytes (found.Until place) = StandsUntil bytes place

-- what was found is a whole module, which holds this
abbrev pub HoldsWhole : Module → Framed → Type 0
HoldsWhole m (found.Whole raw) = sections raw ≡ m
HoldsWhole m found.NoHeader = ⊥
HoldsWhole m (found.Until place) = ⊥

-- no bytes have two places up to which sections stand
abbrev pub HasOnePlace : Type 0
HasOnePlace = (bytes : List ℕ) (p q : ℕ) → StandsUntil bytes p → StandsUntil bytes q → p ≡ q

-- bytes that have such a place are no module
abbrev pub IsNoModule : Type 0
IsNoModule = (bytes : List ℕ) (place : ℕ) (m : Module) → StandsUntil bytes place → Frames bytes m → ⊥
