-- The laws on what bytes read as, and what the laws on one run rest on: bytes read as one module, which fits 32 bits.
use Rattle.std.specs.Prelude.{ℕ, List, length, Some, Contains, ◌≡◌, ◌<◌, ◌≤◌, ◌+◌, ◌^◌}
use Rattle.wasm_writer.specs.Spelling.{SectionFits}
use Rattle.wasm_frames.specs.Frames.{Section}
use Rattle.walrus_base.specs.Types.{CompType, comp_names}
use Rattle.walrus_model.specs.Handlers.{handlers_of}
use Rattle.walrus_base.specs.Operators.{Space, Types}
use Rattle.walrus_model.specs.Abstract.{Abstract, TypeDef, Body, Table, Memory}
use Rattle.walrus_model.specs.Live.{Has, IsLive}
use Rattle.walrus_model.specs.Names.{body_of}
use Rattle.walrus_model.specs.Refers.{IsUsed}
use Rattle.walrus_model.specs.Config.{Config}
use Rattle.walrus_model.specs.Pipeline.{Collected}
use Rattle.walrus_model.specs.Rules.{Holds}
use Rattle.walrus_theorem.specs.Chain.{ParsedAs, AddsHandlers}
use Rattle.walrus_theorem.specs.Headline.{ReadsModule}
use Rattle.walrus_theorem.specs.Once.{Premises}
use Rattle.walrus_theorem.specs.Refused.{PassesLimit}
use Rattle.walrus_theorem.specs.Spelling.{IsSpelling, written_as}
use Rattle.walrus_theorem.specs.Text.{Text, sections_of}

-- no bytes read as two modules
abbrev pub ReadsOnce : Type 0
ReadsOnce = (c : Config) (bytes : List ℕ) (m n : Abstract) → ReadsModule c bytes m → ReadsModule c bytes n → n ≡ m

-- what gc leaves of what was parsed names nothing dead
abbrev pub KeptLives : Type 0
KeptLives = (c : Config) (bytes : List ℕ) (m v w : Abstract) → ReadsModule c bytes m → Holds m → ParsedAs c m v → Collected v w → Premises w

-- the types that legacy handlers need name types that are there
abbrev pub HandlersLive : Type 0
HandlersLive = (m : Abstract) → Holds m → (f : ℕ) (b : Body) → body_of m f ≡ Some b → (comp : CompType ℕ) → Contains (handlers_of m b) comp → (t : ℕ) → Contains (comp_names comp) t → IsLive m (Types, t)

-- the types of handlers are found, or added, in one way
abbrev pub HandlersOnce : Type 0
HandlersOnce = (m : Abstract) (p q : ℕ → List ℕ) (fs : List ℕ) (old a b : List TypeDef) → AddsHandlers m p fs old a → AddsHandlers m q fs old b → a ≡ b

-- ---- what was read fits 32 bits

-- counts, limits, and the numbers of locals
pub record Fits (n : Abstract) : Type 0 where
  pub items : (space : Space) (i : ℕ) → Has n space i → i + 1 < 2 ^ 32
  pub parameters : (f : ℕ) (b : Body) → body_of n f ≡ Some b → length b.parameters ≤ 2 ^ 32
  pub used : (f : ℕ) (b : Body) (x : ℕ) → body_of n f ≡ Some b → IsUsed b x → x < 2 ^ 32
  pub tables : (i : ℕ) (t : Table) → n.tables i ≡ Some t → PassesLimit t.ty.limits → ⊥
  pub memories : (i : ℕ) (t : Memory) → n.memories i ≡ Some t → PassesLimit t.ty.limits → ⊥

abbrev pub ReadFits : Type 0
ReadFits = (c : Config) (bytes : List ℕ) (n : Abstract) → ReadsModule c bytes n → Fits n

-- sections that are spelled and read again fit
abbrev pub SpelledFits : Type 0
SpelledFits = (c : Config) (n : Abstract) (t : Text) (s : Section) → IsSpelling n t → ReadsModule c (written_as t) n → Contains (sections_of t) s → SectionFits s
