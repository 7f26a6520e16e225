-- What is wrong with bytes that are no module which keeps the rules ("Binary Format > Modules", "Validation > Modules").
use Rattle.std.specs.Prelude.{ℕ, List, Option, Some, None}
use Rattle.wasm_frames.specs.Frames.{Frames}
use Rattle.wasm_frames.specs.Record as wire
use Rattle.wasm_frames.specs.Until.{LacksHeader, StandsUntil}
use Rattle.wasm_wire.specs.Broken.{RuleHolds}
use Rattle.wasm_wire.specs.Context.{context_of}
use Rattle.wasm_wire.specs.Rules.{Rules}
use Rattle.wasm_wire.specs.declared.rules.broken.BrokenRule.{BrokenRule}
use Rattle.walrus_bodies.specs.declared.features.Features.{Features}
use Rattle.walrus_reading.specs.Parsed.{AreModule}
use Rattle.walrus_reading.specs.Unread.{IsFirstUnread}
use Rattle.walrus_reading.specs.declared.faults.Fault.{Fault}
use Rattle.walrus_reading.specs.declared.faults.Fault.TheVariants.{Body, Header, Rule, Section}

-- the bytes frame records, and this rule doesn't hold of them
pub record BreaksRule (bytes : List ℕ) (rule : BrokenRule) : Type 0 where
  pub sections : wire.Module
  pub framed : Frames bytes sections
  pub broken : RuleHolds rule (context_of sections) sections → ⊥

-- the bytes frame records that keep the rules; the body of the function of this index isn't read, and those of all functions before it are
pub record HasUnread (features : Features) (bytes : List ℕ) (index : ℕ) : Type 0 where
  pub sections : wire.Module
  pub framed : Frames bytes sections
  pub rules : Rules sections
  pub unread : IsFirstUnread features sections (Some index)

-- this is wrong with the bytes
abbrev pub IsFault : Features → List ℕ → Fault → Type 0
IsFault features bytes Header = LacksHeader bytes
IsFault features bytes (Section place) = StandsUntil bytes place
IsFault features bytes (Rule rule) = BreaksRule bytes rule
IsFault features bytes (Body index) = HasUnread features bytes index

-- what was found: nothing exactly where the bytes are a module that keeps the rules, and otherwise something that is wrong
abbrev pub FindsFault : Features → List ℕ → Option Fault → Type 0
FindsFault features bytes None = AreModule features bytes
FindsFault features bytes (Some fault) = IsFault features bytes fault × (AreModule features bytes → ⊥)
