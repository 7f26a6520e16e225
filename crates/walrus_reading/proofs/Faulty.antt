-- What is found wrong with bytes keeps them from being a module that keeps the rules.
use Rattle.std.proofs.Common.{◌≡◌, ℕ, List, subst}
use Rattle.std.specs.Prelude.{Some, None, zip}
use Rattle.std.specs.List.{AllZip}
use Rattle.wasm_frames.specs.Frames.{Frames}
use Rattle.wasm_frames.specs.Record as wire
use Rattle.wasm_frames.specs.Until.{LacksHeader, StandsUntil}
use Rattle.wasm_frames.proofs.Modules.{one_record_lem}
use Rattle.wasm_frames.proofs.Until.{no_module}
use Rattle.wasm_wire.specs.Broken.{RuleHolds}
use Rattle.wasm_wire.specs.Context.{context_of}
use Rattle.wasm_wire.specs.Rules.{Rules}
use Rattle.wasm_wire.specs.declared.rules.broken.BrokenRule.{BrokenRule}
use Rattle.wasm_wire.proofs.NamedRules.{kept_each}
use Rattle.walrus_bodies.specs.declared.features.Features.{Features}
use Rattle.walrus_model.specs.Reads.{ReadsBodyWith}
use Rattle.walrus_reading.specs.Faults.{FindsFault}
use Rattle.walrus_reading.specs.Unread.{IsFirstUnread, brought_functions}
use Rattle.walrus_reading.specs.declared.faults.Fault.TheVariants.{Body, Header, Rule, Section}
use Rattle.walrus_reading.proofs.FirstUnread.{not_all}

module _ (features : Features) (bytes : List ℕ) where
  pub no_header : LacksHeader bytes → FindsFault features bytes (Some Header)
  no_header lacks = (lacks, λ a. lacks a.framed.rest a.framed.headed)

  pub no_section : (place : ℕ) → StandsUntil bytes place → FindsFault features bytes (Some (Section place))
  no_section place until = (until, λ a. no_module bytes place a.sections until a.framed)

  module _ (s : wire.Module) (framed : Frames bytes s) where
    pub no_rule : (rule : BrokenRule) → (RuleHolds rule (context_of s) s → ⊥) → FindsFault features bytes (Some (Rule rule))
    no_rule rule broken = (
      record { sections = s; framed = framed; broken = broken },
      (λ a. broken (subst (λ (m : wire.Module). RuleHolds rule (context_of m) m) (one_record_lem bytes a.sections s a.framed framed) (kept_each (context_of a.sections) a.sections a.rules rule))),
    )

    pub no_body : (index : ℕ) → Rules s → IsFirstUnread features s (Some index) → FindsFault features bytes (Some (Body index))
    no_body index rules unread = (
      record { sections = s; framed = framed; rules = rules; unread = unread },
      (λ a.
          let same : a.sections ≡ s = one_record_lem bytes a.sections s a.framed framed in
          not_all (ReadsBodyWith features s) (brought_functions s) (zip s.functions s.bodies) index unread a.bodies
          (subst (λ (m : wire.Module). AllZip (ReadsBodyWith features m) (zip m.functions m.bodies) a.bodies) same a.read)),
    )

    pub no_fault : Rules s → IsFirstUnread features s None → FindsFault features bytes None
    no_fault rules read = record { sections = s; framed = framed; rules = rules; bodies = read.0; read = read.1 }
