use Rattle.std.proofs.Common.{rules, subst}
use Rattle.std.specs.Prelude.{Option, Some}
use Rattle.wasm_frames.specs.Frames.{Frames}
use Rattle.wasm_frames.specs.Record.{sections}
use Rattle.wasm_frames.specs.Until.{IsFramed}
use Rattle.wasm_frames.specs.declared.read.Framed.{Framed}
use Rattle.wasm_wire.specs.Broken.{Judges}
use Rattle.wasm_wire.specs.Rules.{Rules}
use Rattle.wasm_wire.specs.declared.rules.broken.BrokenRule.{BrokenRule}
use Rattle.walrus_reading.specs.Unread.{IsFirstUnread}
use Rattle.walrus_reading.proofs.Faulty.{no_body, no_rule, no_section}
use Rattle.walrus_reading.proofs.faults.first_fault.Goals as goal

pub returns-in-Until : goal.returns-in-Until
returns-in-Until c =
    no_section c.args.features.now c.args.bytes.now c.in-Until.place (subst (λ (f : Framed). IsFramed c.args.bytes.now f) c.in-Until.is c.in_ok-raw.ensures.found)

pub returns-in-Some : goal.returns-in-Some
returns-in-Some c =
    let framed : Frames c.args.bytes.now (sections c.in-Whole.raw) = subst (λ (f : Framed). IsFramed c.args.bytes.now f) c.in-Whole.is c.in_ok-raw.ensures.found in
    no_rule c.args.features.now c.args.bytes.now (sections c.in-Whole.raw) framed c.in-Some.rule (subst (λ (o : Option BrokenRule). Judges o (sections c.in-Whole.raw)) c.in-Some.is c.in_ok-rule.ensures)

pub returns-in-Some-2 : goal.returns-in-Some-2
returns-in-Some-2 c =
    let framed : Frames c.args.bytes.now (sections c.in-Whole.raw) = subst (λ (f : Framed). IsFramed c.args.bytes.now f) c.in-Whole.is c.in_ok-raw.ensures.found in
    let rules_hold : Rules (sections c.in-Whole.raw) = search rules in
    no_body c.args.features.now c.args.bytes.now (sections c.in-Whole.raw) framed c.in-Some-2.index rules_hold
    (subst (IsFirstUnread c.args.features.now (sections c.in-Whole.raw)) c.in-Some-2.is c.in_ok-index.ensures)
