-- What is written keeps the rules where the module in memory does, and counts the locals that its bodies declare.
use Rattle.std.proofs.Common.{◌≡◌, ℕ, ◌≤◌, length, get_or, sym, ap, ◌∙◌, subst, arith}
use Rattle.std.specs.Prelude.{true, Some, IsSome, Contains}
use Rattle.wasm_forms.proofs.Bind.{some_same}
use Rattle.walrus_model.specs.BlockHandlers.{params_of}
use Rattle.walrus_bodies.specs.Blocks.{are_nested}
use Rattle.walrus_bodies.specs.Features.{are_allowed}
use Rattle.walrus_model.specs.Abstract.{Abstract, Body, Function, LocalFunction}
use Rattle.walrus_model.specs.Config.{Config}
use Rattle.walrus_model.specs.Names.{body_of, body_of_kind, body_of_function}
use Rattle.walrus_model.specs.Order.{ByImport}
use Rattle.walrus_model.specs.Renaming.{Renaming}
use Rattle.walrus_model.specs.Rules.{Holds, LocalsHold, RulesHold}
use Rattle.walrus_model.specs.Refers.{IsUsed}
use Rattle.walrus_model.specs.Sections.{body_with}
use Rattle.std.proofs.lemmas.Grind.{get_or_default_zero}
use Rattle.walrus_theorem.specs.Features.{features_of}
use Rattle.walrus_theorem.specs.Pinned.{IsWrittenAs}
use Rattle.walrus_theorem.specs.SpelledLaws.{BodiesNest}
use Rattle.walrus_theorem.specs.Spelling.{IsSpelling}
use Rattle.walrus_theorem.specs.Text.{Text, said_by}
use Rattle.walrus_theorem.specs.WellMade.{IsCounted, IsWellMade}
use Rattle.walrus_theorem.specs.WellMadeLaws.{WrittenHolds}
use Rattle.walrus_theorem.specs.Once.{Premises}
use Rattle.walrus_base.proofs.Counting.{has_room}
use Rattle.walrus_model.proofs.OffsetRules.{rules_carried}
use Rattle.walrus_model.proofs.NestedBack.{nested_renamed, allowed_renamed}
use Rattle.walrus_theorem.proofs.Shaped.{Side}
use Rattle.walrus_theorem.proofs.TextShaped.{side}
use Rattle.walrus_theorem.proofs.Things.{Stands, stands, body_is}
use Rattle.walrus_model.proofs.TypeRules.{body_came, body_was}
use Rattle.walrus_theorem.proofs.UsedLocals.{stands_for, no_parameter}
use Rattle.walrus_theorem.proofs.WrittenOver.{written_over}

pub premises_by_rules : (u : Abstract) → RulesHold (ByImport u) u → Premises u
premises_by_rules u rules = record {
  written = rules.indices.written;
  locals = rules.indices.locals;
  exports = rules.indices.exports;
  start = rules.indices.start;
}

module _ (c : Config) (u n : Abstract) (rules : RulesHold (ByImport u) u) (are_counted : (f : ℕ) (b : Body) → body_of u f ≡ Some b → IsCounted b) (s : Side c u n) where
  abbrev r : Renaming
  r = s.is.written.renaming

  premises : Premises u
  premises = premises_by_rules u rules

  -- each local that the new body declares stands for one that the old one counts
  module _ (i : ℕ) (x : Function) (a : Body) (at : u.functions i ≡ Some x) (is : x.kind ≡ LocalFunction a) (counted : IsCounted a) (typed : (y : ℕ) → IsUsed a y → IsSome (a.local_type y)) where
    abbrev stood : Stands c u premises n s i x a typed
    stood = stands c u premises n s i x a typed at is

    few : length stood.said.0 ≤ 50_000
    few =
        let ps = params_of (n.types stood.function.ty) in
        let room : length stood.said.0 ≤ length counted.locals = has_room (length counted.locals) (λ m k. r.locals i (get_or counted.locals k 0) ≡ m) (length ps) (length stood.said.0)
        (λ m le lt.
        let z = stands_for a i ps typed r stood.said stood.comes m le lt in
        let in_list : Contains counted.locals z.0 = (counted.are z.0).1 (z.1, no_parameter a i ps typed r stood.said stood.comes z.0 m z.1 z.2 le) in
        (in_list.0, in_list.1, ap (r.locals i) (sym (get_or_default_zero counted.locals in_list.0 z.0 in_list.1) ∙ in_list.2) ∙ z.2))
        (λ m l k p q. sym p ∙ q) in
        let most : a.declared ≤ 50_000 = rules.locals i a (body_is u i x a at is) in
        omega (arith, room, most, counted.count)

  locals_hold : LocalsHold n
  locals_hold f b at =
      let w = body_came (written_over c u n premises s) f b at in
      let was = body_was (written_over c u n premises s) f b w in
      let counted = are_counted w.from w.body was in
      let typed : (y : ℕ) → IsUsed w.body y → IsSome (w.body.local_type y) = λ y used. rules.indices.locals w.from w.body y was used in
      let st = stands c u premises n s w.from w.function w.body typed w.is w.has in
      let there : n.functions f ≡ Some st.function = subst (λ j. n.functions j ≡ Some st.function) w.number st.at in
      let body : Some (body_with (params_of (n.types st.function.ty)) st.said) ≡ Some b = sym (ap body_of_function there ∙ ap body_of_kind st.kind) ∙ at in
      let same : length st.said.0 ≡ b.declared = ap (λ (x : Body). x.declared) (some_same (body_with (params_of (n.types st.function.ty)) st.said) b body) in
      let low : length st.said.0 ≤ 50_000 = few w.from w.function w.body w.is w.has counted typed in
      omega (arith, same, low)

  pub written_keeps : Holds n
  written_keeps = rules_carried (written_over c u n premises s) locals_hold rules

module _ (c : Config) (u n : Abstract) (premises : Premises u) (s : Side c u n) where
  abbrev q : Renaming
  q = s.is.written.renaming

  -- the operators of a body are those that it had, renamed
  pub written_nest : ((f : ℕ) (g : Function) (b : Body) → u.functions f ≡ Some g → g.kind ≡ LocalFunction b → (are_nested b.operators ≡ true) × (are_allowed (features_of c) b.operators ≡ true)) → BodiesNest c n
  written_nest old f g b at is =
      let w = body_came (written_over c u n premises s) f b (ap body_of_function at ∙ ap body_of_kind is) in
      let was = old w.from w.function w.body w.is w.has in (
        ap are_nested w.same.operators ∙ nested_renamed q (q.locals w.from) w.body.operators ∙ was.0,
        ap (are_allowed (features_of c)) w.same.operators ∙ allowed_renamed q (q.locals w.from) (features_of c) w.body.operators ∙ was.1,
      )

pub written_holds : WrittenHolds
written_holds c u t made nothing written spelling = written_keeps c u (said_by t) made.rules made.counted (side c u t spelling written)

-- and in its bodies blocks nest
pub made_nest : (c : Config) (u : Abstract) (t : Text) → IsWellMade c u → IsWrittenAs c u (said_by t) → IsSpelling (said_by t) t → BodiesNest c (said_by t)
made_nest c u t made written spelling =
    written_nest c u (said_by t) (premises_by_rules u made.rules) (side c u t spelling written)
    (λ f g b at is. let old = (made.bodies f g b at is).read.operators in (old.nested, old.allowed))
