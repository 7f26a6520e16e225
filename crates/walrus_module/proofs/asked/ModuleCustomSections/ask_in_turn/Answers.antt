use Rattle.std.proofs.Common.{[], ◌∷◌, ◌++◌, Contains, map, ap, sym, ◌∙◌, subst}
use Rattle.std.specs.Prelude.{All}
use Rattle.std.proofs.lemmas.List.{map-append}
use Rattle.std.proofs.lemmas.List.Elements.{All-push}
use Rattle.std.proofs.lemmas.Result.{err_from_is_err_and}
use Rattle.walrus_base.specs.Arena.{entries}
use Rattle.walrus_code.specs.Indices.{index_of}
use Rattle.walrus_module.specs.Asked.{IsText, in_turn, is_in_turn, section_seen, section_under}
use Rattle.walrus_module.specs.Customs.{sections, sections_left}
use Rattle.walrus_module.specs.Meaning.{meaning}
use Rattle.walrus_module.proofs.Asking.{among_rest, asked_step, first_among, mean, one_asked_refuses, passed_step}
use Rattle.walrus_module.proofs.asked.ModuleCustomSections.ask_in_turn.Goals as goal

pub loop-entry-init : goal.loop-entry-init
loop-entry-init g c = (
  tt,
  tt,
  λ s at. subst (λ es. Contains (mean (λ i. (g.dyn-1.0.entry i).1) es) s) c.iter-rest.ensures at,
  ap (λ es. map section_seen c.args.asked.now.items ++ map (section_under (index_of c.args.indices.now)) (in_turn c.args.first (mean (λ i. (g.dyn-1.0.entry i).1) es))) c.iter-rest.ensures,
  λ texts. texts,
)

pub returns-in_err-asked-clause-fails : goal.returns-in_err-asked-clause-fails
returns-in_err-asked-clause-fails g c =
    let first = meaning (λ i. (g.dyn-1.0.entry i).1) c.in-Some.entry.now in
    let some = mean (λ i. (g.dyn-1.0.entry i).1) (sections_left c.loop-entry.rest) in
    let rest = mean (λ i. (g.dyn-1.0.entry i).1) (sections_left c.next.new.self) in
    let all = mean (λ i. (g.dyn-1.0.entry i).1) (entries (sections c.args.self.now)) in
    let is = ap (mean (λ i. (g.dyn-1.0.entry i).1)) c.in-Some.ensures.steps in
    let p = err_from_is_err_and c.from_residual.result c.from_residual.ensures.1 in
    rw (p.1, p.2) (one_asked_refuses c.args.first all first c.in_err-asked.field-0.0 (first_among first rest some all is c.loop-entry.invariant.2)
    (ap (is_in_turn c.args.first) (sym c.name.ensures) ∙ sym c.is_in_turn.ensures ∙ c.if-is_in_turn.true) c.in_err-asked.ensures.fails)

pub loop-entry-preserved-in_ok-push : goal.loop-entry-preserved-in_ok-push
loop-entry-preserved-in_ok-push g c =
    let first = meaning (λ i. (g.dyn-1.0.entry i).1) c.in-Some.entry.now in
    let some = mean (λ i. (g.dyn-1.0.entry i).1) (sections_left c.loop-entry.rest) in
    let rest = mean (λ i. (g.dyn-1.0.entry i).1) (sections_left c.next.new.self) in
    let all = mean (λ i. (g.dyn-1.0.entry i).1) (entries (sections c.args.self.now)) in
    let is = ap (mean (λ i. (g.dyn-1.0.entry i).1)) c.in-Some.ensures.steps in (
      tt,
      tt,
      among_rest first rest some all is c.loop-entry.invariant.2,
      asked_step (index_of c.args.indices.now) c.args.first first rest some is _ _ _ c.loop-entry.invariant.3
          (ap (is_in_turn c.args.first) (sym c.name.ensures) ∙ sym c.is_in_turn.ensures ∙ c.if-is_in_turn.true)
          (ap (map section_seen) c.in_ok-push.ensures.items ∙ map-append section_seen c.loop-entry.asked.items (c.in_ok-asked.field-0 ∷ []) ∙ ap (λ s. map section_seen c.loop-entry.asked.items ++ s ∷ []) c.in_ok-asked.ensures.value),
      λ texts. subst (All IsText) (sym c.in_ok-push.ensures.items) (All-push IsText c.loop-entry.asked.items c.in_ok-asked.field-0 (c.loop-entry.invariant.4 texts) c.in_ok-asked.ensures.text),
    )

pub loop-entry-preserved : goal.loop-entry-preserved
loop-entry-preserved g c =
    let first = meaning (λ i. (g.dyn-1.0.entry i).1) c.in-Some.entry.now in
    let some = mean (λ i. (g.dyn-1.0.entry i).1) (sections_left c.loop-entry.rest) in
    let rest = mean (λ i. (g.dyn-1.0.entry i).1) (sections_left c.next.new.self) in
    let all = mean (λ i. (g.dyn-1.0.entry i).1) (entries (sections c.args.self.now)) in
    let is = ap (mean (λ i. (g.dyn-1.0.entry i).1)) c.in-Some.ensures.steps in (
      tt,
      tt,
      among_rest first rest some all is c.loop-entry.invariant.2,
      passed_step (index_of c.args.indices.now) c.args.first first rest some is (map section_seen c.loop-entry.asked.items) (map section_seen c.loop-entry.asked.items) _ c.loop-entry.invariant.3
          (ap (is_in_turn c.args.first) (sym c.name.ensures) ∙ sym c.is_in_turn.ensures ∙ c.if-is_in_turn.false),
      c.loop-entry.invariant.4,
    )
