use Rattle.std.proofs.Common.{List, ap, sym, subst}
use Rattle.std.specs.Prelude.{All}
use Rattle.std.specs.Str.{IsUtf8}
use Rattle.std.proofs.lemmas.List.Elements.{All-cons, All-nil}
use Rattle.walrus_module.specs.Meaning.{Meaning, meaning}
use Rattle.walrus_module.proofs.Asking.{mean}
use Rattle.walrus_module.proofs.asked.ModuleCustomSections.names_are_texts.Goals as goal

abbrev AreTexts : List Meaning → Type 0
AreTexts ms = All (λ (s : Meaning). IsUtf8 s.name) ms

pub loop-entry-init : goal.loop-entry-init
loop-entry-init g c = record { rest = λ texts. subst (λ es. AreTexts (mean (λ i. (g.dyn-1.0.entry i).1) es)) c.iter-rest.ensures texts }

pub loop-entry-preserved : goal.loop-entry-preserved
loop-entry-preserved g c =
    let first = meaning (λ i. (g.dyn-1.0.entry i).1) c.in-Some.entry.now in
    let is = ap (mean (λ i. (g.dyn-1.0.entry i).1)) c.in-Some.ensures.steps in
    record {
      rest = λ texts. c.loop-entry.invariant.rest (subst AreTexts (sym is) (All-cons (λ (s : Meaning). IsUtf8 s.name) first _ (subst IsUtf8 c.name-name.ensures c.name-name.utf8) texts));
    }

pub returns : goal.returns
returns g c = c.loop-entry.invariant.rest (subst AreTexts (sym (ap (mean (λ i. (g.dyn-1.0.entry i).1)) c.in_default.ensures.steps.0)) (All-nil (λ (s : Meaning). IsUtf8 s.name)))
