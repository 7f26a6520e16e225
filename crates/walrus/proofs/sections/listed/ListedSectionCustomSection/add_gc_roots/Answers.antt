use Rattle.std.proofs.Common.{◌≤◌, List, length, ◌++◌, ap, ◌∙◌, subst}
use Rattle.std.proofs.lemmas.List.{take_all}
use Rattle.walrus_base.specs.declared.id.Id.{Id}
use Rattle.walrus_base.specs.declared.keys.FunctionKey.{FunctionKey}
use Rattle.walrus_items.specs.Roots.{places}
use Rattle.walrus.proofs.ListedRoots.{roots_of}
use Rattle.walrus.proofs.sections.listed.ListedSectionCustomSection.add_gc_roots.Goals as goal

pub returns-clause-value : goal.returns-clause-value
returns-clause-value c =
    let ids = c.args.self.now.ids.items in
    let before = c.args.roots.now in
    let all = take_all c.ids.id-index ids (subst (λ (xs : List (Id FunctionKey)). length xs ≤ c.ids.id-index) c.deref-id-items.ensures.value c.ids-test.false) in
    c.ids.invariant ∙ ap (λ (xs : List (Id FunctionKey)). record before { funcs = before.funcs ++ places xs }) all ∙ roots_of before (places ids)
