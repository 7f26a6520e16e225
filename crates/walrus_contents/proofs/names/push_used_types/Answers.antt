use Rattle.std.proofs.Common.{List, ap, sym, subst, refl, ◌∙◌, ◌++◌}
use Rattle.std.proofs.lemmas.List.{append-nil}
use Rattle.std.specs.Prelude.{MatchResult}
use Rattle.walrus_base.specs.Operators.{Item, Op, locals_of}
use Rattle.walrus_contents.specs.Named.{OneIsMissing, PutsTypes, items_in}
use Rattle.walrus_contents.specs.There.{IsRefusal}
use Rattle.walrus_contents.proofs.names.push_used_types.Goals as goal

pub returns-then-text_names_no_types : goal.returns-then-text_names_no_types
returns-then-text_names_no_types c =
    let none = c.if-text_names_no_types.ensures refl in
    let old = items_in c.args.to.now in
    (none.0, sym (append-nil old) ∙ ap (λ (xs : List Item). old ++ xs) (sym none.1))

pub returns : goal.returns
returns c =
    subst (λ (ops : List Op). MatchResult c.push_listed_types.result (λ _. PutsTypes c.args.locals.now (locals_of ops) c.args.to.now c.push_listed_types.new.to) (IsRefusal (OneIsMissing c.args.locals.now (locals_of ops))))
    (c.as_slice.ensures.body ∙ c.in_ok-operators.ensures.body) c.push_listed_types.ensures
