use Rattle.std.proofs.Common.{List, subst, sym}
use Rattle.std.specs.Prelude.{Contains}
use Rattle.std.proofs.lemmas.Result.{on_ok_weaker}
use Rattle.walrus_base.specs.Operators.{Op, names_of}
use Rattle.walrus_contents.specs.Named.{PutsAll}
use Rattle.walrus_contents.proofs.names.push_operator_names.Goals as goal

pub returns-in-Some : goal.returns-in-Some
returns-in-Some c =
    on_ok_weaker c.push_names.result
    (λ put. subst (λ (ops : List Op). PutsAll c.args.to.now c.push_names.new.to (Contains (names_of ops))) (sym c.in-Some.ensures.body) (record { added = put.added; behind = put.behind; are = put.are }))
    c.push_names.ensures
