use Rattle.std.proofs.Common.{arith, subst, ◌≤◌, List}
use Rattle.std.specs.Prelude.{Contains}
use Rattle.std.proofs.lemmas.Bool.{leb-true}
use Rattle.walrus_base.specs.Operators.{Op, locals_of}
use Rattle.walrus_contents.proofs.PlainBodies.{each_plain, locals_within}
use Rattle.walrus_model.specs.Text.{first_local_of, local_count_of, ops_in}
use Rattle.walrus_module.proofs.FewLocals.{few_within}
use Rattle.walrus_module.proofs.declared.has_few.Goals as goal

pub returns : goal.returns
returns c is =
    let text = c.in-Some.text.now in
    let first = first_local_of text in
    let count = local_count_of text in
    let low : c.local_count.result ≤ 50_000 = leb-true c.local_count.result 50_000 is in
    few_within c.args.function.now first count (omega (arith, low, c.local_count.ensures))
    (λ x among. locals_within first count (ops_in text) (each_plain first count (ops_in text) c.is_plain.ensures) x
    (subst (λ (ops : List Op). Contains (locals_of ops) x) c.in-Some.ensures.body among))
