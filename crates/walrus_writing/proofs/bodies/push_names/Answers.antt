use Rattle.std.proofs.Common.{length, ap, arith}
use Rattle.walrus_writing.proofs.bodies.push_names.Goals as goal

pub push_local_names-requires-clause-few : goal.push_local_names-requires-clause-few
push_local_names-requires-clause-few c =
    let few = c.requires.few c.if-not-chosen.false in
    let all = ap length c.as_slice-order.ensures.value in
    omega (arith, few, all)

pub push_local_names-requires-clause-as_many : goal.push_local_names-requires-clause-as_many
push_local_names-requires-clause-as_many c =
    let as_many = c.requires.as_many c.if-not-chosen.false in
    let all = ap length c.as_slice-order.ensures.value in
    let flags = ap length c.as_slice-used.ensures.value in
    omega (arith, as_many, all, flags)

pub returns-clause-stays : goal.returns-clause-stays
returns-clause-stays c = λ none. let asked = c.if-not-chosen.false in absurd cc
