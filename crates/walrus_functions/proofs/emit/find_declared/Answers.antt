use Rattle.std.proofs.Common.{ℕ, List, subst}
use Rattle.walrus_base.specs.Operators.{locals_of}
use Rattle.walrus_bodies.specs.Function.{body_of, args_of}
use Rattle.walrus_functions.specs.Declaring.{HasPlaces}
use Rattle.walrus_functions.proofs.emit.find_declared.Goals as goal

pub order_declared-requires-clause-distinct : goal.order_declared-requires-clause-distinct
order_declared-requires-clause-distinct c = c.requires.named.distinct

pub order_declared-requires-clause-rising : goal.order_declared-requires-clause-rising
order_declared-requires-clause-rising c = c.requires.named.rising

pub returns : goal.returns
returns c =
    let has = rw c.in-Some.is at c.in_ok-parameters.ensures in
    let places : HasPlaces (args_of c.args.function.now) c.in-Some.parameters = subst (λ (places : List ℕ). HasPlaces places c.in-Some.parameters) c.requires.parameters has in
    (places.distinct, c.in_ok-order_declared.ensures (locals_of (body_of c.args.function.now)) (args_of c.args.function.now) c.requires.named places.are)
