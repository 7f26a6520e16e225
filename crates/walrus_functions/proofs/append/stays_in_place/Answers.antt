use Rattle.walrus_base.specs.Locals.{locals}
use Rattle.walrus_base.specs.Operators.{locals_of}
use Rattle.walrus_bodies.specs.Function.{arg_count_of}
use Rattle.walrus_bodies.specs.Text.{first_local_of, local_count_of, ops_in}
use Rattle.walrus_functions.specs.EmittedBody.{types_of}
use Rattle.walrus_functions.proofs.InPlaceLemmas.{named_stay_as}
use Rattle.walrus_functions.proofs.append.stays_in_place.Goals as goal

pub returns-clause-kept : goal.returns-clause-kept
returns-clause-kept c = λ told.
    let t = c.args.text.now in
    named_stay_as (types_of (locals c.args.module_locals.now)) (locals_of (ops_in t)) (first_local_of t) (arg_count_of c.args.function.now) (local_count_of t) c.first_local-first.result c.arg_count-params.result c.local_count.result c.first_local-first.ensures c.arg_count-params.ensures c.local_count.ensures (c.are_ranked.ensures.kept told) (c.names_from.ensures c.if-not-names_from.false)
