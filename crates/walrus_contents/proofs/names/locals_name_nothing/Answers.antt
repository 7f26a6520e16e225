use Rattle.std.proofs.Common.{◌≡◌, [], arith, refl}
use Rattle.std.specs.Prelude.{IsSome}
use Rattle.walrus_contents.specs.Named.{local_type_names, type_at}
use Rattle.walrus_contents.proofs.PlainBodies.{one_more}
use Rattle.walrus_contents.proofs.names.locals_name_nothing.Goals as goal

pub locals-preserved : goal.locals-preserved
locals-preserved c =
    one_more (λ x. IsSome (type_at c.args.locals.now x) × (local_type_names c.args.locals.now x ≡ [])) c.args.first c.locals.offset _ c.locals.invariant c.at.ensures (c.if-not-local_names_nothing.ensures refl)

pub returns : goal.returns
returns c is x low high =
    let past = c.locals-test.false in
    c.locals.invariant x low (omega (arith, past, high))
