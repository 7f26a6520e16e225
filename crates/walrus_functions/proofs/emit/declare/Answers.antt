use Rattle.std.proofs.Common.{map, subst}
use Rattle.walrus_base.specs.Id.{place}
use Rattle.walrus_base.specs.Locals.{locals}
use Rattle.walrus_code.specs.Indices.{index_of}
use Rattle.walrus_bodies.specs.Declarations.{declarations_of}
use Rattle.walrus_functions.specs.Declaring.{group_of, Declares}
use Rattle.walrus_functions.specs.EmittedBody.{types_of}
use Rattle.walrus_functions.specs.Held.{held_at}
use Rattle.walrus_functions.proofs.FitLemmas.{all_held, declares_locals}
use Rattle.walrus_functions.proofs.emit.declare.Goals as goal

pub returns : goal.returns
returns c =
    let names = index_of c.args.indices.now in
    let slots = types_of (locals c.args.module_locals.now) in
    let groups = map group_of c.in_ok-groups.groups.items in
    declares_locals names slots (map place c.args.declared.now) (map (λ id. held_at slots (place id)) c.args.declared.now) groups (λ x. declarations_of x.items) c.declarations.result
    (all_held place slots c.args.declared.now c.requires.there)
    c.in_ok-groups.ensures
    (subst (λ gs. Declares names (map group_of gs) (λ x. declarations_of x.items) c.declarations.result) c.as_slice.ensures.value c.declarations.ensures)
