use Rattle.std.proofs.Common.{◌-◌, map, subst, arith}
use Rattle.std.specs.List.{range_with_len}
use Rattle.walrus_base.specs.Locals.{locals}
use Rattle.walrus_code.specs.Indices.{index_of}
use Rattle.walrus_bodies.specs.Declarations.{declarations_of}
use Rattle.walrus_functions.specs.Declaring.{group_of, Declares}
use Rattle.walrus_functions.specs.EmittedBody.{types_of}
use Rattle.walrus_functions.specs.Held.{held_at}
use Rattle.walrus_functions.proofs.FitLemmas.{declares_locals}
use Rattle.walrus_functions.proofs.InPlaceLemmas.{all_there}
use Rattle.walrus_functions.proofs.groups.declare_from.Goals as goal

pub returns : goal.returns
returns c =
    let names = index_of c.args.indices.now in
    let slots = types_of (locals c.args.module_locals.now) in
    let first = c.args.first in
    let count = c.args.end - c.args.first in
    let groups = map group_of c.in_ok-groups.groups.items in
    declares_locals names slots (range_with_len first count) (map (held_at slots) (range_with_len first count)) groups (λ x. declarations_of x.items) c.declarations.result
    (all_there slots first count (λ x from low. c.requires.there x from (omega (arith, from, low))))
    c.in_ok-groups.ensures
    (subst (λ gs. Declares names (map group_of gs) (λ x. declarations_of x.items) c.declarations.result) c.as_slice.ensures.value c.declarations.ensures)
