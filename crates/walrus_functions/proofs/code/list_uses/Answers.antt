use Rattle.std.proofs.Common.{Bool, List, [], map, refl, subst, sym}
use Rattle.walrus_base.specs.Id.{place}
use Rattle.walrus_base.specs.Operators.{locals_of}
use Rattle.walrus_bodies.specs.Function.{listed_in}
use Rattle.walrus_functions.specs.Marked.{AreMarked}
use Rattle.walrus_functions.proofs.AmongLemmas.{flags_tell, once_tell}
use Rattle.walrus_functions.proofs.code.list_uses.Goals as goal

pub returns-then-mark_ids : goal.returns-then-mark_ids
returns-then-mark_ids c =
    let first = c.window_of-first.result.0 in
    let places = map place c.args.named.now in
    let all = subst (λ (marks : List Bool). AreMarked first marks places) (sym c.as_slice.ensures.value) (c.if-mark_ids.ensures.marks refl [] (c.in_ok-marks.ensures.none first)) in
    once_tell (λ uses. uses.items) c.which_marked.result (locals_of (listed_in c.args.operators.now)) places c.args.ids.now c.requires
    (flags_tell (λ uses. uses.items) c.which_marked.result first c.as_slice.result.now places c.args.ids.now all c.which_marked.ensures)

pub returns : goal.returns
returns c = once_tell (λ uses. uses.items) c.which_named.result (locals_of (listed_in c.args.operators.now)) (map place c.args.named.now) c.args.ids.now c.requires c.which_named.ensures
