use Rattle.std.proofs.Common.{Bool, List, [], ℕ, map, refl, subst, sym}
use Rattle.walrus_base.specs.Id.{place}
use Rattle.walrus_base.specs.Operators.{locals_of}
use Rattle.walrus_code.specs.Code.{ops_of}
use Rattle.walrus_functions.specs.Declaring.{AreOnce}
use Rattle.walrus_functions.specs.Marked.{AreMarked}
use Rattle.walrus_functions.proofs.MarkLemmas.{taken_once}
use Rattle.walrus_functions.proofs.declared.named_once.Goals as goal

pub returns-then-mark_named : goal.returns-then-mark_named
returns-then-mark_named c =
    let first = c.named_window-first.result.0 in
    let places = locals_of (ops_of c.args.operators.now) in
    let all = subst (λ (marks : List Bool). AreMarked first marks places) (sym c.as_slice.ensures.value) (c.if-mark_named.ensures.marks refl [] (c.in_ok-marks.ensures.none first)) in
    taken_once (λ named. map place named.items) c.marked_locals.result first c.as_slice.result.now places all c.marked_locals.ensures

pub returns : goal.returns
returns c = subst (λ (xs : List ℕ). AreOnce xs (map place c.take_once.new.named.items)) c.in_ok-named.ensures c.take_once.ensures
