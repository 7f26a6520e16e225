use Rattle.std.proofs.Common.{ℕ, map, subst, sym}
use Rattle.walrus_base.specs.Id.{place}
use Rattle.walrus_base.specs.Operators.{locals_of}
use Rattle.walrus_bodies.specs.Text.{ops_in}
use Rattle.walrus_functions.specs.Marked.{AreMarked}
use Rattle.walrus_functions.proofs.MarkLemmas.{taken_once}
use Rattle.walrus_functions.proofs.code.text_locals.Goals as goal

pub returns : goal.returns
returns c =
    let places = locals_of (ops_in c.args.text.now) in
    let all = subst (λ (first : ℕ). AreMarked first c.args.used.now places) (sym c.first_local.ensures) c.requires.marked in
    taken_once (λ named. map place named.items) c.marked_locals.result c.first_local.result c.args.used.now places all c.marked_locals.ensures
