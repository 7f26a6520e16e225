use Rattle.std.proofs.Common.{ℕ, subst, sym}
use Rattle.walrus_base.specs.Operators.{locals_of}
use Rattle.walrus_bodies.specs.Text.{ops_in}
use Rattle.walrus_functions.specs.Marked.{AreMarked}
use Rattle.walrus_functions.proofs.AmongLemmas.{flags_tell}
use Rattle.walrus_functions.proofs.code.text_uses.Goals as goal

pub returns : goal.returns
returns c =
    let places = locals_of (ops_in c.args.text.now) in
    let all = subst (λ (first : ℕ). AreMarked first c.args.used.now places) (sym c.first_local.ensures) c.requires.marked in
    flags_tell (λ uses. uses.items) c.which_marked.result c.first_local.result c.args.used.now places c.args.ids.now all c.which_marked.ensures
