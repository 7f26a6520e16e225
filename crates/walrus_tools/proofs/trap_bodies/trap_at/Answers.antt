use Rattle.std.proofs.Common.{sym, ◌∙◌}
use Rattle.walrus.specs.Base.Id.{place}
use Rattle.walrus.specs.Base.Marks.{is_marked}
use Rattle.walrus_tools.proofs.TrapTurn.{trap_put}
use Rattle.walrus_tools.proofs.trap_bodies.trap_at.Goals as goal

pub returns : goal.returns
returns c =
    trap_put c.args.all.now.arena.places.items (place c.args.at) c.get_mut.result.now c.trap_kind.new.kind (is_marked c.args.marks.now (place c.args.at)) (sym c.is_marked.ensures ∙ c.if-not-is_marked.false)
    c.get_mut.ensures.value c.in_ok-trap_kind.ensures
