use Rattle.std.proofs.Common.{ap, sym, ◌∙◌}
use Rattle.std.proofs.lemmas.Result.{err_from_is_err_and}
use Rattle.walrus.specs.Base.Marks.{is_marked}
use Rattle.walrus_tools.proofs.MatchingEnds.{hit_next}
use Rattle.walrus_tools.proofs.StubCall.{passes}
use Rattle.walrus_tools.proofs.tool.stub_matching.trap_hit.Goals as goal

pub returns-then-not-is_marked : goal.returns-then-not-is_marked
returns-then-not-is_marked g c =
    λ config begun whole bring some. passes config (is_marked c.args.marks.now) c.args.at begun c.args.module.now c.args.module.now whole some
    (ap (is_marked c.args.marks.now) (sym c.at-found.ensures) ∙ sym c.is_marked.ensures ∙ c.if-not-is_marked.true)

pub returns-in_err-trap_import : goal.returns-in_err-trap_import
returns-in_err-trap_import g c =
    let p = err_from_is_err_and c.from_residual.result c.from_residual.ensures.1 in
    rw (p.1, p.2) (λ config begun whole bring some. hit_next config (is_marked c.args.marks.now) c.args.at begun c.args.module.now _ whole bring some
    (ap (is_marked c.args.marks.now) (sym c.at-found.ensures) ∙ sym c.is_marked.ensures ∙ c.if-not-is_marked.false) c.at-found.result c.at-found.ensures _ c.in_err-trap_import.ensures)

pub returns : goal.returns
returns g c =
    λ config begun whole bring some. hit_next config (is_marked c.args.marks.now) c.args.at begun c.args.module.now _ whole bring some
    (ap (is_marked c.args.marks.now) (sym c.at-found.ensures) ∙ sym c.is_marked.ensures ∙ c.if-not-is_marked.false) c.at-found.result c.at-found.ensures _ c.in_ok-trap_import.ensures
