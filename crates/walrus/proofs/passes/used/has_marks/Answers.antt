use Rattle.std.proofs.Common.{sym, ◌∙◌}
use Rattle.walrus_base.specs.Marks.{marks_left}
use Rattle.walrus.proofs.Marking.{any_marked}
use Rattle.walrus.proofs.passes.used.has_marks.Goals as goal

pub returns : goal.returns
returns g c =
    let told = any_marked c.args.marks.now c.next.result (marks_left c.iter.result) (marks_left c.next.new.self) c.iter.ensures c.next.ensures.steps in
    (λ h. told.0 (sym c.is_some.ensures ∙ h), λ h. c.is_some.ensures ∙ told.1 h)
