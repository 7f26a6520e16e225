use Rattle.std.proofs.Common.{◌∙◌}
use Rattle.walrus_edits.proofs.LocalSteps.{all_after}
use Rattle.walrus_edits.proofs.local_names.take_section.Goals as goal

pub returns-clause-taken : goal.returns-clause-taken
returns-clause-taken c =
    let handed = c.in_ok-read_names.ensures.handed in
    (handed.0, handed.1.0, handed.1.1 ∙ all_after _ handed.0)
