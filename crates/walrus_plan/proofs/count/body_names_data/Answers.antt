use Rattle.std.proofs.Common.{sym, ap, ◌∙◌}
use Rattle.std.specs.List.{list_any}
use Rattle.walrus_model.specs.Text.{first_local_of, local_count_of, ops_in}
use Rattle.walrus_contents.proofs.PlainBodies.{each_plain}
use Rattle.walrus_plan.specs.Count.{op_names_data}
use Rattle.walrus_plan.proofs.PlainData.{names_none}
use Rattle.walrus_plan.proofs.count.body_names_data.Goals as goal

pub returns-in-Some : goal.returns-in-Some
returns-in-Some c =
    let text = c.in-Some.text.now in
    let first = first_local_of text in
    let count = local_count_of text in
    sym (ap (list_any op_names_data) c.in-Some.ensures.body ∙ names_none first count (ops_in text) (each_plain first count (ops_in text) c.is_plain.ensures))
