use Rattle.std.proofs.Common.{List, ℕ, ◌++◌, map, ap, ◌∙◌}
use Rattle.mulkavesh.specs.Notes.{kind_part, vec_bytes}
use Rattle.mulkavesh.proofs.RowLists.{seven_behind}
use Rattle.mulkavesh.proofs.notes.add_item_parts.Goals as goal

pub returns : goal.returns
returns c =
    let told = c.args.told in
    let before : List (List ℕ) = map vec_bytes c.args.to.now.items in
    let word = c.deref.ensures.value ∙ c.in_ok-functions.ensures in
    let first = c.in_ok-add_kind_part.ensures ∙ ap (λ (w : List ℕ). before ++ kind_part w told.before.functions told.after.functions) word in
    seven_behind _ _ _ _ _ _ _ _ _ _ _ _ _ _ _ first c.in_ok-add_kind_part-2.ensures c.in_ok-add_kind_part-3.ensures c.in_ok-add_kind_part-4.ensures
    c.in_ok-add_kind_part-5.ensures c.in_ok-add_kind_part-6.ensures c.in_ok-add_kind_part-7.ensures
