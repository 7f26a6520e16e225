use Rattle.std.proofs.Common.{Bool, Some, ℕ, ap, slice_set, ◌∙◌, ◌+◌, ◌≡◌, arith}
use Rattle.std.specs.Prelude.{option_map}
use Rattle.std.proofs.lemmas.List.{map-set}
use Rattle.walrus_base.specs.Id.{place}
use Rattle.walrus_items.specs.Tables.{TableValue, tables, table_value}
use Rattle.walrus_reading.specs.Kept.{table_keeping}
use Rattle.walrus_reading.proofs.KeptSegments.{added_ids, table_stays, set_kept}
use Rattle.walrus_reading.proofs.elements.keep.Goals as goal

pub returns-clause-kept : goal.returns-clause-kept
returns-clause-kept c =
    let slots = c.args.all.now.arena.places.items in
    let at : ℕ = place c.args.table in
    let d : ℕ = place c.args.segment in
    let v : TableValue = table_value c.get_mut.result.now in
    map-set (option_map table_value) slots at _
    ∙ ap (λ (s : ℕ → Bool). slice_set (tables c.args.all.now) at (Some (record v { segments = s }))) (added_ids c.get_mut.result.now.elem_segments c.insert.new.self d c.in_ok-insert.ensures.1)
    ∙ set_kept table_keeping table_stays at d 0 at (tables c.args.all.now) v (let e : at ≡ 0 + at = omega arith in e) c.get_mut.ensures.value
