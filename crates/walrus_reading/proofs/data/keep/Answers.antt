use Rattle.std.proofs.Common.{Bool, Some, ℕ, ap, slice_set, ◌∙◌, ◌+◌, ◌≡◌, arith}
use Rattle.std.specs.Prelude.{option_map}
use Rattle.std.proofs.lemmas.List.{map-set}
use Rattle.walrus_base.specs.Id.{place}
use Rattle.walrus_items.specs.Memories.{MemoryValue, memories, memory_value}
use Rattle.walrus_reading.specs.Kept.{memory_keeping}
use Rattle.walrus_reading.proofs.KeptSegments.{added_ids, memory_stays, set_kept}
use Rattle.walrus_reading.proofs.data.keep.Goals as goal

pub returns-clause-kept : goal.returns-clause-kept
returns-clause-kept c =
    let slots = c.args.all.now.arena.places.items in
    let at : ℕ = place c.args.memory in
    let d : ℕ = place c.args.segment in
    let v : MemoryValue = memory_value c.get_mut.result.now in
    map-set (option_map memory_value) slots at _
    ∙ ap (λ (s : ℕ → Bool). slice_set (memories c.args.all.now) at (Some (record v { segments = s }))) (added_ids c.get_mut.result.now.data_segments c.insert.new.self d c.in_ok-insert.ensures.1)
    ∙ set_kept memory_keeping memory_stays at d 0 at (memories c.args.all.now) v (let e : at ≡ 0 + at = omega arith in e) c.get_mut.ensures.value
