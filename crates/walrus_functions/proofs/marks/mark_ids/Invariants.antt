use Rattle.std.proofs.Common.{◌≡◌, ℕ, [], ◌∷◌, flat_map, length, map, take}
use Rattle.walrus_base.specs.Id.{place}
use Rattle.walrus_functions.specs.Marked.{Marks}
use Rattle.walrus_functions.proofs.marks.mark_ids.Given as goal

-- the locals so far are marked
abbrev pub invariant-ids : goal.invariant-ids
invariant-ids l = record {
  so_far : Marks l.first l.initial.marks.items l.marks.items (flat_map (λ (p : ℕ). p ∷ []) (map place (take l.id-index l.ids)));
  span : length l.marks.items ≡ length l.initial.marks.items;
}
