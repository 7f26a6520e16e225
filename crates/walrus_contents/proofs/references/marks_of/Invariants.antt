use Rattle.std.proofs.Common.{◌≡◌, ◌<◌, ◌||◌, ℕ, drop, map, true}
use Rattle.walrus_base.specs.Id.{place}
use Rattle.walrus_base.specs.Marks.{is_marked, mark_places}
use Rattle.walrus_base.specs.PlaceList.{has}
use Rattle.walrus_contents.proofs.references.marks_of.Given as goal

-- what is left has marks, and each id is marked or left
abbrev pub invariant-ids : goal.invariant-ids
invariant-ids l =
    ((f : ℕ) → has (map place (drop l.id-index l.ids)) f ≡ true → f < mark_places l.marks)
    × ((f : ℕ) → (has (map place (drop l.id-index l.ids)) f || is_marked l.marks f) ≡ has (map place l.ids) f)
