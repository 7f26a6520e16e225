use Rattle.std.proofs.Common.{◌≡◌, ◌++◌, map, drop}
use Rattle.walrus_base.specs.Id.{place}
use Rattle.walrus_functions.specs.Marked.{is_marked}
use Rattle.walrus_functions.proofs.marks.which_marked.Given as goal

-- what is told of the locals so far, and of those that are left
abbrev pub invariant-ids : goal.invariant-ids
invariant-ids l = l.used.items ++ map (λ id. is_marked l.first l.marks (place id)) (drop l.id-index l.ids) ≡ map (λ id. is_marked l.first l.marks (place id)) l.ids
