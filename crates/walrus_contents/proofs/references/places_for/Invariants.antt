use Rattle.std.proofs.Common.{drop, map}
use Rattle.walrus_base.specs.Id.{place}
use Rattle.walrus_contents.proofs.ExportedRefs.{Bounds}
use Rattle.walrus_contents.proofs.references.places_for.Given as goal

-- the places that aren't left are below
abbrev pub invariant-ids : goal.invariant-ids
invariant-ids l = Bounds (map place l.ids) (map place (drop l.id-index l.ids)) l.places
