use Rattle.std.proofs.Common.{◌≡◌, ◌++◌, map}
use Rattle.walrus_base.specs.Id.{place}
use Rattle.walrus_base.specs.TypeDef.{places_between}
use Rattle.walrus_base.proofs.module_types.ModuleTypes.next_ids.Given as goal

abbrev pub invariant-loop-place : goal.invariant-loop-place
invariant-loop-place l = map (λ id. place id) l.ids.items ++ places_between l.place l.end ≡ places_between l.first l.end
