use Rattle.std.proofs.Common.{◌≡◌, ◌++◌, map}
use Rattle.walrus_base.specs.Id.{place}
use Rattle.walrus_base.specs.TypeDef.{places_between}
use Rattle.walrus_base.proofs.locals.ModuleLocals.ids.Given as goal

-- the places so far, and those that are still to come
abbrev pub invariant-loop-place : goal.invariant-loop-place
invariant-loop-place l = map (λ id. place id) l.ids.items ++ places_between l.place l.place-end ≡ places_between 0 l.place-end
