use Rattle.std.proofs.Common.{◌≡◌, ◌++◌, map, drop}
use Rattle.walrus_base.specs.Id.{place}
use Rattle.walrus_functions.proofs.declared.ids_of.Given as goal

-- the locals so far, and those of the keys that are left
abbrev pub invariant-loop-local : goal.invariant-loop-local
invariant-loop-local l = map place l.ids.items ++ map (λ key. key.2) (drop l.local-index l.keys) ≡ map (λ key. key.2) l.keys
