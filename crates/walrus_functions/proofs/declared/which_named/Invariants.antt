use Rattle.std.proofs.Common.{◌≡◌, ◌++◌, map, drop, nat_eq}
use Rattle.std.specs.List.{list_any}
use Rattle.walrus_base.specs.Id.{place}
use Rattle.walrus_functions.proofs.declared.which_named.Given as goal

-- what is told of the locals so far, and of those that are left
abbrev pub invariant-loop-id : goal.invariant-loop-id
invariant-loop-id l = l.used.items ++ map (λ id. list_any (nat_eq (place id)) (map place l.named)) (drop l.id-index l.ids) ≡ map (λ id. list_any (nat_eq (place id)) (map place l.named)) l.ids
