use Rattle.std.proofs.Common.{◌≡◌, ◌++◌, drop, map}
use Rattle.walrus_base.specs.Id.{place}
use Rattle.walrus_base.specs.Operators.{type_item}
use Rattle.walrus_contents.specs.Named.{items_in}
use Rattle.walrus_contents.proofs.names.push_type_ids.Given as goal

-- what was put so far and what is left to put are the whole
abbrev pub invariant-loop-id : goal.invariant-loop-id
invariant-loop-id l = items_in l.to ++ map type_item (map place (drop l.id-index l.ids)) ≡ items_in l.fn.to ++ map type_item (map place l.ids)
