use Rattle.std.proofs.Common.{◌≡◌, ◌++◌, drop, map}
use Rattle.walrus_base.specs.Id.{place}
use Rattle.walrus_base.specs.Operators.{function_item}
use Rattle.walrus_contents.specs.Named.{items_in}
use Rattle.walrus_contents.proofs.initialisers.push_function_ids.Given as goal

-- what was put so far and what is left to put are the whole
abbrev pub invariant-loop-id : goal.invariant-loop-id
invariant-loop-id l = items_in l.to ++ map function_item (map place (drop l.id-index l.ids)) ≡ items_in l.fn.to ++ map function_item (map place l.ids)
