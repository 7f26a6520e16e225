use Rattle.std.proofs.Common.{◌≡◌, ◌++◌, drop, map}
use Rattle.walrus_base.specs.Id.{place}
use Rattle.walrus_contents.proofs.references.push_ids.Given as goal

-- what was put so far and what is left to put are the whole
abbrev pub invariant-loop-id : goal.invariant-loop-id
invariant-loop-id l = map place l.to.items ++ map place (drop l.id-index l.ids) ≡ map place l.fn.to.items ++ map place l.ids
