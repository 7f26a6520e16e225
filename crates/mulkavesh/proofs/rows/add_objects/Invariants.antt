use Rattle.std.proofs.Common.{◌≡◌, ◌++◌, map, take}
use Rattle.mulkavesh.specs.Json.{separated}
use Rattle.mulkavesh.proofs.rows.add_objects.Given as goal

-- the objects of the rows before
abbrev pub invariant-rows : goal.invariant-rows
invariant-rows g l = l.to.items ≡ l.fn.to.items ++ separated l.comma (map g.T.Row.object (take l.place l.rows))
