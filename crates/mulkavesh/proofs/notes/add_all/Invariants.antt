use Rattle.std.proofs.Common.{◌≡◌, ◌++◌, codes, map, take}
use Rattle.mulkavesh.specs.Json.{separated}
use Rattle.mulkavesh.specs.Notes.{vec_bytes}
use Rattle.mulkavesh.proofs.notes.add_all.Given as goal

-- the parts before
abbrev pub invariant-parts : goal.invariant-parts
invariant-parts l = l.to.items ≡ l.fn.to.items ++ separated (codes ", ") (map vec_bytes (take l.place l.parts))
