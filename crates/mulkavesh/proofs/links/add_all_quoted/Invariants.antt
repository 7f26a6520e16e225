use Rattle.std.proofs.Common.{◌≡◌, ◌++◌, codes, map, take}
use Rattle.std.specs.Prelude.{string_bytes}
use Rattle.mulkavesh.specs.Json.{separated}
use Rattle.mulkavesh.specs.Links.{quoted}
use Rattle.mulkavesh.proofs.links.add_all_quoted.Given as goal

-- the texts of the names before
abbrev pub invariant-names : goal.invariant-names
invariant-names l = l.to.items ≡ l.fn.to.items ++ separated (codes ", ") (map quoted (map string_bytes (take l.place l.names)))
