use Rattle.std.proofs.Common.{◌≡◌, ◌++◌, codes, map, take}
use Rattle.std.specs.Prelude.{string_bytes}
use Rattle.mulkavesh.specs.Json.{separated, string_json}
use Rattle.mulkavesh.proofs.links.add_strings.Given as goal

-- the texts of the names before
abbrev pub invariant-names : goal.invariant-names
invariant-names l = l.to.items ≡ l.fn.to.items ++ separated (codes ",") (map string_json (map string_bytes (take l.place l.names)))
