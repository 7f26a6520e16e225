use Rattle.std.proofs.Common.{◌≡◌, drop, map}
use Rattle.walrus_base.specs.Id.{place}
use Rattle.walrus_base.specs.Operators.{Functions}
use Rattle.walrus_code.specs.Indices.{ids_at}
use Rattle.walrus_groups.proofs.Loops.{behind}
use Rattle.walrus_groups.specs.Named.{each}
use Rattle.walrus_edit_list.proofs.elements.read_functions.Given as goal

-- what was found so far and what is left are what is found for all
abbrev pub invariant-functions : goal.invariant-functions
invariant-functions l = behind (map place l.found.items) (each (ids_at l.ids Functions) (drop l.number-index l.raw)) ≡ each (ids_at l.ids Functions) l.raw
