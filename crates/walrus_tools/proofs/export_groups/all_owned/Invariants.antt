use Rattle.std.proofs.Common.{◌≡◌, map, take}
use Rattle.std.specs.Prelude.{string_bytes}
use Rattle.walrus_tools.specs.LinkSteps.{texts}
use Rattle.walrus_tools.proofs.export_groups.all_owned.Given as goal

-- the names before
abbrev pub invariant-names : goal.invariant-names
invariant-names l = map string_bytes l.all.items ≡ texts (take l.name-index l.names)
