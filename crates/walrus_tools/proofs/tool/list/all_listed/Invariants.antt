use Rattle.std.proofs.Common.{◌≡◌, map, take}
use Rattle.walrus.specs.Items.Functions.{functions}
use Rattle.walrus.specs.Items.Transform.{range_of}
use Rattle.walrus_tools.specs.FunctionList.{listed_of, listed_seen, names_in}
use Rattle.walrus_tools.proofs.tool.list.all_listed.Given as goal

-- the functions with the bodies before
abbrev pub invariant-loop-body : goal.invariant-loop-body
invariant-loop-body l = map listed_seen l.list.items ≡ map (listed_of (names_in (functions l.all))) (map range_of (take l.body-index l.bodies))
