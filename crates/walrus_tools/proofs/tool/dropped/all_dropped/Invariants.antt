use Rattle.std.proofs.Common.{◌≡◌, flat_map, map, take}
use Rattle.walrus.specs.Base.IdSet.{has_id}
use Rattle.walrus.specs.Items.Functions.{functions}
use Rattle.walrus_tools.specs.DroppedList.{dropped_of}
use Rattle.walrus_tools.specs.FunctionList.{listed_seen, names_in}
use Rattle.walrus_sections.specs.Parts.{part_record}
use Rattle.walrus_tools.proofs.tool.dropped.all_dropped.Given as goal

-- what is listed of the parts before
abbrev pub invariant-parts : goal.invariant-parts
invariant-parts l = map listed_seen l.list.items ≡ flat_map (dropped_of (has_id l.stay) (names_in (functions l.all))) (map part_record (take l.part-index l.parts))
