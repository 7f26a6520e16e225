use Rattle.std.proofs.Common.{◌≡◌, flat_map, map, take}
use Rattle.walrus_sections.specs.PartList.{part_record}
use Rattle.mulkavesh.specs.Sections.{part_line}
use Rattle.mulkavesh.proofs.parts.text.Given as goal

-- the lines of the parts before
abbrev pub invariant-loop-part : goal.invariant-loop-part
invariant-loop-part l = l.text.items ≡ flat_map part_line (map part_record (take l.part-index l.parts))
