use Rattle.std.proofs.Common.{◌≡◌, ◌++◌, flat_map, map, take}
use Rattle.walrus_sections.specs.PartList.{IsLongPart, part_bytes, part_record}
use Rattle.walrus_sections.proofs.ToldRows.{NoneLong}
use Rattle.walrus_sections.proofs.tool.section_parts.add_parts.Given as goal

-- behind the bytes stand the parts before, none of them too long
abbrev pub invariant-loop-part : goal.invariant-loop-part
invariant-loop-part l = (l.to.items ≡ l.initial.to.items ++ flat_map part_bytes (map part_record (take l.part-index l.parts))) × NoneLong part_record IsLongPart (take l.part-index l.parts)
