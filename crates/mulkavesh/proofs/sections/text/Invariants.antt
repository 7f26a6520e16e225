use Rattle.std.proofs.Common.{◌≡◌, flat_map, map, take}
use Rattle.walrus_sections.specs.Sections.{piece_record}
use Rattle.mulkavesh.specs.Sections.{section_line}
use Rattle.mulkavesh.proofs.sections.text.Given as goal

-- the lines of the sections before
abbrev pub invariant-loop-piece : goal.invariant-loop-piece
invariant-loop-piece l = l.text.items ≡ flat_map section_line (map piece_record (take l.piece-index l.pieces))
