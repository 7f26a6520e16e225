-- The parts so far are those of the sections so far.
use Rattle.std.proofs.Common.{drop, map}
use Rattle.walrus_sections.specs.Parts.{part_record, piece_record}
use Rattle.walrus_sections.proofs.PartRows.{PartsReached}
use Rattle.walrus_sections.proofs.parts.read_parts.Given as goal

abbrev pub invariant-sections : goal.invariant-sections
invariant-sections l =
    PartsReached l.bytes l.functions l.segments (map piece_record (drop l.piece-index l.piece-items)) (map part_record l.parts.items)
