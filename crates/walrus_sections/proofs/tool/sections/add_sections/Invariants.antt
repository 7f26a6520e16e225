use Rattle.std.proofs.Common.{◌≡◌, ◌++◌, flat_map, map, take}
use Rattle.wasm_frames.specs.Pieces.{piece_record}
use Rattle.walrus_sections.specs.Sections.{IsLongSection, section_bytes}
use Rattle.walrus_sections.proofs.ToldRows.{NoneLong}
use Rattle.walrus_sections.proofs.tool.sections.add_sections.Given as goal

-- behind the bytes stand the sections before, none of them too long
abbrev pub invariant-loop-piece : goal.invariant-loop-piece
invariant-loop-piece l = (l.to.items ≡ l.initial.to.items ++ flat_map section_bytes (map piece_record (take l.piece-index l.pieces))) × NoneLong piece_record IsLongSection (take l.piece-index l.pieces)
