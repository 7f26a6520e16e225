use Rattle.std.proofs.Common.{map, take}
use Rattle.wasm_frames.specs.Pieces.{piece_record}
use Rattle.walrus_sections.specs.Choice.{choices_seen}
use Rattle.walrus_sections.specs.StripAnswers.{AreLeft}
use Rattle.walrus_sections.proofs.tool.strip.what_is_left.Given as goal

-- what is left of those before
abbrev pub invariant-loop-piece : goal.invariant-loop-piece
invariant-loop-piece l = AreLeft (choices_seen l.choices) (map piece_record (take l.piece-index l.pieces)) l.output.items
