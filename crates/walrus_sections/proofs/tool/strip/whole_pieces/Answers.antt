use Rattle.std.proofs.Common.{refl}
use Rattle.wasm_frames.proofs.PieceRows.{cut_short}
use Rattle.walrus_sections.proofs.StripLemmas.{cut_found, headless_found}
use Rattle.walrus_sections.proofs.tool.strip.whole_pieces.Goals as goal

pub returns-in-NoHeader : goal.returns-in-NoHeader
returns-in-NoHeader c = headless_found c.args.bytes.now c.in_ok-pieces.field-0 c.in-NoHeader.is c.in_ok-pieces.ensures

pub returns-in-Until : goal.returns-in-Until
returns-in-Until c = λ pieces has. cut_short c.args.bytes.now _ pieces _ (cut_found c.args.bytes.now c.in_ok-pieces.field-0 _ _ _ c.in-Until.is c.in_ok-pieces.ensures refl) has
