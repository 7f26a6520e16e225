use Rattle.wasm_frames.proofs.PieceRows.{one_row_lem, one_stop_lem, cut_short, holds_all, module_has_pieces}
use Rattle.wasm_frames.proofs.pieces.one_row.Goals as goal

pub returns-clause-once : goal.returns-clause-once
returns-clause-once c = one_row_lem

pub returns-clause-one_stop : goal.returns-clause-one_stop
returns-clause-one_stop c = one_stop_lem

pub returns-clause-apart : goal.returns-clause-apart
returns-clause-apart c = cut_short

pub returns-clause-all : goal.returns-clause-all
returns-clause-all c = holds_all

pub returns-clause-of_modules : goal.returns-clause-of_modules
returns-clause-of_modules c = module_has_pieces
