use Rattle.wasm_frames.specs.Record.{sections}
use Rattle.walrus_reading.proofs.FirstUnread.{all_read}
use Rattle.walrus_reading.proofs.NarrowRules.{narrow_rules}
use Rattle.walrus_reading.proofs.Rooms.{fits_indices}
use Rattle.walrus_reading.proofs.unread.unread_body.Goals as goal

pub read_functions-requires-clause-rules : goal.read_functions-requires-clause-rules
read_functions-requires-clause-rules c = narrow_rules (sections c.args.raw.now) c.requires.rules

pub read_functions-requires-clause-room : goal.read_functions-requires-clause-room
read_functions-requires-clause-room c = fits_indices c.requires.framed.0 (sections c.args.raw.now) c.requires.framed.1 c.requires.rules.in_order c.in-Ok.ensures

pub returns-in-Ok-read_functions : goal.returns-in-Ok-read_functions
returns-in-Ok-read_functions c = all_read c.args.features.now (sections c.args.raw.now) _ _ c.requires.rules.as_many_bodies c.in-Ok-read_functions.ensures.taken
