use Rattle.std.proofs.Common.{arith}
use Rattle.wasm_frames.specs.Record.{body_record}
use Rattle.wasm_wire.proofs.Totals.{too_many, few_enough, refused_there}
use Rattle.wasm_wire.proofs.rules.locals.check_locals.Goals as goal

pub returns-then-declared-gt50000 : goal.returns-then-declared-gt50000
returns-then-declared-gt50000 c = too_many (body_record c.args.body.now) c.in-Ok.declared c.in-Ok.ensures (omega arith)

pub returns-else-declared-gt50000 : goal.returns-else-declared-gt50000
returns-else-declared-gt50000 c = few_enough (body_record c.args.body.now) c.in-Ok.declared c.in-Ok.ensures (omega arith)

pub returns-in-Err-Malformed : goal.returns-in-Err-Malformed
returns-in-Err-Malformed c = refused_there (body_record c.args.body.now) c.in-Err-Malformed.field-0 c.in-Err-Malformed.field-0-is c.in-Err-Malformed.ensures
