use Rattle.std.proofs.Common.{List, map, subst}
use Rattle.std.specs.Prelude.{All}
use Rattle.wasm_frames.specs.declared.record.RawBody.{RawBody}
use Rattle.wasm_frames.specs.Record.{body_record}
use Rattle.wasm_wire.specs.Rules.{LocalsHold, Checks}
use Rattle.wasm_wire.proofs.rules.locals.check_all_locals.Goals as goal

pub returns : goal.returns
returns c =
    subst (λ (bs : List RawBody). Checks c.check_all.result (All LocalsHold (map body_record bs))) c.deref.ensures.value c.check_all.ensures.viewed
