use Rattle.std.proofs.lemmas.Result.{err_from_is_err_and}
use Rattle.wasm_payloads.specs.Steps.{owned, entry_at}
use Rattle.wasm_payloads.proofs.Found.{entry_found}
use Rattle.wasm_payloads.proofs.Handing.{lone_refused}
use Rattle.wasm_payloads.proofs.names.tell_entry.Goals as goal

pub returns-in_err-naming-clause-hands : goal.returns-in_err-naming-clause-hands
returns-in_err-naming-clause-hands g c =
    let p = err_from_is_err_and c.from_residual.result c.from_residual.ensures.1 in
    let e = entry_found (owned c.args.owner) c.args.bytes.now c.in-Some.rest.now c.in-Some.name.now c.in-Some.index c.in-Some.ensures in
    rw (p.1, p.2) (lone_refused g.S.NameSink.seen g.S.NameSink.after g.S.NameSink.refuses c.args.sink.now c.naming.new.self c.in_err-naming.field-0.0 _ _ (entry_at (owned c.args.owner) c.args.bytes.now) c.in-Some.rest.now e c.owned_naming.ensures c.in_err-naming.ensures.same_seen c.in_err-naming.ensures.refused)
