use Rattle.std.proofs.Common.{◌≡◌, ◌-◌}
use Rattle.wasm_payloads.specs.Steps.{times_at, owned, entry_at}
use Rattle.wasm_payloads.proofs.Handing.{Progress}
use Rattle.wasm_payloads.proofs.names.tell_map.Given as goal

abbrev pub invariant-entries : goal.invariant-entries
invariant-entries g l =
    let t = entry_at (owned l.owner) in
    record {
      progress : Progress g.S.NameSink.seen g.S.NameSink.after l.initial.sink l.sink (times_at t l.count l.initial.rest) (times_at t (l.count - l._taken) l.rest);
      same : g.S.NameSink.known l.sink ≡ g.S.NameSink.known l.initial.sink;
    }
