use Rattle.std.proofs.Common.{◌≡◌, ◌-◌}
use Rattle.wasm_payloads.specs.Steps.{times_at, function_at}
use Rattle.wasm_payloads.proofs.Handing.{Progress}
use Rattle.wasm_payloads.proofs.names.tell_locals.Given as goal

abbrev pub invariant-functions : goal.invariant-functions
invariant-functions g l =
    let t = function_at (g.S.NameSink.known l.initial.sink) in
    record {
      progress : Progress g.S.NameSink.seen g.S.NameSink.after l.initial.sink l.sink (times_at t l.count l.initial.rest) (times_at t (l.count - l._taken) l.rest);
      same : g.S.NameSink.known l.sink ≡ g.S.NameSink.known l.initial.sink;
    }
