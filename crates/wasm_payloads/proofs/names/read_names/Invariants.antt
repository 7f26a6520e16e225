-- The sink took the front of what as many subsections as there are bytes tell, and what is left is told by the rest.
use Rattle.std.proofs.Common.{◌≡◌, ◌≤◌, ℕ, length}
use Rattle.wasm_payloads.specs.Steps.{times_at, subsection_at}
use Rattle.wasm_payloads.proofs.Handing.{Progress}
use Rattle.wasm_payloads.proofs.names.read_names.Given as goal

abbrev pub invariant-loop-rest : goal.invariant-loop-rest
invariant-loop-rest g l = record {
  most : ℕ;
  enough : length l.rest ≤ most;
  progress : Progress g.S.NameSink.seen g.S.NameSink.after l.initial.sink l.sink (times_at (subsection_at (g.S.NameSink.known l.initial.sink)) (length l.bytes) l.bytes) (times_at (subsection_at (g.S.NameSink.known l.initial.sink)) most l.rest);
  same : g.S.NameSink.known l.sink ≡ g.S.NameSink.known l.initial.sink;
}

abbrev pub decreases-loop-rest : goal.decreases-loop-rest
decreases-loop-rest g l = length l.rest
