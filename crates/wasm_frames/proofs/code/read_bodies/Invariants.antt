-- The bodies so far, and behind them those that are left, are those that stand there.
use Rattle.std.proofs.Common.{◌≡◌, ◌+◌, ◌-◌, ◌≤◌, ◌++◌, length, map, Some}
use Rattle.wasm_forms.specs.Reading.{◌>>=◌}
use Rattle.wasm_frames.specs.Record.{body_record}
use Rattle.wasm_frames.specs.Steps.{bodies_at, code_at}
use Rattle.wasm_frames.proofs.code.read_bodies.Given as goal

abbrev pub invariant-loop-index : goal.invariant-loop-index
invariant-loop-index l = record {
  within : length l.rest ≤ length l.bytes;
  left : (bodies_at (l.count - l._index) (l.place + (length l.bytes - length l.rest)) l.rest >>= λ x. Some (map body_record l.bodies.items ++ x.0, x.1)) ≡ code_at l.place l.bytes;
}
