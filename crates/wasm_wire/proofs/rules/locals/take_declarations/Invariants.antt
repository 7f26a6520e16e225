use Rattle.std.proofs.Common.{◌≡◌, ◌-◌, ◌<◌, ◌^◌}
use Rattle.wasm_wire.specs.Locals.{totals_at}
use Rattle.wasm_wire.proofs.rules.locals.take_declarations.Given as goal

abbrev pub invariant-declarations : goal.invariant-declarations
invariant-declarations l = record {
  same : totals_at l.count 0 l.bytes ≡ totals_at (l.count - l._taken) l.total l.rest;
  small : l.total < 2 ^ 33;
}
