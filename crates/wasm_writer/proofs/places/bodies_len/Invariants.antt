use Rattle.std.proofs.Common.{◌≡◌, ◌<◌, ◌^◌, length, take}
use Rattle.wasm_forms.specs.Writing.{EachFits}
use Rattle.wasm_forms.specs.Spelling.{row_bytes}
use Rattle.wasm_writer.proofs.Ranges.{spelled_body, BodyFits}
use Rattle.wasm_writer.proofs.places.bodies_len.Given as goal

abbrev pub invariant-bodies : goal.invariant-bodies
invariant-bodies l = record {
  counted : l.total ≡ length (row_bytes spelled_body (take l.body-index l.bodies));
  small : l.total < 2 ^ 32;
  fit : EachFits BodyFits (take l.body-index l.bodies);
}
