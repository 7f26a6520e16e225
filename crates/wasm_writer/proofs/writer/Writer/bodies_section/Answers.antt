use Rattle.std.proofs.Common.{◌≡◌, length, map, arith}
use Rattle.std.proofs.lemmas.Bool.Decides.{nat_tests}
use Rattle.std.proofs.lemmas.List.{length-map}
use Rattle.wasm_forms.specs.Writing.{FitsLength}
use Rattle.wasm_frames.specs.Record.{Body, body_record}
use Rattle.wasm_frames.specs.Spelling.{body_bytes}
use Rattle.wasm_frames.specs.Frames.{Code}
use Rattle.wasm_writer.proofs.Listed.{no_section}
use Rattle.wasm_writer.proofs.writer.Writer.bodies_section.Goals as goal

pub returns-then-is_empty-clause-appends : goal.returns-then-is_empty-clause-appends
returns-then-is_empty-clause-appends c =
    let none : length c.args.bodies.now ≡ 0 = grind (arith, nat_tests) in
    no_section Code (λ (b : Body). FitsLength b.bytes) body_bytes (map body_record c.args.bodies.now) _ (omega (arith, none, length-map c.args.bodies.now body_record))
