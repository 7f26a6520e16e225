use Rattle.std.proofs.Common.{◌≡◌, ℕ, length, arith}
use Rattle.std.proofs.lemmas.Bool.Decides.{nat_tests}
use Rattle.wasm_frames.specs.Frames.{Tags}
use Rattle.wasm_writer.specs.Spelling.{tag_bytes}
use Rattle.wasm_writer.proofs.Listed.{no_section}
use Rattle.wasm_writer.proofs.writer.Writer.tag_section.Goals as goal

pub returns-then-is_empty-clause-appends : goal.returns-then-is_empty-clause-appends
returns-then-is_empty-clause-appends c =
    let none : length c.args.tags.now ≡ 0 = grind (arith, nat_tests) in
    let p = no_section Tags (λ (t : ℕ). Unit {0}) tag_bytes c.args.tags.now c.args.self.now.bytes.items none in
    (p.0, (p.1.0.0, p.1.1))
