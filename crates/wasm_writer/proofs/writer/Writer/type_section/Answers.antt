use Rattle.std.proofs.Common.{◌≡◌, length, map, arith}
use Rattle.std.proofs.lemmas.Bool.Decides.{nat_tests}
use Rattle.std.proofs.lemmas.List.{length-map}
use Rattle.wasm_entries.specs.Record.{group}
use Rattle.wasm_entries.specs.TypeSpelling.{group_bytes, GroupFits}
use Rattle.wasm_frames.specs.Frames.{Types}
use Rattle.wasm_writer.proofs.Listed.{no_section}
use Rattle.wasm_writer.proofs.writer.Writer.type_section.Goals as goal

pub returns-then-is_empty-clause-appends : goal.returns-then-is_empty-clause-appends
returns-then-is_empty-clause-appends c =
    let none : length c.args.groups.now ≡ 0 = grind (arith, nat_tests) in
    no_section Types GroupFits group_bytes (map group c.args.groups.now) _ (omega (arith, none, length-map c.args.groups.now group))
