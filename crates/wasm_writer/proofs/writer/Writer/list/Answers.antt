use Rattle.std.proofs.Common.{◌≡◌, length, arith}
use Rattle.std.proofs.lemmas.Bool.Decides.{nat_tests}
use Rattle.wasm_writer.proofs.Listed.{listed_none}
use Rattle.wasm_writer.proofs.writer.Writer.list.Goals as goal

pub returns-then-is_empty-clause-appends : goal.returns-then-is_empty-clause-appends
returns-then-is_empty-clause-appends g c =
    let none : length c.args.items.now ≡ 0 = grind (arith, nat_tests) in
    listed_none _ _ c.args.items.now _ _ none
