use Rattle.std.proofs.Common.{rules, tests, sym, ◌∙◌}
use Rattle.std.proofs.lemmas.Iterator.{YieldsList-from_slice, YieldsList-from_zip}
use Rattle.std.proofs.lemmas.Iterator.Search.{all_from_yields_List}
use Rattle.wasm_copy.proofs.Bodies.{are_same, same_bytes}
use Rattle.wasm_copy.proofs.comparing.same_bodies.Goals as goal

pub returns-then-bodies-copies : goal.returns-then-bodies-copies
returns-then-bodies-copies c = λ same.
    let all = all_from_yields_List are_same c.all.new.self _ c.all.result c.all.ensures.ran (YieldsList-from_zip (YieldsList-from_slice c.args.bodies.now cc) (YieldsList-from_slice c.args.copies.now cc)) (λ x b q k. search (rules, tests)) in
    same_bytes c.args.bodies.now c.args.copies.now c.if-bodies-copies.true (sym all ∙ same)
