use Rattle.std.proofs.Common.{Some, inl, refl, sym, ap, ◌∙◌, arith}
use Rattle.wasm_text.specs.Marks.{place_of}
use Rattle.wasm_text.specs.Places.{between}
use Rattle.wasm_text.proofs.Shortest.{shortest_of}
use Rattle.wasm_text.proofs.Staying.{index_lacks, index_stays, index_put}
use Rattle.wasm_text.proofs.append.put_index_as.Goals as goal

pub returns-in_default-clause-steps : goal.returns-in_default-clause-steps
returns-in_default-clause-steps g c =
    inl (refl, index_lacks (g.N.Numbers.number c.args.numbers.now) c.args.bytes.now c.args.mark c.args.behind c.args.index c.requires.kind c.requires.stands (sym c.new_index.ensures ∙ c.in_default.is))

pub returns-then-shortest-clause-steps : goal.returns-then-shortest-clause-steps
returns-then-shortest-clause-steps g c =
    let kept = sym c.new_index.ensures ∙ c.in-Some.is ∙ ap (λ k. Some k) c.if-new-index.true in
    index_stays (g.N.Numbers.number c.args.numbers.now) c.args.bytes.now c.args.run c.args.mark c.args.behind c.args.index c.args.to.now.items c.requires.ordered c.requires.kind c.requires.stands kept
    (shortest_of (between (place_of c.args.mark) c.args.behind c.args.bytes.now) c.args.shortest c.if-shortest.true c.requires.shortest)

pub returns-clause-steps : goal.returns-clause-steps
returns-clause-steps g c =
    index_put (g.N.Numbers.number c.args.numbers.now) c.args.bytes.now c.args.run c.args.mark c.args.behind c.args.index c.in-Some.new c.args.to.now.items c.put_number.new.to.items c.requires.ordered c.requires.kind c.requires.stands
    (sym c.new_index.ensures ∙ c.in-Some.is) (omega arith) c.in_ok-put_number.ensures.written
