use Rattle.std.proofs.Common.{◌++◌, drop, ap, ◌∙◌, arith}
use Rattle.std.proofs.lemmas.List.{drop_all}
use Rattle.wasm_text.specs.Places.{between}
use Rattle.wasm_text.proofs.Steps.{going_first, going_last, last_within, keeps_through, stands_at, lacks_at, more_at}
use Rattle.wasm_text.proofs.append.append_filled.Goals as goal

pub marks-init : goal.marks-init
marks-init g c = going_first (g.N.Numbers.number c.args.numbers.now) c.args.bytes.now c.args.marks.now c.args.to.now.items c.requires

pub put_mark-requires-clause-ordered : goal.put_mark-requires-clause-ordered
put_mark-requires-clause-ordered g c =
    (stands_at (g.N.Numbers.number c.args.numbers.now) c.args.bytes.now c.args.marks.now c.marks.mark-index _ c.marks.run c.args.to.now.items c.marks.to.items c.marks-test.true c.marks.invariant).0

pub put_mark-requires-clause-stands : goal.put_mark-requires-clause-stands
put_mark-requires-clause-stands g c =
    (stands_at (g.N.Numbers.number c.args.numbers.now) c.args.bytes.now c.args.marks.now c.marks.mark-index _ c.marks.run c.args.to.now.items c.marks.to.items c.marks-test.true c.marks.invariant).1

pub returns-then-run-clause-fills : goal.returns-then-run-clause-fills
returns-then-run-clause-fills g c =
    lacks_at (g.N.Numbers.number c.args.numbers.now) c.args.bytes.now c.args.marks.now c.marks.mark-index _ c.marks.run c.in_ok-run.run' c.args.to.now.items c.marks.to.items c.put_mark.new.to.items c.marks-test.true c.marks.invariant
    (omega (arith, c.count_of-end.ensures.is, c.count_of-end.ensures.small)) c.if-run.true c.in_ok-run.ensures.steps

pub returns-then-run-clause-keeps : goal.returns-then-run-clause-keeps
returns-then-run-clause-keeps g c = keeps_through c.args.to.now.items c.marks.to.items c.put_mark.new.to.items c.marks.invariant.keeps c.put_mark.ensures.keeps

pub returns-in_err-run-clause-keeps : goal.returns-in_err-run-clause-keeps
returns-in_err-run-clause-keeps g c = keeps_through c.args.to.now.items c.marks.to.items c.put_mark.new.to.items c.marks.invariant.keeps c.put_mark.ensures.keeps

pub marks-preserved : goal.marks-preserved
marks-preserved g c =
    more_at (g.N.Numbers.number c.args.numbers.now) c.args.bytes.now c.args.marks.now c.marks.mark-index _ c.marks.run c.in_ok-run.run' c.args.to.now.items c.marks.to.items c.put_mark.new.to.items c.marks-test.true c.marks.invariant c.if-run.false c.in_ok-run.ensures.steps
    (keeps_through c.args.to.now.items c.marks.to.items c.put_mark.new.to.items c.marks.invariant.keeps c.put_mark.ensures.keeps)

pub copy-requires-clause-ordered : goal.copy-requires-clause-ordered
copy-requires-clause-ordered g c =
    let r = last_within (g.N.Numbers.number c.args.numbers.now) c.args.bytes.now c.args.marks.now (drop c.marks.mark-index c.args.marks.now) c.marks.run c.args.to.now.items c.marks.to.items
    (drop_all c.marks.mark-index c.args.marks.now (omega (arith, c.marks-test.false))) c.marks.invariant in
    omega (arith, r, c.count_of-end.ensures.is)

pub returns-clause-fills : goal.returns-clause-fills
returns-clause-fills g c =
    going_last (g.N.Numbers.number c.args.numbers.now) c.args.bytes.now c.args.marks.now (drop c.marks.mark-index c.args.marks.now) c.marks.run c.args.to.now.items c.marks.to.items c.copy.new.to.items
    (drop_all c.marks.mark-index c.args.marks.now (omega (arith, c.marks-test.false))) c.marks.invariant
    (c.in_ok-copy.ensures.copied ∙ ap (λ k. c.marks.to.items ++ between c.marks.run k c.args.bytes.now) c.count_of-end.ensures.is)

pub returns-clause-keeps : goal.returns-clause-keeps
returns-clause-keeps g c = keeps_through c.args.to.now.items c.marks.to.items c.copy.new.to.items c.marks.invariant.keeps c.copy.ensures.keeps

pub returns-in_err-copy-clause-keeps : goal.returns-in_err-copy-clause-keeps
returns-in_err-copy-clause-keeps g c = keeps_through c.args.to.now.items c.marks.to.items c.copy.new.to.items c.marks.invariant.keeps c.copy.ensures.keeps
