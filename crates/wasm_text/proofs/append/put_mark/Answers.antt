use Rattle.wasm_text.proofs.Staying.{stays_step}
use Rattle.wasm_text.proofs.append.put_mark.Goals as goal

pub returns-then-stays-clause-steps : goal.returns-then-stays-clause-steps
returns-then-stays-clause-steps g c = stays_step (g.N.Numbers.number c.args.numbers.now) c.args.bytes.now c.args.run c.args.mark c.args.to.now.items c.stays.result c.if-stays.true c.requires.ordered c.stays.ensures
