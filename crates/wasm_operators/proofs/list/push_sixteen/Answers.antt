use Rattle.std.proofs.Common.{ap, ◌∙◌}
use Rattle.std.specs.Prelude.{Some}
use Rattle.wasm_operators.specs.declared.operator.RawArg.TheVariants as args
use Rattle.wasm_operators.proofs.Pushed.{mapped_more, mapped_whole, bytes_pushed}
use Rattle.wasm_operators.proofs.list.push_sixteen.Goals as goal

pub sixteen-preserved : goal.sixteen-preserved
sixteen-preserved c = mapped_more args.Byte c.in_ok-sixteen.sixteen.now c.sixteen.byte-index c.args.to.now.items c.sixteen.to.items c.push.new.self.items c.sixteen-test.true c.sixteen.invariant c.in_ok-push.ensures.items

pub returns : goal.returns
returns c =
    bytes_pushed args.Byte 16 c.args.to.now.items c.args.bytes.now c.in_ok-sixteen.sixteen.now c.in_ok-sixteen.rest.now c.in_ok-sixteen.ensures.gives
    ∙ ap (λ l. Some (l, c.in_ok-sixteen.rest.now)) (mapped_whole args.Byte c.in_ok-sixteen.sixteen.now c.sixteen.byte-index c.args.to.now.items c.sixteen.to.items c.sixteen-test.false c.sixteen.invariant)
