use Rattle.std.proofs.Common.{length, ap, arith}
use Rattle.wasm_writer.proofs.Groups.{measures_many}
use Rattle.wasm_writer.proofs.composite.measured_group.Goals as goal

pub returns : goal.returns
returns c =
    measures_many c.args.types.now.items c.deref.result.now c.measured_many.result c.deref.ensures.value
    (λ h. c.if-len-eq1.false (omega (arith, c.len.ensures, h, c.deref.ensures.len, ap length c.deref.ensures.value))) c.measured_many.ensures
