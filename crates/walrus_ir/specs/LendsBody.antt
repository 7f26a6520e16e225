-- What a function that is being built ends as, where its body is lent.
use Rattle.std.specs.Borrow.{Lends, Fml, MutBor}
use Rattle.walrus_ir.specs.Building.{with_body}
use Rattle.walrus_ir.specs.declared.function.FunctionBuilder.{FunctionBuilder}
use Rattle.walrus_ir.specs.declared.sequence.InstrSeqBuilder.{InstrSeqBuilder}
use Rattle.walrus_ir.specs.contracts.function.FunctionBuilder.{the_row}
use Rattle.walrus_ir.specs.contracts.sequence.InstrSeqBuilder as sequence

-- once the borrow r ends, the body is the last value written through r
abbrev pub LendsBody : MutBor FunctionBuilder → MutBor InstrSeqBuilder → Fml
LendsBody b r = Lends the_row sequence.the_row b r (with_body b.now)
