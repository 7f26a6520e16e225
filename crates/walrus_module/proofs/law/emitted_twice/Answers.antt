use Rattle.walrus_module.proofs.WellWritten.{emits_again}
use Rattle.walrus_module.proofs.law.emitted_twice.Goals as goal

pub returns : goal.returns
returns g c = λ plain sayable. (emits_again _ _ _ _ _ _ plain sayable c.in_ok-first.ensures c.in_ok-second.ensures).1
