use Rattle.std.proofs.Common.{refl, sym, subst}
use Rattle.walrus.specs.Base.Id.{place}
use Rattle.walrus.specs.Items.FunctionKind.{FunctionKind}
use Rattle.walrus.specs.Items.FunctionKind.TheVariants.{Local}
use Rattle.walrus_examples.specs.Count.{KindCalls}
use Rattle.walrus_examples.proofs.calls.call_first.Goals as goal

pub returns : goal.returns
returns c = subst (λ (k : FunctionKind). KindCalls (place c.args.called) k (Local c.put_call.new.function)) (sym c.in-Local.is) (c.put_call.new.function, refl, c.in_ok-put_call.ensures)
