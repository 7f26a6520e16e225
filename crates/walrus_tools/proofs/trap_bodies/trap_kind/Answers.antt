use Rattle.std.proofs.Common.{refl, sym, subst}
use Rattle.walrus.specs.Items.FunctionKind.{FunctionKind}
use Rattle.walrus.specs.Items.FunctionKind.TheVariants.{Local}
use Rattle.walrus_tools.specs.TrapEdit.{KindTraps}
use Rattle.walrus_tools.proofs.trap_bodies.trap_kind.Goals as goal

pub returns : goal.returns
returns c = subst (λ (k : FunctionKind). KindTraps k (Local c.in_ok-function.field-0)) (sym c.in-Local.is) (c.in_ok-function.field-0, refl, c.in_ok-function.ensures)
