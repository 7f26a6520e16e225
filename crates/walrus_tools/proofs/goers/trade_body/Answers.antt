use Rattle.std.proofs.Common.{ap, subst, sym, ◌∙◌}
use Rattle.walrus.specs.Items.LocalFunction.{LocalFunction}
use Rattle.walrus.specs.Items.FunctionKind.{FunctionKind}
use Rattle.walrus.specs.Items.FunctionKind.TheVariants.{Local}
use Rattle.walrus_tools.specs.TrapEdit.{IsTrapOf}
use Rattle.walrus_tools.proofs.goers.trade_body.Goals as goal

pub returns : goal.returns
returns c =
    let kind : LocalFunction → FunctionKind = λ f. Local f in (
      c.in-Local.is ∙ ap kind (sym c.replace.ensures.value),
      (c.in_ok-trap.trap, ap kind c.replace.ensures.after, subst (λ (f : LocalFunction). IsTrapOf f c.in_ok-trap.trap) (sym c.replace.ensures.value) c.in_ok-trap.ensures),
    )
