use Rattle.std.proofs.Common.{List, ℕ, ap, ◌∙◌, subst}
use Rattle.walrus_tools.specs.FunctionMeaning.{texts}
use Rattle.walrus_tools.specs.TrapEdit.{RefusesMeant, SnipsMeant}
use Rattle.walrus_tools.specs.Wanted.{config_wanted}
use Rattle.walrus_tools.specs.Weigh.{AnswersWeighed}
use Rattle.mulkavesh.proofs.calls.call_snip_weighed.Goals as goal

pub returns : goal.returns
returns c =
    subst (λ (all : List (List ℕ)). AnswersWeighed (SnipsMeant all) (RefusesMeant all) (config_wanted c.args.order.now.wanted) c.args.bytes.now c.snip_counted.result)
    (ap texts c.deref.ensures.value ∙ c.in_ok-functions.ensures) c.snip_counted.ensures
