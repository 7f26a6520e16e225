use Rattle.std.proofs.Common.{List, ℕ, ap, ◌∙◌, subst}
use Rattle.walrus_tools.specs.FunctionMeaning.{texts}
use Rattle.walrus_tools.specs.TrapEdit.{AnswersMeant}
use Rattle.walrus_tools.specs.Wanted.{config_wanted}
use Rattle.mulkavesh.proofs.calls.call_snip.Goals as goal

pub returns : goal.returns
returns c =
    subst (λ (all : List (List ℕ)). AnswersMeant (config_wanted c.args.order.now.wanted) c.args.bytes.now all c.snip_functions.result) (ap texts c.deref.ensures.value ∙ c.in_ok-functions.ensures)
    c.snip_functions.ensures
