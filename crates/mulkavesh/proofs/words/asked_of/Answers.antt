use Rattle.mulkavesh.proofs.Itself.{told_order, told_wrong}
use Rattle.mulkavesh.proofs.words.asked_of.Goals as goal

pub returns-in-Ok : goal.returns-in-Ok
returns-in-Ok c = λ none. told_order _ _ c.in-Ok.order c.in-Ok.ensures

pub returns-in-Err : goal.returns-in-Err
returns-in-Err c = λ none. told_wrong _ _ c.in-Err.wrong c.in-Err.ensures none
