use Rattle.walrus_theorem.proofs.AgainAll.{comes_to_itself, writes_again, never_too_large}
use Rattle.walrus_theorem.proofs.again.writes_again.Goals as goal

pub returns-clause-itself : goal.returns-clause-itself
returns-clause-itself c = comes_to_itself

pub returns-clause-again : goal.returns-clause-again
returns-clause-again c = writes_again

pub returns-clause-size : goal.returns-clause-size
returns-clause-size c = never_too_large
