use Rattle.walrus_theorem.proofs.References as references
use Rattle.walrus_theorem.proofs.rules.references_agree.Goals as goal

pub returns : goal.returns
returns c = references.references_agree
