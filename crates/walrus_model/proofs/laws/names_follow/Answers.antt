use Rattle.walrus_model.specs.Kept.{Kept}
use Rattle.walrus_model.specs.Live.{IsLive}
use Rattle.walrus_model.specs.Out.{MayBeAdded, IsTheSegment}
use Rattle.walrus_model.proofs.Follow.{names_follow_lem}
use Rattle.walrus_model.proofs.laws.names_follow.Goals as goal

pub returns-clause-out : goal.returns-clause-out
returns-clause-out g = λ c m n out. names_follow_lem (Kept m) (MayBeAdded (Kept m) out.renaming m n out.segment) out.renaming m n out.carried

pub returns-clause-written : goal.returns-clause-written
returns-clause-written g = λ c m n written. names_follow_lem (IsLive m) (IsTheSegment written.segment) written.renaming m n written.carried

pub returns-clause-all : goal.returns-clause-all
returns-clause-all g = λ r a b p. names_follow_lem (IsLive a) (λ x. ⊥) r a b p
