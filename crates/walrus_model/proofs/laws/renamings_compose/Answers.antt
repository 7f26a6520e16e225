use Rattle.walrus_model.specs.Kept.{Kept}
use Rattle.walrus_model.specs.Live.{IsLive}
use Rattle.walrus_model.specs.Out.{IsTheSegment}
use Rattle.walrus_model.proofs.Steps.{then_all}
use Rattle.walrus_model.proofs.laws.renamings_compose.Goals as goal

pub returns-clause-all : goal.returns-clause-all
returns-clause-all g = λ a b c r s p q. then_all (IsLive a) (λ x. ⊥) r s a b c p q

pub returns-clause-kept : goal.returns-clause-kept
returns-clause-kept g = λ a b c r s segment p q. then_all (Kept a) (IsTheSegment segment) r s a b c p q
