use Rattle.walrus_model.specs.Kept.{Kept}
use Rattle.walrus_model.specs.Live.{IsLive}
use Rattle.walrus_model.specs.Out.{MayBeAdded}
use Rattle.walrus_model.proofs.Shapes.{keeps_shapes_lem}
use Rattle.walrus_model.proofs.Steps.{kept_holds, live_holds}
use Rattle.walrus_model.proofs.laws.shapes_are_kept.Goals as goal

pub returns-clause-out : goal.returns-clause-out
returns-clause-out g = λ c m n out. keeps_shapes_lem (Kept m) (MayBeAdded (Kept m) out.renaming m n out.segment) out.renaming m n (kept_holds m) out.carried

pub returns-clause-all : goal.returns-clause-all
returns-clause-all g = λ r a b live p. keeps_shapes_lem (IsLive a) (λ x. ⊥) r a b (live_holds a live) p
