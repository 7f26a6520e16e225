use Rattle.std.proofs.Common.{subst}
use Rattle.std.specs.Prelude.{MatchResult}
use Rattle.walrus.specs.Code.Code.{item_of}
use Rattle.walrus.specs.Contents.Named.{items_in}
use Rattle.walrus.specs.Contents.There.{IsRefusal}
use Rattle.walrus.specs.Model.Abstract.{Abstract}
use Rattle.walrus_tools.specs.Callers.{AreCallers, HasUnsound}
use Rattle.walrus_tools.proofs.referrers.callers_of.Goals as goal

pub returns : goal.returns
returns g c =
    subst (λ (v : Abstract). MatchResult c.callers_in.result (λ callers. AreCallers v (item_of c.args.item) (items_in callers)) (IsRefusal (HasUnsound v)))
    c.parts.ensures c.callers_in.ensures
