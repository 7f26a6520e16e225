use Rattle.std.proofs.Common.{◌≡◌, ◌<◌, ◌∷◌, [], ap, ◌∙◌, arith, eq-eqb, eqb-true}
use Rattle.walrus_base.specs.TypeDef.{type_place}
use Rattle.walrus_base.proofs.Places.{between_one, one_between}
use Rattle.walrus_base.proofs.types.Type.is_alone.Goals as goal

pub returns : goal.returns
returns c =
    let first = c.args.self.now.first in
    let end = c.args.self.now.end in
    let is : first ≡ type_place c.args.self.now = c.if-self-index.false ∙ c.index.ensures in
    let some : first < end = omega (arith, c.if-self.false) in
    (λ t. between_one first end some (eqb-true _ _ t) ∙ ap (λ n. n ∷ []) is, λ h. eq-eqb _ _ (one_between first end _ h).2)
