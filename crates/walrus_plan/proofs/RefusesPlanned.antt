-- What refuses a plan; and that where imports and items name each other, and types and what initialisers read stand in order, nothing lacks an index.
use Rattle.walrus_base.specs.ModuleTypes.{type_slots}
use Rattle.walrus_groups.specs.Indexed.{AreInOrder}
use Rattle.walrus_contents.specs.View.{parts_view}
use Rattle.walrus_contents.specs.declared.parts.Parts.{Parts}
use Rattle.walrus_model.specs.Abstract.{Abstract}
use Rattle.walrus_model.specs.Plan.{IsPlan, Plan}
use Rattle.walrus_model.specs.WellMade.{ImportsMatch}
use Rattle.walrus_items.specs.declared.error.Error.{Error}
use Rattle.walrus_items.specs.declared.error.Error.TheVariants.{Memory, NoIndex, TooLarge, TwoIndices}
use Rattle.walrus_theorem.specs.Refused.{LacksIndex, NotBrought, LocalGlobalRead, LaterGlobalRead, LaterSupertype, LaterType}
use Rattle.walrus_theorem.proofs.NoCause.{two}
use Rattle.walrus_plan.specs.Matched.{RefusesUnmatched}
use Rattle.walrus_plan.specs.Reads.{ReadsInOrder}
use Rattle.walrus_plan.specs.Refusals.{RefusesCounts, RefusesPlan}

module _ (p : Parts) where
  abbrev V : Abstract
  V = parts_view p

  pub lacks_none : ImportsMatch V → ReadsInOrder V → AreInOrder (type_slots p.types.now) → LacksIndex V → ⊥
  lacks_none matched before ordered (NotBrought y i says none) = let named = matched.items y i says in none named.0 named.1 named.2
  lacks_none matched before ordered (LocalGlobalRead i g reads live not) = not (before.tables i g reads live)
  lacks_none matched before ordered (LaterGlobalRead i g reads live not) = not (before.globals i g reads live)
  lacks_none matched before ordered (LaterSupertype t u x at named live not) = not (ordered.supertypes t u x at named)
  lacks_none matched before ordered (LaterType t u x at named live not) = not (ordered.others t u x at named)

  -- imports and items don't name each other
  pub unmatched_refused : (e : Error) → RefusesUnmatched V e → RefusesPlan p e
  unmatched_refused TwoIndices r = r
  unmatched_refused NoIndex r = r
  unmatched_refused _ r = absurd r

  -- the items of a plan can't be numbered
  pub counts_refused : ImportsMatch V → ReadsInOrder V → AreInOrder (type_slots p.types.now) → (plan : Plan) (e : Error) → IsPlan V plan → RefusesCounts plan e → RefusesPlan p e
  counts_refused matched before ordered plan (Memory m) is_plan r = tt
  counts_refused matched before ordered plan TooLarge is_plan r = (two V matched, lacks_none matched before ordered, (plan, (is_plan, r)))
  counts_refused matched before ordered plan _ is_plan r = absurd r
