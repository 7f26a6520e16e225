-- Where all is there, and the records of the sections are, there is no cause to refuse but the size.
use Rattle.walrus_base.specs.ModuleTypes.{type_slots}
use Rattle.walrus_groups.specs.Indexed.{AreInOrder}
use Rattle.walrus_contents.specs.View.{parts_view}
use Rattle.walrus_contents.specs.declared.parts.Parts.{Parts}
use Rattle.walrus_model.specs.Abstract.{Abstract}
use Rattle.walrus_model.specs.Config.{Config}
use Rattle.walrus_model.specs.Dead.{HasDead}
use Rattle.walrus_theorem.specs.Features.{features_of}
use Rattle.walrus_theorem.specs.Refused.{HasUnspelled, ExactType, ExactConstant, EmptyConstant, IllFormed, PassesLimits, HasNoCause}
use Rattle.walrus_theorem.proofs.NoCause.{two}
use Rattle.walrus_plan.proofs.RefusesPlanned.{lacks_none}
use Rattle.walrus_writing.specs.Records.{Records}
use Rattle.walrus_writing.proofs.NoCauseBodies.{formed}
use Rattle.walrus_writing.proofs.NoCauseHeaps.{not_exact, const_not_exact, not_empty}

module _ (c : Config) (p : Parts) (r : Records p (features_of c)) where
  abbrev V : Abstract
  V = parts_view p

  pub none_unspelled : HasUnspelled c V → ⊥
  none_unspelled (ExactType x h at not) = not (not_exact c p r x h at)
  none_unspelled (ExactConstant x ops h at has not) = const_not_exact c p r x ops h at has not
  none_unspelled (EmptyConstant x at) = not_empty c p r x at
  none_unspelled (IllFormed lives i f b at is not) = not (formed c p r i f b at is)

  pub no_cause : (HasDead V → ⊥) → AreInOrder (type_slots p.types.now) → (PassesLimits c V → ⊥) → HasNoCause c V
  no_cause lives ordered small = record {
    all_there = lives;
    one_index = two V r.matched;
    indices = lacks_none p r.matched r.reads ordered;
    spelled = none_unspelled;
    fits = small;
  }
