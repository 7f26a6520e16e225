-- A type that names a later one lacks an index.
use Rattle.std.proofs.Common.{◌≡◌, ℕ, List, map, refl, sym, subst, Some, None}
use Rattle.std.specs.Prelude.{Option, IsSome, Contains}
use Rattle.walrus_base.specs.Arena.{item_at}
use Rattle.walrus_base.specs.Types.{comp_names, sub_names}
use Rattle.walrus_base.specs.Operators.{Types, type_item}
use Rattle.walrus_base.specs.TypeDef.{TypeDef}
use Rattle.walrus_groups.specs.Indexed as groups
use Rattle.walrus_groups.specs.Indexed.{IsOutOfOrder}
use Rattle.walrus_base.specs.ModuleTypes.{type_slots}
use Rattle.walrus_contents.specs.View.{parts_view}
use Rattle.walrus_contents.specs.declared.parts.Parts.{Parts}
use Rattle.walrus_model.specs.Abstract.{Abstract}
use Rattle.walrus_model.specs.Dead.{HasDead, DeadName}
use Rattle.walrus_model.specs.Live.{IsLive}
use Rattle.walrus_model.specs.Refers.{named_by, type_names}
use Rattle.walrus_base.proofs.Lists.{Contains-map, Contains-append_1, Contains-append_2}
use Rattle.walrus_base.proofs.Standing.{none_there}
use Rattle.walrus_theorem.specs.Refused.{LacksIndex, LaterSupertype, LaterType}

module _ (p : Parts) (lives : HasDead (parts_view p) → ⊥) where
  abbrev V : Abstract
  V = parts_view p

  abbrev types : List (Option TypeDef)
  types = type_slots p.types.now

  -- what a type names is there
  type_live : (t u : ℕ) (x : TypeDef) → item_at types t ≡ Some x → Contains (sub_names x.sub) u → IsLive V (Types, u)
  type_live t u x at named = by (item_at types u) refl
    where
      by : (o : Option TypeDef) → item_at types u ≡ o → IsLive V (Types, u)
      by (Some y) e = subst (λ (o : Option TypeDef). IsSome o) (sym e) refl
      by None e = absurd (lives (DeadName (Types, t) (Types, u)
          (subst (λ (o : Option TypeDef). Contains (named_by type_names o) (Types, u)) (sym at) (Contains-append_2 (Types, u) (map type_item x.group) (map type_item (sub_names x.sub)) (Contains-map type_item u (sub_names x.sub) named)))
          (λ there. none_there (subst (λ (o : Option TypeDef). IsSome o) e there))))

  pub out_of_order : IsOutOfOrder types → LacksIndex V
  out_of_order (groups.LaterSupertype t u x at named later) = LaterSupertype t u x at named (type_live t u x at (Contains-append_1 u x.sub.supertypes (comp_names x.sub.comp) named)) later
  out_of_order (groups.LaterType t u x at named later) = LaterType t u x at named (type_live t u x at (Contains-append_2 u x.sub.supertypes (comp_names x.sub.comp) named)) later
