-- What an item leads to is there: where it is reached, where it is a type, and where what is kept on the way is there.
use Rattle.std.proofs.Common.{◌≡◌, ℕ, map, refl, sym, ap, subst, inl, inr, ⊎_elim}
use Rattle.std.proofs.lemmas.List.Elements.{Contains-append_cases}
use Rattle.std.specs.Prelude.{◌⊎◌}
use Rattle.walrus_base.specs.Types.{sub_names}
use Rattle.walrus_base.specs.Operators.{Space, Types, Item, type_item}
use Rattle.walrus_model.specs.Abstract.{Abstract}
use Rattle.walrus_model.specs.Config.{Config}
use Rattle.walrus_model.specs.Live.{IsLive}
use Rattle.walrus_model.specs.Reached.{Reached, step}
use Rattle.walrus_model.specs.Refers.{KeepsToo, Refers}
use Rattle.walrus_model.proofs.PipelineOps.{from_map}
use Rattle.walrus_theorem.specs.EditLaws.{LeadsLive, LeadsTo, LeadsToLive, ShowsLive, further, itself}
use Rattle.walrus_theorem.specs.WellMade.{IsWellMade}
use Rattle.walrus_theorem.proofs.EditKept.{thing_there}

module _ (c : Config) (m : Abstract) (made : IsWellMade c m) where
  led_reached : (x y : Item) → Reached m x → LeadsTo m x y → Reached m y
  led_reached x y reached itself = reached
  led_reached x y reached (further a b h r) = step a y (led_reached x a reached h) r

  led_live : (x : Item) → IsLive m x → ((y z : Item) → LeadsTo m x y → KeepsToo m y z → IsLive m z) → (y : Item) → LeadsTo m x y → IsLive m y
  led_live x here keeps y itself = here
  led_live x here keeps y (further a b h (inl at)) = made.rules.indices.written a y at
  led_live x here keeps y (further a b h (inr q)) = keeps a y h q

  -- a type leads to types alone
  type_named : (t : ℕ) (y : Item) → Refers m (type_item t) y → y.0 ≡ Types
  type_named t y (inr q) = absurd q
  type_named t y (inl at) =
      let x = thing_there m Types t y at in
      ⊎_elim
      (λ member. let u = from_map type_item y x.0.group member in ap (λ (z : Item). z.0) (sym u.2))
      (λ named. let u = from_map type_item y (sub_names x.0.sub) named in ap (λ (z : Item). z.0) (sym u.2))
      (Contains-append_cases (map type_item x.0.group) (map type_item (sub_names x.0.sub)) y x.2)

  led_type : (t : ℕ) (y : Item) → LeadsTo m (type_item t) y → y.0 ≡ Types
  led_type t y itself = refl
  led_type t y (further a b h r) = type_named a.1 y (subst (λ (z : Item). Refers m z y) (ap (λ s. (s, a.1)) (led_type t a h)) r)

  pub shows_live : ShowsLive c m
  shows_live = record {
    reached = λ x live reached y to. live y (led_reached x y reached to);
    types = λ t here. led_live (type_item t) here (λ y z to q. absurd (subst (λ (s : Space). KeepsToo m (s, y.1) z) (led_type t y to) q));
    kept = λ x here keeps. led_live x here keeps;
  }

  -- what refers to one type alone leads to itself and to what that leads to
  leads_on : (x : Item) (t : ℕ) → ((y : Item) → Refers m x y → y ≡ type_item t) → (y : Item) → LeadsTo m x y → (y ≡ x) ⊎ LeadsTo m (type_item t) y
  leads_on x t refers y itself = inl refl
  leads_on x t refers y (further k z h r) = ⊎_elim
      (λ (is : k ≡ x). inr (subst (λ (u : Item). LeadsTo m (type_item t) u) (sym (refers y (subst (λ (u : Item). Refers m u y) is r))) itself))
      (λ on. inr (further k y on r))
      (leads_on x t refers k h)

  pub leads_to_type : (x : Item) (t : ℕ) → IsLive m x → IsLive m (type_item t) → ((y : Item) → Refers m x y → y ≡ type_item t) → LeadsToLive m x
  leads_to_type x t here type refers y to = ⊎_elim (λ (is : y ≡ x). subst (λ (u : Item). IsLive m u) (sym is) here) (λ on. shows_live.types t type y on) (leads_on x t refers y to)

pub leads_live : LeadsLive
leads_live c m made = shows_live c m made
