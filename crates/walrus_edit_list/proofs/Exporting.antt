-- An export that comes, or is written anew.
use Rattle.std.proofs.Common.{◌≡◌, ℕ, List, [], ◌∷◌, ◌++◌, length, ap, ◌∙◌, subst}
use Rattle.std.specs.Prelude.{Option, Some}
use Rattle.walrus_base.specs.Operators.{Item}
use Rattle.walrus_items.specs.Exports.{ExportValue}
use Rattle.walrus_items.specs.declared.kinds.ExportItem.{ExportItem}
use Rattle.walrus_model.specs.Abstract.{Abstract}
use Rattle.walrus_model.specs.Live.{IsLive}
use Rattle.walrus_edit_list.specs.Exports.{export_added}
use Rattle.walrus_edit_list.specs.Places.{ChangesAt}

pub export_came : (name : List ℕ) (item : ExportItem) (n : ℕ) (old new : List (Option ExportValue)) → n ≡ length old
    → new ≡ old ++ Some (record { id = n; name = name; item = item }) ∷ [] → new ≡ export_added name item old
export_came name item n old new at is = is ∙ ap (λ (k : ℕ). old ++ Some (record { id = k; name = name; item = item }) ∷ []) at

pub export_set : (i n : ℕ) (item : ExportItem) (name given : List ℕ) (old new : List (Option ExportValue)) → n ≡ i → given ≡ name
    → ChangesAt n (λ was. record was { name = given; item = item }) old new → ChangesAt i (λ was. record was { name = name; item = item }) old new
export_set i n item name given old new at is changes =
    subst (λ (k : ℕ). ChangesAt k (λ (was : ExportValue). record was { name = name; item = item }) old new) at
    (subst (λ (s : List ℕ). ChangesAt n (λ (was : ExportValue). record was { name = s; item = item }) old new) is changes)

-- what is there in one module is there in one that is the same
pub live_named : (v w : Abstract) (x y z : Item) → v ≡ w → x ≡ y → y ≡ z → IsLive v x → IsLive w z
live_named v w x y z same is named live = subst (λ (u : Abstract). IsLive u z) same (subst (λ (i : Item). IsLive v i) (is ∙ named) live)
