-- Groups that name only their own members and types before them have shapes.
use Rattle.std.proofs.Common.{◌≡◌, ℕ, zero, suc, ◌<◌, ◌==◌, Bool, true, false, List, [], ◌∷◌, map, Option, Some, None, IsSome, option_map, refl, sym, ap, ap₂, ◌∙◌, subst, arith, eq-eqb, ⊎_elim}
use Rattle.std.specs.Prelude.{Contains, flat_map, filter_map, if◌then◌else◌}
use Rattle.std.proofs.lemmas.List.Elements as elements
use Rattle.walrus_base.specs.Arena.{item_at, IsLive}
use Rattle.walrus_base.specs.Types.{SubType, map_sub, sub_names}
use Rattle.walrus_base.specs.PlaceList.{has}
use Rattle.walrus_base.specs.Shape.{place_in, Seen, seen_at, seen_from, in_its_group, slot, other_type, others_named, Types, AreMembers, Shape, OfGroup, Shapes, NoShapes, AndShape, HasShape, HaveShapes}
use Rattle.walrus_base.specs.ShapeLaws.{RefersBackwards, ShapesEnd}
use Rattle.walrus_base.specs.TypeDef.{TypeDef}
use Rattle.walrus_base.proofs.Noted.{or_cases}
use Rattle.walrus_base.proofs.ShapesKept.{made_of}
use Rattle.walrus_base.proofs.Lists.{Contains-head, Contains-tail, Contains-uncons, Contains-none}
use Rattle.walrus_base.proofs.TypeMaps.{sub-names}
use Rattle.std.proofs.lemmas.Bool.{or_left, or_right}

-- ---- positions

some_here : (b : Bool) (o : Option ℕ) → b ≡ true → (k : ℕ) × ((if b then Some 0 else option_map suc o) ≡ Some k)
some_here true o h = (0, refl)
some_here false o h = absurd cc

some_later : (b : Bool) (o : Option ℕ) (k : ℕ) → o ≡ Some k → (j : ℕ) × ((if b then Some 0 else option_map suc o) ≡ Some j)
some_later true o k h = (0, refl)
some_later false o k h = (suc k, ap (option_map suc) h)

-- what is in a list has a position there
place_found : (xs : List ℕ) (t : ℕ) → has xs t ≡ true → (k : ℕ) × (place_in xs t ≡ Some k)
place_found [] t at = absurd cc
place_found (x ∷ xs) t at =
    ⊎_elim
    (λ here. some_here (x == t) (place_in xs t) here)
    (λ later. let found = place_found xs t later in some_later (x == t) (place_in xs t) found.0 found.1)
    (or_cases (x == t) (has xs t) at)

pub has_contained : (xs : List ℕ) (p : ℕ) → Contains xs p → has xs p ≡ true
has_contained [] p at = absurd (Contains-none p at)
has_contained (x ∷ xs) p at =
    ⊎_elim
    (λ here. or_left (x == p) (has xs p) (eq-eqb x p here))
    (λ later. or_right (x == p) (has xs p) (has_contained xs p later))
    (Contains-uncons x p xs at)

-- ---- the other types that a member names

other_next : (group : List ℕ) (t : ℕ) (ts : List ℕ) (v : ℕ) (o : Option ℕ) → o ≡ place_in group t
    → (Contains (filter_map other_type (map (seen_from group) ts)) v → Contains ts v × (place_in group v ≡ None))
    → Contains (filter_map other_type (seen_at o t ∷ map (seen_from group) ts)) v → Contains (t ∷ ts) v × (place_in group v ≡ None)
other_next group t ts v (Some k) is h at = let r = h at in (Contains-tail t v ts r.0, r.1)
other_next group t ts v None is h at = ⊎_elim
    (λ e. (subst (Contains (t ∷ ts)) e (Contains-head t ts), ap (place_in group) (sym e) ∙ sym is))
    (λ rest. let r = h rest in (Contains-tail t v ts r.0, r.1))
    (Contains-uncons t v (filter_map other_type (map (seen_from group) ts)) at)

-- a type that is seen as another one was named, and isn't in the group
other_named : (group names : List ℕ) (v : ℕ) → Contains (filter_map other_type (map (seen_from group) names)) v → Contains names v × (place_in group v ≡ None)
other_named group [] v at = absurd (Contains-none v at)
other_named group (t ∷ ts) v at = other_next group t ts v (place_in group t) refl (other_named group ts v) at

none_some : (o : Option ℕ) (k : ℕ) → o ≡ None → o ≡ Some k → ⊥
none_some o k p q = cc

live_item : (o : Option TypeDef) → IsSome o → (x : TypeDef) × (o ≡ Some x)
live_item None live = absurd cc
live_item (Some x) live = (x, refl)

-- a type that a member of the group names beside the group's members
abbrev IsNamed : List (Option TypeDef) → List ℕ → ℕ → Type 0
IsNamed slots group u = (y : TypeDef) × (p : ℕ) × (item_at slots p ≡ Some y) × (y.group ≡ group) × Contains (sub_names y.sub) u × (place_in group u ≡ None)

named_by : (slots : List (Option TypeDef)) (group : List ℕ) (p : ℕ) (y : TypeDef) → item_at slots p ≡ Some y → y.group ≡ group → (u : ℕ) → Contains (filter_map other_type (sub_names (in_its_group y))) u → IsNamed slots group u
named_by slots group p y e same u at =
    let r = other_named y.group (sub_names y.sub) u (subst (λ l. Contains (filter_map other_type l) u) (sub-names (seen_from y.group) y.sub) at) in
    (y, p, e, same, r.0, ap (λ g. place_in g u) (sym same) ∙ r.1)

-- the members of a group as they stand in it
gather : (slots : List (Option TypeDef)) (group ts : List ℕ) → ((p : ℕ) → Contains ts p → (y : TypeDef) × (item_at slots p ≡ Some y) × (y.group ≡ group))
    → (subs : List (SubType Seen)) × AreMembers (item_at slots) ts subs × ((u : ℕ) → Contains (others_named subs) u → IsNamed slots group u)
gather slots group [] each = ([], refl, λ u at. absurd (Contains-none u at))
gather slots group (t ∷ ts) each =
    let here = each t (Contains-head t ts) in
    let y = here.0 in
    let rest = gather slots group ts (λ p at. each p (Contains-tail t p ts at)) in (
      in_its_group y ∷ rest.0,
      ap₂ ◌∷◌ (ap (option_map in_its_group) here.1) rest.1,
      λ u at. ⊎_elim
          (λ first. named_by slots group t y here.1 here.2 u first)
          (λ later. rest.2 u later)
          (elements.Contains-append_cases (filter_map other_type (sub_names (in_its_group y))) (filter_map other_type (flat_map sub_names rest.0)) u
          (subst (λ l. Contains l u) (elements.filter_map-append other_type (sub_names (in_its_group y)) (flat_map sub_names rest.0)) at)),
    )

-- shapes of a list of types that each have one
fill : (m : Types) (us : List ℕ) → ((u : ℕ) → Contains us u → (shape : Shape) × HasShape m u shape) → (shapes : Shapes) × HaveShapes m us shapes
fill m [] each = (NoShapes, refl)
fill m (u ∷ us) each =
    let here = each u (Contains-head u us) in
    let rest = fill m us (λ v at. each v (Contains-tail u v us at)) in
    (AndShape here.0 rest.0, (u, us, refl, here.1, rest.1))

-- a type that is named so is there, before the group
before_group : (slots : List (Option TypeDef)) → RefersBackwards slots → (group : List ℕ) (t u : ℕ) → has group t ≡ true → IsNamed slots group u → IsLive slots u × (u < t)
before_group slots stands group t u member (y, p, e, same, names, outside) =
    ⊎_elim
    (λ inside. let found = place_found group u (ap (λ g. has g u) (sym same) ∙ inside) in absurd (none_some (place_in group u) found.0 outside found.1))
    (λ before. (before.0, before.1 t (ap (λ g. has g t) same ∙ member)))
    (stands.backwards p y e u names)

shapes_below : (slots : List (Option TypeDef)) → RefersBackwards slots → (n t : ℕ) → t < n → IsLive slots t → (shape : Shape) × HasShape (item_at slots) t shape
shapes_below slots stands zero t lt live = absurd (omega arith)
shapes_below slots stands (suc n) t lt live =
    let there = live_item (item_at slots t) live in
    let x = there.0 in
    let member = stands.groups.own t x there.1 in
    let at = place_found x.group t member in
    let all = gather slots x.group x.group (λ p at.
    let made = made_of (λ (y : TypeDef). y.group) (item_at slots p) x.group (stands.groups.members t x there.1 p (has_contained x.group p at)) in
    (made.0, made.1, made.2)) in
    let filled = fill (item_at slots) (others_named all.0) (λ u h.
    let before = before_group slots stands x.group t u member (all.2 u h) in
    let below : u < t = before.1 in
    shapes_below slots stands n u (omega (arith, below, lt)) before.0) in
    (OfGroup (map (map_sub slot) all.0) filled.0 at.0, (x, there.1, at.1, all.0, all.1, refl, filled.1))

pub shapes_of_all : ShapesEnd
shapes_of_all slots stands t live = shapes_below slots stands (suc t) t (omega arith) live
