-- Chosen types that hold all that they name keep their shapes under a renaming.
use Rattle.std.proofs.Common.{◌≡◌, ℕ, List, [], ◌∷◌, ◌++◌, map, refl, sym, ap, ◌∙◌, subst, ⊎_elim}
use Rattle.std.specs.Prelude.{Option, Some, None, option_map, Contains, flat_map, filter_map}
use Rattle.walrus_base.specs.Types.{SubType, map_sub, sub_names}
use Rattle.walrus_base.specs.Operators.{Types, Item, type_item}
use Rattle.walrus_model.specs.Abstract.{Abstract, TypeDef}
use Rattle.walrus_base.specs.Shape.{place_in, Seen, Own, Other, seen_at, seen_from, in_its_group, others_through, slot, other_type, Shape, OfGroup, Shapes, NoShapes, AndShape, AreMembers, HasShape, HaveShapes}
use Rattle.walrus_model.specs.Renaming.{Renaming}
use Rattle.walrus_model.specs.Same.{SameType, BothAnd}
use Rattle.walrus_model.specs.Carried.{Carried}
use Rattle.walrus_model.specs.Closed.{HoldsItsTypes}
use Rattle.walrus_model.specs.Laws.{KeepsShapes}
use Rattle.walrus_base.proofs.Lists.{map-map, map-same, map-same_on, Contains-head, Contains-tail, Contains-map, Contains-append_1, Contains-append_2, Contains-uncons, Contains-none, flat_map-follows_all}
use Rattle.std.proofs.lemmas.List.Elements as elements
use Rattle.walrus_model.proofs.Steps.{given}
use Rattle.walrus_base.proofs.TypeMaps.{sub-map, sub-same, sub-names}
use Rattle.walrus_base.proofs.ShapesKept.{made_of}

-- a slot doesn't tell which other type it is
slot_through : (f : ℕ → ℕ) (s : Seen) → slot (others_through f s) ≡ slot s
slot_through f (Own k) = refl
slot_through f (Other t) = refl

pub members_through : (f : ℕ → ℕ) (subs : List (SubType Seen)) → map (map_sub slot) (map (map_sub (others_through f)) subs) ≡ map (map_sub slot) subs
members_through f subs =
    map-map (map_sub slot) (map_sub (others_through f)) subs
    ∙ map-same (λ x. map_sub slot (map_sub (others_through f) x)) (map_sub slot) subs (λ x. sub-map slot (others_through f) x ∙ sub-same (λ s. slot (others_through f s)) slot x (slot_through f))

-- the other types seen, put through f
others_follow : (f : ℕ → ℕ) (ss : List Seen) → filter_map other_type (map (others_through f) ss) ≡ map f (filter_map other_type ss)
others_follow f [] = refl
others_follow f (Own k ∷ ss) = others_follow f ss
others_follow f (Other t ∷ ss) = ap (λ l. f t ∷ l) (others_follow f ss)

pub filling_follows : (f : ℕ → ℕ) (subs : List (SubType Seen)) → filter_map other_type (flat_map sub_names (map (map_sub (others_through f)) subs)) ≡ map f (filter_map other_type (flat_map sub_names subs))
filling_follows f subs =
    ap (filter_map other_type) (flat_map-follows_all sub_names sub_names (map_sub (others_through f)) (others_through f) subs (sub-names (others_through f)))
    ∙ others_follow f (flat_map sub_names subs)

-- ---- the other types that a group names are chosen

others_next : (group : List ℕ) (t : ℕ) (ts : List ℕ) (v : ℕ) (o : Option ℕ) → (Contains (filter_map other_type (map (seen_from group) ts)) v → Contains ts v) → Contains (filter_map other_type (seen_at o t ∷ map (seen_from group) ts)) v → Contains (t ∷ ts) v
others_next group t ts v (Some k) h at = Contains-tail t v ts (h at)
others_next group t ts v None h at = ⊎_elim
    (λ e. subst (Contains (t ∷ ts)) e (Contains-head t ts))
    (λ rest. Contains-tail t v ts (h rest))
    (Contains-uncons t v (filter_map other_type (map (seen_from group) ts)) at)

-- a type that is seen as another one was named
pub others_named : (group names : List ℕ) (v : ℕ) → Contains (filter_map other_type (map (seen_from group) names)) v → Contains names v
others_named group [] v at = at
others_named group (t ∷ ts) v at = others_next group t ts v (place_in group t) (others_named group ts v) at

module _ (K : Item → Type 0) (m : Abstract) (holds : HoldsItsTypes K m) where
  group_chosen : (t : ℕ) (x : TypeDef) → K (type_item t) → m.types t ≡ Some x → (u : ℕ) → Contains x.group u → K (type_item u)
  group_chosen t x k e u at = holds t u x k e (Contains-append_1 (type_item u) (map type_item x.group) (map type_item (sub_names x.sub)) (Contains-map type_item u x.group at))

  named_chosen : (t : ℕ) (x : TypeDef) → K (type_item t) → m.types t ≡ Some x → (u : ℕ) → Contains (sub_names x.sub) u → K (type_item u)
  named_chosen t x k e u at = holds t u x k e (Contains-append_2 (type_item u) (map type_item x.group) (map type_item (sub_names x.sub)) (Contains-map type_item u (sub_names x.sub) at))

  -- of one member
  member_chosen : (t : ℕ) (s : SubType Seen) → K (type_item t) → option_map in_its_group (m.types t) ≡ Some s → (u : ℕ) → Contains (filter_map other_type (sub_names s)) u → K (type_item u)
  member_chosen t s k e u at =
      let made = made_of in_its_group (m.types t) s e in
      let x = made.0 in
      let names : sub_names s ≡ map (seen_from x.group) (sub_names x.sub) = ap sub_names (sym made.2) ∙ sub-names (seen_from x.group) x.sub in
      named_chosen t x k made.1 u (others_named x.group (sub_names x.sub) u (subst (λ l. Contains (filter_map other_type l) u) names at))

  filling_chosen : (group : List ℕ) (subs : List (SubType Seen)) → ((u : ℕ) → Contains group u → K (type_item u)) → AreMembers m.types group subs → (v : ℕ) → Contains (filter_map other_type (flat_map sub_names subs)) v → K (type_item v)
  filling_chosen group [] h are v at = absurd (Contains-none v at)
  filling_chosen [] (s ∷ ss) h are v at = absurd (cc)
  filling_chosen (t ∷ ts) (s ∷ ss) h are v at =
      let first : option_map in_its_group (m.types t) ≡ Some s = cc in
      let rest : AreMembers m.types ts ss = cc in
      let both : Contains (filter_map other_type (sub_names s) ++ filter_map other_type (flat_map sub_names ss)) v = subst (λ l. Contains l v) (elements.filter_map-append other_type (sub_names s) (flat_map sub_names ss)) at in
      ⊎_elim
      (λ here. member_chosen t s (h t (Contains-head t ts)) first v here)
      (λ later. filling_chosen ts ss (λ u in_ts. h u (Contains-tail t u ts in_ts)) rest v later)
      (elements.Contains-append_cases (filter_map other_type (sub_names s)) (filter_map other_type (flat_map sub_names ss)) v both)

-- ---- members under the renaming

module _ (f : ℕ → ℕ) where
  same_member : (t : ℕ) (a b : Option TypeDef) → BothAnd (SameType f t) a b → option_map in_its_group b ≡ option_map (map_sub (others_through f)) (option_map in_its_group a)
  same_member t (Some x) (Some y) s = ap Some s.sub
  same_member t (Some x) None s = absurd s
  same_member t None b s = absurd s

  module _ (m n : Abstract) where
    members_carried : (group : List ℕ) (subs : List (SubType Seen)) → ((t : ℕ) → Contains group t → BothAnd (SameType f t) (m.types t) (n.types (f t))) → AreMembers m.types group subs → AreMembers n.types (map f group) (map (map_sub (others_through f)) subs)
    members_carried group subs same are =
        map-map (λ t. option_map in_its_group (n.types t)) f group
        ∙ map-same_on (λ t. option_map in_its_group (n.types (f t))) (λ t. option_map (map_sub (others_through f)) (option_map in_its_group (m.types t))) group (λ t at. same_member t (m.types t) (n.types (f t)) (same t at))
        ∙ sym (map-map (option_map (map_sub (others_through f))) (λ t. option_map in_its_group (m.types t)) group)
        ∙ ap (map (option_map (map_sub (others_through f)))) are
        ∙ map-map (option_map (map_sub (others_through f))) Some subs
        ∙ sym (map-map Some (map_sub (others_through f)) subs)

-- ---- shapes

module _ (K : Item → Type 0) (m n : Abstract) (f : ℕ → ℕ) (holds : HoldsItsTypes K m) (same : (t : ℕ) → K (type_item t) → BothAnd (SameType f t) (m.types t) (n.types (f t))) where
  mutual
    shape_kept : (shape : Shape) (t : ℕ) → K (type_item t) → HasShape m.types t shape → HasShape n.types (f t) shape
    shape_kept (OfGroup members filling position) t k (x, e, place, subs, are, members_are, filled) =
        let there = given (SameType f t) (m.types t) (n.types (f t)) x (same t k) e in
        let y = there.0 in
        let s = there.2 in
        let chosen = group_chosen K m holds t x k e in
        let new_members : AreMembers n.types y.group (map (map_sub (others_through f)) subs) =
        subst (λ g. AreMembers n.types g (map (map_sub (others_through f)) subs)) (sym s.group) (members_carried f m n x.group subs (λ u at. same u (chosen u at)) are) in (
          y,
          there.1,
          s.position ∙ place,
          map (map_sub (others_through f)) subs,
          new_members,
          members_are ∙ sym (members_through f subs),
          subst (λ ts. HaveShapes n.types ts filling) (sym (filling_follows f subs)) (shapes_kept filling (filter_map other_type (flat_map sub_names subs)) (filling_chosen K m holds x.group subs chosen are) filled),
        )

    pub shapes_kept : (shapes : Shapes) (ts : List ℕ) → ((u : ℕ) → Contains ts u → K (type_item u)) → HaveShapes m.types ts shapes → HaveShapes n.types (map f ts) shapes
    shapes_kept NoShapes ts h e = ap (map f) e
    shapes_kept (AndShape shape rest) ts h (t, us, e, has, have) = (
      f t,
      map f us,
      ap (map f) e,
      shape_kept shape t (h t (subst (λ l. Contains l t) (sym e) (Contains-head t us))) has,
      shapes_kept rest us (λ u at. h u (subst (λ l. Contains l u) (sym e) (Contains-tail t u us at))) have,
    )

pub keeps_shapes_lem : (K A : Item → Type 0) (r : Renaming) (m n : Abstract) → HoldsItsTypes K m → Carried K A r m n → KeepsShapes K r m n
keeps_shapes_lem K A r m n holds c t shape k has = shape_kept K m n (r.numbers Types) holds c.types.same shape t k has
