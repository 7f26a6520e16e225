-- Shapes are kept where types are added.
use Rattle.std.proofs.Common.{◌≡◌, ℕ, zero, suc, List, [], ◌∷◌, ◌++◌, Option, Some, None, option_map, refl, ap, ap₂, ◌∙◌}
use Rattle.walrus_base.specs.Arena.{item_at}
use Rattle.walrus_base.specs.Types.{SubType}
use Rattle.walrus_base.specs.Shape.{Seen, Types, in_its_group, AreMembers, Shape, OfGroup, Shapes, NoShapes, AndShape, HasShape, HaveShapes}
use Rattle.walrus_base.specs.ShapeLaws.{KeepsShapes}
use Rattle.walrus_base.specs.TypeDef.{TypeDef}

-- what stands where something was made of what stands there
pub made_of : {X Y : Type 0} (f : X → Y) (o : Option X) (y : Y) → option_map f o ≡ Some y → (x : X) × (o ≡ Some x) × (f x ≡ y)
made_of f None y e = absurd cc
made_of f (Some x) y e = (x, refl, cc)

module _ (m n : Types) (more : (t : ℕ) (x : TypeDef) → m t ≡ Some x → n t ≡ Some x) where
  members_kept : (group : List ℕ) (subs : List (SubType Seen)) → AreMembers m group subs → AreMembers n group subs
  members_kept [] [] are = refl
  members_kept [] (s ∷ ss) are = absurd cc
  members_kept (t ∷ ts) [] are = absurd cc
  members_kept (t ∷ ts) (s ∷ ss) are =
      let first : option_map in_its_group (m t) ≡ Some s = cc in
      let rest : AreMembers m ts ss = cc in
      let made = made_of in_its_group (m t) s first in
      ap₂ ◌∷◌ (ap (option_map in_its_group) (more t made.0 made.1) ∙ ap Some made.2) (members_kept ts ss rest)

  mutual
    pub shape_kept : (shape : Shape) (t : ℕ) → HasShape m t shape → HasShape n t shape
    shape_kept (OfGroup members filling position) t (x, e, place, subs, are, members_are, filled) =
        (x, more t x e, place, subs, members_kept x.group subs are, members_are, shapes_kept filling _ filled)

    pub shapes_kept : (shapes : Shapes) (ts : List ℕ) → HaveShapes m ts shapes → HaveShapes n ts shapes
    shapes_kept NoShapes ts e = e
    shapes_kept (AndShape shape rest) ts (t, us, e, has, have) = (t, us, e, shape_kept shape t has, shapes_kept rest us have)

-- what was there is there where slots stand behind
pub item_at-front : {T : Type 0} (slots more : List (Option T)) (t : ℕ) (x : T) → item_at slots t ≡ Some x → item_at (slots ++ more) t ≡ Some x
item_at-front [] more t x e = absurd cc
item_at-front (s ∷ ss) more zero x e = e
item_at-front (s ∷ ss) more (suc t) x e = item_at-front ss more t x e

pub adding_keeps : KeepsShapes
adding_keeps slots more t shape has = shape_kept (item_at slots) (item_at (slots ++ more)) (item_at-front slots more) shape t has
