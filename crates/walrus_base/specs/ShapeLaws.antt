-- Laws of shapes.
use Rattle.std.specs.Prelude.{◌≡◌, ℕ, ◌+◌, ◌<◌, List, ◌++◌, map, length, Option, Some, IsTrue, Contains, ◌⊎◌}
use Rattle.std.specs.List.{range_with_len}
use Rattle.walrus_base.specs.Arena.{item_at, IsLive}
use Rattle.walrus_base.specs.Types.{SubType, map_sub, sub_names}
use Rattle.walrus_base.specs.Composite.{new_sub}
use Rattle.walrus_base.specs.PlaceList.{has}
use Rattle.walrus_base.specs.Shape.{Seen, seen_from, slot, others_named, Shape, OfGroup, Shapes, HasShape, HaveShapes}
use Rattle.walrus_base.specs.TypeDef.{TypeDef}
use Rattle.walrus_base.specs.TypeSlots.{new_group}
use Rattle.walrus_base.specs.Whole.{AreWhole}
use Rattle.walrus_base.specs.declared.composite.NewType.{NewType}

-- a type that has a shape among some slots has it also where further slots stand behind
abbrev pub KeepsShapes : Type 0
KeepsShapes = (slots more : List (Option TypeDef)) (t : ℕ) (shape : Shape) → HasShape (item_at slots) t shape → HasShape (item_at (slots ++ more)) t shape

-- the members of a group, whose places begin at the first, as they stand in it
abbrev pub group_subs : (first : ℕ) → List NewType → List (SubType Seen)
group_subs first members = map (λ member. map_sub (seen_from (range_with_len first (length members))) (new_sub member)) members

-- where the other types that the members of a group name have shapes, each member of the group, once added, has the shape of the group at its position
abbrev pub GroupHasShape : Type 0
GroupHasShape =
    (slots : List (Option TypeDef)) (members : List NewType) (filling : Shapes)
    → HaveShapes (item_at slots) (others_named (group_subs (length slots) members)) filling
    → (k : ℕ) → k < length members
    → HasShape (item_at (slots ++ new_group (length slots) members)) (length slots + k) (OfGroup (map (map_sub slot) (group_subs (length slots) members)) filling k)

-- groups are there whole, and each type that a type names is a member of its group, or is there at a place before all of its group's
pub record RefersBackwards (slots : List (Option TypeDef)) : Type 0 where
  pub groups : AreWhole slots
  pub backwards : (t : ℕ) (x : TypeDef) → item_at slots t ≡ Some x → (u : ℕ) → Contains (sub_names x.sub) u → IsTrue (has x.group u) ⊎ (IsLive slots u × ((p : ℕ) → IsTrue (has x.group p) → u < p))

-- then each type that is there has a shape
abbrev pub ShapesEnd : Type 0
ShapesEnd = (slots : List (Option TypeDef)) → RefersBackwards slots → (t : ℕ) → IsLive slots t → (shape : Shape) × HasShape (item_at slots) t shape
