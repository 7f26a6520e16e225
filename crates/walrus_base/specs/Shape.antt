-- The shape of a type ("Types > Recursive Types", "Valid > Conventions > Rolling and Unrolling"): its group, with
-- references into the group as positions, and with the shapes of all other types that are named. Types are looked up by their numbers.
use Rattle.std.specs.Prelude.{ℕ, suc, List, [], ◌∷◌, map, flat_map, filter_map, Option, Some, None, option_map, ◌≡◌, ◌==◌, if◌then◌else◌}
use Rattle.walrus_base.specs.Types.{SubType, map_sub, sub_names}
use Rattle.walrus_base.specs.TypeDef.{TypeDef}

-- where t stands in a list
abbrev pub place_in : List ℕ → ℕ → Option ℕ
place_in [] t = None
place_in (x ∷ xs) t = if x == t then Some 0 else option_map suc (place_in xs t)

-- a type as it is named from within a group: by its position there, or as another type
pub data Seen : Type 0 where
  Own : (position : ℕ) → Seen
  Other : (number : ℕ) → Seen

-- a type as it is named from within a group: by its position there where it is given one, else, as another type, by its number
abbrev pub seen_at : Option ℕ → ℕ → Seen
seen_at (Some k) t = Own k
seen_at None t = Other t

-- a type as it is named from within the group of these types: by its (first) position where it is one of them, else, as another type, by its number
abbrev pub seen_from : List ℕ → ℕ → Seen
seen_from group t = seen_at (place_in group t) t

-- a type as it stands in its group
abbrev pub in_its_group : TypeDef → SubType Seen
in_its_group x = map_sub (seen_from x.group) x.sub

-- a type as it is seen from a group, with each number of a type of another group put through f
abbrev pub others_through : (ℕ → ℕ) → Seen → Seen
others_through f (Own k) = Own k
others_through f (Other t) = Other (f t)

-- a reference in a shape: a position in the group, or a hole that the shape of another type fills
pub data Slot : Type 0 where
  InGroup : ℕ → Slot
  Filled : Slot

-- what a type that is named from within a group becomes in a shape: a position where it is one of the group, a hole where it is another type
abbrev pub slot : Seen → Slot
slot (Own k) = InGroup k
slot (Other t) = Filled

-- the number of a type that is named from within a group, where it is another type; none where it is one of the group
abbrev pub other_type : Seen → Option ℕ
other_type (Own k) = None
other_type (Other t) = Some t

mutual
  -- the shape of a type: a group, the shapes that fill its holes in order, and a position in the group
  pub data Shape : Type 0 where
    OfGroup : (members : List (SubType Slot)) → (filling : Shapes) → (position : ℕ) → Shape

  -- the shapes that fill the holes of a group, in order
  pub data Shapes : Type 0 where
    NoShapes : Shapes
    AndShape : Shape → Shapes → Shapes

-- the types that a look-up has
abbrev pub Types : Type 0
Types = ℕ → Option TypeDef

-- the members of a group as they stand in it
abbrev pub AreMembers : Types → List ℕ → List (SubType Seen) → Type 0
AreMembers types group subs = map (λ t. option_map in_its_group (types t)) group ≡ map Some subs

-- the other types that the members of a group name, in order
abbrev pub others_named : List (SubType Seen) → List ℕ
others_named subs = filter_map other_type (flat_map sub_names subs)

abbrev mutual
  -- type t has this shape
  pub HasShape : Types → ℕ → Shape → Type 0
  HasShape types t (OfGroup members filling position) =
      (x : TypeDef) × (types t ≡ Some x) × (place_in x.group t ≡ Some position)
      × (subs : List (SubType Seen)) × AreMembers types x.group subs
      × (members ≡ map (map_sub slot) subs) × HaveShapes types (others_named subs) filling

  -- these types have these shapes, one by one
  pub HaveShapes : Types → List ℕ → Shapes → Type 0
  HaveShapes types ts NoShapes = ts ≡ []
  HaveShapes types ts (AndShape shape rest) = (t : ℕ) × (us : List ℕ) × (ts ≡ t ∷ us) × HasShape types t shape × HaveShapes types us rest

-- two types, each of its own look-up, have one shape
abbrev pub SameShape : Types → ℕ → Types → ℕ → Type 0
SameShape m t n u = (shape : Shape) × HasShape m t shape × HasShape n u shape
