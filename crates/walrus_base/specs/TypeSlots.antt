-- What is seen of the places in which the types of a module are kept.
use Rattle.std.specs.Prelude.{ℕ, List, [], ◌∷◌, Option, Some, None, option_map, map, slice_set, length}
use Rattle.std.specs.List.{range_with_len}
use Rattle.walrus_base.specs.Arena.{item_at}
use Rattle.walrus_base.specs.Composite.{new_sub}
use Rattle.walrus_base.specs.TypeDef.{TypeDef, type_def, type_name}
use Rattle.walrus_base.specs.declared.composite.NewType.{NewType}
use Rattle.walrus_base.specs.declared.types.Type.{«Type»}

-- the type or nothing at each place
abbrev pub defs : List (Option «Type») → List (Option TypeDef)
defs places = map (λ slot. option_map type_def slot) places

-- the name of the type, if it has one, or nothing at each place
abbrev pub names : List (Option «Type») → List (Option (Option (List ℕ)))
names places = map (λ slot. option_map type_name slot) places

-- the members of the type's group, in order; none where there is no type
abbrev pub group_of : Option TypeDef → List ℕ
group_of None = []
group_of (Some x) = x.group

-- the members of the group of the type at a place
abbrev pub group_at : List (Option TypeDef) → ℕ → List ℕ
group_at slots place = group_of (item_at slots place)

-- the last of these, or the other where there is none
abbrev pub last_of : List ℕ → ℕ → ℕ
last_of [] other = other
last_of (p ∷ ps) other = last_of ps p

-- a group of these members: each has the whole group, whose places begin at the first
abbrev pub new_group : (first : ℕ) → List NewType → List (Option TypeDef)
new_group first members = map (λ member. Some (record { group = range_with_len first (length members); sub = new_sub member })) members

-- as many types without a name
abbrev pub no_names : List NewType → List (Option (Option (List ℕ)))
no_names members = map (λ member. Some None) members

module _ {T : Type 0} where
  -- the slots with these places emptied
  abbrev pub cleared : List ℕ → List (Option T) → List (Option T)
  cleared [] slots = slots
  cleared (p ∷ ps) slots = cleared ps (slice_set slots p None)
