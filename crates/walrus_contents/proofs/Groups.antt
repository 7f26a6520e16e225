-- The members of groups, and what items name themselves.
use Rattle.std.proofs.Common.{◌≡◌, ℕ, ◌⊎◌, inl, inr, ⊎_elim, List, map, Option, Some, None, sym, ap, ◌∙◌, subst, refl}
use Rattle.std.specs.Prelude.{Contains, IsSome}
use Rattle.std.proofs.lemmas.List.Elements.{Contains-append_left, Contains-append_right, Contains-append_cases}
use Rattle.walrus_base.specs.Arena.{item_at}
use Rattle.walrus_base.specs.ModuleTypes.{type_slots}
use Rattle.walrus_base.specs.Operators.{Types, Functions, Tables, Memories, Tags, Globals, Elements, DataSegments, Item, type_item}
use Rattle.walrus_base.specs.TypeDef.{TypeDef}
use Rattle.walrus_base.specs.TypeSlots.{group_at, group_of}
use Rattle.walrus_base.specs.Whole.{AreWhole}
use Rattle.walrus_base.proofs.ShapesEnd.{has_contained}
use Rattle.walrus_base.proofs.ShapesKept.{made_of}
use Rattle.walrus_model.specs.Abstract.{Abstract}
use Rattle.walrus_model.specs.Live.{IsLive}
use Rattle.walrus_model.specs.Refers.{Refers, named_by, type_names, written_in}
use Rattle.walrus_base.proofs.Lists.{Contains-none}
use Rattle.walrus_model.proofs.Reach.{Contains-unmap}
use Rattle.walrus_contents.specs.Named.{NamesItself, group_names, own_type_names, own_written}
use Rattle.walrus_contents.specs.View.{contents_view}
use Rattle.walrus_contents.specs.declared.parts.Contents.{Contents}

-- ---- what is written in an item is its group, and what it names itself

abbrev members : TypeDef → List Item
members t = map type_item t.group

split : (o : Option TypeDef) (y : Item) → Contains (named_by type_names o) y → Contains (named_by members o) y ⊎ Contains (named_by own_type_names o) y
split None y at = absurd (Contains-none y at)
split (Some t) y at = Contains-append_cases (members t) (own_type_names t) y at

joined_own : (o : Option TypeDef) (y : Item) → Contains (named_by own_type_names o) y → Contains (named_by type_names o) y
joined_own None y at = absurd (Contains-none y at)
joined_own (Some t) y at = Contains-append_right (members t) (own_type_names t) y at

joined_group : (o : Option TypeDef) (y : Item) → Contains (named_by members o) y → Contains (named_by type_names o) y
joined_group None y at = absurd (Contains-none y at)
joined_group (Some t) y at = Contains-append_left (members t) (own_type_names t) y at

module _ (v : Abstract) where
  pub written_split : (x y : Item) → Contains (written_in v x) y → Contains (group_names v x) y ⊎ Contains (own_written v x) y
  written_split (Types, i) y at = split (v.types i) y at
  written_split (Functions, i) y at = inr at
  written_split (Tables, i) y at = inr at
  written_split (Memories, i) y at = inr at
  written_split (Tags, i) y at = inr at
  written_split (Globals, i) y at = inr at
  written_split (Elements, i) y at = inr at
  written_split (DataSegments, i) y at = inr at

  pub own_is_written : (x y : Item) → Contains (own_written v x) y → Contains (written_in v x) y
  own_is_written (Types, i) y at = joined_own (v.types i) y at
  own_is_written (Functions, i) y at = at
  own_is_written (Tables, i) y at = at
  own_is_written (Memories, i) y at = at
  own_is_written (Tags, i) y at = at
  own_is_written (Globals, i) y at = at
  own_is_written (Elements, i) y at = at
  own_is_written (DataSegments, i) y at = at

  pub group_is_written : (x y : Item) → Contains (group_names v x) y → Contains (written_in v x) y
  group_is_written (Types, i) y at = joined_group (v.types i) y at
  group_is_written (Functions, i) y at = absurd (Contains-none y at)
  group_is_written (Tables, i) y at = absurd (Contains-none y at)
  group_is_written (Memories, i) y at = absurd (Contains-none y at)
  group_is_written (Tags, i) y at = absurd (Contains-none y at)
  group_is_written (Globals, i) y at = absurd (Contains-none y at)
  group_is_written (Elements, i) y at = absurd (Contains-none y at)
  group_is_written (DataSegments, i) y at = absurd (Contains-none y at)

  -- what an item names itself it refers to
  pub own_refers : (x y : Item) → NamesItself v x y → Refers v x y
  own_refers x y (inl own) = inl (own_is_written x y own)
  own_refers x y (inr too) = inr too

  -- what it refers to is a member of its group, or named by it
  pub refers_split : (x y : Item) → Refers v x y → Contains (group_names v x) y ⊎ NamesItself v x y
  refers_split x y (inl at) = ⊎_elim (λ g. inl g) (λ own. inr (inl own)) (written_split x y at)
  refers_split x y (inr too) = inr (inr too)

-- ---- groups are there whole

-- a member of an item's group is there, and has the same group
abbrev pub GroupsAreWhole : Abstract → Type 0
GroupsAreWhole v = (x y : Item) → Contains (group_names v x) y → IsLive v y × (group_names v y ≡ group_names v x)

-- a member of a type's group is there
pub group_live : (slots : List (Option TypeDef)) → AreWhole slots → (t p : ℕ) → Contains (group_at slots t) p → IsSome (item_at slots p)
group_live slots whole t p at = by (item_at slots t) refl at where
  by : (o : Option TypeDef) → item_at slots t ≡ o → Contains (group_of o) p → IsSome (item_at slots p)
  by None e none = absurd (Contains-none p none)
  by (Some x) e member =
      let made = made_of (λ (y : TypeDef). y.group) (item_at slots p) x.group (whole.members t x e p (has_contained x.group p member)) in
      subst (λ (o : Option TypeDef). IsSome o) (sym made.1) refl

module _ (c : Contents) (whole : AreWhole (type_slots c.types)) where
  abbrev slots : List (Option TypeDef)
  slots = type_slots c.types

  member_there : (i : ℕ) (o : Option TypeDef) → item_at slots i ≡ o → (y : Item) → Contains (named_by members o) y → IsLive (contents_view c) y × (group_names (contents_view c) y ≡ named_by members o)
  member_there i None at y named = absurd (Contains-none y named)
  member_there i (Some t) at y named =
      let from = Contains-unmap type_item t.group y named in
      let made = made_of (λ (x : TypeDef). x.group) (item_at slots from.0) t.group (whole.members i t at from.0 (has_contained t.group from.0 from.1)) in
      let there : IsSome (item_at slots from.0) = subst (λ (o : Option TypeDef). IsSome o) (sym made.1) refl in
      let same : named_by members (item_at slots from.0) ≡ members t = ap (named_by members) made.1 ∙ ap (map type_item) made.2 in
      subst (λ (z : Item). IsLive (contents_view c) z × (group_names (contents_view c) z ≡ members t)) from.2 (there, same)

  pub groups_whole : GroupsAreWhole (contents_view c)
  groups_whole (Types, i) y at = member_there i (item_at slots i) refl y at
  groups_whole (Functions, i) y at = absurd (Contains-none y at)
  groups_whole (Tables, i) y at = absurd (Contains-none y at)
  groups_whole (Memories, i) y at = absurd (Contains-none y at)
  groups_whole (Tags, i) y at = absurd (Contains-none y at)
  groups_whole (Globals, i) y at = absurd (Contains-none y at)
  groups_whole (Elements, i) y at = absurd (Contains-none y at)
  groups_whole (DataSegments, i) y at = absurd (Contains-none y at)
