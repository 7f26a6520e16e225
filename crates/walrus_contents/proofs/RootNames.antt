-- What the roots are: what the exports name, the start function where there is one, the active data segments, and the active and the
-- declared element segments.
use Rattle.std.proofs.Common.{◌≡◌, ◌⊎◌, inl, inr, ℕ, Bool, true, false, not, List, [], ◌++◌, map, Some, None, ⊎_elim, refl, sym, ap, subst}
use Rattle.std.specs.Prelude.{Option, Contains, filter, option_map}
use Rattle.std.proofs.lemmas.Bool.{false≢true}
use Rattle.std.proofs.lemmas.List.Elements.{Contains-append_cases, Contains-append_left, Contains-append_right, Contains-push_cases}
use Rattle.walrus_base.specs.Arena.{item_at, entries}
use Rattle.walrus_base.specs.Id.{place}
use Rattle.walrus_base.specs.declared.id.Id.{Id}
use Rattle.walrus_base.specs.declared.keys.FunctionKey.{FunctionKey}
use Rattle.walrus_base.specs.Operators.{Space, Elements, DataSegments, Item, function_item}
use Rattle.walrus_items.specs.Data.{DataValue, data_segments, is_passive_data, ModuleData}
use Rattle.walrus_items.specs.Elements.{ElementValue, elements, ModuleElements}
use Rattle.walrus_base.proofs.Lists.{Contains-head, Contains-map, Contains-none}
use Rattle.walrus_model.proofs.Reach.{Contains-unmap}
use Rattle.walrus_contents.specs.Named.{active_names, are_passive, export_names, other_roots, root_elements, root_names, start_names}
use Rattle.walrus_contents.specs.declared.parts.Contents.{Contents}
use Rattle.walrus_base.proofs.Filters.{from_filter, in_filter}
use Rattle.walrus_contents.proofs.NamedLemmas.{same_some}
use Rattle.walrus_model.proofs.Slots.{entry_in, stands_at}

-- ---- the start function

pub start_named : (start : Option (Id FunctionKey)) (f : ℕ) → option_map place start ≡ Some f → Contains (start_names start) (function_item f)
start_named (Some id) f e = subst (λ (n : ℕ). Contains (start_names (Some id)) (function_item n)) (same_some (option_map place (Some id)) (place id) f refl e) (Contains-head (function_item (place id)) [])
start_named None f e = absurd (cc)

pub named_start : (start : Option (Id FunctionKey)) (x : Item) → Contains (start_names start) x → (f : ℕ) × (option_map place start ≡ Some f) × (x ≡ function_item f)
named_start (Some id) x c = (place id, refl, ⊎_elim (λ h. absurd (Contains-none x h)) (λ (e : function_item (place id) ≡ x). sym e) (Contains-push_cases [] (function_item (place id)) x c))
named_start None x c = absurd (Contains-none x c)

-- ---- the segments that are roots

not_true : (b : Bool) → not b ≡ true → b ≡ false
not_true true h = absurd (false≢true h)
not_true false h = refl

-- the items at these slots that aren't passive, as items of an index space
module _ {X : Type 0} (space : Space) (passive : X → Bool) (slots : List (Option X)) where
  abbrev is_root : ℕ × X → Bool
  is_root e = not (passive e.1)

  abbrev entry_item : ℕ × X → Item
  entry_item e = (space, e.0)

  abbrev roots : List Item
  roots = map entry_item (filter is_root (entries slots))

  named_slot : (x : Item) → Contains roots x → (i : ℕ) × (d : X) × (item_at slots i ≡ Some d) × (passive d ≡ false) × (x ≡ (space, i))
  named_slot x c =
      let from = Contains-unmap entry_item (filter is_root (entries slots)) x c in
      let kept = from_filter is_root (entries slots) from.0 from.1 in
      (from.0.0, from.0.1, stands_at slots from.0 kept.0, not_true (passive from.0.1) kept.1, sym from.2)

  slot_named : (i : ℕ) (d : X) → item_at slots i ≡ Some d → passive d ≡ false → Contains roots (space, i)
  slot_named i d at active = Contains-map entry_item (i, d) (filter is_root (entries slots)) (in_filter is_root (entries slots) (i, d) (entry_in slots i d at) (ap not active))

module _ (all : ModuleData) where
  -- what they name is a segment that is active
  pub named_active : (x : Item) → Contains (active_names all) x → (i : ℕ) × (d : DataValue) × (item_at (data_segments all) i ≡ Some d) × (is_passive_data d.kind ≡ false) × (x ≡ (DataSegments, i))
  named_active x c = named_slot DataSegments (λ (d : DataValue). is_passive_data d.kind) (data_segments all) x c

  -- a segment that is active is named
  pub active_named : (i : ℕ) (d : DataValue) → item_at (data_segments all) i ≡ Some d → is_passive_data d.kind ≡ false → Contains (active_names all) (DataSegments, i)
  active_named i d at active = slot_named DataSegments (λ (d : DataValue). is_passive_data d.kind) (data_segments all) i d at active

module _ (all : ModuleElements) where
  -- what they name is an element segment that isn't passive
  pub named_root_element : (x : Item) → Contains (root_elements all) x → (i : ℕ) × (e : ElementValue) × (item_at (elements all) i ≡ Some e) × (are_passive e.kind ≡ false) × (x ≡ (Elements, i))
  named_root_element x c = named_slot Elements (λ (e : ElementValue). are_passive e.kind) (elements all) x c

  -- an element segment that isn't passive is named
  pub root_element_named : (i : ℕ) (e : ElementValue) → item_at (elements all) i ≡ Some e → are_passive e.kind ≡ false → Contains (root_elements all) (Elements, i)
  root_element_named i e at differs = slot_named Elements (λ (e : ElementValue). are_passive e.kind) (elements all) i e at differs

-- ---- all of them

module _ (c : Contents) (x : Item) where
  abbrev before_elements : List Item
  before_elements = start_names c.start ++ active_names c.data_

  -- a root that no export names is the start function, or an active data segment, or an element segment that isn't passive
  pub other_cases : Contains (other_roots c) x → Contains (start_names c.start) x ⊎ (Contains (active_names c.data_) x ⊎ Contains (root_elements c.elements) x)
  other_cases at = ⊎_elim
      (λ before. ⊎_elim (λ h. inl h) (λ h. inr (inl h)) (Contains-append_cases (start_names c.start) (active_names c.data_) x before))
      (λ h. inr (inr h))
      (Contains-append_cases before_elements (root_elements c.elements) x at)

  -- a root is named by the exports, or is one of the others
  pub root_cases : Contains (root_names c) x → Contains (export_names c.exports) x ⊎ (Contains (start_names c.start) x ⊎ (Contains (active_names c.data_) x ⊎ Contains (root_elements c.elements) x))
  root_cases at = ⊎_elim (λ h. inl h) (λ h. inr (other_cases h)) (Contains-append_cases (export_names c.exports) (other_roots c) x at)

  pub start_is_other : Contains (start_names c.start) x → Contains (other_roots c) x
  start_is_other at = Contains-append_left before_elements (root_elements c.elements) x (Contains-append_left (start_names c.start) (active_names c.data_) x at)

  active_is_other : Contains (active_names c.data_) x → Contains (other_roots c) x
  active_is_other at = Contains-append_left before_elements (root_elements c.elements) x (Contains-append_right (start_names c.start) (active_names c.data_) x at)

  other_is_root : Contains (other_roots c) x → Contains (root_names c) x
  other_is_root at = Contains-append_right (export_names c.exports) (other_roots c) x at

  pub export_is_root : Contains (export_names c.exports) x → Contains (root_names c) x
  export_is_root at = Contains-append_left (export_names c.exports) (other_roots c) x at

  pub start_is_root : Contains (start_names c.start) x → Contains (root_names c) x
  start_is_root at = other_is_root (start_is_other at)

  pub active_is_root : Contains (active_names c.data_) x → Contains (root_names c) x
  active_is_root at = other_is_root (active_is_other at)

  pub element_is_root : Contains (root_elements c.elements) x → Contains (root_names c) x
  element_is_root at = other_is_root (Contains-append_right before_elements (root_elements c.elements) x at)
