-- Who named each item that a search entered, so that a chain is read back from it.
use Rattle.std.specs.Prelude.{ℕ, ◌≡◌, ◌<◌, ◌≤◌, ◌⊎◌, List, length, Option, Some, None, Contains, slice_index_or}
use Rattle.std.specs.Global.{Vec}
use Rattle.walrus_base.specs.Operators.{Item, Types}
use Rattle.walrus_code.specs.declared.items.ItemId.{ItemId}
use Rattle.walrus_model.specs.Abstract.{Abstract}
use Rattle.walrus_model.specs.Reached.{Reached}
use Rattle.walrus_model.specs.Refers.{Refers}
use Rattle.walrus_model.specs.Roots.{IsRoot}
use Rattle.walrus_contents.specs.Named.{items_in}
use Rattle.walrus.specs.Used.{Enters}
use Rattle.walrus.specs.Why.{IsChain}
use Rattle.walrus.specs.Worklist.{entered_items}
use Rattle.walrus.specs.declared.passes.why.Traced.{Traced}

-- the item at a place of the list; past its end any
abbrev pub item_in : List Item → ℕ → Item
item_in items k = slice_index_or items k (Types, 0)

-- the number at a place of the list; past its end any
abbrev pub place_in : List ℕ → ℕ → ℕ
place_in places k = slice_index_or places k 0

-- the item at place k has place p beside it: its own, and it's one of these roots, or that of an item before it, which refers to it
abbrev pub IsNamedFrom : (IsOneRoot : Item → Type 0) → Abstract → List Item → (k p : ℕ) → Type 0
IsNamedFrom IsOneRoot v items k p = ((p ≡ k) × IsOneRoot (item_in items k)) ⊎ ((p < k) × Refers v (item_in items p) (item_in items k))

-- so has each item
pub record Traces (IsOneRoot : Item → Type 0) (v : Abstract) (items : List Item) (places : List ℕ) : Type 0 where
  pub counted : length places ≡ length items
  pub named : (k : ℕ) → k < length items → IsNamedFrom IsOneRoot v items k (place_in places k)

-- the item may be named so: by the item at this place, which refers to it, or as one of these roots
abbrev pub MayName : (roots : List Item) → Abstract → List Item → Option ℕ → Item → Type 0
MayName roots v items None x = Contains roots x
MayName roots v items (Some p) x = (p < length items) × Refers v (item_in items p) x

-- the items that are named are entered, and where they may be named so, who named each is noted
pub record Names (v : Abstract) (by : Option ℕ) (named : List Item) (old new : Traced) : Type 0 where
  pub enters : Enters v named old.list new.list
  pub traces : (roots : List Item) → ((x : Item) → Contains named x → MayName roots v (entered_items old.list) by x)
      → Traces (Contains roots) v (entered_items old.list) old.namers.items → Traces (Contains roots) v (entered_items new.list) new.namers.items

-- what a search has found at its end: all that is reached, and who named each
pub record IsTraced (v : Abstract) (traced : Traced) : Type 0 where
  pub reached : (x : Item) → Reached v x → Contains (entered_items traced.list) x
  pub traces : Traces (IsRoot v) v (entered_items traced.list) traced.namers.items

-- each place has one beside it that isn't behind it
abbrev pub PointsBack : List ℕ → Type 0
PointsBack places = (k : ℕ) → k < length places → place_in places k ≤ k

-- where who named each item is noted, these are a chain to the item at this place
abbrev pub LeadsBack : Traced → (place : ℕ) → Vec ItemId → Type 0
LeadsBack traced place chain =
    (v : Abstract) → Traces (IsRoot v) v (entered_items traced.list) traced.namers.items → IsChain v (items_in chain) (item_in (entered_items traced.list) place)
