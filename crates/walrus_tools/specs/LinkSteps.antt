-- The steps to what is told of items: names that are lent, and exports by what they export.
use Rattle.std.specs.Prelude.{◌≡◌, ◌++◌, ◌-◌, ◌<◌, ◌&&◌, ℕ, Bool, List, [], ◌∷◌, Option, Some, None, AllPairs, filter, length, map, nat_eq, slice_index_or, if◌then◌else◌}
use Rattle.std.specs.Borrow.{Bor}
use Rattle.std.specs.Global.{Vec}
use Rattle.std.specs.HashMap.{get}
use Rattle.std.specs.declared.ops.Range.{Range}
use Rattle.walrus.specs.Base.Operators.{Item, function_item}
use Rattle.walrus.specs.Base.IdValue.{Id}
use Rattle.walrus.specs.Base.FunctionKey.{FunctionKey}
use Rattle.walrus.specs.Items.Exports.{ExportValue}
use Rattle.walrus.specs.Items.Items.{is_item, space_number}
use Rattle.walrus.specs.Items.Kinds.{exported}
use Rattle.walrus.specs.Items.Transform.{range_of}
use Rattle.walrus_tools.specs.Links.{body_size}
use Rattle.walrus_tools.specs.declared.export_groups.ExportGroups.{ExportGroups}

-- ---- what is lent

-- a name that is lent, or none
abbrev pub lent_name : Option (Bor (List ℕ)) → List (List ℕ)
lent_name None = []
lent_name (Some text) = text.now ∷ []

-- what these refer to
abbrev pub texts : List (Bor (List ℕ)) → List (List ℕ)
texts names = map (λ n. n.now) names

-- ---- bodies

-- functions stand by rising id
abbrev pub AreRising : List (ℕ × (ℕ × ℕ)) → Type 0
AreRising bodies = AllPairs (λ (a : ℕ × (ℕ × ℕ)) (b : ℕ × (ℕ × ℕ)). a.0 < b.0) bodies

-- the body of function f stands at this place, or nowhere
abbrev pub FindsBody : List (Id FunctionKey × Range ℕ) → (f : ℕ) → Option ℕ → Type 0
FindsBody all f None = body_size (map range_of all) (function_item f) ≡ None
FindsBody all f (Some at) =
    (at < length all) × ((d : Id FunctionKey × Range ℕ) → body_size (map range_of all) (function_item f) ≡ Some ((range_of (slice_index_or all at d)).1.1 - (range_of (slice_index_or all at d)).1.0))

-- ---- exports by what they export

abbrev pub key_of : Item → ℕ × ℕ
key_of x = (space_number x.0, x.1)

abbrev pub same_key : (one other : ℕ × ℕ) → Bool
same_key one other = nat_eq one.0 other.0 && nat_eq one.1 other.1

abbrev pub texts_of : Option (Vec (Bor (List ℕ))) → List (List ℕ)
texts_of None = []
texts_of (Some names) = texts names.items

-- the names under a key
abbrev pub names_at : ExportGroups → ℕ × ℕ → List (List ℕ)
names_at groups key = texts_of (get same_key groups.names key)

-- a name stands behind those under its key, and the others are as they were
abbrev pub AddsName : (key : ℕ × ℕ) → (name : List ℕ) → (old new : ExportGroups) → Type 0
AddsName key name old new = (other : ℕ × ℕ) → names_at new other ≡ names_at old other ++ (if same_key key other then name ∷ [] else [])

-- the names of those of these exports that are of an item
abbrev pub names_of : List ExportValue → Item → List (List ℕ)
names_of all x = map (λ e. e.name) (filter (λ e. is_item (exported e.item) x) all)

-- under the key of each item stand the names of its exports
abbrev pub GroupsExports : List ExportValue → ExportGroups → Type 0
GroupsExports all groups = (x : Item) → names_at groups (key_of x) ≡ names_of all x
