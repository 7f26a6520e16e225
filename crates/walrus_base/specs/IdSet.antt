-- What a contract sees of an `IdHashSet`.
use Rattle.std.specs.Prelude.{◌≡◌, ◌≢◌, ℕ, Bool, true, false, List, [], Option, Some, None}
use Rattle.std.specs.BTreeSet.{BTreeSet, contains, keys}
use Rattle.std.specs.Global.{Box}
use Rattle.std.specs.Ordering.{nat_cmp}
use Rattle.walrus_base.specs.declared.set.IdHashSet.{IdHashSet}
use Rattle.walrus_base.specs.declared.set.IdHashSetIter.{IdHashSetIter}

-- whether this place is in
abbrev pub has_place : Option (Box (BTreeSet ℕ)) → ℕ → Bool
has_place None place = false
has_place (Some places) place = contains nat_cmp places.value place

-- the places that are in, by rising place
abbrev pub places_in : Option (Box (BTreeSet ℕ)) → List ℕ
places_in None = []
places_in (Some places) = keys places.value

-- the places that are still to come
abbrev pub places_left : Option (List ℕ) → List ℕ
places_left None = []
places_left (Some rest) = rest

-- this place is in, and no other
pub record HasAlone (has : ℕ → Bool) (place : ℕ) : Type 0 where
  pub there : has place ≡ true
  pub alone : (other : ℕ) → other ≢ place → has other ≡ false

module _ {K : Type 0} where
  -- whether the id of this place is in
  abbrev pub has_id : IdHashSet K → ℕ → Bool
  has_id ids place = has_place ids.places place

  -- the id of this place is in
  abbrev pub HasId : IdHashSet K → ℕ → Type 0
  HasId ids place = has_id ids place ≡ true

  -- the same ids are in
  abbrev pub SameIds : IdHashSet K → IdHashSet K → Type 0
  SameIds old new = (place : ℕ) → has_id new place ≡ has_id old place

  -- the id of this place is in now, and else the same ids are in
  pub record Adds (old new : IdHashSet K) (place : ℕ) : Type 0 where
    pub added : HasId new place
    pub others : (other : ℕ) → other ≢ place → has_id new other ≡ has_id old other

  -- the id of this place is out now, and else the same ids are in
  pub record Removes (old new : IdHashSet K) (place : ℕ) : Type 0 where
    pub removed : has_id new place ≡ false
    pub others : (other : ℕ) → other ≢ place → has_id new other ≡ has_id old other

  -- the places of the ids that are in, by rising place
  abbrev pub ids_in : IdHashSet K → List ℕ
  ids_in ids = places_in ids.places

  -- the places of the ids that are still to come
  abbrev pub ids_left : IdHashSetIter K → List ℕ
  ids_left left = places_left left.rest
