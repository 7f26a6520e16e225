-- What a contract sees of `Marks`.
use Rattle.std.specs.Prelude.{◌≡◌, ◌≢◌, ◌+◌, ℕ, Bool, true, false, List, [], ◌∷◌, drop, length, slice_index_or}
use Rattle.walrus_base.specs.declared.marks.Marks.{Marks}
use Rattle.walrus_base.specs.declared.marks.MarksIter.{MarksIter}

-- the places that are marked, by rising place, where the first of these marks is that of `place`
abbrev pub marked_from : ℕ → List Bool → List ℕ
marked_from place [] = []
marked_from place (false ∷ rest) = marked_from (place + 1) rest
marked_from place (true ∷ rest) = place ∷ marked_from (place + 1) rest

module _ {K : Type 0} where
  -- how many places there are marks for
  abbrev pub mark_places : Marks K → ℕ
  mark_places marks = length marks.marks.items

  -- whether the item of this place is marked
  abbrev pub is_marked : Marks K → ℕ → Bool
  is_marked marks place = slice_index_or marks.marks.items place false

  -- the item of this place is marked now, and else the same items are, of as many places
  pub record Sets (old new : Marks K) (place : ℕ) : Type 0 where
    pub added : is_marked new place ≡ true
    pub others : (other : ℕ) → other ≢ place → is_marked new other ≡ is_marked old other
    pub places : mark_places new ≡ mark_places old

  -- the places of the items that are marked, by rising place
  abbrev pub places_marked : Marks K → List ℕ
  places_marked marks = marked_from 0 marks.marks.items

  -- the places of the items that are still to come
  abbrev pub marks_left : MarksIter K → List ℕ
  marks_left left = marked_from left.place (drop left.place left.marks.now)
