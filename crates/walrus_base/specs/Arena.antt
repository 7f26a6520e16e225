-- What a contract sees of a `TombstoneArena`.
use Rattle.std.specs.Prelude.{ℕ, suc, ◌+◌, ◌≤◌, vec_len, vec_capacity, Bool, List, [], ◌∷◌, Option, Some, None, IsSome, slice_index_or, drop, map, if◌then◌else◌}
use Rattle.std.specs.Vec.{with_item as with_slot}
use Rattle.walrus_base.specs.declared.arena.TombstoneArena.{TombstoneArena}
use Rattle.walrus_base.specs.declared.arena.ArenaIter.{ArenaIter}

module _ {T : Type 0} where
  -- the item at a place, if one is there
  abbrev pub item_at : List (Option T) → ℕ → Option T
  item_at slots place = slice_index_or slots place None

  -- an item is at the place
  abbrev pub IsLive : List (Option T) → ℕ → Type 0
  IsLive slots place = IsSome (item_at slots place)

  -- the items with their places, where the first of these places is `place`
  abbrev pub entries_from : ℕ → List (Option T) → List (ℕ × T)
  entries_from place [] = []
  entries_from place (None ∷ rest) = entries_from (place + 1) rest
  entries_from place (Some item ∷ rest) = (place, item) ∷ entries_from (place + 1) rest

  -- the items with their places, by rising place
  abbrev pub entries : List (Option T) → List (ℕ × T)
  entries slots = entries_from 0 slots

  -- the places of the live items, rising
  abbrev pub live_places : List (Option T) → List ℕ
  live_places slots = map (λ entry. entry.0) (entries slots)

  -- the items, by rising place
  abbrev pub items : List (Option T) → List T
  items slots = map (λ entry. entry.1) (entries slots)

  -- the same number of places, those that `keeps` says as they were, and nothing at the others
  abbrev pub kept_by : (keeps : ℕ → Bool) → List (Option T) → List (Option T)
  kept_by keeps [] = []
  kept_by keeps (slot ∷ rest) = (if keeps 0 then slot else None) ∷ kept_by (λ n. keeps (suc n)) rest

module _ {K T : Type 0} where
  -- the item or nothing at each place from 0 on
  abbrev pub slots : TombstoneArena K T → List (Option T)
  slots arena = arena.places.items

  -- so many items can be added without asking for memory
  abbrev pub HasRoom : TombstoneArena K T → ℕ → Type 0
  HasRoom arena additional = vec_len arena.places + additional ≤ vec_capacity arena.places

  -- the arena with this item at a place
  abbrev pub with_item : TombstoneArena K T → ℕ → T → TombstoneArena K T
  with_item arena place item = record arena { places = with_slot arena.places place (Some item) }

  -- the places and items that are still to come
  abbrev pub entries_left : ArenaIter K T → List (ℕ × T)
  entries_left rest = entries_from rest.place (drop rest.place rest.places.now)
