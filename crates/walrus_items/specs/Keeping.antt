-- What stays of a collection, by a test of its items.
use Rattle.std.specs.Prelude.{Bool, List, Option, Some, None, map, if◌then◌else◌}

module _ {T : Type 0} (stays : T → Bool) where
  -- the item, if it stays
  abbrev pub kept_slot : Option T → Option T
  kept_slot None = None
  kept_slot (Some x) = if stays x then Some x else None

  -- the same number of places, the items that stay as they were, and nothing at the others
  abbrev pub kept_where : List (Option T) → List (Option T)
  kept_where slots = map kept_slot slots
