-- What a collection holds, as plain values.
use Rattle.std.specs.Prelude.{ℕ, List, Option, map}
use Rattle.walrus_base.specs.Arena.{slots, entries_left}
use Rattle.walrus_items.specs.Seen.{seen}
use Rattle.walrus_items.specs.declared.items.Items.{Items}
use Rattle.walrus_items.specs.declared.items.ItemIter.{ItemIter}
use Rattle.walrus_items.specs.declared.items.ItemEntries.{ItemEntries}

module _ {K T U : Type 0} (value : T → U) where
  -- the value or nothing at each place from 0 on
  abbrev pub held : Items K T → List (Option U)
  held all = seen value (slots all.arena)

  -- those that are still to come
  abbrev pub held_left : ItemIter K T → List U
  held_left left = map (λ e. value e.1) (entries_left left.rest)

  -- those that are still to come, with their places
  abbrev pub held_entries_left : ItemEntries K T → List (ℕ × U)
  held_entries_left left = map (λ e. (e.0, value e.1)) (entries_left left.rest)
