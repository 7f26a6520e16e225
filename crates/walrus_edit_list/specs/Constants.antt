-- What is answered where the numbers of an entry are looked up.
use Rattle.std.specs.Prelude.{Option, Some, None, Result, Ok, Err, ◌≡◌}
use Rattle.walrus_items.specs.declared.error.Error.{Error}
use Rattle.walrus_edit_list.specs.Refuses.{Refuses}

-- the entry with the id for each number in it; refused where one has none
abbrev pub Finds : {X Y : Type 0} → (X → Y) → Result X Error → Option Y → Type 0
Finds view (Ok x) found = found ≡ Some (view x)
Finds view (Err e) found = Refuses (found ≡ None) ⊥ e
