use Rattle.std.proofs.Common.{◌≡◌, ◌++◌, List, ℕ, map}
use Rattle.std.specs.Prelude.{Option}
use Rattle.walrus.specs.Base.Arena.{entries}
use Rattle.walrus.specs.Items.Held.{held, held_entries_left}
use Rattle.walrus_edits.specs.ItemSteps.{IsNameOf, name_told}
use Rattle.walrus_edits.specs.ItemValues.{names_in}
use Rattle.walrus_edits.proofs.name_records.push_names.Given as goal

-- the names so far, and those of the items that are left
abbrev pub invariant-items : goal.invariant-items
invariant-items g l =
    (goal.iterator-items g).can_next l.id-iterator
    × (goal.iterator-items g).is_finite l.id-iterator
    × ((name_of : g.T.Item.Seen → Option (List ℕ)) → IsNameOf g.T.MayHaveName.own g.T.Item.value name_of
    → map name_told l.to.items ++ names_in l.what name_of (held_entries_left g.T.Item.value l.id-iterator) ≡ map name_told l.fn.to.items ++ names_in l.what name_of (entries (held g.T.Item.value l.all)))
