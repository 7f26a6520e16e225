-- What a contract sees of the worklist of a search.
use Rattle.std.specs.Prelude.{ℕ, ◌≡◌, ◌≢◌, ◌<◌, ◌≤◌, ◌+◌, ◌↔◌, true, List, [], ◌∷◌, ◌++◌, length, AllPairs, Contains, slice_index_or, vec_capacity, if◌then◌else◌}
use Rattle.walrus_base.specs.Operators.{Item}
use Rattle.walrus_model.specs.Abstract.{Abstract}
use Rattle.walrus_contents.specs.Named.{items_in}
use Rattle.walrus_contents.specs.There.{AreLive}
use Rattle.walrus.specs.MarkedItems.{HavePlaces, SamePlaces, has_mark}
use Rattle.walrus.specs.declared.passes.worklist.Worklist.{Worklist}

-- the items entered, in the order of their entry
abbrev pub entered_items : Worklist → List Item
entered_items list = items_in list.entered

-- those marked are those entered
abbrev pub Agrees : Worklist → Type 0
Agrees list = (x : Item) → (has_mark list.marks x ≡ true) ↔ Contains (entered_items list) x

-- live items of which no two are the same are no more than so many
abbrev pub IsRoomForLive : Abstract → ℕ → Type 0
IsRoomForLive v n = (xs : List Item) → AllPairs (λ x y. x ≢ y) xs → AreLive v xs → length xs ≤ n

-- what a worklist keeps while a module is searched: those marked are those entered, which are live; there is a mark and room for each live
-- item
pub record Keeps (v : Abstract) (list : Worklist) : Type 0 where
  pub agrees : Agrees list
  pub live : AreLive v (entered_items list)
  pub places : HavePlaces v list.marks
  pub room : IsRoomForLive v (vec_capacity list.entered)

-- the item is marked and, where it wasn't, entered behind those that were; there is room and there are marks as before, and the same are taken
pub record Notes (x : Item) (old new : Worklist) : Type 0 where
  pub items : entered_items new ≡ (if has_mark old.marks x then entered_items old else entered_items old ++ x ∷ [])
  pub agrees : Agrees new
  pub places : SamePlaces old.marks new.marks
  pub room : vec_capacity new.entered ≡ vec_capacity old.entered
  pub taken : new.taken ≡ old.taken

-- the item is the first of those that wait, and is taken and counted; all else stays
pub record Takes (x : Item) (old new : Worklist) : Type 0 where
  pub waits : old.taken < length (entered_items old)
  pub is : slice_index_or (entered_items old) old.taken x ≡ x
  pub taken : new.taken ≡ old.taken + 1
  pub entered : new.entered ≡ old.entered
  pub marks : new.marks ≡ old.marks
