-- What a search for used items finds, and when it refuses.
use Rattle.std.specs.Prelude.{ℕ, ◌≡◌, ◌≤◌, ◌↔◌, true, List, ◌++◌, ◌⊎◌, take, Contains, MatchResult, Result, ⊤}
use Rattle.walrus_base.specs.Operators.{Item}
use Rattle.walrus_model.specs.Abstract.{Abstract}
use Rattle.walrus_model.specs.Kept.{ReachedCount}
use Rattle.walrus_model.specs.Live.{IsLive}
use Rattle.walrus_model.specs.Reached.{Reached}
use Rattle.walrus_model.specs.Refers.{Refers}
use Rattle.walrus_model.specs.Roots.{IsRoot}
use Rattle.walrus_items.specs.declared.custom.CustomSection.{Ghosts}
use Rattle.walrus_items.specs.declared.error.Error.{Error}
use Rattle.walrus_items.specs.declared.error.Error.TheVariants.{Memory, DeadItem, Caller}
pub use Rattle.walrus_contents.specs.There.{IsRefusal}
use Rattle.walrus_contents.specs.Named.{group_names}
use Rattle.walrus_contents.specs.There.{IsSound}
use Rattle.walrus_module.specs.Asked.{OneMayRefuse}
use Rattle.walrus_module.specs.View.{contents_of, meanings, view}
use Rattle.walrus_module.specs.declared.entry.SectionEntry.{SectionEntry}
use Rattle.walrus_module.specs.declared.module.Module.{Module}
use Rattle.walrus.specs.LiveCount.{live_count}
use Rattle.walrus.specs.Marked.{MarksAreKept, MarksKept, ReachesSound, ReachesUnsound}
use Rattle.walrus.specs.MarkedItems.{HavePlaces, has_mark}
use Rattle.walrus.specs.Worklist.{Keeps, entered_items}
use Rattle.walrus.specs.declared.passes.marks.MarkedItems.{MarkedItems}
use Rattle.walrus.specs.declared.passes.used.Used.{Used}
use Rattle.walrus.specs.declared.passes.worklist.Worklist.{Worklist}

-- ---- refusals

-- want of memory; a reference to what isn't there, which comes only where P holds; or a caller's own refusal, which comes only where Q holds
abbrev pub RefusesSearch : (P Q : Type 0) → Error → Type 0
RefusesSearch P Q (Memory e) = ⊤
RefusesSearch P Q DeadItem = P
RefusesSearch P Q (Caller text) = Q
RefusesSearch P Q _ = ⊥

-- a reference to what isn't there, which comes only where P holds; there is always memory
abbrev pub IsDead : Type 0 → Error → Type 0
IsDead P e = (e ≡ DeadItem) × P

-- an item of which P holds isn't live
abbrev pub OneDead : Abstract → (Item → Type 0) → Type 0
OneDead v P = (x : Item) × P x × (IsLive v x → ⊥)

-- an item that is named isn't live
abbrev pub NamesDead : Abstract → List Item → Type 0
NamesDead v named = OneDead v (Contains named)

-- ---- the search

-- the items that are named are entered behind those that were, but for those that were, and no others
pub record NotesAll (v : Abstract) (named : List Item) (old new : Worklist) : Type 0 where
  pub rest : List Item
  pub grows : entered_items new ≡ entered_items old ++ rest
  pub named_only : (x : Item) → Contains rest x → Contains named x
  pub entered : (x : Item) → Contains named x → Contains (entered_items new) x
  pub taken : new.taken ≡ old.taken
  pub kept : Keeps v new

-- with each item that was entered the members of its group were
abbrev pub HoldGroups : Abstract → Worklist → Type 0
HoldGroups v list = (x y : Item) → Contains (entered_items list) x → Contains (group_names v x) y → Contains (entered_items list) y

-- the item is named, or a member of the group of one that is
abbrev pub IsOf : Abstract → List Item → Item → Type 0
IsOf v named y = Contains named y ⊎ ((x : Item) × Contains named x × Contains (group_names v x) y)

-- the items that are named, and the members of their groups, all live, are entered behind those that were, and no others
pub record Enters (v : Abstract) (named : List Item) (old new : Worklist) : Type 0 where
  pub live : (x : Item) → IsOf v named x → IsLive v x
  pub rest : List Item
  pub grows : entered_items new ≡ entered_items old ++ rest
  pub named_only : (x : Item) → Contains rest x → IsOf v named x
  pub groups : HoldGroups v old → HoldGroups v new
  pub entered : (x : Item) → Contains named x → Contains (entered_items new) x
  pub taken : new.taken ≡ old.taken
  pub kept : Keeps v new

-- all that P holds of, with the members of their groups, all live, is entered so
pub record EntersAll (v : Abstract) (P : Item → Type 0) (old new : Worklist) : Type 0 where
  pub named : List Item
  pub are : (x : Item) → Contains named x ↔ P x
  pub enters : Enters v named old new

-- what the search keeps: what is entered is reached, and what is taken is sound, with all that it refers to entered
pub record Follows (v : Abstract) (list : Worklist) : Type 0 where
  pub kept : Keeps v list
  pub reached : (x : Item) → Contains (entered_items list) x → Reached v x
  pub rooted : (x : Item) → IsRoot v x → Contains (entered_items list) x
  pub groups : HoldGroups v list
  pub sound : (x : Item) → Contains (take list.taken (entered_items list)) x → IsSound v x
  pub closed : (x y : Item) → Contains (take list.taken (entered_items list)) x → Refers v x y → Contains (entered_items list) y

-- what it has found at its end: what is marked is what is reached, of which there are so many, all sound; there is a mark for each live item
pub record Found (v : Abstract) (marks : MarkedItems) (n : ℕ) : Type 0 where
  pub marked : (x : Item) → (has_mark marks x ≡ true) ↔ Reached v x
  pub count : ReachedCount v n
  pub sound : (x : Item) → Reached v x → IsSound v x
  pub places : HavePlaces v marks

-- ---- what a search of a module answers

module _ {V : Type 0} {O : V → Type 0} (G : (v : V) → Ghosts (O v)) (m : Module (SectionEntry V O)) where
  -- it finds this; or memory ran out, something reached isn't there, or a custom section that may refuse did
  abbrev pub Searches : {X : Type 0} → (X → Type 0) → Result X Error → Type 0
  Searches Finds result = MatchResult result Finds (RefusesSearch (ReachesUnsound (view G m)) (OneMayRefuse (meanings G m)))

  -- the eight sets are what is kept; all that is reached is there and well formed
  pub record FindsUsed (used : Used) : Type 0 where
    pub kept : MarksKept (view G m) used
    pub sound : ReachesSound (view G m)

  -- with how many items the roots reach
  pub record FindsCounted (found : Used × ℕ) : Type 0 where
    pub kept : MarksKept (view G m) found.0
    pub count : ReachedCount (view G m) found.1
    pub at_most : found.1 ≤ live_count (contents_of m)
    pub sound : ReachesSound (view G m)

  -- the same of marks
  pub record FindsMarks (marks : MarkedItems) : Type 0 where
    pub kept : MarksAreKept (view G m) marks
    pub sound : ReachesSound (view G m)
