-- Edits that leave a well-made module well made, and what is reached there: each with what has to be asked of the module and of what is new.
use Rattle.std.specs.Prelude.{ℕ, Bool, true, List, Some, Contains, ◌≡◌, ◌≢◌, ◌⊎◌, ⊤}
use Rattle.walrus_base.specs.Operators.{Space, Item, function_item, type_item}
use Rattle.walrus_model.specs.Abstract.{Abstract, Body, Import, Export, Custom}
use Rattle.walrus_model.specs.Config.{Config}
use Rattle.walrus_model.specs.Live.{IsLive}
use Rattle.walrus_model.specs.Pipeline.{ReachedIsLive}
use Rattle.walrus_model.specs.Reached.{Reached}
use Rattle.walrus_model.specs.Refers.{KeepsToo, Refers, written_in}
use Rattle.walrus_model.specs.Roots.{IsRoot}
use Rattle.walrus_model.specs.Spaces.{Thing}
use Rattle.walrus_theorem.specs.Edits.{GainsCustom, LosesCustom, SwapsCustom, GainsExport, LosesExport, SwapsExport, RenamesImport, MakesLocal, MakesImported, SwapsBodies, GainsItem, GainsImported, LosesItem, LosesImported}
use Rattle.walrus_theorem.specs.OkLaws.{AreCounted}
use Rattle.walrus_theorem.specs.Once.{TypesLocals}
use Rattle.walrus_theorem.specs.Sound.{IsFreeName, IsSound}
use Rattle.walrus_theorem.specs.WellMade.{IsWellMade}

-- ---- what is reached

-- the module is well made, and what is reached is there
pub record IsWholeModule (c : Config) (m : Abstract) : Type 0 where
  pub made : IsWellMade c m
  pub reached : ReachedIsLive m

-- a chain of references leads from x to the item
pub data LeadsTo (m : Abstract) (x : Item) : Item → Type 0 where
  itself : LeadsTo m x x
  further : (y z : Item) → LeadsTo m x y → Refers m y z → LeadsTo m x z

-- x is there, and so is all that it leads to
abbrev pub LeadsToLive : Abstract → Item → Type 0
LeadsToLive m x = (y : Item) → LeadsTo m x y → IsLive m y

-- all that x refers to it referred to before, or that leads to what is there
abbrev pub AddsLive : Abstract → Abstract → Item → Type 0
AddsLive v w x = (y : Item) → Refers w x y → Refers v x y ⊎ LeadsToLive w y

-- so it is of what is reached in a whole module, of a type that is there, and of each item that is there where what functions, tables and
-- memories on the way keep is there
pub record ShowsLive (c : Config) (m : Abstract) : Type 0 where
  pub reached : (x : Item) → ReachedIsLive m → Reached m x → LeadsToLive m x
  pub types : (t : ℕ) → IsLive m (type_item t) → LeadsToLive m (type_item t)
  pub kept : (x : Item) → IsLive m x → ((y z : Item) → LeadsTo m x y → KeepsToo m y z → IsLive m z) → LeadsToLive m x

abbrev pub LeadsLive : Type 0
LeadsLive = (c : Config) (m : Abstract) → IsWellMade c m → ShowsLive c m

-- ---- what stays

-- w is well made; and where this is so, all that is reached in w is there if all that is reached in v is
pub record StaysWhole (c : Config) (v w : Abstract) (Asked : Type 0) : Type 0 where
  pub made : IsWellMade c w
  pub reached : Asked → ReachedIsLive v → ReachedIsLive w

-- nothing but x names x, or keeps it, exports it, starts with it or asks for it
pub record IsUnnamed (m : Abstract) (x : Item) : Type 0 where
  pub written : (y : Item) → y ≢ x → Contains (written_in m y) x → ⊥
  pub kept : (y : Item) → y ≢ x → KeepsToo m y x → ⊥
  pub exported : (e : Export) → Contains m.exports e → e.item ≢ x
  pub started : (f : ℕ) → m.start ≡ Some f → function_item f ≢ x
  pub asked_for : Contains m.section_roots x → ⊥

-- no export has the name of this one
abbrev pub IsFresh : Abstract → Export → Type 0
IsFresh m e = (d : Export) → Contains m.exports d → d.name ≢ e.name

-- what a module's view says of its bodies: each counts the locals that it declares, where those that it uses have types
abbrev pub CountsLocals : Abstract → Type 0
CountsLocals m = TypesLocals m → AreCounted m

-- ---- custom sections

abbrev pub CustomGained : Type 0
CustomGained =
    (c : Config) (v w : Abstract) (s : Custom) (roots : List Item) → GainsCustom s roots v w → IsWellMade c v → IsFreeName s.name
    → StaysWhole c v w ((x : Item) → Contains roots x → LeadsToLive w x)

abbrev pub CustomLost : Type 0
CustomLost = (c : Config) (v w : Abstract) (s : Custom) → LosesCustom s v w → IsWellMade c v → StaysWhole c v w ⊤

abbrev pub CustomSwapped : Type 0
CustomSwapped =
    (c : Config) (v w : Abstract) (s t : Custom) (roots : List Item) → SwapsCustom s t roots v w → IsWellMade c v → IsFreeName t.name
    → StaysWhole c v w ((x : Item) → Contains roots x → LeadsToLive w x)

-- ---- exports and imports

abbrev pub ExportGained : Type 0
ExportGained = (c : Config) (v w : Abstract) (e : Export) → GainsExport e v w → IsWellMade c v → IsFresh v e → IsLive v e.item → StaysWhole c v w (LeadsToLive w e.item)

abbrev pub ExportLost : Type 0
ExportLost = (c : Config) (v w : Abstract) (e : Export) → LosesExport e v w → IsWellMade c v → StaysWhole c v w ⊤

-- an export has another name
abbrev pub ExportRenamed : Type 0
ExportRenamed = (c : Config) (v w : Abstract) (d e : Export) → SwapsExport d e v w → e.item ≡ d.item → IsWellMade c v → IsFresh v e → StaysWhole c v w ⊤

-- an export names another item
abbrev pub ExportTurned : Type 0
ExportTurned =
    (c : Config) (v w : Abstract) (d e : Export) → SwapsExport d e v w → e.name ≡ d.name → IsWellMade c v → IsLive v e.item
    → StaysWhole c v w (LeadsToLive w e.item)

abbrev pub ImportRenamed : Type 0
ImportRenamed = (c : Config) (v w : Abstract) (i : ℕ) (x y : Import) → RenamesImport i x y v w → IsWellMade c v → StaysWhole c v w ⊤

-- ---- functions

abbrev pub MadeLocal : Type 0
MadeLocal =
    (c : Config) (v w : Abstract) (j i : ℕ) (b : Body) → MakesLocal j i b v w → IsWellMade c v → IsSound c w (function_item j) → CountsLocals w
    → StaysWhole c v w (AddsLive v w (function_item j))

abbrev pub MadeImported : Type 0
MadeImported =
    (c : Config) (v w : Abstract) (j i : ℕ) (b : Body) (y : Import) → MakesImported j i b y v w → IsWellMade c v → CountsLocals w
    → StaysWhole c v w (AddsLive v w (function_item j))

abbrev pub BodiesSwapped : Type 0
BodiesSwapped =
    (c : Config) (v w : Abstract) (chosen : ℕ → Bool) → SwapsBodies chosen v w → IsWellMade c v → ((i : ℕ) → chosen i ≡ true → IsSound c w (function_item i))
    → CountsLocals w → StaysWhole c v w ((i : ℕ) → chosen i ≡ true → AddsLive v w (function_item i))

-- ---- items

abbrev pub ItemGained : Type 0
ItemGained =
    (c : Config) (v w : Abstract) (s : Space) (n : ℕ) (x : Thing s) → GainsItem s n x v w → IsWellMade c v → IsSound c w (s, n) → CountsLocals w
    → StaysWhole c v w (IsRoot w (s, n) → LeadsToLive w (s, n))

abbrev pub ImportedGained : Type 0
ImportedGained =
    (c : Config) (v w : Abstract) (s : Space) (n i : ℕ) (x : Thing s) (y : Import) → GainsImported s n i x y v w → IsWellMade c v → IsSound c w (s, n)
    → CountsLocals w → StaysWhole c v w ⊤

abbrev pub ItemLost : Type 0
ItemLost =
    (c : Config) (v w : Abstract) (s : Space) (n : ℕ) (x : Thing s) → LosesItem s n x v w → IsWellMade c v → IsUnnamed v (s, n) → StaysWhole c v w ⊤

abbrev pub ImportedLost : Type 0
ImportedLost =
    (c : Config) (v w : Abstract) (s : Space) (n i : ℕ) (x : Thing s) (y : Import) → LosesImported s n i x y v w → IsWellMade c v → IsUnnamed v (s, n)
    → StaysWhole c v w ⊤
