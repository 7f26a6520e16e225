-- The report on a module: how many items of each index space gc keeps, and how many it drops.
use Rattle.std.specs.Prelude.{ℕ, List, [], ◌∷◌, ◌++◌, length, AllPairs, Contains, ◌≡◌, ◌<◌, ◌↔◌, codes, decimal}
use Rattle.walrus_base.specs.Operators.{Space, Functions, Tables, Memories, Tags, Globals, Elements, DataSegments}
use Rattle.walrus_model.specs.Abstract.{Abstract}
use Rattle.walrus_model.specs.Kept.{Kept}
use Rattle.walrus_model.specs.Config.{Config}
use Rattle.walrus_model.specs.Live.{IsLive}
use Rattle.walrus_model.specs.Rules.{Holds}
use Rattle.walrus_theorem.specs.Headline.{ReadsModule}

abbrev pub line : List ℕ → (kept dropped : ℕ) → List ℕ
line word kept dropped = word ++ codes " kept " ++ decimal kept ++ codes " dropped " ++ decimal dropped ++ 10 ∷ []

-- so many numbers are those that P holds of
pub record Counts (P : ℕ → Type 0) (count : ℕ) : Type 0 where
  pub numbers : List ℕ
  pub rising : AllPairs (λ i j. i < j) numbers
  pub are : (i : ℕ) → Contains numbers i ↔ P i
  pub long : count ≡ length numbers

-- of an index space so many items are kept, and so many others are dropped
pub record Parts (m : Abstract) (space : Space) (kept dropped : ℕ) : Type 0 where
  pub kept_are : Counts (λ i. Kept m (space, i)) kept
  pub dropped_are : Counts (λ i. IsLive m (space, i) × (Kept m (space, i) → ⊥)) dropped

-- the line of an index space
abbrev pub IsLine : Abstract → Space → List ℕ → List ℕ → Type 0
IsLine m space word text = (kept : ℕ) × ((dropped : ℕ) × (Parts m space kept dropped × (text ≡ line word kept dropped)))

-- seven lines
pub record IsReport (m : Abstract) (text : List ℕ) : Type 0 where
  pub functions : List ℕ
  pub tables : List ℕ
  pub memories : List ℕ
  pub tags : List ℕ
  pub globals : List ℕ
  pub elements : List ℕ
  pub data_segments : List ℕ
  pub is : text ≡ functions ++ tables ++ memories ++ tags ++ globals ++ elements ++ data_segments
  pub functions_are : IsLine m Functions (codes "functions") functions
  pub tables_are : IsLine m Tables (codes "tables") tables
  pub memories_are : IsLine m Memories (codes "memories") memories
  pub tags_are : IsLine m Tags (codes "tags") tags
  pub globals_are : IsLine m Globals (codes "globals") globals
  pub elements_are : IsLine m Elements (codes "elements") elements
  pub data_segments_are : IsLine m DataSegments (codes "data") data_segments

-- the bytes read as a module that keeps the rules, and the text is the report on it
pub record IsReportOf (c : Config) (bytes text : List ℕ) : Type 0 where
  pub module_read : Abstract
  pub reads : ReadsModule c bytes module_read
  pub holds : Holds module_read
  pub report : IsReport module_read text

-- the report on the module of two functions, of which the second is exported (`two_functions` of `walrus_model`)
abbrev pub two_functions_report : List ℕ
two_functions_report =
    line (codes "functions") 1 1 ++ line (codes "tables") 0 0 ++ line (codes "memories") 0 0 ++ line (codes "tags") 0 0 ++ line (codes "globals") 0 0
    ++ line (codes "elements") 0 0 ++ line (codes "data") 0 0
