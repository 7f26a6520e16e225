-- The form in which a module is written, and that in which it comes out of a run, which leaves it as it is.
use Rattle.std.specs.Prelude.{ℕ, List, Some, Contains, ◌≡◌, ◌<◌, ◌⊎◌, ◌↔◌, true, false}
use Rattle.walrus_base.specs.Types.{CompType, comp_names}
use Rattle.walrus_base.specs.Operators.{Types, Functions, Item}
use Rattle.walrus_model.specs.Abstract.{Abstract}
use Rattle.walrus_model.specs.Config.{Config}
use Rattle.walrus_model.specs.Declared.{NothingUndeclared}
use Rattle.walrus_model.specs.Examples.{one_function, two_functions}
use Rattle.walrus_model.specs.Kept.{Kept}
use Rattle.walrus_model.specs.Live.{IsLive}
use Rattle.walrus_model.specs.Names.{name_of, WritesNames}
use Rattle.walrus_model.specs.Order.{ByImport}
use Rattle.walrus_model.specs.Out.{IsHandlerType}
use Rattle.walrus_model.specs.Producers.{produced, if_written}
use Rattle.walrus_model.specs.Renaming.{unchanged}
use Rattle.walrus_model.specs.Rules.{Holds}
use Rattle.walrus_theorem.specs.Chain.{alone}
use Rattle.walrus_theorem.specs.Headline.{ReadsModule, ComesTo}
use Rattle.walrus_theorem.specs.Spelling.{IsSpelledAs}

module _ (n : Abstract) where
  -- a final type alone in its group, with no supertype, which doesn't name itself
  abbrev pub IsLoneType : CompType ℕ → ℕ → Type 0
  IsLoneType comp j = (n.types j ≡ Some (alone j comp)) × (Contains (comp_names comp) j → ⊥)

  -- the first of these
  abbrev pub IsFirstLoneType : CompType ℕ → ℕ → Type 0
  IsFirstLoneType comp j = IsLoneType comp j × ((i : ℕ) → i < j → IsLoneType comp i → ⊥)

  -- the type that a legacy handler of a kept function needs
  abbrev pub IsForHandlers : Item → Type 0
  IsForHandlers (Types, j) = (comp : CompType ℕ) × IsHandlerType (Kept n) n comp × IsFirstLoneType comp j
  IsForHandlers x = ⊥

-- all that is there is kept, be it for handlers
abbrev pub AllIsKept : Abstract → Type 0
AllIsKept n = (x : Item) → IsLive n x → Kept n x ⊎ IsForHandlers n x

-- the form in which a module is written
pub record IsWrittenForm (c : Config) (n : Abstract) : Type 0 where
  -- the types that legacy handlers need are there
  pub handlers : (comp : CompType ℕ) → IsHandlerType (IsLive n) n comp → (j : ℕ) × IsFirstLoneType n comp j
  -- functions stand in the order in which they are written
  pub order : (i j : ℕ) → ByImport n Functions i j → i < j
  -- the names are those that it would be written with
  pub names : WritesNames c.writes_names (name_of c n) (IsLive n) unchanged n n
  -- so are the producers, with this program among them
  pub producers : n.producers ≡ if_written c.writes_producers (produced n.producers)
  -- each function that ref.func names is exported or listed
  pub declared : NothingUndeclared n

-- the same where gc leaves all
pub record IsSettledForm (c : Config) (n : Abstract) : Type 0 where
  pub kept : AllIsKept n
  pub form : IsWrittenForm c n

-- Bytes come to themselves exactly if they are the one spelling of a module in settled form that keeps the rules.
abbrev pub FixedPoints : Type 0
FixedPoints = (c : Config) (bytes : List ℕ) (n : Abstract) → ReadsModule c bytes n → ComesTo c bytes bytes ↔ (Holds n × IsSpelledAs n bytes × IsSettledForm c n)

-- What comes out of a run is in settled form.
abbrev pub ComesOutSettled : Type 0
ComesOutSettled = (c : Config) (bytes output : List ℕ) (run : ComesTo c bytes output) → IsSettledForm c run.module_written

-- So where neither names nor producers are written, the module of one exported function is in settled form, that of another function beside it not.
-- Nor is the one where producers are written, since this program isn't among its own, or where names are made for what has none.
abbrev pub SettledExamples : Type 0
SettledExamples =
    (c : Config) → c.writes_names ≡ false → c.writes_producers ≡ false
    → IsSettledForm c one_function
    × (IsSettledForm c two_functions → ⊥)
    × (IsSettledForm (record c { writes_producers = true }) one_function → ⊥)
    × (IsSettledForm (record c { writes_names = true; synthetic_names = true }) one_function → ⊥)
