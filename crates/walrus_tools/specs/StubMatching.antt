-- A module in which functions trap that chosen imports brought ("Structure > Modules > Imports").
use Rattle.std.specs.Prelude.{ℕ, Bool, true, List, [], Option, Some, None, IsSome, Result, MatchResult, ◌≡◌, ◌⊎◌, ◌↔◌, ⊤}
use Rattle.std.specs.Global.{Vec}
use Rattle.walrus.specs.Base.Arena.{item_at}
use Rattle.walrus.specs.Base.Locals.{locals}
use Rattle.walrus.specs.Base.Marks.{is_marked}
use Rattle.walrus.specs.Base.ImportKey.{ImportKey}
use Rattle.walrus.specs.Base.MarksValue.{Marks}
use Rattle.walrus.specs.Model.Config.{Config}
use Rattle.walrus.specs.Model.ReadFunction.{StaysInFront}
use Rattle.walrus.specs.Items.Errors.{out_of_memory}
use Rattle.walrus.specs.Items.Error.{Error}
use Rattle.walrus.specs.Items.Error.TheVariants.{Memory, NotFound}
use Rattle.walrus.specs.Items.Functions.{functions}
use Rattle.walrus.specs.Items.Imports.{ImportValue, imported_function, imports}
use Rattle.walrus.specs.Contents.Contents.{Contents}
use Rattle.walrus.specs.Modules.Module.{Module}
use Rattle.walrus_sections.specs.Choice.{Choice, Goes}
use Rattle.walrus.specs.Edits.{AnswersEdited, IsWhole}
use Rattle.walrus_tools.specs.Stub.{BringsFunction, StubsWhere}
use Rattle.walrus_tools.specs.StubAnswers.{StubsAt, StubsSome}

-- ---- chosen imports

-- a name is chosen where no choices are given, or where they say that it goes
abbrev pub NameGoes : List Choice → (name : List ℕ) → Type 0
NameGoes names name = (names ≡ []) ⊎ Goes names name

-- the import brings a function, its module is chosen, and so is its name
pub record IsWanted (modules names : List Choice) (x : ImportValue) : Type 0 where
  pub function : IsSome (imported_function x.kind)
  pub from : Goes modules x.module_name
  pub named : NameGoes names x.name

-- such an import stands there
abbrev pub IsChosen : (modules names : List Choice) → Option ImportValue → Type 0
IsChosen modules names None = ⊥
IsChosen modules names (Some x) = IsWanted modules names x

-- place p is place i, and such an import stands there
abbrev pub ChosenAt : (modules names : List Choice) → List (Option ImportValue) → (i p : ℕ) → Type 0
ChosenAt modules names slots i p = (p ≡ i) × IsChosen modules names (item_at slots i)

-- the places that are hit are those of such imports
abbrev pub AreChosen : (modules names : List Choice) → List (Option ImportValue) → (hits : ℕ → Bool) → Type 0
AreChosen modules names slots hits = (p : ℕ) → (hits p ≡ true) ↔ IsChosen modules names (item_at slots p)

-- at each place that is hit an import of a function stands
abbrev pub HitFunctions : (hits : ℕ → Bool) → List (Option ImportValue) → Type 0
HitFunctions hits slots = (p : ℕ) → hits p ≡ true → BringsFunction (item_at slots p)

-- memory ran out, or no such import is there
abbrev pub RefusesChosen : (modules names : List Choice) → List (Option ImportValue) → Error → Type 0
RefusesChosen modules names slots (Memory e) = ⊤
RefusesChosen modules names slots NotFound = (p : ℕ) → IsChosen modules names (item_at slots p) → ⊥
RefusesChosen modules names slots _ = ⊥

-- they are marked, and there is one; or it is refused
abbrev pub MarksChosen : (modules names : List Choice) → List (Option ImportValue) → Result (Marks ImportKey) Error → Type 0
MarksChosen modules names slots result =
    MatchResult result (λ marks. AreChosen modules names slots (is_marked marks) × ((p : ℕ) × (is_marked marks p ≡ true))) (RefusesChosen modules names slots)

-- ---- what a module holds

-- of what is held the functions trap that the chosen imports brought, of which there is one, and these imports are gone; locals may have come, and
-- nothing else changed
pub record StubsMatching (modules names : List Choice) (old new : Contents) : Type 0 where
  pub hits : ℕ → Bool
  pub are : AreChosen modules names (imports old.imports) hits
  pub some : (p : ℕ) × (hits p ≡ true)
  pub items : StubsWhere hits (functions old.funcs) (functions new.funcs) (imports old.imports) (imports new.imports)
  pub locals : StaysInFront (locals old.locals) (locals new.locals)
  pub others : new ≡ record old { funcs = new.funcs; imports = new.imports; locals = new.locals }

abbrev pub RefusesMatching : (modules names : List Choice) → Contents → Error → Type 0
RefusesMatching modules names m e = RefusesChosen modules names (imports m.imports) e

module _ {S : Type 0} where
  -- where that is done at the first n places that are hit it is done at the first m; `Memory` is the only refusal
  abbrev pub StubsHit : (hits : ℕ → Bool) → (n m : ℕ) → (old new : Module S) → Result (Unit {0}) Error → Type 0
  StubsHit hits n m old new result =
      (c : Config) (begun : Module S) → IsWhole c begun → HitFunctions hits (imports begun.imports) → StubsSome c hits n begun old
      → MatchResult result (λ done. StubsSome c hits m begun new) (λ e. e ≡ out_of_memory)

  -- of a whole module it is done at all places that are hit, and what is left is whole
  abbrev pub StubsHits : (hits : ℕ → Bool) → (old new : Module S) → Result (Unit {0}) Error → Type 0
  StubsHits hits old new result =
      (c : Config) → IsWhole c old → HitFunctions hits (imports old.imports) → MatchResult result (λ done. StubsAt hits old new × IsWhole c new) (λ e. e ≡ out_of_memory)

  -- the same at the places of chosen imports, of which there is one
  pub record StubsThose (modules names : List Choice) (old new : Module S) : Type 0 where
    pub hits : ℕ → Bool
    pub are : AreChosen modules names (imports old.imports) hits
    pub some : (p : ℕ) × (hits p ≡ true)
    pub stubs : StubsAt hits old new

  abbrev pub StubsChosen : (modules names : List Choice) → (old new : Module S) → Result (Unit {0}) Error → Type 0
  StubsChosen modules names old new result =
      (c : Config) → IsWhole c old → MatchResult result (λ done. StubsThose modules names old new × IsWhole c new) (RefusesChosen modules names (imports old.imports))

-- ---- from bytes to bytes

-- the module with its stubs, or a refusal with its cause
abbrev pub AnswersMatching : Config → (bytes : List ℕ) → (modules names : List Choice) → Result (Vec ℕ) Error → Type 0
AnswersMatching c bytes modules names result = AnswersEdited (StubsMatching modules names) (RefusesMatching modules names) c bytes result
