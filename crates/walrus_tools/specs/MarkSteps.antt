-- Marks that are set one after another, and those of the functions that texts mean.
use Rattle.std.specs.Prelude.{ℕ, true, false, List, Option, Result, All, MatchResult, length, ◌≡◌, ◌⊎◌, ◌↔◌, ⊤}
use Rattle.walrus.specs.Base.Arena.{item_at}
use Rattle.walrus.specs.Base.Marks.{is_marked, mark_places}
use Rattle.walrus.specs.Base.FunctionKey.{FunctionKey}
use Rattle.walrus.specs.Base.MarksValue.{Marks}
use Rattle.walrus.specs.Items.Exports.{ExportValue}
use Rattle.walrus.specs.Items.Functions.{FunctionValue}
use Rattle.walrus.specs.Items.Error.{Error}
use Rattle.walrus.specs.Items.Error.TheVariants.{Memory, NotFound, NotReplaceable}
use Rattle.walrus_tools.specs.FunctionMeaning.{AreMeant, FitsExport, FitsFunction, has_body, IsFirst, Means, MeansBodies, MeansBodiless, MeansNone}
use Rattle.walrus_tools.specs.declared.marks.Marking.{Marking}

module _ {K : Type 0} where
  -- beside those that were marked, these places are, and no others
  pub record Adds (P : ℕ → Type 0) (old new : Marks K) : Type 0 where
    pub added : (p : ℕ) → P p → is_marked new p ≡ true
    pub stay : (p : ℕ) → is_marked old p ≡ true → is_marked new p ≡ true
    pub only : (p : ℕ) → is_marked new p ≡ true → (is_marked old p ≡ true) ⊎ P p
    pub places : mark_places new ≡ mark_places old

  -- the same, and one was met where one had been, or where there is such a place
  pub record Meets (P : ℕ → Type 0) (old new : Marking K) : Type 0 where
    pub adds : Adds P old.marks new.marks
    pub met : (p : ℕ) → P p → new.is_met ≡ true
    pub stays : old.is_met ≡ true → new.is_met ≡ true
    pub only : new.is_met ≡ true → (old.is_met ≡ true) ⊎ ((p : ℕ) × P p)

  -- there is a mark for each of these places
  abbrev pub HasPlaces : {A : Type 0} → List A → Marks K → Type 0
  HasPlaces slots marks = mark_places marks ≡ length slots

-- a function with a body stands there, and the NAME fits its name
abbrev pub IsFit : (name : List ℕ) → Option FunctionValue → Type 0
IsFit name slot = (has_body slot ≡ true) × FitsFunction name slot

-- place i is that of function p, which is such a one
abbrev pub IsNamed : (name : List ℕ) → List (Option FunctionValue) → (i p : ℕ) → Type 0
IsNamed name functions i p = (p ≡ i) × IsFit name (item_at functions i)

-- an export of function p, which has a body, stands at place i, and the NAME fits the name of the export
abbrev pub IsExported : (name : List ℕ) → List (Option FunctionValue) → List (Option ExportValue) → (i p : ℕ) → Type 0
IsExported name functions exports i p = FitsExport name (item_at exports i) p × (has_body (item_at functions p) ≡ true)

-- p is one of these
abbrev pub IsFitting : (name : List ℕ) → List (Option FunctionValue) → List (Option ExportValue) → (p : ℕ) → Type 0
IsFitting name functions exports p = ((i : ℕ) × IsNamed name functions i p) ⊎ ((i : ℕ) × IsExported name functions exports i p)

-- they are marked, or there is none
abbrev pub MarksFitting : (name : List ℕ) → List (Option FunctionValue) → List (Option ExportValue) → (old new : Marks FunctionKey) → Result (Unit {0}) Error → Type 0
MarksFitting name functions exports old new result =
    MatchResult result (λ done. Adds (IsFitting name functions exports) old new × ((p : ℕ) × IsFitting name functions exports p))
    (λ e. (e ≡ NotFound) × ((p : ℕ) → IsFitting name functions exports p → ⊥))

-- function p is marked, or has no body
abbrev pub MarksOne : List (Option FunctionValue) → (p : ℕ) → (old new : Marks FunctionKey) → Result (Unit {0}) Error → Type 0
MarksOne functions p old new result =
    MatchResult result (λ done. Adds (λ q. q ≡ p) old new × (has_body (item_at functions p) ≡ true)) (λ e. (e ≡ NotReplaceable) × (has_body (item_at functions p) ≡ false))

module _ (functions : List (Option FunctionValue)) (exports : List (Option ExportValue)) where
  -- the text means no function, or one without a body
  abbrev pub RefusesText : (text : List ℕ) → Error → Type 0
  RefusesText text NotFound = MeansNone functions exports text
  RefusesText text NotReplaceable = MeansBodiless functions exports text
  RefusesText text _ = ⊥

  -- the functions that the text means are marked, each of which has a body; or it is refused
  abbrev pub MarksText : (text : List ℕ) → (old new : Marks FunctionKey) → Result (Unit {0}) Error → Type 0
  MarksText text old new result = MatchResult result (λ done. Adds (Means functions exports text) old new × MeansBodies functions exports text) (RefusesText text)

  -- the marks are those of what the texts mean
  pub record AreMarks (all : List (List ℕ)) (marks : Marks FunctionKey) : Type 0 where
    pub are : (p : ℕ) → (is_marked marks p ≡ true) ↔ AreMeant functions exports all p
    pub pass : All (MeansBodies functions exports) all

  -- memory ran out, or one of the texts is refused, and none before
  abbrev pub RefusesMarks : List (List ℕ) → Error → Type 0
  RefusesMarks all (Memory e) = ⊤
  RefusesMarks all NotFound = IsFirst functions exports (MeansNone functions exports) all
  RefusesMarks all NotReplaceable = IsFirst functions exports (MeansBodiless functions exports) all
  RefusesMarks all _ = ⊥
