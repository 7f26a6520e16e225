-- Which functions of a module a text means: by an index, by a name, or by a name with stars ("Structure > Modules > Indices", "Structure > Values >
-- Names").
use Rattle.std.specs.Prelude.{ℕ, Bool, true, false, List, ◌∷◌, ◌++◌, Option, Some, None, Ok, All, Contains, map, nat_eq, option_map, ◌≡◌, ◌⊎◌}
use Rattle.std.specs.List.{list_any}
use Rattle.std.specs.Str.Parse.{ParsesUnsigned}
use Rattle.walrus.specs.Base.Arena.{IsLive, item_at}
use Rattle.walrus.specs.Base.Id.{place}
use Rattle.walrus.specs.Items.Exports.{ExportValue, exported_function}
use Rattle.walrus.specs.Items.Functions.{FunctionValue}
use Rattle.walrus.specs.Items.FunctionKind.{FunctionKind}
use Rattle.walrus.specs.Items.FunctionKind.TheVariants.{Import, Local, Uninitialized}
use Rattle.walrus.specs.Items.ImportedFunction.{ImportedFunction}
use Rattle.walrus_sections.specs.Fits.{Fits}
use Rattle.walrus_tools.specs.FunctionNames.{function_called}
use Rattle.walrus_tools.specs.declared.function_meaning.Meant.{Meant}

-- ---- what a text is

-- the bytes of each text
abbrev pub texts : List Meant → List (List ℕ)
texts all = map (λ (m : Meant). m.name.now) all

-- in decimal it is this index, of 32 bits
abbrev pub SaysIndex : (text : List ℕ) → ℕ → Type 0
SaysIndex text index = ParsesUnsigned {E = Unit {0}} 32 10 text (Ok index)

-- it is no index
abbrev pub SaysNone : (text : List ℕ) → Type 0
SaysNone text = (index : ℕ) → SaysIndex text index → ⊥

-- whether a star stands in it
abbrev pub has_star : (text : List ℕ) → Bool
has_star text = list_any (λ x. nat_eq x 42) text

-- ---- functions

-- whether a function of this kind has a body
abbrev pub is_local : FunctionKind → Bool
is_local (Local l) = true
is_local (Import i) = false
is_local (Uninitialized ty) = false

-- whether a function with a body stands there
abbrev pub has_body : Option FunctionValue → Bool
has_body None = false
has_body (Some f) = is_local f.kind

-- there is a name, and the NAME fits it
abbrev pub FitsName : (name : List ℕ) → Option (List ℕ) → Type 0
FitsName name None = ⊥
FitsName name (Some text) = Fits name text

-- a function stands there, and the NAME fits its name
abbrev pub FitsFunction : (name : List ℕ) → Option FunctionValue → Type 0
FitsFunction name None = ⊥
FitsFunction name (Some f) = FitsName name f.name

-- an export of function p stands there, and the NAME fits its name
abbrev pub FitsExport : (name : List ℕ) → Option ExportValue → (p : ℕ) → Type 0
FitsExport name None p = ⊥
FitsExport name (Some e) p = (option_map place (exported_function e.item) ≡ Some p) × Fits name e.name

-- Function p is meant: it has the index that the text is. Or the text is no index and has no star, and this is the first function of that name, or else
-- the first that is exported under it. Or it has a star, and fits the name of this function, which has a body, or that of one of its exports.
pub data Means (functions : List (Option FunctionValue)) (exports : List (Option ExportValue)) (text : List ℕ) (p : ℕ) : Type 0 where
  by_index : SaysIndex text p → IsLive functions p → Means functions exports text p
  by_name : SaysNone text → has_star text ≡ false → function_called text functions exports ≡ Some p → Means functions exports text p
  by_star : SaysNone text → has_star text ≡ true → has_body (item_at functions p) ≡ true
      → FitsFunction text (item_at functions p) ⊎ ((at : ℕ) × FitsExport text (item_at exports at) p) → Means functions exports text p

module _ (functions : List (Option FunctionValue)) (exports : List (Option ExportValue)) where
  -- one of the texts means function p
  abbrev pub AreMeant : List (List ℕ) → (p : ℕ) → Type 0
  AreMeant all p = (text : List ℕ) × Contains all text × Means functions exports text p

  -- the text means functions, and all that it means have a body
  pub record MeansBodies (text : List ℕ) : Type 0 where
    pub function : ℕ
    pub is : Means functions exports text function
    pub each : (p : ℕ) → Means functions exports text p → has_body (item_at functions p) ≡ true

  -- it means none
  abbrev pub MeansNone : (text : List ℕ) → Type 0
  MeansNone text = (p : ℕ) → Means functions exports text p → ⊥

  -- it means one without a body
  abbrev pub MeansBodiless : (text : List ℕ) → Type 0
  MeansBodiless text = (p : ℕ) × Means functions exports text p × (has_body (item_at functions p) ≡ false)

  -- it means one that is imported
  pub record MeansImported (text : List ℕ) : Type 0 where
    pub place : ℕ
    pub is : Means functions exports text place
    pub function : FunctionValue
    pub there : item_at functions place ≡ Some function
    pub imported : ImportedFunction
    pub kind : function.kind ≡ Import imported

  -- of one of the texts this is so, and each before means functions that have bodies
  pub record IsFirst (Cause : List ℕ → Type 0) (all : List (List ℕ)) : Type 0 where
    pub before : List (List ℕ)
    pub text : List ℕ
    pub after : List (List ℕ)
    pub are : all ≡ before ++ text ∷ after
    pub pass : All MeansBodies before
    pub cause : Cause text
