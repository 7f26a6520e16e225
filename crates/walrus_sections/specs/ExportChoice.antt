-- Which texts are chosen by NAMEs, and which NAME fits none of them.
use Rattle.std.specs.Prelude.{◌≡◌, ◌⊎◌, ℕ, true, false, List, take, slice_get, Contains, Option, Some, None}
use Rattle.walrus_sections.specs.Choice.{Choice, FitsOne}
use Rattle.walrus_sections.specs.Fits.{Fits}

-- no choice is of what is kept
abbrev pub NoneKept : List Choice → Type 0
NoneKept choices = (choice : Choice) → Contains choices choice → choice.is_kept ≡ false

-- the text is chosen: there is no choice of what is kept, or one fits it; and no choice of what goes does
abbrev pub IsChosen : List Choice → (text : List ℕ) → Type 0
IsChosen choices text = (NoneKept choices ⊎ FitsOne choices true text) × (FitsOne choices false text → ⊥)

-- the NAME fits one of these texts
abbrev pub FitsText : (texts : List (List ℕ)) → (name : List ℕ) → Type 0
FitsText texts name = (text : List ℕ) × Contains texts text × Fits name text

-- each choice fits one of the texts
abbrev pub EachFits : (texts : List (List ℕ)) → List Choice → Type 0
EachFits texts choices = (choice : Choice) → Contains choices choice → FitsText texts choice.name

-- one of the choices fits none of the texts
abbrev pub OneFitsNone : (texts : List (List ℕ)) → List Choice → Type 0
OneFitsNone texts choices = (choice : Choice) × Contains choices choice × (FitsText texts choice.name → ⊥)

-- the choice of this number fits none of the texts, and each one before does
pub record IsFirstUnfit (texts : List (List ℕ)) (choices : List Choice) (number : ℕ) : Type 0 where
  pub choice : Choice
  pub there : slice_get choices number ≡ Some choice
  pub unfit : FitsText texts choice.name → ⊥
  pub before : EachFits texts (take number choices)

-- the number, from 0, of the first choice that fits none of the texts; or each fits one
abbrev pub TellsUnfit : (texts : List (List ℕ)) → List Choice → Option ℕ → Type 0
TellsUnfit texts choices None = EachFits texts choices
TellsUnfit texts choices (Some number) = IsFirstUnfit texts choices number
