-- Choices by name, a list of them as bytes, and what they say of a text.
use Rattle.std.specs.Prelude.{◌≡◌, ◌+◌, ◌*◌, ◌++◌, ℕ, Bool, true, false, List, [], ◌∷◌, map, length, Option, MatchOption, Contains, All, Vec, if◌then◌else◌}
use Rattle.std.specs.Borrow.{Bor}
use Rattle.std.specs.declared.alloc.Global.{Global}
use Rattle.walrus_sections.specs.Fits.{Fits}
use Rattle.walrus_sections.specs.declared.choice.Choice.{Choice as HeldChoice}

-- what is said of each text that the NAME fits: that it is kept, or else that it goes
pub record Choice : Type 0 where
  pub is_kept : Bool
  pub name : List ℕ

-- the number of four bytes, the lowest first
abbrev pub little : (a b c d : ℕ) → ℕ
little a b c d = a + 256 * b + 65536 * c + 16777216 * d

-- The bytes are a choice and the rest: a byte that is 1 where texts are kept and 0 where they go, four bytes of length, and so many bytes, the NAME.
pub record IsChoice (bytes : List ℕ) (choice : Choice) (rest : List ℕ) : Type 0 where
  pub a : ℕ
  pub b : ℕ
  pub c : ℕ
  pub d : ℕ
  pub are : bytes ≡ (if choice.is_kept then 1 else 0) ∷ a ∷ b ∷ c ∷ d ∷ choice.name ++ rest
  pub counts : length choice.name ≡ little a b c d

-- the bytes are these choices, one after another
abbrev pub AreChoices : List ℕ → List Choice → Type 0
AreChoices bytes [] = bytes ≡ []
AreChoices bytes (choice ∷ choices) = (rest : List ℕ) × IsChoice bytes choice rest × AreChoices rest choices

-- the bytes are a list of choices
abbrev pub IsList : List ℕ → Type 0
IsList bytes = (choices : List Choice) × AreChoices bytes choices

-- the bytes are a list of choices that all say that texts go
abbrev pub AllGo : List ℕ → Type 0
AllGo bytes = (choices : List Choice) × AreChoices bytes choices × All (λ (choice : Choice). choice.is_kept ≡ false) choices

-- bytes are at most one list of choices
abbrev pub OneList : Type 0
OneList = (bytes : List ℕ) (choices others : List Choice) → AreChoices bytes choices → AreChoices bytes others → choices ≡ others

-- a choice in memory
abbrev pub choice_seen : HeldChoice → Choice
choice_seen choice = record { is_kept = choice.is_kept; name = choice.name.now }

-- the same of a list
abbrev pub choices_seen : List HeldChoice → List Choice
choices_seen choices = map choice_seen choices

-- a choice stands in front of the bytes, and this is behind it; or none stands there
abbrev pub IsFirst : List ℕ → Option (HeldChoice × Bor (List ℕ)) → Type 0
IsFirst bytes found = MatchOption found ((choice : Choice) (rest : List ℕ) → IsChoice bytes choice rest → ⊥) (λ p. IsChoice bytes (choice_seen p.0) p.1.now)

-- the choices that the bytes are, or none where they are no list of choices
abbrev pub AreRead : List ℕ → Option (Vec HeldChoice Global) → Type 0
AreRead bytes found = MatchOption found ((choices : List Choice) → AreChoices bytes choices → ⊥) (λ v. AreChoices bytes (choices_seen v.items))

-- the choice is of this kind, kept or not, and its NAME fits the text
abbrev pub Suits : (is_kept : Bool) → (text : List ℕ) → Choice → Type 0
Suits is_kept text choice = (choice.is_kept ≡ is_kept) × Fits choice.name text

-- one of the choices is of this kind and fits the text
abbrev pub FitsOne : List Choice → (is_kept : Bool) → (text : List ℕ) → Type 0
FitsOne choices is_kept text = (choice : Choice) × Contains choices choice × Suits is_kept text choice

-- a choice says that the text goes, and none says that it is kept
abbrev pub Goes : List Choice → (text : List ℕ) → Type 0
Goes choices text = FitsOne choices false text × (FitsOne choices true text → ⊥)
