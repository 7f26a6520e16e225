-- A call that takes names, lists of choices or texts as bytes ("Structure > Values > Names").
use Rattle.std.specs.Prelude.{ℕ, List, All, map, Err, IsUtf8, ◌≡◌, ◌⊎◌, ⊤}
use Rattle.walrus_tools.specs.Facade.{Error, Memory, NotFound}
use Rattle.walrus_sections.specs.Choice.{AreChoices, Choice, IsList}
use Rattle.mulkavesh_c.specs.Answer.{Answer}

-- the answer by the choices that the bytes are
abbrev pub UnderChoices : (bytes : List ℕ) → (List Choice → Answer → Type 0) → Answer → Type 0
UnderChoices bytes Answers answer = (choices : List Choice) → AreChoices bytes choices → Answers choices answer

-- memory ran out, or the bytes are no list of choices
abbrev pub LacksChoices : (bytes : List ℕ) → Error → Type 0
LacksChoices bytes (Memory e) = ⊤
LacksChoices bytes _ = IsList bytes → ⊥

-- where the bytes are a text in UTF-8, the answer under that name; else this one, since nothing has it
pub record UnderName (name : List ℕ) (Answers Nothing : Answer → Type 0) (answer : Answer) : Type 0 where
  pub named : IsUtf8 name → Answers answer
  pub nameless : (IsUtf8 name → ⊥) → Nothing answer

-- the names of choices
abbrev pub names_of : List Choice → List (List ℕ)
names_of choices = map (λ (choice : Choice). choice.name) choices

-- memory ran out, or one of the names is no text in UTF-8, and so nothing is found that has it
abbrev pub LacksTexts : (names : List (List ℕ)) → Error → Type 0
LacksTexts names (Memory e) = ⊤
LacksTexts names NotFound = All IsUtf8 names → ⊥
LacksTexts names _ = ⊥

-- the answer under the names of the choices that the bytes are, where these are texts in UTF-8; or one of them isn't
abbrev pub UnderTexts : (bytes : List ℕ) → (List (List ℕ) → Answer → Type 0) → Answer → Type 0
UnderTexts bytes Answers = UnderChoices bytes (λ choices answer. Answers (names_of choices) answer ⊎ ((e : Error) × (answer ≡ Err e) × LacksTexts (names_of choices) e))

-- the answer by the choices that the bytes of two lists are
abbrev pub UnderLists : (bytes others : List ℕ) → (List Choice → List Choice → Answer → Type 0) → Answer → Type 0
UnderLists bytes others Answers = UnderChoices bytes (λ choices. UnderChoices others (Answers choices))

-- the bytes of both are lists of choices
abbrev pub AreLists : (bytes others : List ℕ) → Type 0
AreLists bytes others = IsList bytes × IsList others
