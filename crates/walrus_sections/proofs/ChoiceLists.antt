-- Whether bytes are a list of choices, choice by choice.
use Rattle.std.proofs.Common.{◌≡◌, ◌↔◌, ℕ, true, false, List, [], ◌∷◌, refl, subst}
use Rattle.std.proofs.lemmas.Bool.{false≢true as untrue}
use Rattle.walrus_sections.specs.Choice.{AreChoices, Choice, IsChoice, IsList}
use Rattle.walrus_sections.proofs.Records.{no_front, one_choice}

behind : (bytes rest : List ℕ) (choice : Choice) → IsChoice bytes choice rest → (choices : List Choice) → AreChoices bytes choices → IsList rest
behind bytes rest choice is [] h = absurd (no_front choice rest (subst (λ (l : List ℕ). IsChoice l choice rest) h is))
behind bytes rest choice is (other ∷ others) h =
    let same = one_choice bytes other choice h.0 rest h.1 is in
    (others, subst (λ (l : List ℕ). AreChoices l others) same.1 h.2)

pub list_next : (bytes left rest : List ℕ) (choice : Choice) → IsChoice left choice rest → IsList bytes ↔ IsList left → IsList bytes ↔ IsList rest
list_next bytes left rest choice is so = (
  λ h. let l = so.0 h in behind left rest choice is l.0 l.1,
  λ h. so.1 (choice ∷ h.0, (rest, is, h.1)),
)

-- where something is left and no choice stands in front, no choices do
pub none_left : (left : List ℕ) → (left ≡ [] → ⊥) → ((choice : Choice) (rest : List ℕ) → IsChoice left choice rest → ⊥) → (choices : List Choice) → AreChoices left choices → ⊥
none_left left more first [] h = more h
none_left left more first (choice ∷ choices) h = first choice h.0 h.1

pub list_none : (bytes left : List ℕ) → IsList bytes ↔ IsList left → (left ≡ [] → ⊥) → ((choice : Choice) (rest : List ℕ) → IsChoice left choice rest → ⊥) → (false ≡ true) ↔ IsList bytes
list_none bytes left so more first = (λ h. absurd (untrue h), λ h. let l = so.0 h in absurd (none_left left more first l.0 l.1))

pub list_ends : (bytes left : List ℕ) → IsList bytes ↔ IsList left → left ≡ [] → (true ≡ true) ↔ IsList bytes
list_ends bytes left so ends = (λ h. so.1 ([], ends), λ h. refl)
