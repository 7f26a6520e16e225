-- Whether bytes are a list of choices that all say that texts go, choice by choice.
use Rattle.std.proofs.Common.{◌≡◌, ◌↔◌, ℕ, true, false, List, [], ◌∷◌, All, refl, sym, ap, ◌∙◌, subst}
use Rattle.std.proofs.lemmas.List.Elements.{All-cons, All-nil, All-from_recursion, recursion_from_All}
use Rattle.std.proofs.lemmas.Bool.{false≢true as untrue}
use Rattle.walrus_sections.specs.Choice.{AllGo, AreChoices, Choice, IsChoice}
use Rattle.walrus_sections.proofs.ChoiceLists.{none_left}
use Rattle.walrus_sections.proofs.Records.{no_front, one_choice}

-- what it says goes
abbrev Goes : Choice → Type 0
Goes choice = choice.is_kept ≡ false

-- the first choice says so, and so do those behind it
record GoesFirst (rest : List ℕ) (choice : Choice) : Type 0 where
  is_kept : choice.is_kept ≡ false
  behind : AllGo rest

split : (left rest : List ℕ) (choice : Choice) → IsChoice left choice rest → (choices : List Choice) → AreChoices left choices → All Goes choices → GoesFirst rest choice
split left rest choice is [] h all = absurd (no_front choice rest (subst (λ (l : List ℕ). IsChoice l choice rest) h is))
split left rest choice is (other ∷ others) h all =
    let same = one_choice left other choice h.0 rest h.1 is in
    let each = recursion_from_All Goes (other ∷ others) all in
    record {
      is_kept = sym (ap (λ (c : Choice). c.is_kept) same.0) ∙ each.0;
      behind = (others, subst (λ (l : List ℕ). AreChoices l others) same.1 h.2, All-from_recursion Goes others each.1);
    }

pub going_next : (bytes left rest : List ℕ) (choice : Choice) → IsChoice left choice rest → choice.is_kept ≡ false → AllGo bytes ↔ AllGo left → AllGo bytes ↔ AllGo rest
going_next bytes left rest choice is goes so = (
  λ h. let l = so.0 h in (split left rest choice is l.0 l.1 l.2).behind,
  λ h. so.1 (choice ∷ h.0, (rest, is, h.1), All-cons Goes choice h.0 goes h.2),
)

pub going_kept : (bytes left rest : List ℕ) (choice : Choice) → IsChoice left choice rest → choice.is_kept ≡ true → AllGo bytes ↔ AllGo left → (false ≡ true) ↔ AllGo bytes
going_kept bytes left rest choice is kept so = (
  λ h. absurd (untrue h),
  λ h. let l = so.0 h in absurd (untrue (sym (split left rest choice is l.0 l.1 l.2).is_kept ∙ kept)),
)

pub going_none : (bytes left : List ℕ) → AllGo bytes ↔ AllGo left → (left ≡ [] → ⊥) → ((choice : Choice) (rest : List ℕ) → IsChoice left choice rest → ⊥) → (false ≡ true) ↔ AllGo bytes
going_none bytes left so more first = (λ h. absurd (untrue h), λ h. let l = so.0 h in absurd (none_left left more first l.0 l.1))

pub going_ends : (bytes left : List ℕ) → AllGo bytes ↔ AllGo left → left ≡ [] → (true ≡ true) ↔ AllGo bytes
going_ends bytes left so ends = (λ h. so.1 ([], ends, All-nil Goes), λ h. refl)
