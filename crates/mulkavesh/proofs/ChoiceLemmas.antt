-- Choices put behind others.
use Rattle.std.proofs.Common.{◌≡◌, List, [], ◌∷◌, ◌++◌, ap, ◌∙◌}
use Rattle.std.proofs.lemmas.List.{append_assoc, map-append}
use Rattle.walrus_sections.specs.Choice.{Choice, choice_seen, choices_seen}
use Rattle.walrus_sections.specs.declared.choice.Choice.{Choice as HeldChoice}

-- one behind some that stand behind others
pub then_more : (xs ys : List HeldChoice) (others some : List Choice) (x : HeldChoice) (c : Choice) → choices_seen xs ≡ others ++ some → choice_seen x ≡ c → ys ≡ xs ++ x ∷ [] → choices_seen ys ≡ others ++ (some ++ c ∷ [])
then_more xs ys others some x c so is grows =
    ap choices_seen grows ∙ map-append choice_seen xs (x ∷ []) ∙ ap (λ (l : List Choice). l ++ choice_seen x ∷ []) so ∙ ap (λ (d : Choice). (others ++ some) ++ d ∷ []) is
    ∙ append_assoc others some (c ∷ [])

pub first_more : (xs ys : List HeldChoice) (x : HeldChoice) (c : Choice) → choice_seen x ≡ c → ys ≡ xs ++ x ∷ [] → choices_seen ys ≡ choices_seen xs ++ c ∷ []
first_more xs ys x c is grows = ap choices_seen grows ∙ map-append choice_seen xs (x ∷ []) ∙ ap (λ (d : Choice). choices_seen xs ++ d ∷ []) is
