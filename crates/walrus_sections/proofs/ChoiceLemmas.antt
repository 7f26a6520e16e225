-- Whether a choice of a kind fits a text, among those that were looked at.
use Rattle.std.proofs.Common.{◌≡◌, ◌<◌, ◌≤◌, ◌+◌, ◌↔◌, ℕ, Bool, true, false, List, [], length, get_or, take, All, subst}
use Rattle.std.proofs.lemmas.Bool.{false≢true as untrue}
use Rattle.std.proofs.lemmas.List.Elements.{All-more}
use Rattle.std.proofs.lemmas.List.{take_all}
use Rattle.walrus_sections.specs.Choice.{FitsOne, Suits, choice_seen, choices_seen}
use Rattle.walrus_sections.specs.declared.choice.Choice.{Choice as HeldChoice}
use Rattle.walrus_sections.proofs.Among.{among, none_among}

-- what a place behind the end of a list stands for
abbrev pub no_choice : HeldChoice
no_choice = record { is_kept = false; name = record { ref_ptr = (0, 0); now = [] } }

-- none of these does
abbrev pub NoneSuits : (is_kept : Bool) → (text : List ℕ) → List HeldChoice → Type 0
NoneSuits is_kept text choices = All (λ choice. Suits is_kept text (choice_seen choice) → ⊥) choices

pub is_not : (r : Bool) (P : Type 0) → (r ≡ true) ↔ P → r ≡ false → P → ⊥
is_not r P iff isnt h = let yes : r ≡ true = iff.1 h in absurd cc

pub none_fits : (choices : List HeldChoice) (is_kept : Bool) (text : List ℕ) → NoneSuits is_kept text choices → FitsOne (choices_seen choices) is_kept text → ⊥
none_fits choices is_kept text none found = none_among (Suits is_kept text) choice_seen choices none found.0 found.1 found.2

pub one_fits : (choices : List HeldChoice) (is_kept : Bool) (text : List ℕ) (i : ℕ) (d : HeldChoice) → i < length choices → Suits is_kept text (choice_seen (get_or choices i d)) → FitsOne (choices_seen choices) is_kept text
one_fits choices is_kept text i d below suits = (choice_seen (get_or choices i d), among choice_seen choices i d below, suits)

pub none_more : (choices : List HeldChoice) (is_kept : Bool) (text : List ℕ) (i : ℕ) (d : HeldChoice) → i < length choices → (Suits is_kept text (choice_seen (get_or choices i d)) → ⊥)
    → NoneSuits is_kept text (take i choices) → NoneSuits is_kept text (take (i + 1) choices)
none_more choices is_kept text i d below not none = All-more (λ choice. Suits is_kept text (choice_seen choice) → ⊥) choices i d below none not

pub none_at_all : (choices : List HeldChoice) (is_kept : Bool) (text : List ℕ) (i : ℕ) → length choices ≤ i → NoneSuits is_kept text (take i choices) → (false ≡ true) ↔ FitsOne (choices_seen choices) is_kept text
none_at_all choices is_kept text i past none =
    (λ h. absurd (untrue h), λ found. absurd (none_fits choices is_kept text (subst (NoneSuits is_kept text) (take_all i choices past) none) found))
