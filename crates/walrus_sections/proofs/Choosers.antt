-- What the NAMEs of choices fit, list by list.
use Rattle.std.proofs.Common.{◌≡◌, ◌↔◌, ◌⊎◌, ◌<◌, ◌≤◌, ◌+◌, ℕ, Bool, true, false, List, [], ◌∷◌, ◌++◌, length, get_or, take, All, refl, sym, ap, ◌∙◌, subst, inl, inr, ⊎_elim}
use Rattle.std.specs.Prelude.{Contains, IsPermutation}
use Rattle.std.specs.Borrow.{Bor}
use Rattle.std.proofs.lemmas.Bool.{false≢true as untrue}
use Rattle.std.proofs.lemmas.List.{map-append, map_more, take_all}
use Rattle.std.proofs.lemmas.List.Elements.{All-contains, All-map, Contains-append_left, Contains-push, Contains-push_cases}
use Rattle.std.proofs.lemmas.List.Sorted.{Contains-permutation, IsPermutation-map, IsPermutation-sym}
use Rattle.walrus_base.proofs.Lists.{Contains-none}
use Rattle.walrus_sections.specs.Choice.{Choice, FitsOne, Suits, choice_seen, choices_seen}
use Rattle.walrus_sections.specs.ExportChoice.{IsChosen, NoneKept}
use Rattle.walrus_sections.specs.Fits.{Fits}
use Rattle.walrus_sections.specs.NameLists.{FitsIn, FitsNames, FitsSome, IsChooser, IsPicked, has_star, texts}
use Rattle.walrus_sections.specs.declared.choice.Choice.{Choice as HeldChoice}
use Rattle.walrus_sections.specs.declared.chooser.Chooser.{Chooser}
use Rattle.walrus_sections.specs.declared.chooser.Names.{Names}
use Rattle.walrus_sections.proofs.Among.{among}
use Rattle.walrus_sections.proofs.LookUps.{plain_fits}

abbrev Text : Type 0
Text = Bor (List ℕ)

-- ---- one NAME more

now_more : (names more : List Text) (name : Text) → more ≡ names ++ name ∷ [] → texts more ≡ texts names ++ name.now ∷ []
now_more names more name is = ap texts is ∙ map-append (λ (t : Text). t.now) names (name ∷ [])

-- what is in a list with one more
push_in : (names more : List Text) (name : Text) (x : List ℕ) → more ≡ names ++ name ∷ [] → Contains (texts more) x → Contains (texts names) x ⊎ (name.now ≡ x)
push_in names more name x is at = Contains-push_cases (texts names) name.now x (subst (λ (l : List (List ℕ)). Contains l x) (now_more names more name is) at)

in_push : (names more : List Text) (name : Text) (x : List ℕ) → more ≡ names ++ name ∷ [] → Contains (texts names) x ⊎ (name.now ≡ x) → Contains (texts more) x
in_push names more name x is (inl at) = subst (λ (l : List (List ℕ)). Contains l x) (sym (now_more names more name is)) (Contains-append_left (texts names) (name.now ∷ []) x at)
in_push names more name x is (inr same) = subst (λ (l : List (List ℕ)). Contains l x) (sym (now_more names more name is)) (subst (Contains (texts names ++ name.now ∷ [])) same (Contains-push (texts names) name.now))

module _ (plain starred : List Text) (choice : HeldChoice) (is_kept : Bool) (text : List ℕ) where
  abbrev Before : Type 0
  Before = FitsIn plain starred text ⊎ Suits is_kept text (choice_seen choice)

  -- one of another kind fits nothing
  pub other_kind : (choice.is_kept ≡ is_kept → ⊥) → FitsIn plain starred text ↔ Before
  other_kind other = (λ h. inl h, λ h. ⊎_elim (λ (was : FitsIn plain starred text). was) (λ (suits : Suits is_kept text (choice_seen choice)). absurd (other suits.0)) h)

  pub plain_more : (more : List Text) → choice.is_kept ≡ is_kept → has_star choice.name.now ≡ false → more ≡ plain ++ choice.name ∷ [] → FitsIn more starred text ↔ Before
  plain_more more kind star is = (
    λ h. ⊎_elim
        (λ (at : Contains (texts more) text). ⊎_elim
        (λ (was : Contains (texts plain) text). inl (inl was))
        (λ (same : choice.name.now ≡ text). inr (kind, (plain_fits choice.name.now text star).1 (sym same)))
        (push_in plain more choice.name text is at))
        (λ (some : FitsSome (texts starred) text). inl (inr some)) h,
    λ h. ⊎_elim
        (λ (was : FitsIn plain starred text). ⊎_elim (λ (at : Contains (texts plain) text). inl (in_push plain more choice.name text is (inl at))) (λ (some : FitsSome (texts starred) text). inr some) was)
        (λ (suits : Suits is_kept text (choice_seen choice)). inl (in_push plain more choice.name text is (inr (sym ((plain_fits choice.name.now text star).0 suits.1))))) h,
  )

  pub starred_more : (more : List Text) → choice.is_kept ≡ is_kept → more ≡ starred ++ choice.name ∷ [] → FitsIn plain more text ↔ Before
  starred_more more kind is = (
    λ h. ⊎_elim
        (λ (at : Contains (texts plain) text). inl (inl at))
        (λ (some : FitsSome (texts more) text). ⊎_elim
        (λ (was : Contains (texts starred) some.0). inl (inr (some.0, was, some.2)))
        (λ (same : choice.name.now ≡ some.0). inr (kind, subst (λ (name : List ℕ). Fits name text) (sym same) some.2))
        (push_in starred more choice.name some.0 is some.1)) h,
    λ h. ⊎_elim
        (λ (was : FitsIn plain starred text). ⊎_elim (λ (at : Contains (texts plain) text). inl at) (λ (some : FitsSome (texts starred) text). inr (some.0, in_push starred more choice.name some.0 is (inl some.1), some.2)) was)
        (λ (suits : Suits is_kept text (choice_seen choice)). inr (choice.name.now, in_push starred more choice.name choice.name.now is (inr refl), suits.1)) h,
  )

-- ---- choice by choice

none_in : (text : List ℕ) → FitsIn [] [] text → ⊥
none_in text (inl at) = Contains-none text at
none_in text (inr some) = Contains-none some.0 some.1

module _ (choices : List HeldChoice) (is_kept : Bool) (text : List ℕ) where
  -- so far
  abbrev pub FitsSoFar : ℕ → Type 0
  FitsSoFar i = FitsOne (choices_seen (take i choices)) is_kept text

  pub begins : (plain starred : List Text) → plain ≡ [] → starred ≡ [] → FitsIn plain starred text ↔ FitsSoFar 0
  begins plain starred first second = (
    λ h. absurd (none_in text (subst (λ (ns : List Text). FitsIn [] ns text) second (subst (λ (ns : List Text). FitsIn ns starred text) first h))),
    λ one. absurd (Contains-none one.0 one.1),
  )

  module _ (i : ℕ) (d : HeldChoice) (below : i < length choices) where
    abbrev next : Choice
    next = choice_seen (get_or choices i d)

    one_more : choices_seen (take (i + 1) choices) ≡ choices_seen (take i choices) ++ next ∷ []
    one_more = map_more choice_seen choices i d below

    more : FitsSoFar i ⊎ Suits is_kept text next → FitsSoFar (i + 1)
    more (inl one) = (one.0, subst (λ (cs : List Choice). Contains cs one.0) (sym one_more) (Contains-append_left (choices_seen (take i choices)) (next ∷ []) one.0 one.1), one.2)
    more (inr suits) = (next, subst (λ (cs : List Choice). Contains cs next) (sym one_more) (Contains-push (choices_seen (take i choices)) next), suits)

    less : FitsSoFar (i + 1) → FitsSoFar i ⊎ Suits is_kept text next
    less one = ⊎_elim
        (λ (was : Contains (choices_seen (take i choices)) one.0). inl (one.0, was, one.2))
        (λ (is : next ≡ one.0). inr (subst (Suits is_kept text) (sym is) one.2))
        (Contains-push_cases (choices_seen (take i choices)) next one.0 (subst (λ (cs : List Choice). Contains cs one.0) one_more one.1))

    -- a turn
    pub turns : (P Q : Type 0) → Q ↔ (P ⊎ Suits is_kept text next) → P ↔ FitsSoFar i → Q ↔ FitsSoFar (i + 1)
    turns P Q step so_far = (
      λ q. more (⊎_elim (λ (p : P). inl (so_far.0 p)) (λ (suits : Suits is_kept text next). inr suits) (step.0 q)),
      λ one. step.1 (⊎_elim (λ (was : FitsSoFar i). inl (so_far.1 was)) (λ (suits : Suits is_kept text next). inr suits) (less one)),
    )

  -- where all were looked at, and the first list is put in order
  pub ends : (i : ℕ) (plain sorted starred : List Text) → length choices ≤ i → IsPermutation plain sorted → FitsIn plain starred text ↔ FitsSoFar i → FitsIn sorted starred text ↔ FitsOne (choices_seen choices) is_kept text
  ends i plain sorted starred past moved so_far =
      let there = IsPermutation-map (λ (t : Text). t.now) plain sorted moved in
      let whole = take_all i choices past in (
        λ h. subst (λ (cs : List HeldChoice). FitsOne (choices_seen cs) is_kept text) whole
            (so_far.0 (⊎_elim (λ (at : Contains (texts sorted) text). inl (Contains-permutation (texts sorted) (texts plain) text (IsPermutation-sym (texts plain) (texts sorted) there) at)) (λ (some : FitsSome (texts starred) text). inr some) h)),
        λ one. ⊎_elim (λ (at : Contains (texts plain) text). inl (Contains-permutation (texts plain) (texts sorted) text there at)) (λ (some : FitsSome (texts starred) text). inr some)
            (so_far.1 (subst (λ (cs : List HeldChoice). FitsOne (choices_seen cs) is_kept text) (sym whole) one)),
      )

-- ---- no choice of what is kept

abbrev pub NoneHeld : List HeldChoice → Type 0
NoneHeld choices = All (λ choice. choice.is_kept ≡ false) choices

module _ (choices : List HeldChoice) (i : ℕ) where
  pub one_held : (d : HeldChoice) → i < length choices → (get_or choices i d).is_kept ≡ true → (false ≡ true) ↔ NoneKept (choices_seen choices)
  one_held d below is = (λ h. absurd (untrue h), λ none. absurd (untrue (sym (none (choice_seen (get_or choices i d)) (among choice_seen choices i d below)) ∙ is)))

  pub none_held : length choices ≤ i → NoneHeld (take i choices) → (true ≡ true) ↔ NoneKept (choices_seen choices)
  none_held past none = (
    λ h. λ choice at. All-contains (λ (x : Choice). x.is_kept ≡ false) (choices_seen choices) choice (All-map (λ (x : Choice). x.is_kept ≡ false) choice_seen choices (subst NoneHeld (take_all i choices past) none)) at,
    λ none_kept. refl,
  )

-- ---- what is looked up says what is chosen

-- where it is none of the first list, the second one says
pub second_says : (names : Names) (text : List ℕ) (plain starred : List Text) (found some : Bool) → plain ≡ names.plain.items → starred ≡ names.starred.items → (found ≡ true) ↔ Contains (texts plain) text → found ≡ false
    → (some ≡ true) ↔ FitsSome (texts starred) text → (some ≡ true) ↔ FitsNames names text
second_says names text plain starred found some first second looked isnt iff = (
  λ yes. inr (subst (λ (ns : List Text). FitsSome (texts ns) text) second (iff.0 yes)),
  λ fits. ⊎_elim
      (λ (at : Contains (texts names.plain.items) text). absurd (untrue (sym isnt ∙ looked.1 (subst (λ (ns : List Text). Contains (texts ns) text) (sym first) at))))
      (λ (one : FitsSome (texts names.starred.items) text). iff.1 (subst (λ (ns : List Text). FitsSome (texts ns) text) (sym second) one)) fits,
)

pub picked : (choices : List Choice) (chooser : Chooser) → IsChooser choices chooser → (text : List ℕ) → IsPicked chooser text ↔ IsChosen choices text
picked choices chooser is text =
    let kept = is.kept.fit text in
    let dropped = is.dropped.fit text in (
      λ h. (⊎_elim (λ (all : chooser.keeps_all ≡ true). inl (is.keeps_all.0 all)) (λ (fits : FitsNames chooser.kept text). inr (kept.0 fits)) h.0, λ one. h.1 (dropped.1 one)),
      λ h. (⊎_elim (λ (none : NoneKept choices). inl (is.keeps_all.1 none)) (λ (one : FitsOne choices true text). inr (kept.1 one)) h.0, λ fits. h.1 (dropped.0 fits)),
    )
