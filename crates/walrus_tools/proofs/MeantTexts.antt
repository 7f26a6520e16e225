-- What texts mean, text by text.
use Rattle.std.proofs.Common.{◌≡◌, ℕ, zero, suc, ◌+◌, ◌<◌, ◌≤◌, true, false, List, [], ◌∷◌, ◌++◌, length, take, drop, get_or, All, Option, refl, sym, ap, ◌∙◌, subst, ⊎_elim, arith, take_all}
use Rattle.std.proofs.lemmas.Bool.{cases_lt}
use Rattle.std.proofs.lemmas.List.{get_or_default, get_or-map, length-map}
use Rattle.std.proofs.lemmas.List.Elements.{All-more, All-nil, Contains-get_or}
use Rattle.walrus.specs.Base.Marks.{is_marked}
use Rattle.walrus.specs.Base.FunctionKey.{FunctionKey}
use Rattle.walrus.specs.Base.MarksValue.{Marks}
use Rattle.walrus.specs.Items.Exports.{ExportValue}
use Rattle.walrus.specs.Items.Functions.{FunctionValue}
use Rattle.walrus.specs.Items.Error.{Error}
use Rattle.walrus.specs.Items.Error.TheVariants as error
use Rattle.walrus_tools.specs.MarkSteps.{Adds, AreMarks, HasPlaces, RefusesMarks, RefusesText}
use Rattle.walrus_tools.specs.FunctionMeaning.{AreMeant, Means, MeansBodies, texts}
use Rattle.walrus_tools.specs.declared.function_meaning.Meant.{Meant}
use Rattle.walrus_tools.proofs.MarkLemmas.{Below}

-- a list up to an item, the item, and what is behind it
parts_at : {X : Type 0} (xs : List X) (i : ℕ) (d : X) → i < length xs → xs ≡ take i xs ++ get_or xs i d ∷ drop (suc i) xs
parts_at [] i d lt = absurd (omega (arith, lt))
parts_at (x ∷ xs) zero d lt = refl
parts_at (x ∷ xs) (suc i) d lt = ap (λ l. x ∷ l) (parts_at xs i d (omega (arith, lt)))

-- the bytes of the text at a place
pub text_at : (all : List Meant) (i : ℕ) (d : Meant) → i < length all → get_or (texts all) i [] ≡ (get_or all i d).name.now
text_at all i d lt = get_or-map (λ (m : Meant). m.name.now) all i d [] lt

pub as_many : (all : List Meant) → length (texts all) ≡ length all
as_many all = length-map all (λ (m : Meant). m.name.now)

module _ (fs : List (Option FunctionValue)) (es : List (Option ExportValue)) (all : List (List ℕ)) where
  -- what the text at a place means
  abbrev pub MeansAt : (i p : ℕ) → Type 0
  MeansAt i p = (i < length all) × Means fs es (get_or all i []) p

  -- the first i texts are marked, and each means functions that have bodies
  pub record TextsSoFar (i : ℕ) (marks : Marks FunctionKey) : Type 0 where
    pub only : (p : ℕ) → is_marked marks p ≡ true → Below MeansAt i p
    pub marked : (p : ℕ) → Below MeansAt i p → is_marked marks p ≡ true
    pub places : HasPlaces fs marks
    pub pass : All (MeansBodies fs es) (take i all)

  pub texts_begin : (marks : Marks FunctionKey) → ((p : ℕ) → is_marked marks p ≡ false) → HasPlaces fs marks → TextsSoFar 0 marks
  texts_begin marks none places = record {
    only = λ p h. let no_such : false ≡ true = sym (none p) ∙ h in cc;
    marked = λ p h. let lt : h.0 < 0 = h.1 in absurd (omega (arith, lt));
    places = places;
    pass = All-nil (MeansBodies fs es);
  }

  module _ (i : ℕ) (lt : i < length all) where
    pub texts_more : (old new : Marks FunctionKey) → TextsSoFar i old → Adds (Means fs es (get_or all i [])) old new × MeansBodies fs es (get_or all i []) → TextsSoFar (i + 1) new
    texts_more old new so (adds, bodies) = record {
      only = λ p h. ⊎_elim
          (λ (was : is_marked old p ≡ true). let b = so.only p was in let less : b.0 < i = b.1 in (b.0, omega (arith, less), b.2))
          (λ (is : Means fs es (get_or all i []) p). (i, omega arith, (lt, is)))
          (adds.only p h);
      marked = λ p h. here p h;
      places = adds.places ∙ so.places;
      pass = All-more (MeansBodies fs es) all i [] lt so.pass bodies;
    }
      where
        here : (p : ℕ) → Below MeansAt (i + 1) p → is_marked new p ≡ true
        here p h = let less : h.0 < i + 1 = h.1 in ⊎_elim
            (λ (before : h.0 < i). adds.stay p (so.marked p (h.0, before, h.2)))
            (λ (after : i ≤ h.0). let is : h.0 ≡ i = omega (arith, less, after) in adds.added p (subst (λ (j : ℕ). Means fs es (get_or all j []) p) is h.2.1))
            (cases_lt h.0 i)

    pub texts_refused : (old : Marks FunctionKey) → TextsSoFar i old → (e : Error) → RefusesText fs es (get_or all i []) e → RefusesMarks fs es all e
    texts_refused old so error.NotFound h = record { before = take i all; text = get_or all i []; after = drop (suc i) all; are = parts_at all i [] lt; pass = so.pass; cause = h }
    texts_refused old so error.NotReplaceable h = record { before = take i all; text = get_or all i []; after = drop (suc i) all; are = parts_at all i [] lt; pass = so.pass; cause = h }
    texts_refused old so _ h = absurd h

  pub texts_end : (i : ℕ) → length all ≤ i → (marks : Marks FunctionKey) → TextsSoFar i marks → AreMarks fs es all marks
  texts_end i le marks so = record {
    are = λ p. (to p, back p);
    pass = subst (All (MeansBodies fs es)) (take_all i all le) so.pass;
  }
    where
      to : (p : ℕ) → is_marked marks p ≡ true → AreMeant fs es all p
      to p h = let b = so.only p h in (get_or all b.0 [], Contains-get_or all b.0 [] b.2.0, b.2.1)

      back : (p : ℕ) → AreMeant fs es all p → is_marked marks p ≡ true
      back p (text, (k, less, is), means) =
          so.marked p (k, omega (arith, less, le), (less, subst (λ (t : List ℕ). Means fs es t p) (sym (get_or_default all k [] text less ∙ is)) means))
