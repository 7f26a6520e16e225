-- What a text means, by what it is: an index, a name, or a name with stars.
use Rattle.std.proofs.Common.{◌≡◌, ℕ, ◌<◌, ◌≤◌, true, false, List, length, Option, Some, None, IsSome, Result, Ok, Err, refl, sym, ap, ◌∙◌, subst, inl, inr, ⊎_elim}
use Rattle.std.proofs.lemmas.Bool.{cases_lt}
use Rattle.std.proofs.lemmas.List.{get_or_past}
use Rattle.walrus.specs.Base.Arena.{IsLive, item_at}
use Rattle.walrus.specs.Base.Id.{place}
use Rattle.walrus.specs.Base.IdValue.{Id}
use Rattle.walrus.specs.Base.FunctionKey.{FunctionKey}
use Rattle.walrus.specs.Base.MarksValue.{Marks}
use Rattle.walrus.specs.Items.Exports.{ExportValue}
use Rattle.walrus.specs.Items.Functions.{FunctionValue}
use Rattle.walrus.specs.Items.Error.{Error}
use Rattle.walrus.specs.Items.Error.TheVariants as error
use Rattle.walrus_tools.specs.FunctionNames.{FindsCalled, function_called}
use Rattle.walrus_tools.specs.MarkSteps.{Adds, IsExported, IsFitting, IsNamed, MarksFitting, MarksOne, MarksText, Meets, RefusesText}
use Rattle.walrus_tools.specs.FunctionMeaning.{FitsExport, FitsFunction, Means, MeansBodies, by_index, by_name, by_star, has_body, has_star, SaysIndex, SaysNone}
use Rattle.walrus_tools.specs.Reasons.{FindsFunction}
use Rattle.walrus_tools.specs.declared.marks.Marking.{Marking}
use Rattle.walrus_tools.proofs.MarkLemmas.{adds_as, meets_both}

untrue : false ≡ true → ⊥
untrue h = cc

some_is : {A : Type 0} {x y : A} → ◌≡◌ {A = Option A} (Some x) (Some y) → x ≡ y
some_is e = cc

-- where something stands, the place is one of the list's
pub within : {A : Type 0} (slots : List (Option A)) (p : ℕ) → (item_at slots p ≡ None → ⊥) → p < length slots
within slots p there = ⊎_elim (λ (lt : p < length slots). lt) (λ (le : length slots ≤ p). absurd (there (get_or_past slots p None le))) (cases_lt p (length slots))

pub body_within : (fs : List (Option FunctionValue)) (p : ℕ) → has_body (item_at fs p) ≡ true → p < length fs
body_within fs p has = within fs p (λ none. untrue (sym (ap has_body none) ∙ has))

pub named_within : (name : List ℕ) (fs : List (Option FunctionValue)) (i p : ℕ) → IsNamed name fs i p → i < length fs
named_within name fs i p h = body_within fs i h.1.0

pub exported_within : (name : List ℕ) (fs : List (Option FunctionValue)) (es : List (Option ExportValue)) (i p : ℕ) → IsExported name fs es i p → i < length es
exported_within name fs es i p h = within es i (λ none. subst (λ (o : Option ExportValue). FitsExport name o p) none h.0)

-- ---- all that a name with stars fits

module _ (name : List ℕ) (fs : List (Option FunctionValue)) (es : List (Option ExportValue)) (old mid new : Marking FunctionKey)
    (one : Meets (λ p. (i : ℕ) × IsNamed name fs i p) old mid) (two : Meets (λ p. (i : ℕ) × IsExported name fs es i p) mid new) (unset : old.is_met ≡ false) where
  abbrev both : Meets (IsFitting name fs es) old new
  both = meets_both (λ p. (i : ℕ) × IsNamed name fs i p) (λ p. (i : ℕ) × IsExported name fs es i p) old mid new one two

  pub fitting_met : new.is_met ≡ true → MarksFitting name fs es old.marks new.marks (Ok tt)
  fitting_met met = (both.adds, ⊎_elim (λ (was : old.is_met ≡ true). absurd (untrue (sym unset ∙ was))) (λ (is : (p : ℕ) × IsFitting name fs es p). is) (both.only met))

  pub fitting_none : new.is_met ≡ false → MarksFitting name fs es old.marks new.marks (Err error.NotFound)
  fitting_none none = (refl, λ p is. untrue (sym none ∙ both.met p is))

-- ---- a text

module _ (fs : List (Option FunctionValue)) (es : List (Option ExportValue)) (text : List ℕ) where
  -- one function is meant, which is marked or has no body
  module _ (q : ℕ) (means : Means fs es text q) (alone : (p : ℕ) → Means fs es text p → p ≡ q) (old new : Marks FunctionKey) where
    alone_marked : Adds (λ p. p ≡ q) old new × (has_body (item_at fs q) ≡ true) → Adds (Means fs es text) old new × MeansBodies fs es text
    alone_marked h = (
      adds_as (λ p. p ≡ q) (Means fs es text) (λ p is. subst (Means fs es text) (sym is) means) alone old new h.0,
      record { function = q; is = means; each = λ p m. ap (λ (k : ℕ). has_body (item_at fs k)) (alone p m) ∙ h.1 },
    )

    pub one_marked : (result : Result (Unit {0}) Error) → MarksOne fs q old new result → MarksText fs es text old new result
    one_marked (Ok done) h = alone_marked h
    one_marked (Err e) h = subst (RefusesText fs es text) (sym h.0) (q, means, h.1)

  -- the text is an index
  module _ (n : ℕ) (says : SaysIndex text n) where
    index_alone : (p : ℕ) → Means fs es text p → (p ≡ n) × IsLive fs p
    index_alone p (by_index s live) = (s.1 ∙ sym says.1, live)
    index_alone p (by_name none star called) = absurd (none n says)
    index_alone p (by_star none star body fits) = absurd (none n says)

    pub index_marked : (id : Id FunctionKey) → FindsFunction fs n (Ok id) → (old new : Marks FunctionKey) (result : Result (Unit {0}) Error) → MarksOne fs (place id) old new result → MarksText fs es text old new result
    index_marked id found old new result h =
        one_marked n (by_index says found.1) (λ p m. (index_alone p m).0) old new result (subst (λ (k : ℕ). MarksOne fs k old new result) found.0 h)

    pub index_refused : (e : Error) → FindsFunction fs n (Err e) → RefusesText fs es text e
    index_refused error.NotFound none = λ p m. let a = index_alone p m in none_live (item_at fs p) (ap (item_at fs) a.0 ∙ none) a.1 where
      none_live : (o : Option FunctionValue) → o ≡ None → IsSome o → ⊥
      none_live None e h = let no_such : IsSome {T = FunctionValue} None = h in cc
      none_live (Some f) e h = cc
    index_refused _ h = absurd h

  module _ (none : SaysNone text) where
    -- it is a name
    module _ (plain : has_star text ≡ false) where
      name_alone : (p : ℕ) → Means fs es text p → function_called text fs es ≡ Some p
      name_alone p (by_index s live) = absurd (none p s)
      name_alone p (by_name n star called) = called
      name_alone p (by_star n star body fits) = absurd (untrue (sym plain ∙ star))

      pub name_marked : (id : Id FunctionKey) → FindsCalled text fs es (Ok id) → (old new : Marks FunctionKey) (result : Result (Unit {0}) Error) → MarksOne fs (place id) old new result → MarksText fs es text old new result
      name_marked id found old new result h = one_marked (place id) (by_name none plain found) (λ p m. some_is (sym (name_alone p m) ∙ found)) old new result h

      pub name_refused : (e : Error) → FindsCalled text fs es (Err e) → RefusesText fs es text e
      name_refused error.NotFound lacks = λ p m. let no_such : ◌≡◌ {A = Option ℕ} (Some p) None = sym (name_alone p m) ∙ lacks in cc
      name_refused _ h = absurd h

    -- it has a star
    module _ (star : has_star text ≡ true) where
      star_means : (p : ℕ) → IsFitting text fs es p → Means fs es text p
      star_means p (inl (i, (is, (body, fits)))) = by_star none star (ap (λ (k : ℕ). has_body (item_at fs k)) is ∙ body) (inl (subst (λ (k : ℕ). FitsFunction text (item_at fs k)) (sym is) fits))
      star_means p (inr (i, (fits, body))) = by_star none star body (inr (i, fits))

      star_fits : (p : ℕ) → Means fs es text p → IsFitting text fs es p
      star_fits p (by_index s live) = absurd (none p s)
      star_fits p (by_name n plain called) = absurd (untrue (sym plain ∙ star))
      star_fits p (by_star n s body (inl fits)) = inl (p, (refl, (body, fits)))
      star_fits p (by_star n s body (inr (i, fits))) = inr (i, (fits, body))

      has_bodies : (p : ℕ) → Means fs es text p → has_body (item_at fs p) ≡ true
      has_bodies p (by_index s live) = absurd (none p s)
      has_bodies p (by_name n plain called) = absurd (untrue (sym plain ∙ star))
      has_bodies p (by_star n s body fits) = body

      pub star_marked : (old new : Marks FunctionKey) (result : Result (Unit {0}) Error) → MarksFitting text fs es old new result → MarksText fs es text old new result
      star_marked old new (Ok done) (adds, some) = (
        adds_as (IsFitting text fs es) (Means fs es text) star_means star_fits old new adds,
        record { function = some.0; is = star_means some.0 some.1; each = has_bodies },
      )
      star_marked old new (Err e) (is, nothing) = subst (RefusesText fs es text) (sym is) (λ p m. nothing p (star_fits p m))
