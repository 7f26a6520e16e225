-- Exports that stay or go by their names, place by place.
use Rattle.std.proofs.Common.{◌≡◌, ◌↔◌, ◌<◌, ◌≤◌, ◌+◌, ℕ, List, length, Option, Some, None, slice_set, refl, sym, ap, ◌∙◌, subst, inl, inr, ⊎_elim, arith}
use Rattle.std.specs.Prelude.{IsPermutation}
use Rattle.std.specs.Borrow.{Bor}
use Rattle.std.proofs.lemmas.Bool.{cases_lt}
use Rattle.std.proofs.lemmas.List.{get_or_past, get_or-set_other, get_or-set_same, length-set}
use Rattle.std.proofs.lemmas.List.Sorted.{Contains-permutation, IsPermutation-map, IsPermutation-sym}
use Rattle.walrus.specs.Base.Arena.{item_at}
use Rattle.walrus.proofs.Base.Indexed.{beyond}
use Rattle.walrus.specs.Items.Exports.{ExportValue}
use Rattle.walrus_sections.specs.Choice.{Choice}
use Rattle.walrus_sections.specs.ExportChoice.{EachFits, FitsText, TellsUnfit}
use Rattle.walrus_tools.specs.KeptExports.{KeepsAt, KeepsNamed, KeepsUntil, StaysIf}
use Rattle.walrus_sections.specs.NameLists.{texts}

-- ---- texts in another order

module _ (some others : List (List ℕ)) (moved : IsPermutation some others) where
  fits_back : (name : List ℕ) → FitsText others name → FitsText some name
  fits_back name fits = (fits.0, Contains-permutation others some fits.0 (IsPermutation-sym some others moved) fits.1, fits.2)

  each_back : (choices : List Choice) → EachFits others choices → EachFits some choices
  each_back choices each = λ choice at. fits_back choice.name (each choice at)

  tells_back : (choices : List Choice) (found : Option ℕ) → TellsUnfit others choices found → TellsUnfit some choices found
  tells_back choices None each = each_back choices each
  tells_back choices (Some number) first = record {
    choice = first.choice;
    there = first.there;
    unfit = λ fits. first.unfit (fits.0, Contains-permutation some others fits.0 moved fits.1, fits.2);
    before = each_back _ first.before;
  }

abbrev Text : Type 0
Text = Bor (List ℕ)

-- what is told of the texts as they stand
pub tells_standing : (names lent : List Text) (all : List (List ℕ)) → texts names ≡ all → lent ≡ names → (choices : List Choice) (found : Option ℕ) → TellsUnfit (texts lent) choices found → TellsUnfit all choices found
tells_standing names lent all are same choices found tells =
    subst (λ (ts : List (List ℕ)). TellsUnfit ts choices found) (ap texts same ∙ are) tells

-- what is told of texts that were put in order
pub tells_sorted : (names sorted lent : List Text) (all : List (List ℕ)) → texts names ≡ all → IsPermutation names sorted → lent ≡ sorted → (choices : List Choice) (found : Option ℕ) → TellsUnfit (texts lent) choices found → TellsUnfit all choices found
tells_sorted names sorted lent all are moved same choices found tells =
    subst (λ (ts : List (List ℕ)). TellsUnfit ts choices found) are
    (tells_back (texts names) (texts sorted) (IsPermutation-map (λ (t : Text). t.now) names sorted moved) choices found
    (subst (λ (ts : List Text). TellsUnfit (texts ts) choices found) same tells))

-- ---- one place

module _ (P : List ℕ → Type 0) where
  pub none_there : (all : List (Option ExportValue)) (n : ℕ) → item_at all n ≡ None → KeepsAt P n all all
  none_there all n none = record { places = refl; here = subst (λ (o : Option ExportValue). StaysIf P o (item_at all n)) (sym none) none; others = λ i not. refl }

  module _ (old : List (Option ExportValue)) (n : ℕ) (e : ExportValue) (there : item_at old n ≡ Some e) where
    pub stays_there : P e.name → KeepsAt P n old old
    stays_there holds = record { places = refl; here = subst (λ (o : Option ExportValue). StaysIf P o (item_at old n)) (sym there) (inl (holds, there)); others = λ i not. refl }

    pub goes_there : (new : List (Option ExportValue)) → (P e.name → ⊥) → new ≡ slice_set old n None → KeepsAt P n old new
    goes_there new fails set = record {
      places = ap length set ∙ length-set old n None;
      here = subst (λ (o : Option ExportValue). StaysIf P o (item_at new n)) (sym there)
          (inr (fails, ap (λ xs. item_at xs n) set ∙ get_or-set_same old n None None (beyond old n e there)));
      others = λ i not. ap (λ xs. item_at xs i) set ∙ get_or-set_other old n i None None not;
    }

  -- ---- all places

  pub begins : (all : List (Option ExportValue)) → KeepsUntil P 0 all all
  begins all = record { places = refl; before = λ i below. absurd (omega (arith, below)); behind = λ i from. refl }

  pub turns : (old so_far new : List (Option ExportValue)) (n : ℕ) → KeepsUntil P n old so_far → KeepsAt P n so_far new → KeepsUntil P (n + 1) old new
  turns old so_far new n until at = record {
    places = at.places ∙ until.places;
    before = λ i below. ⊎_elim
        (λ (lt : i < n). subst (StaysIf P (item_at old i)) (sym (at.others i (λ same. below_not i lt same))) (until.before i lt))
        (λ (from : n ≤ i). let here : n ≡ i = omega (arith, from, below) in
        subst (λ (k : ℕ). StaysIf P (item_at old k) (item_at new k)) here (subst (λ (o : Option ExportValue). StaysIf P o (item_at new n)) (until.behind n (omega arith)) at.here))
        (cases_lt i n);
    behind = λ i from. at.others i (λ same. above_not i from same) ∙ until.behind i (omega (arith, from));
  }
    where
      below_not : (i : ℕ) → i < n → i ≡ n → ⊥
      below_not i lt same = absurd (omega (arith, lt, same))

      above_not : (i : ℕ) → n + 1 ≤ i → i ≡ n → ⊥
      above_not i from same = absurd (omega (arith, from, same))

  pub ends : (old new : List (Option ExportValue)) (n : ℕ) → length old ≤ n → KeepsUntil P n old new → KeepsNamed P old new
  ends old new n past until = record {
    places = until.places;
    each = λ i. ⊎_elim
        (λ (lt : i < n). until.before i lt)
        (λ (from : n ≤ i).
        let none : item_at old i ≡ None = get_or_past old i None (omega (arith, past, from)) in
        subst (λ (o : Option ExportValue). StaysIf P o (item_at new i)) (sym none) (until.behind i from ∙ none))
        (cases_lt i n);
  }

-- ---- what comes to the same

stays_alike : (P Q : List ℕ → Type 0) → ((name : List ℕ) → P name ↔ Q name) → (was is : Option ExportValue) → StaysIf P was is → StaysIf Q was is
stays_alike P Q same None is h = h
stays_alike P Q same (Some e) is (inl stays) = inl ((same e.name).0 stays.0, stays.1)
stays_alike P Q same (Some e) is (inr goes) = inr (λ q. goes.0 ((same e.name).1 q), goes.1)

pub keeps_alike : (P Q : List ℕ → Type 0) → ((name : List ℕ) → P name ↔ Q name) → (old new : List (Option ExportValue)) → KeepsNamed P old new → KeepsNamed Q old new
keeps_alike P Q same old new keeps = record { places = keeps.places; each = λ i. stays_alike P Q same (item_at old i) (item_at new i) (keeps.each i) }
