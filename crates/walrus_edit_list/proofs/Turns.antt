-- Steps of a list that are made in their turn, by a loop over what is read.
use Rattle.std.proofs.Common.{ℕ, ◌+◌, ◌<◌, ◌≤◌, List, length, map, drop, get_or, refl, sym, subst, inl, inr}
use Rattle.std.proofs.lemmas.List.{drop_all, drop_more}
use Rattle.walrus_edit_list.specs.Turns.{InTurn, RefusesOne}

module _ {A S E : Type 0} (Makes : A → (old new : S) → Type 0) (Refuses : A → S → E → Type 0) where
  -- what the rest makes of what is there now, all make of what was there; and so it is with what is refused
  pub record Leads (rest all : List A) (now old : S) : Type 0 where
    pub makes : (new : S) → InTurn Makes rest now new → InTurn Makes all old new
    pub refuses : (e : E) → RefusesOne Makes Refuses rest now e → RefusesOne Makes Refuses all old e

  pub begins : (all : List A) (old : S) → Leads all all old old
  begins all old = record { makes = λ new h. h; refuses = λ e h. h }

  module _ {R : Type 0} (entry : R → A) (raw : List R) (i : ℕ) (d : R) (all : List A) (now old : S) where
    pub goes_on : (middle : S) → i < length raw → Leads (map entry (drop i raw)) all now old → Makes (entry (get_or raw i d)) now middle
        → Leads (map entry (drop (i + 1) raw)) all middle old
    goes_on middle lt so one = record {
      makes = λ new more. so.makes new (subst (λ (l : List R). InTurn Makes (map entry l) now new) (sym (drop_more raw i d lt)) (middle, one, more));
      refuses = λ e more. so.refuses e (subst (λ (l : List R). RefusesOne Makes Refuses (map entry l) now e) (sym (drop_more raw i d lt)) (inr (middle, one, more)));
    }

    pub refused : (e : E) → i < length raw → Leads (map entry (drop i raw)) all now old → Refuses (entry (get_or raw i d)) now e → RefusesOne Makes Refuses all old e
    refused e lt so why = so.refuses e (subst (λ (l : List R). RefusesOne Makes Refuses (map entry l) now e) (sym (drop_more raw i d lt)) (inl why))

  pub ends : {R : Type 0} (entry : R → A) (raw : List R) (i : ℕ) (all : List A) (now old : S) → length raw ≤ i → Leads (map entry (drop i raw)) all now old → InTurn Makes all old now
  ends {R} entry raw i all now old le so = so.makes now (subst (λ (l : List R). InTurn Makes (map entry l) now now) (sym (drop_all i raw le)) refl)
