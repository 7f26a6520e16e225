-- What stands among slots once one of them is written, emptied or added.
use Rattle.std.proofs.Common.{◌≡◌, ◌≢◌, ℕ, zero, suc, ◌+◌, ◌<◌, ◌≤◌, List, [], ◌∷◌, ◌++◌, length, map, Option, Some, None, IsSome, option_map, slice_set, refl, sym, ap, ◌∙◌, ⊎_elim, arith}
use Rattle.std.specs.Prelude.{◌⊎◌}
use Rattle.std.proofs.lemmas.Bool.{cases_lt}
use Rattle.std.proofs.lemmas.List.{get_or_past, get_or_push, get_or-set_other, get_or-set_same, length_push}
use Rattle.std.proofs.lemmas.Option.{none-some}
use Rattle.std.proofs.Math.ListN.{get_or-append}
use Rattle.walrus_base.specs.Arena.{entries_from, item_at, items}
use Rattle.walrus_base.proofs.Standing.{some_inj}
use Rattle.walrus_reading.proofs.Carrying.{item_within}
use Rattle.walrus_theorem.specs.Edits.{Sets}

module _ {A : Type 0} where
  abbrev values_from : ℕ → List (Option A) → List A
  values_from k xs = map (λ (e : ℕ × A). e.1) (entries_from k xs)

  -- ---- the items, around the one at a place

  record IsSplit (k : ℕ) (xs : List (Option A)) (p : ℕ) (x : A) : Type 0 where
    front : List A
    back : List A
    is : values_from k xs ≡ front ++ x ∷ back
    set : (y : A) → values_from k (slice_set xs p (Some y)) ≡ front ++ y ∷ back
    gone : values_from k (slice_set xs p None) ≡ front ++ back

  split_from : (k : ℕ) (xs : List (Option A)) (p : ℕ) (x : A) → item_at xs p ≡ Some x → IsSplit k xs p x
  split_from k [] p x at = absurd (none-some x at)
  split_from k (None ∷ rest) zero x at = absurd (none-some x at)
  split_from k (None ∷ rest) (suc p) x at = let s = split_from (k + 1) rest p x at in record { front = s.front; back = s.back; is = s.is; set = s.set; gone = s.gone }
  split_from k (Some y ∷ rest) zero x at = record { front = []; back = values_from (k + 1) rest; is = ap (λ (z : A). z ∷ values_from (k + 1) rest) (some_inj y x at); set = λ z. refl; gone = refl }
  split_from k (Some y ∷ rest) (suc p) x at =
      let s = split_from (k + 1) rest p x at in
      record { front = y ∷ s.front; back = s.back; is = ap (λ (zs : List A). y ∷ zs) s.is; set = λ z. ap (λ (zs : List A). y ∷ zs) (s.set z); gone = ap (λ (zs : List A). y ∷ zs) s.gone }

  pub record Split (xs : List (Option A)) (p : ℕ) (x : A) : Type 0 where
    pub front : List A
    pub back : List A
    pub is : items xs ≡ front ++ x ∷ back
    pub set : (y : A) → items (slice_set xs p (Some y)) ≡ front ++ y ∷ back
    pub gone : items (slice_set xs p None) ≡ front ++ back

  pub split : (xs : List (Option A)) (p : ℕ) (x : A) → item_at xs p ≡ Some x → Split xs p x
  split xs p x at = let s = split_from 0 xs p x at in record { front = s.front; back = s.back; is = s.is; set = s.set; gone = s.gone }

  added_from : (k : ℕ) (xs : List (Option A)) (y : A) → values_from k (xs ++ Some y ∷ []) ≡ values_from k xs ++ y ∷ []
  added_from k [] y = refl
  added_from k (None ∷ rest) y = added_from (k + 1) rest y
  added_from k (Some x ∷ rest) y = ap (λ (zs : List A). x ∷ zs) (added_from (k + 1) rest y)

  -- what is added comes behind all others
  pub items_added : (xs : List (Option A)) (y : A) → items (xs ++ Some y ∷ []) ≡ items xs ++ y ∷ []
  items_added xs y = added_from 0 xs y

  -- ---- what stands at a place

  pub set_here : (xs : List (Option A)) (i : ℕ) (o : Option A) → IsSome (item_at xs i) → item_at (slice_set xs i o) i ≡ o
  set_here xs i o live = get_or-set_same xs i o None (item_within xs i live)

  pub set_elsewhere : (xs : List (Option A)) (i j : ℕ) (o : Option A) → j ≢ i → item_at (slice_set xs i o) j ≡ item_at xs j
  set_elsewhere xs i j o differs = get_or-set_other xs i j o None differs

  -- ---- behind the last place

  module _ (xs : List (Option A)) (y : A) (n : ℕ) (last : n ≡ length xs) where
    pub free_behind : item_at xs n ≡ None
    free_behind = get_or_past xs n None (omega (arith, last))

    pub comes_behind : item_at (xs ++ Some y ∷ []) n ≡ Some y
    comes_behind = get_or_push xs (Some y) None n (sym last)

    pub stays_before : (i : ℕ) → i ≢ n → item_at (xs ++ Some y ∷ []) i ≡ item_at xs i
    stays_before i differs = ⊎_elim
        (λ (lt : i < length xs). get_or-append xs (Some y ∷ []) None i lt)
        (λ (le : length xs ≤ i). get_or_past (xs ++ Some y ∷ []) i None (past i le differs) ∙ sym (get_or_past xs i None le))
        (cases_lt i (length xs)) where
          past : (i : ℕ) → length xs ≤ i → i ≢ n → length (xs ++ Some y ∷ []) ≤ i
          past i le differs =
              let long = length_push xs (Some y) in
              ⊎_elim (λ (lt : length xs < i). omega (arith, lt, long)) (λ (ge : i ≤ length xs). absurd (differs (omega (arith, le, ge, last)))) (cases_lt (length xs) i)

-- ---- what is seen of a place

module _ {A X : Type 0} (see : A → X) (old new : List (Option A)) where
  pub comes_seen : (y : A) (n : ℕ) → n ≡ length old → new ≡ old ++ Some y ∷ [] → Sets n None (Some (see y)) (λ i. option_map see (item_at old i)) (λ i. option_map see (item_at new i))
  comes_seen y n last are = record {
    was = ap (option_map see) (free_behind old y n last);
    is = ap (λ xs. option_map see (item_at xs n)) are ∙ ap (option_map see) (comes_behind old y n last);
    others = λ i differs. ap (λ xs. option_map see (item_at xs i)) are ∙ ap (option_map see) (stays_before old y n last i differs);
  }

  pub sets_seen : (n : ℕ) (a b : Option A) → item_at old n ≡ a → IsSome (item_at old n) → new ≡ slice_set old n b → Sets n (option_map see a) (option_map see b) (λ i. option_map see (item_at old i)) (λ i. option_map see (item_at new i))
  sets_seen n a b there live set = record {
    was = ap (option_map see) there;
    is = ap (λ xs. option_map see (item_at xs n)) set ∙ ap (option_map see) (set_here old n b live);
    others = λ i differs. ap (λ xs. option_map see (item_at xs i)) set ∙ ap (option_map see) (set_elsewhere old n i b differs);
  }
