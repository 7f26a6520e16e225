-- Places that are marked in a window.
use Rattle.std.proofs.Common.{inl, inr, ◌≡◌, ◌<◌, ◌≤◌, ◌⊎◌, ◌+◌, ◌-◌, ℕ, zero, suc, Bool, true, false, List, [], ◌∷◌, ◌++◌, length, map, flat_map, take, get_or, sym, ap, ◌∙◌, subst, arith, append_assoc, append-nil, refl, Result, Ok, Err, IfOk}
use Rattle.std.specs.Prelude.{◌≢◌, ◌==◌, Contains, nat_eq, slice_set}
use Rattle.std.specs.Cmp.{nat_cmp_is}
use Rattle.std.specs.List.{IsDistinct, AllByRecursion}
use Rattle.std.specs.List.Sorted.{IsStrictlySortedBy}
use Rattle.std.specs.Ordering.{nat_cmp}
use Rattle.std.specs.declared.cmp.Ordering.TheVariants.{Less}
use Rattle.std.proofs.lemmas.Bool.{ne_eqb}
use Rattle.std.proofs.lemmas.Bool.Decides.{eqb_tells}
use Rattle.std.proofs.lemmas.Grind.{flat_map-append, get_or-set_at}
use Rattle.std.proofs.lemmas.List.{get_or-set_other, take_all}
use Rattle.std.proofs.lemmas.List.Elements.{Contains-append_cases, Contains-append_left, Contains-append_right}
use Rattle.walrus_base.proofs.Turns.{map_more}
use Rattle.walrus_functions.specs.Declaring.{AreOnce}
use Rattle.walrus_functions.specs.Marked.{AreMarked, Marks, marked}
use Rattle.walrus_bodies.proofs.FlagLemmas.{only}

-- ---- what is marked

first-of : (p x : ℕ) (ps : List ℕ) → x ≡ p → Contains (p ∷ ps) x
first-of p x ps is = (0, omega arith, sym is)

module _ (first : ℕ) (old : List Bool) (p i : ℕ) (from : first ≤ p) (at : i ≡ p - first) (low : i < length old) where
  there : (x : ℕ) → x ≡ p → (first ≤ x) × (get_or (slice_set old i true) (x - first) false ≡ true)
  there x is = (omega (arith, from, is), get_or-set_at old i (x - first) true false (omega (arith, at, is)) low)

  still : (x : ℕ) → (((x - first) == i) ≡ true) × (x - first ≡ i) ⊎ ((((x - first) == i) ≡ false) × (x - first ≢ i)) → get_or old (x - first) false ≡ true → get_or (slice_set old i true) (x - first) false ≡ true
  still x (inl e) h = get_or-set_at old i (x - first) true false e.1 low
  still x (inr e) h = get_or-set_other old i (x - first) true false e.1 ∙ h

  was : (done : List ℕ) → AreMarked first old done → (x : ℕ) → (((x - first) == i) ≡ true) × (x - first ≡ i) ⊎ ((((x - first) == i) ≡ false) × (x - first ≢ i)) → first ≤ x → get_or (slice_set old i true) (x - first) false ≡ true → Contains (done ++ p ∷ []) x
  was done h x (inl e) le is = Contains-append_right done (p ∷ []) x (first-of p x [] (omega (arith, from, at, le, e.1)))
  was done h x (inr e) le is = Contains-append_left done (p ∷ []) x ((h x).1 (le, sym (get_or-set_other old i (x - first) true false e.1) ∙ is))

  now : (done : List ℕ) → AreMarked first old done → (x : ℕ) → Contains done x ⊎ Contains (p ∷ []) x → (first ≤ x) × (get_or (slice_set old i true) (x - first) false ≡ true)
  now done h x (inl c) = let was_so = (h x).0 c in (was_so.0, still x (eqb_tells (x - first) i) was_so.1)
  now done h x (inr c) = there x (only p x c)

  -- one place is marked
  pub marks_one : Marks first old (slice_set old i true) (p ∷ [])
  marks_one done h x = (λ c. now done h x (Contains-append_cases done (p ∷ []) x c), λ m. was done h x (eqb_tells (x - first) i) m.0 m.1)

pub marks_none : (first : ℕ) (marks : List Bool) → Marks first marks marks []
marks_none first marks done h = subst (λ (ps : List ℕ). AreMarked first marks ps) (sym (append-nil done)) h

pub marks_both : (first : ℕ) (old middle new : List Bool) (ps qs : List ℕ) → Marks first old middle ps → Marks first middle new qs → Marks first old new (ps ++ qs)
marks_both first old middle new ps qs f g done h = subst (λ (xs : List ℕ). AreMarked first new xs) (append_assoc done ps qs) (g (done ++ ps) (f done h))

-- the next element's places are marked
pub marks_next : {A B : Type 0} (gives : B → List ℕ) (v : A → B) (xs : List A) (i : ℕ) (d : A) (first : ℕ) (start old new : List Bool) → i < length xs → Marks first start old (flat_map gives (map v (take i xs))) → Marks first old new (gives (v (get_or xs i d))) → Marks first start new (flat_map gives (map v (take (i + 1) xs)))
marks_next {A} {B} gives v xs i d first start old new low had one =
    let x = v (get_or xs i d) in
    let done = map v (take i xs) in
    let more : flat_map gives (map v (take (i + 1) xs)) ≡ flat_map gives done ++ gives x = ap (λ (ys : List B). flat_map gives ys) (map_more v xs i d low) ∙ flat_map-append gives done (x ∷ []) ∙ ap (λ (ps : List ℕ). flat_map gives done ++ ps) (append-nil (gives x)) in
    subst (λ (ps : List ℕ). Marks first start new ps) (sym more) (marks_both first start old new (flat_map gives done) (gives x) had one)

-- all elements' places are marked
pub marks_all : {A B : Type 0} (gives : B → List ℕ) (v : A → B) (xs : List A) (i first : ℕ) (start now : List Bool) → length xs ≤ i → Marks first start now (flat_map gives (map v (take i xs))) → Marks first start now (flat_map gives (map v xs))
marks_all {A} gives v xs i first start now past h = subst (λ (ys : List A). Marks first start now (flat_map gives (map v ys))) (take_all i xs past) h

pub each_alone : (ps : List ℕ) → flat_map (λ (p : ℕ). p ∷ []) ps ≡ ps
each_alone [] = refl
each_alone (p ∷ ps) = ap (λ (qs : List ℕ). p ∷ qs) (each_alone ps)

-- ---- the marked places in order

further : (first x : ℕ) (b : Bool) (marks : List Bool) → suc first ≤ x → get_or (b ∷ marks) (x - first) false ≡ get_or marks (x - suc first) false
further first x b marks le = let is : x - first ≡ suc (x - suc first) = omega (arith, le) in ap (λ (k : ℕ). get_or (b ∷ marks) k false) is

deeper : (first x : ℕ) (b : Bool) (marks : List Bool) → (suc first ≤ x) × (get_or marks (x - suc first) false ≡ true) → (first ≤ x) × (get_or (b ∷ marks) (x - first) false ≡ true)
deeper first x b marks h = let le = h.0 in (omega (arith, le), further first x b marks le ∙ h.1)

higher : (first x : ℕ) (b : Bool) (marks : List Bool) → first ≤ x → (first ≡ x → ⊥) → get_or (b ∷ marks) (x - first) false ≡ true → (suc first ≤ x) × (get_or marks (x - suc first) false ≡ true)
higher first x b marks le other is = let more : suc first ≤ x = omega (arith, le, other) in (more, sym (further first x b marks more) ∙ is)

stands : (first : ℕ) (marks : List Bool) (x : ℕ) → Contains (marked first marks) x → (first ≤ x) × (get_or marks (x - first) false ≡ true)
stands first [] x (k, low, is) = absurd (omega (arith, low))
stands first (true ∷ marks) x (zero, low, is) = let zero_at : x - first ≡ 0 = omega (arith, is) in (omega (arith, is), ap (λ (k : ℕ). get_or (true ∷ marks) k false) zero_at)
stands first (true ∷ marks) x (suc k, low, is) = deeper first x true marks (stands (suc first) marks x (k, omega (arith, low), is))
stands first (false ∷ marks) x c = deeper first x false marks (stands (suc first) marks x c)

is_taken : (first : ℕ) (marks : List Bool) (x : ℕ) → first ≤ x → get_or marks (x - first) false ≡ true → Contains (marked first marks) x
is_taken first [] x le is = absurd cc
is_taken first (true ∷ marks) x le is = go (is_taken (suc first) marks x) (eqb_tells first x)
  where
    go : (suc first ≤ x → get_or marks (x - suc first) false ≡ true → Contains (marked (suc first) marks) x) → ((first == x) ≡ true) × (first ≡ x) ⊎ (((first == x) ≡ false) × (first ≢ x)) → Contains (first ∷ marked (suc first) marks) x
    go rest (inl e) = first-of first x (marked (suc first) marks) (sym e.1)
    go rest (inr e) = let h = higher first x true marks le e.1 is in Contains-append_right (first ∷ []) (marked (suc first) marks) x (rest h.0 h.1)
is_taken first (false ∷ marks) x le is = go (is_taken (suc first) marks x) (eqb_tells first x)
  where
    go : (suc first ≤ x → get_or marks (x - suc first) false ≡ true → Contains (marked (suc first) marks) x) → ((first == x) ≡ true) × (first ≡ x) ⊎ (((first == x) ≡ false) × (first ≢ x)) → Contains (marked (suc first) marks) x
    go rest (inl e) =
        let here : x - first ≡ 0 = omega (arith, e.1) in
        let wrong : false ≡ true = sym (ap (λ (k : ℕ). get_or (false ∷ marks) k false) here) ∙ is in
        absurd cc
    go rest (inr e) = let h = higher first x false marks le e.1 is in rest h.0 h.1

all_above : (a first : ℕ) (marks : List Bool) → a < first → AllByRecursion (λ x. nat_cmp a x ≡ Less) (marked first marks)
all_above a first [] low = tt
all_above a first (true ∷ marks) low = (sym (nat_cmp_is a first Less low), all_above a (suc first) marks (omega (arith, low)))
all_above a first (false ∷ marks) low = all_above a (suc first) marks (omega (arith, low))

all_other : (a first : ℕ) (marks : List Bool) → a < first → AllByRecursion (λ x. nat_eq a x ≡ false) (marked first marks)
all_other a first [] low = tt
all_other a first (true ∷ marks) low = (ne_eqb a first (λ e. omega (arith, low, e)), all_other a (suc first) marks (omega (arith, low)))
all_other a first (false ∷ marks) low = all_other a (suc first) marks (omega (arith, low))

rise : (first : ℕ) (marks : List Bool) → IsStrictlySortedBy nat_cmp (marked first marks)
unfolding IsStrictlySortedBy
rise first [] = tt
rise first (true ∷ marks) = (all_above first (suc first) marks (omega arith), rise (suc first) marks)
rise first (false ∷ marks) = rise (suc first) marks

differ : (first : ℕ) (marks : List Bool) → IsDistinct nat_eq (marked first marks)
unfolding IsDistinct
differ first [] = tt
differ first (true ∷ marks) = (all_other first (suc first) marks (omega arith), differ (suc first) marks)
differ first (false ∷ marks) = differ (suc first) marks

-- they are the places that were marked, each once
marked_once : (first : ℕ) (marks : List Bool) (places : List ℕ) → AreMarked first marks places → AreOnce places (marked first marks)
marked_once first marks places h = record {
  same = λ x. (λ c. (h x).1 (stands first marks x c), λ c. let s = (h x).0 c in is_taken first marks x s.0 s.1);
  distinct = differ first marks;
  rising = rise first marks;
}

pub taken_once : {X E : Type 0} (view : X → List ℕ) (result : Result X E) (first : ℕ) (marks : List Bool) (places : List ℕ) → AreMarked first marks places → IfOk result (λ x. view x ≡ marked first marks) → IfOk result (λ x. AreOnce places (view x))
taken_once view (Ok x) first marks places h is = subst (λ (ps : List ℕ). AreOnce places ps) (sym is) (marked_once first marks places h)
taken_once view (Err e) first marks places h is = tt
