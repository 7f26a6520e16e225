-- What is kept of a list of slots.
use Rattle.std.proofs.Common.{◌≡◌, ℕ, zero, suc, ◌+◌, Bool, true, false, List, [], ◌∷◌, length, map, set, Option, Some, None, option_map, refl, ap, sym, ◌∙◌, add-one}
use Rattle.std.proofs.lemmas.List.{length-set}
use Rattle.std.specs.Prelude.{if◌then◌else◌}
use Rattle.walrus_base.specs.Arena.{item_at, kept_by}

no_item : {T : Type 0} (keeps : Bool) (empty : Option T) → (if keeps then empty else empty) ≡ empty
no_item true empty = refl
no_item false empty = refl

-- at a marked place what was there, else nothing
pub item_at-kept_by : {T : Type 0} (keeps : ℕ → Bool) (xs : List (Option T)) (p : ℕ) → item_at (kept_by keeps xs) p ≡ (if keeps p then item_at xs p else None)
item_at-kept_by keeps [] p = sym (no_item (keeps p) None)
item_at-kept_by keeps (x ∷ xs) zero = refl
item_at-kept_by keeps (x ∷ xs) (suc p) = item_at-kept_by (λ n. keeps (suc n)) xs p

module _ {T : Type 0} (keeps : ℕ → Bool) (xs : List (Option T)) (p : ℕ) where
  -- what is left was there, at a marked place
  pub kept_from : (x : T) → item_at (kept_by keeps xs) p ≡ Some x → (keeps p ≡ true) × (item_at xs p ≡ Some x)
  kept_from x e = choose (keeps p) refl (sym (item_at-kept_by keeps xs p) ∙ e) where
    choose : (b : Bool) → keeps p ≡ b → (if b then item_at xs p else None) ≡ Some x → (keeps p ≡ true) × (item_at xs p ≡ Some x)
    choose true h e = (h, e)
    choose false h e = absurd cc

  pub kept_was : (x : T) → item_at (kept_by keeps xs) p ≡ Some x → item_at xs p ≡ Some x
  kept_was x e = (kept_from x e).1

  pub kept_marked : (x : T) → item_at (kept_by keeps xs) p ≡ Some x → keeps p ≡ true
  kept_marked x e = (kept_from x e).0

  -- what is at a marked place stays
  pub kept_there : keeps p ≡ true → item_at (kept_by keeps xs) p ≡ item_at xs p
  kept_there h = item_at-kept_by keeps xs p ∙ ap (λ b. if b then item_at xs p else None) h

pub length-kept_by : {T : Type 0} (keeps : ℕ → Bool) (xs : List (Option T)) → length (kept_by keeps xs) ≡ length xs
length-kept_by keeps [] = refl
length-kept_by keeps (x ∷ xs) = ap suc (length-kept_by (λ n. keeps (suc n)) xs)

seen_slot : {S T : Type 0} (f : S → T) (keeps : Bool) (x : Option S) → option_map f (if keeps then x else None) ≡ (if keeps then option_map f x else None)
seen_slot f true x = refl
seen_slot f false x = refl

-- what is seen of what is kept is what is kept of what is seen
pub map-kept_by : {S T : Type 0} (f : S → T) (keeps : ℕ → Bool) (xs : List (Option S)) → map (option_map f) (kept_by keeps xs) ≡ kept_by keeps (map (option_map f) xs)
map-kept_by f keeps [] = refl
map-kept_by {S} {T} f keeps (x ∷ xs) =
    ap (λ (y : Option T). y ∷ map (option_map f) (kept_by (λ n. keeps (suc n)) xs)) (seen_slot f (keeps 0) x)
    ∙ ap (λ (ys : List (Option T)). (if keeps 0 then option_map f x else None) ∷ ys) (map-kept_by f (λ n. keeps (suc n)) xs)

module _ {T : Type 0} where
  -- the first places are done, the others are still to be
  abbrev pub kept_behind : (keeps : ℕ → Bool) → ℕ → List (Option T) → List (Option T)
  kept_behind keeps zero xs = kept_by keeps xs
  kept_behind keeps (suc i) [] = []
  kept_behind keeps (suc i) (x ∷ xs) = x ∷ kept_behind (λ n. keeps (suc n)) i xs

  kept_here : (keeps : ℕ → Bool) (i : ℕ) (xs : List (Option T)) → true ≡ keeps i → kept_behind keeps (suc i) xs ≡ kept_behind keeps i xs
  kept_here keeps zero [] h = refl
  kept_here keeps zero (x ∷ xs) h = rw (sym h) refl
  kept_here keeps (suc i) [] h = refl
  kept_here keeps (suc i) (x ∷ xs) h = ap (λ (ys : List (Option T)). x ∷ ys) (kept_here (λ n. keeps (suc n)) i xs h)

  dropped_here : (keeps : ℕ → Bool) (i : ℕ) (xs : List (Option T)) → false ≡ keeps i → kept_behind keeps (suc i) (set xs i None) ≡ kept_behind keeps i xs
  dropped_here keeps zero [] h = refl
  dropped_here keeps zero (x ∷ xs) h = rw (sym h) refl
  dropped_here keeps (suc i) [] h = refl
  dropped_here keeps (suc i) (x ∷ xs) h = ap (λ (ys : List (Option T)). x ∷ ys) (dropped_here (λ n. keeps (suc n)) i xs h)

  -- one more place is done
  pub kept_turn : (keeps : ℕ → Bool) (i : ℕ) (b : Bool) (xs now all : List (Option T)) (n : ℕ) → b ≡ keeps i → now ≡ (if b then xs else set xs i None)
      → (length xs ≡ n) × (kept_behind keeps i xs ≡ all) → (length now ≡ n) × (kept_behind keeps (i + 1) now ≡ all)
  kept_turn keeps i true xs now all n h is so_far = rw (is, add-one i) (so_far.0, kept_here keeps i xs h ∙ so_far.1)
  kept_turn keeps i false xs now all n h is so_far = rw (is, add-one i) (length-set xs i None ∙ so_far.0, dropped_here keeps i xs h ∙ so_far.1)

  -- all places are done
  pub kept_all : (keeps : ℕ → Bool) (i : ℕ) (xs : List (Option T)) → i ≡ length xs → kept_behind keeps i xs ≡ xs
  kept_all keeps zero [] h = refl
  kept_all keeps zero (x ∷ xs) h = absurd cc
  kept_all keeps (suc i) [] h = refl
  kept_all keeps (suc i) (x ∷ xs) h = ap (λ (ys : List (Option T)). x ∷ ys) (kept_all (λ n. keeps (suc n)) i xs cc)
