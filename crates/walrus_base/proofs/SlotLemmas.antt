-- What stands in slots that were added or emptied.
use Rattle.std.proofs.Common.{◌≡◌, ℕ, zero, suc, ◌+◌, ◌<◌, List, [], ◌∷◌, ◌++◌, length, map, set, get_or, Option, IsSome, Some, None, option_map, ap, sym, ◌∙◌, refl, arith, ◌⊎◌, inl, inr, ⊎_elim}
use Rattle.std.proofs.lemmas.List.{map-set, length-set}
use Rattle.walrus_base.specs.Arena.{item_at}
use Rattle.walrus_base.specs.TypeDef.{places_between}
use Rattle.walrus_base.specs.TypeSlots.{cleared}
use Rattle.walrus_base.proofs.Places.{between_more}
use Rattle.walrus_base.proofs.Found.{live_at}

-- an item of two rows stands in the first or in the second
pub item_at-append : {T : Type 0} (xs ys : List (Option T)) (p : ℕ) (x : T) → item_at (xs ++ ys) p ≡ Some x → (item_at xs p ≡ Some x) ⊎ ((k : ℕ) × (p ≡ length xs + k) × (item_at ys k ≡ Some x))
item_at-append [] ys p x h = inr (p, omega arith, h)
item_at-append (y ∷ xs) ys zero x h = inl h
item_at-append (y ∷ xs) ys (suc p) x h =
    ⊎_elim (λ l. inl l) (λ r. inr (r.0, (let e : p ≡ length xs + r.0 = r.1 in omega (arith, e)), r.2)) (item_at-append xs ys p x h)

-- an item that is there after a place was emptied was there
item_at-set : {T : Type 0} (xs : List (Option T)) (i p : ℕ) (x : T) → item_at (set xs i None) p ≡ Some x → item_at xs p ≡ Some x
item_at-set [] i p x h = h
item_at-set (y ∷ xs) zero zero x h = absurd cc
item_at-set (y ∷ xs) zero (suc p) x h = h
item_at-set (y ∷ xs) (suc i) zero x h = h
item_at-set (y ∷ xs) (suc i) (suc p) x h = item_at-set xs i p x h

pub item_at-cleared : {T : Type 0} (ps : List ℕ) (xs : List (Option T)) (p : ℕ) (x : T) → item_at (cleared ps xs) p ≡ Some x → item_at xs p ≡ Some x
item_at-cleared [] xs p x h = h
item_at-cleared (q ∷ ps) xs p x h = item_at-set xs q p x (item_at-cleared ps (set xs q None) p x h)

pub length-cleared : {T : Type 0} (ps : List ℕ) (xs : List (Option T)) → length (cleared ps xs) ≡ length xs
length-cleared [] xs = refl
length-cleared (p ∷ ps) xs = length-cleared ps (set xs p None) ∙ length-set xs p None

-- what is seen of slots that were emptied
pub map-cleared : {S T : Type 0} (f : S → T) (ps : List ℕ) (xs : List (Option S)) → map (option_map f) (cleared ps xs) ≡ cleared ps (map (option_map f) xs)
map-cleared f [] xs = refl
map-cleared {S} {T} f (p ∷ ps) xs = map-cleared f ps (set xs p None) ∙ ap (λ s. cleared ps s) (map-set (λ (slot : Option S). option_map f slot) xs p None)

-- the item at a place of what is seen of slots
pub item_at-map : {S T : Type 0} (f : S → T) (xs : List (Option S)) (p : ℕ) → item_at (map (option_map f) xs) p ≡ option_map f (item_at xs p)
item_at-map f [] p = refl
item_at-map f (x ∷ xs) zero = refl
item_at-map f (x ∷ xs) (suc p) = item_at-map f xs p

-- a place that is emptied next
pub cleared_step : {T : Type 0} (a b : ℕ) (xs now all : List (Option T)) → a < b → cleared (places_between a b) xs ≡ all → now ≡ set xs a None → cleared (places_between (a + 1) b) now ≡ all
cleared_step a b xs now all lt so_far emptied =
    ap (λ slots. cleared (places_between (a + 1) b) slots) emptied ∙ ap (λ ps. cleared ps xs) (sym (between_more a b lt)) ∙ so_far

-- an item that was taken out and put back changed
pub replaced_same : {S T : Type 0} (f : S → T) (xs : List (Option S)) (p : ℕ) (between : Option S) (x y : S) → item_at xs p ≡ Some x → f y ≡ f x → map (option_map f) (set (set xs p between) p (Some y)) ≡ map (option_map f) xs
replaced_same f [] p between x y at same = refl
replaced_same {S} {T} f (o ∷ xs) zero between x y at same =
    ap (λ (t : Option T). t ∷ map (option_map f) xs) (ap (λ t. Some t) same ∙ ap (option_map f) (sym at))
replaced_same {S} {T} f (o ∷ xs) (suc p) between x y at same = ap (λ (ts : List (Option T)). option_map f o ∷ ts) (replaced_same f xs p between x y at same)

pub replaced_new : {S T : Type 0} (f : S → T) (xs : List (Option S)) (p : ℕ) (between : Option S) (y : S) → map (option_map f) (set (set xs p between) p (Some y)) ≡ set (map (option_map f) xs) p (Some (f y))
replaced_new f [] p between y = refl
replaced_new f (o ∷ xs) zero between y = refl
replaced_new {S} {T} f (o ∷ xs) (suc p) between y = ap (λ (ts : List (Option T)). option_map f o ∷ ts) (replaced_new f xs p between y)

-- the item of a place that is live
pub live_here : {T : Type 0} (xs : List (Option T)) (p q : ℕ) (o : Option T) (x : T) → IsSome (item_at xs p) → q ≡ p → o ≡ get_or xs q o → o ≡ Some x → item_at xs p ≡ Some x
live_here xs p q o x live same is here = live_at xs p o x live (is ∙ ap (λ n. get_or xs n o) same) here

-- the same for what is seen of it
pub live_seen : {S T : Type 0} (f : S → T) (xs : List (Option S)) (p : ℕ) → IsSome (item_at (map (option_map f) xs) p) → IsSome (item_at xs p)
live_seen f [] p live = live
live_seen f (None ∷ xs) zero live = live
live_seen f (Some x ∷ xs) zero live = refl
live_seen f (x ∷ xs) (suc p) live = live_seen f xs p live

-- what is read at a place is what is there
pub read_here : {T : Type 0} (xs : List (Option T)) (p : ℕ) (o : Option T) → p < length xs → o ≡ get_or xs p o → item_at xs p ≡ o
read_here [] p o lt is = absurd (omega (arith, lt))
read_here (x ∷ xs) zero o lt is = sym is
read_here (x ∷ xs) (suc p) o lt is = read_here xs p o (omega (arith, lt)) is
