-- One turn of a loop that puts things behind others.
use Rattle.std.proofs.Common.{◌≡◌, ℕ, zero, suc, ◌+◌, ◌<◌, Bool, List, [], ◌∷◌, ◌++◌, map, take, length, append_assoc, refl, sym, ap, ◌∙◌, subst, arith}
use Rattle.std.specs.Prelude.{slice_index_or}
use Rattle.std.specs.List.{AllZip}
use Rattle.std.specs.List.Sorted.{IsSortedBy}
use Rattle.walrus_base.proofs.Turns.{map_snoc, one_more}

-- what is made of the one is what comes next
pub list_turn : {A B C : Type 0} (f : A → C) (g : B → C) (made : List A) (one : A) (left after : List B) (e : B) (all : List C)
    → map f made ++ map g left ≡ all → left ≡ e ∷ after → f one ≡ g e → map f (made ++ one ∷ []) ++ map g after ≡ all
list_turn {A} {B} {C} f g made one left after e all h step same =
    ap (λ (l : List C). l ++ map g after) (map_snoc f made one)
    ∙ append_assoc (map f made) (f one ∷ []) (map g after)
    ∙ ap (λ (c : C). map f made ++ c ∷ map g after) same
    ∙ ap (λ (l : List B). map f made ++ map g l) (sym step)
    ∙ h

-- pairs
pub zip_snoc : {A B : Type 0} (R : A → B → Type 0) (xs : List A) (ys : List B) (x : A) (y : B) → AllZip R xs ys → R x y → AllZip R (xs ++ x ∷ []) (ys ++ y ∷ [])
zip_snoc R [] [] x y h r = (r, tt)
zip_snoc R [] (b ∷ ys) x y h r = elim h [ ]
zip_snoc R (a ∷ xs) [] x y h r = elim h [ ]
zip_snoc R (a ∷ xs) (b ∷ ys) x y h r = (h.0, zip_snoc R xs ys x y h.1 r)

pub zip_turn : {A B : Type 0} (R : A → B → Type 0) (xs : List A) (i : ℕ) (d : A) (ys : List B) (y : B) → i < length xs → AllZip R (take i xs) ys → R (slice_index_or xs i d) y → AllZip R (take (i + 1) xs) (ys ++ y ∷ [])
zip_turn R xs i d ys y h zip r = subst (λ l. AllZip R l (ys ++ y ∷ [])) (sym (one_more xs i d h)) (zip_snoc R (take i xs) ys (slice_index_or xs i d) y zip r)

-- sorted, and seen by f
seen_at : {A B : Type 0} (f : A → B) (xs : List A) (k : ℕ) (d : A) (e : B) → k < length xs → slice_index_or (map f xs) k e ≡ f (slice_index_or xs k d)
seen_at f [] k d e h = absurd (omega arith)
seen_at f (x ∷ xs) zero d e h = refl
seen_at f (x ∷ xs) (suc k) d e h = seen_at f xs k d e (omega arith)

same_length : {A B : Type 0} (f : A → B) (xs : List A) → length (map f xs) ≡ length xs
same_length f [] = refl
same_length f (x ∷ xs) = ap suc (same_length f xs)

sorted_at : {A B : Type 0} (f : A → B) (lt : A → A → Bool) (less : B → B → Bool) → ((x y : A) → less (f x) (f y) ≡ lt x y) → (d : A) (xs : List A) → IsSortedBy lt xs → IsSortedBy less (map f xs)
sorted_at {A} {B} f lt less same d xs h k e low high =
    let inside : k + 1 < length xs = omega (arith, same_length f xs) in
    ap (λ (b : B). less b (slice_index_or (map f xs) k e)) (seen_at f xs (k + 1) d e inside)
    ∙ ap (λ (b : B). less (f (slice_index_or xs (k + 1) d)) b) (seen_at f xs k d e (omega arith))
    ∙ same (slice_index_or xs (k + 1) d) (slice_index_or xs k d)
    ∙ h k d low inside

pub sorted_seen : {A B : Type 0} (f : A → B) (lt : A → A → Bool) (less : B → B → Bool) → ((x y : A) → less (f x) (f y) ≡ lt x y) → (xs : List A) → IsSortedBy lt xs → IsSortedBy less (map f xs)
sorted_seen f lt less same [] h = λ k e low high. absurd (omega arith)
sorted_seen f lt less same (x ∷ xs) h = sorted_at f lt less same x (x ∷ xs) h
