-- Lists that are gathered one element after another.
use Rattle.std.proofs.Common.{◌≡◌, ℕ, ◌+◌, ◌<◌, ◌≤◌, List, [], ◌∷◌, ◌++◌, length, get_or, take, map, sym, ap, ◌∙◌, take_all, append_assoc}
use Rattle.std.specs.Prelude.{Option, filter_map}
use Rattle.std.specs.List.{cons_option}
use Rattle.std.proofs.lemmas.List.{map_more, map-append}
use Rattle.std.proofs.lemmas.List.Elements.{filter_map-append}

-- one more, through two views
pub views_more : {X Y Z : Type 0} (v : X → Y) (f : Y → Z) (xs : List X) (i : ℕ) (x : X) → i < length xs
    → map f (map v (take (i + 1) xs)) ≡ map f (map v (take i xs)) ++ f (v (get_or xs i x)) ∷ []
views_more v f xs i x within = ap (map f) (map_more v xs i x within) ∙ map-append f (map v (take i xs)) (v (get_or xs i x) ∷ [])

-- what a filter gives of one more
pub filter_more : {X Y Z : Type 0} (v : X → Y) (h : Y → Option Z) (xs : List X) (i : ℕ) (x : X) (o : Option Z) → i < length xs → h (v (get_or xs i x)) ≡ o
    → filter_map h (map v (take (i + 1) xs)) ≡ filter_map h (map v (take i xs)) ++ cons_option o []
filter_more v h xs i x o within e =
    ap (filter_map h) (map_more v xs i x within) ∙ filter_map-append h (map v (take i xs)) (v (get_or xs i x) ∷ [])
    ∙ ap (λ p. filter_map h (map v (take i xs)) ++ cons_option p []) e

-- what is gathered behind others, and one more
pub gathered_more : {X Y Z : Type 0} (v : X → Y) (f : Y → Z) (to all new : List Z) (xs : List X) (i : ℕ) (x : X) → i < length xs → x ≡ get_or xs i x → all ≡ to ++ map f (map v (take i xs)) → new ≡ all ++ f (v x) ∷ []
    → new ≡ to ++ map f (map v (take (i + 1) xs))
gathered_more v f to all new xs i x within is e grown =
    let near : f (v x) ∷ [] ≡ f (v (get_or xs i x)) ∷ [] = ap (λ y. f (v y) ∷ []) is in
    grown ∙ ap (λ l. l ++ f (v x) ∷ []) e ∙ append_assoc to (map f (map v (take i xs))) (f (v x) ∷ [])
    ∙ ap (λ l. to ++ l) (ap (λ l. map f (map v (take i xs)) ++ l) near ∙ sym (views_more v f xs i x within))

-- at the end
pub gathered_all : {X Y Z : Type 0} (v : X → Y) (f : Y → Z) (to all : List Z) (xs : List X) (i : ℕ) → length xs ≤ i → all ≡ to ++ map f (map v (take i xs)) → all ≡ to ++ map f (map v xs)
gathered_all v f to all xs i past e = e ∙ ap (λ l. to ++ map f (map v l)) (take_all i xs past)
