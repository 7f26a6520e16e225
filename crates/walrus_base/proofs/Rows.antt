-- One turn of a loop over a list, and its end: what is made of the elements so far, and what is still to come.
use Rattle.std.proofs.Common.{◌≡◌, ℕ, ◌+◌, ◌<◌, ◌≤◌, List, [], ◌∷◌, ◌++◌, map, drop, length, append_assoc, append-nil, sym, ap, ◌∙◌}
use Rattle.std.specs.Prelude.{slice_index_or}
use Rattle.std.proofs.lemmas.List.{drop_more, drop_all}
use Rattle.walrus_base.proofs.Turns.{map_snoc}

-- what is made, and what is to be made of those that are left
pub left_turn : {A B C : Type 0} (f : A → C) (k : B → C) (made : List A) (one : A) (xs : List B) (i : ℕ) (d : B) (all : List C) → i < length xs
    → map f made ++ map k (drop i xs) ≡ all → f one ≡ k (slice_index_or xs i d) → map f (made ++ one ∷ []) ++ map k (drop (i + 1) xs) ≡ all
left_turn f k made one xs i d all lt so same =
    ap (λ l. l ++ map k (drop (i + 1) xs)) (map_snoc f made one)
    ∙ append_assoc (map f made) (f one ∷ []) (map k (drop (i + 1) xs))
    ∙ ap (λ c. map f made ++ c ∷ map k (drop (i + 1) xs)) same
    ∙ sym (ap (λ l. map f made ++ map k l) (drop_more xs i d lt))
    ∙ so

pub left_end : {B C : Type 0} (k : B → C) (made : List C) (xs : List B) (i : ℕ) (all : List C) → length xs ≤ i → made ++ map k (drop i xs) ≡ all → made ≡ all
left_end k made xs i all le so = sym (append-nil made) ∙ sym (ap (λ l. made ++ map k l) (drop_all i xs le)) ∙ so
