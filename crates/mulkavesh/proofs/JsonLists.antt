-- The texts of a list with commas between them, item by item.
use Rattle.std.proofs.Common.{◌≡◌, ◌<◌, ◌+◌, ℕ, List, [], ◌∷◌, ◌++◌, get_or, length, map, take, sym, ap, ap₂, ◌∙◌, arith}
use Rattle.std.proofs.Math.Dec.{eqb-suc-zero}
use Rattle.std.proofs.lemmas.List.{append-nil, append_assoc, flat_map_more, length-map, length-take-le, map-append, map_more}
use Rattle.mulkavesh.specs.Json.{comma_at, separated}

-- one text more
pub behind : (comma : List ℕ) (texts : List (List ℕ)) (text : List ℕ) → separated comma (texts ++ text ∷ []) ≡ separated comma texts ++ (comma_at comma (length texts) ++ text)
behind comma [] text = append-nil text
behind comma (first ∷ others) text =
    rw (eqb-suc-zero (length others)) (sym (flat_map_more (λ (other : List ℕ). comma ++ other) first others text))

module _ {A B : Type 0} (comma : List ℕ) (text_of : B → List ℕ) (seen : A → B) where
  abbrev texts : List A → List (List ℕ)
  texts all = map text_of (map seen all)

  more_texts : (all : List A) (i : ℕ) (d : A) → i < length all → texts (take (i + 1) all) ≡ texts (take i all) ++ text_of (seen (get_or all i d)) ∷ []
  more_texts all i d lt = ap (map text_of) (map_more seen all i d lt) ∙ map-append text_of (map seen (take i all)) (seen (get_or all i d) ∷ [])

  long : (all : List A) (i : ℕ) → i < length all → length (texts (take i all)) ≡ i
  long all i lt = length-map (map seen (take i all)) text_of ∙ length-map (take i all) seen ∙ length-take-le i all (omega (arith, lt))

  -- behind the texts of the items before stand a comma, if there are any, and the text of this one
  pub text_more : (all : List A) (i : ℕ) (x d : A) → i < length all → x ≡ get_or all i d → (front before between after : List ℕ) → before ≡ front ++ separated comma (map text_of (map seen (take i all)))
      → between ≡ before ++ comma_at comma i → after ≡ between ++ text_of (seen x) → after ≡ front ++ separated comma (map text_of (map seen (take (i + 1) all)))
  text_more all i x d lt here front before between after were comma_is is =
      let text : List ℕ = text_of (seen x) in
      let done : List ℕ = separated comma (texts (take i all)) in
      let step : separated comma (texts (take (i + 1) all)) ≡ done ++ (comma_at comma i ++ text) =
      ap (separated comma) (more_texts all i d lt)
      ∙ behind comma (texts (take i all)) (text_of (seen (get_or all i d)))
      ∙ ap₂ (λ (n : ℕ) (y : A). done ++ (comma_at comma n ++ text_of (seen y))) (long all i lt) (sym here) in
      is
      ∙ ap (λ (t : List ℕ). t ++ text) (comma_is ∙ ap (λ (t : List ℕ). t ++ comma_at comma i) were)
      ∙ append_assoc (front ++ done) (comma_at comma i) text
      ∙ append_assoc front done (comma_at comma i ++ text)
      ∙ ap (λ (t : List ℕ). front ++ t) (sym step)
