-- The lines of a list, item by item.
use Rattle.std.proofs.Common.{◌≡◌, ◌<◌, ◌≤◌, ◌+◌, ℕ, List, [], ◌++◌, flat_map, get_or, length, map, take, sym, ap, ◌∙◌}
use Rattle.std.proofs.lemmas.List.{flat_map_more, map_more, take_all}

module _ {A B : Type 0} (line : B → List ℕ) (seen : A → B) where
  -- one line more
  pub line_more : (all : List A) (i : ℕ) (x d : A) → i < length all → x ≡ get_or all i d → (before after : List ℕ) → before ≡ flat_map line (map seen (take i all)) → after ≡ before ++ line (seen x)
      → after ≡ flat_map line (map seen (take (i + 1) all))
  line_more all i x d lt here before after were is =
      is
      ∙ ap (λ (y : A). before ++ line (seen y)) here
      ∙ ap (λ (t : List ℕ). t ++ line (seen (get_or all i d))) were
      ∙ flat_map_more line [] (map seen (take i all)) (seen (get_or all i d))
      ∙ ap (λ (items : List B). flat_map line items) (sym (map_more seen all i d lt))

  -- all of them
  pub all_lines : (all : List A) (i : ℕ) → length all ≤ i → (text : List ℕ) → text ≡ flat_map line (map seen (take i all)) → text ≡ flat_map line (map seen all)
  all_lines all i past text is = is ∙ ap (λ (items : List A). flat_map line (map seen items)) (take_all i all past)
