-- What the loops over operators keep.
use Rattle.std.proofs.Common.{Bool, false, ◌||◌, ◌≡◌, ◌∙◌, ℕ, ◌+◌, ◌<◌, List, [], ◌∷◌, ◌++◌, Option, Some, None, map, length, drop, get_or, refl, sym, ap, append_assoc, All}
use Rattle.std.proofs.lemmas.List.{map-append}
use Rattle.std.proofs.lemmas.List.Elements.{All-push}
use Rattle.std.specs.List.{list_any}
use Rattle.wasm_forms.specs.Reading.{◌>>=◌}
use Rattle.walrus_groups.specs.Named.{each}
use Rattle.walrus_code.proofs.Arguments.{cut}

-- what was found so far, and what is left to find
abbrev pub behind : {Y : Type 0} → List Y → Option (List Y) → Option (List Y)
behind done rest = rest >>= λ more. Some (done ++ more)

pub one_more : {Y : Type 0} (done : List Y) (y : Y) (rest : Option (List Y)) → behind (done ++ y ∷ []) rest ≡ behind done (rest >>= λ others. Some (y ∷ others))
one_more done y None = refl
one_more done y (Some more) = ap (λ l. Some l) (append_assoc done (y ∷ []) more)

module _ {A B X Y : Type 0} (find : X → Option Y) (is_exact : X → Bool) (stands : B → Type 0) (v : A → X) (w : B → Y) where
  -- those so far and those that are left are those of the whole; no exact heap type stood in one so far, and each can be spelled
  abbrev pub WrittenSoFar : List A → ℕ → List B → Type 0
  WrittenSoFar xs i items =
      (behind (map w items) (each find (map v (drop i xs))) ≡ each find (map v xs))
      × (list_any is_exact (map v (drop i xs)) ≡ list_any is_exact (map v xs))
      × All stands items

  advanced : (xs : List A) (i : ℕ) (d : A) (items more : List B) (y : B) → i < length xs → more ≡ items ++ y ∷ [] → find (v (get_or xs i d)) ≡ Some (w y)
      → behind (map w items) (each find (map v (drop i xs))) ≡ each find (map v xs) → behind (map w more) (each find (map v (drop (i + 1) xs))) ≡ each find (map v xs)
  advanced xs i d items more y h e named keeps =
      ap (λ l. behind l (each find (map v (drop (i + 1) xs)))) (ap (map w) e ∙ map-append w items (y ∷ []))
      ∙ one_more (map w items) (w y) (each find (map v (drop (i + 1) xs)))
      ∙ sym (ap (λ t. behind (map w items) (t >>= λ found. each find (map v (drop (i + 1) xs)) >>= λ others. Some (found ∷ others))) named)
      ∙ sym (ap (λ l. behind (map w items) (each find (map v l))) (cut xs i d h))
      ∙ keeps

  exact_behind : (xs : List A) (i : ℕ) (d : A) (whole : Bool) → i < length xs → is_exact (v (get_or xs i d)) ≡ false → list_any is_exact (map v (drop i xs)) ≡ whole → list_any is_exact (map v (drop (i + 1) xs)) ≡ whole
  exact_behind xs i d whole h plain keeps = sym (ap (λ l. list_any is_exact (map v l)) (cut xs i d h) ∙ ap (λ t. t || list_any is_exact (map v (drop (i + 1) xs))) plain) ∙ keeps

  -- one more of them
  pub written_next : (xs : List A) (i : ℕ) (d : A) (items more : List B) (y : B) → i < length xs → more ≡ items ++ y ∷ []
      → (find (v (get_or xs i d)) ≡ Some (w y)) × (is_exact (v (get_or xs i d)) ≡ false) → stands y
      → WrittenSoFar xs i items → WrittenSoFar xs (i + 1) more
  written_next xs i d items more y h e found stand keeps = (
    advanced xs i d items more y h e found.0 keeps.0,
    exact_behind xs i d _ h found.1 keeps.1,
    rw e (All-push stands items y keeps.2 stand),
  )
