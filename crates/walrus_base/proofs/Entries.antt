-- The entries of a list of slots, and where they stand.
use Rattle.std.proofs.Common.{◌≡◌, ℕ, suc, ◌+◌, List, [], ◌∷◌, map, Option, Some, None, option_map, refl, sym, ap, ◌∙◌, arith, add-zero}
use Rattle.std.specs.Prelude.{All}
use Rattle.std.proofs.lemmas.List.Elements.{All-nil, All-cons}
use Rattle.walrus_base.specs.Arena.{item_at, IsLive, entries_from, entries, live_places}
use Rattle.walrus_base.specs.Id.{place}
use Rattle.walrus_base.specs.declared.id.Id.{Id}

-- each of these stands at its place
abbrev pub AllThere : {T : Type 0} → List (Option T) → List (ℕ × T) → Type 0
AllThere slots [] = Unit {0}
AllThere slots (e ∷ es) = (item_at slots e.0 ≡ Some e.1) × AllThere slots es

pub there_from : {T : Type 0} (slots : List (Option T)) (q : ℕ) (rest : List (Option T)) → ((j : ℕ) → item_at slots (q + j) ≡ item_at rest j) → AllThere slots (entries_from q rest)
there_from slots q [] at = tt
there_from slots q (None ∷ rest) at = there_from slots (q + 1) rest (λ j. let e : q + 1 + j ≡ q + suc j = omega arith in ap (item_at slots) e ∙ at (suc j))
there_from {T} slots q (Some x ∷ rest) at = (ap (item_at slots) (sym (add-zero q)) ∙ at 0, there_from slots (q + 1) rest (λ j. let e : q + 1 + j ≡ q + suc j = omega arith in ap (item_at slots) e ∙ at (suc j)))

pub entries_there : {T : Type 0} (slots : List (Option T)) → AllThere slots (entries slots)
entries_there slots = there_from slots 0 slots (λ j. let e : 0 + j ≡ j = omega arith in ap (item_at slots) e)

places_seen_from : {S T : Type 0} (f : S → T) (k : ℕ) (slots : List (Option S)) → map (λ e. e.0) (entries_from k (map (option_map f) slots)) ≡ map (λ e. e.0) (entries_from k slots)
places_seen_from f k [] = refl
places_seen_from f k (None ∷ rest) = places_seen_from f (k + 1) rest
places_seen_from f k (Some x ∷ rest) = ap (λ (ps : List ℕ). k ∷ ps) (places_seen_from f (k + 1) rest)

-- what is seen of the items is live at the same places
pub live_places_seen : {S T : Type 0} (f : S → T) (slots : List (Option S)) → live_places (map (option_map f) slots) ≡ live_places slots
live_places_seen f slots = places_seen_from f 0 slots

live_at : {T : Type 0} (slots : List (Option T)) (e : ℕ × T) (p : ℕ) → p ≡ e.0 → item_at slots e.0 ≡ Some e.1 → IsLive slots p
live_at slots e p same is = rw (same, is) refl

module _ {K T : Type 0} (slots : List (Option T)) where
  live_of : (es : List (ℕ × T)) (ids : List (Id K)) → map place ids ≡ map (λ e. e.0) es → AllThere slots es → All (λ id. IsLive slots (place id)) ids
  live_of es [] same there = All-nil (λ (id : Id K). IsLive slots (place id))
  live_of [] (id ∷ ids) same there = absurd cc
  live_of (e ∷ es) (id ∷ ids) same there =
      let here : place id ≡ e.0 = cc in
      let later : map place ids ≡ map (λ x. x.0) es = cc in
      All-cons (λ (i : Id K). IsLive slots (place i)) id ids (live_at slots e (place id) here there.0) (live_of es ids later there.1)

  -- ids at the places of the live items are live
  pub all_live : (ids : List (Id K)) → map place ids ≡ live_places slots → All (λ id. IsLive slots (place id)) ids
  all_live ids same = live_of (entries slots) ids same (entries_there slots)
