-- How the plain values of an arena's slots follow what is done to the arena.
use Rattle.std.proofs.Common.{◌≡◌, ℕ, ◌+◌, Bool, List, [], ◌∷◌, Option, Some, None, map, option_map, slice_set, find, ◌∙◌, ap, refl}
use Rattle.std.proofs.lemmas.List.{map-set}
use Rattle.walrus_base.specs.Arena.{items, entries, entries_from}
use Rattle.walrus_items.specs.Seen.{seen, seen_entries}
use Rattle.walrus_items.specs.Searches.{first}

module _ {T U : Type 0} (value : T → U) where
  -- an item is deleted
  pub seen-deleted : (slots : List (Option T)) (n : ℕ) → seen value (slice_set slots n None) ≡ slice_set (seen value slots) n None
  seen-deleted slots n = map-set (option_map value) slots n None

  -- the same of what is left
  pub seen-left : (old new : List (Option T)) (n : ℕ) → new ≡ slice_set old n None → seen value new ≡ slice_set (seen value old) n None
  seen-left old new n left = rw left (seen-deleted old n)

  pub entries_from-seen : (k : ℕ) (slots : List (Option T)) → entries_from k (seen value slots) ≡ seen_entries value (entries_from k slots)
  entries_from-seen k [] = refl
  entries_from-seen k (None ∷ rest) = entries_from-seen (k + 1) rest
  entries_from-seen k (Some x ∷ rest) = ap (λ (es : List (ℕ × U)). (k, value x) ∷ es) (entries_from-seen (k + 1) rest)

  -- the entries
  pub entries-seen : (slots : List (Option T)) → entries (seen value slots) ≡ seen_entries value (entries slots)
  entries-seen slots = entries_from-seen 0 slots

  values-seen : (all : List (ℕ × T)) → map (λ e. e.1) (seen_entries value all) ≡ map (λ e. value e.1) all
  values-seen [] = refl
  values-seen (e ∷ rest) = ap (λ (us : List U). value e.1 ∷ us) (values-seen rest)

  -- the items
  pub items-seen : (slots : List (Option T)) → items (seen value slots) ≡ map (λ e. value e.1) (entries slots)
  items-seen slots = ap (λ (es : List (ℕ × U)). map (λ e. e.1) es) (entries-seen slots) ∙ values-seen (entries slots)

  -- the first that passes
  pub first-seen : (passes : U → Bool) (slots : List (Option T)) → first passes (seen value slots) ≡ find (λ e. passes e.1) (seen_entries value (entries slots))
  first-seen passes slots = ap (λ (es : List (ℕ × U)). find (λ e. passes e.1) es) (entries-seen slots)
