-- The places of an arena's items, as an order of what is seen of them.
use Rattle.std.proofs.Common.{ℕ, ◌+◌, ◌<◌, List, [], ◌∷◌, map, arith}
use Rattle.std.specs.Prelude.{Option, Some, None, AllPairs, option_map}
use Rattle.std.specs.List.{IsDistinct}
use Rattle.walrus_base.specs.Arena.{item_at, entries, entries_from}
use Rattle.walrus_model.specs.Ordered.{Ordered}
use Rattle.walrus_base.proofs.Lists.{Contains-none}
use Rattle.walrus_base.proofs.Rising.{Above, Rises, pairs_of}
use Rattle.walrus_base.proofs.Standing.{none_there, was_some}
use Rattle.walrus_base.proofs.Lookups.{still_some}

pub ordered_seen : {X Y : Type 0} (seen : X → Y) (slots : List (Option X)) (order : List ℕ) → Ordered (item_at slots) order → Ordered (λ i. option_map seen (item_at slots i)) order
ordered_seen seen slots order h = record {
  differ = h.differ;
  chosen = λ p at. still_some seen (item_at slots p) (h.chosen p at);
  all = λ p live. h.all p (was_some seen (item_at slots p) live);
}

-- a space that has nothing
pub ordered_nothing : (X : Type 0) → Ordered {X = X} (λ i. None) []
unfolding IsDistinct
ordered_nothing X = record { differ = tt; chosen = λ p at. absurd (Contains-none p at); all = λ p live. absurd (none_there live) }

pub no_pairs : (R : ℕ → ℕ → Type 0) → AllPairs R []
no_pairs R i j d less low = absurd (omega (arith, low))

above_from : {T : Type 0} (x k : ℕ) (slots : List (Option T)) → x < k → Above x (map (λ e. e.0) (entries_from k slots))
above_from x k [] h = tt
above_from x k (None ∷ rest) h = above_from x (k + 1) rest (omega (arith, h))
above_from x k (Some item ∷ rest) h = (h, above_from x (k + 1) rest (omega (arith, h)))

rise_from : {T : Type 0} (k : ℕ) (slots : List (Option T)) → Rises (map (λ e. e.0) (entries_from k slots))
rise_from k [] = tt
rise_from k (None ∷ rest) = rise_from (k + 1) rest
rise_from k (Some item ∷ rest) = (above_from k (k + 1) rest (omega arith), rise_from (k + 1) rest)

pub entries_rise : {T : Type 0} (slots : List (Option T)) → AllPairs (λ i j. i < j) (map (λ e. e.0) (entries slots))
entries_rise {T} slots = pairs_of (map (λ (e : ℕ × T). e.0) (entries slots)) (rise_from 0 slots)
