-- What stands at one place of a collection, written anew or gone.
use Rattle.std.specs.Prelude.{ℕ, List, Option, Some, None, slice_set, ◌≡◌}
use Rattle.walrus_base.specs.Arena.{IsLive, item_at}

module _ {V : Type 0} where
  -- what stood at this place stands there so changed
  abbrev pub ChangesAt : ℕ → (V → V) → (old new : List (Option V)) → Type 0
  ChangesAt i change old new = (was : V) × (item_at old i ≡ Some was) × (new ≡ slice_set old i (Some (change was)))

  -- what stood at this place is gone
  abbrev pub DeletesAt : ℕ → (old new : List (Option V)) → Type 0
  DeletesAt i old new = IsLive old i × (new ≡ slice_set old i None)

  -- nothing stands at this place
  abbrev pub IsGone : List (Option V) → ℕ → Type 0
  IsGone all i = IsLive all i → ⊥
