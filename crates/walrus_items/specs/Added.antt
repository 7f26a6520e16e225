-- How a collection grows, and what a new item begins with.
use Rattle.std.specs.Prelude.{◌≡◌, ℕ, Bool, false, List, [], ◌∷◌, ◌++◌, length, Option, Some, Result, MatchResult}
use Rattle.walrus_base.specs.Id.{place}
use Rattle.walrus_base.specs.declared.id.Id.{Id}
use Rattle.walrus_items.specs.Errors.{out_of_memory}
use Rattle.walrus_items.specs.declared.error.Error.{Error}

-- The item of this place stands behind all others, under the id that is answered; or a request for memory was refused, and nothing changes.
abbrev pub IsAdded : {K T : Type 0} → Result (Id K) Error → (old new : List (Option T)) → (item : ℕ → T) → Type 0
IsAdded result old new item =
    MatchResult result
    (λ id. (place id ≡ length old) × (new ≡ old ++ Some (item (place id)) ∷ []))
    (λ e. (e ≡ out_of_memory) × (new ≡ old))

-- a set in which no segment is
abbrev pub no_segments : ℕ → Bool
no_segments segment = false
