-- What was found at a place of a list of slots.
use Rattle.std.proofs.Common.{◌≡◌, ℕ, zero, suc, List, [], ◌∷◌, get_or, Option, IsSome, Some, sym, subst, ◌∙◌}
use Rattle.walrus_base.specs.Arena.{item_at}

-- a slot that was read at a live place holds the item of the place
pub live_at : {T : Type 0} (xs : List (Option T)) (p : ℕ) (o : Option T) (x : T) → IsSome (item_at xs p) → o ≡ get_or xs p o → o ≡ Some x → item_at xs p ≡ Some x
live_at [] p o x live is here = absurd cc
live_at (y ∷ xs) zero o x live is here = sym is ∙ here
live_at (y ∷ xs) (suc p) o x live is here = live_at xs p o x live is here

-- the same where the place was told by an equal number
pub live_there : {T : Type 0} (xs : List (Option T)) (p q : ℕ) (o : Option T) (x : T) → q ≡ p → IsSome (item_at xs p) → o ≡ get_or xs q o → o ≡ Some x → item_at xs p ≡ Some x
live_there xs p q o x same live is here = live_at xs p o x live (subst (λ n. o ≡ get_or xs n o) same is) here
