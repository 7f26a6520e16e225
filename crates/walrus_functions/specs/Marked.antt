-- Places that are marked in a window, which begins at one of them.
use Rattle.std.specs.Prelude.{◌++◌, ◌-◌, ◌&&◌, ℕ, suc, Bool, true, false, List, [], ◌∷◌, nat_le, slice_index_or}
pub use Rattle.walrus_bodies.specs.Locals.{AreMarked}

-- these places are marked beside those that were
abbrev pub Marks : ℕ → List Bool → List Bool → List ℕ → Type 0
Marks first old new places = (done : List ℕ) → AreMarked first old done → AreMarked first new (done ++ places)

-- the marked places, in order
abbrev pub marked : ℕ → List Bool → List ℕ
marked first [] = []
marked first (true ∷ marks) = first ∷ marked (suc first) marks
marked first (false ∷ marks) = marked (suc first) marks

-- whether the window has the place, and it is marked
abbrev pub is_marked : ℕ → List Bool → ℕ → Bool
is_marked first marks x = nat_le first x && slice_index_or marks (x - first) false
