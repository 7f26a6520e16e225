-- Types that are kept under their own ids.
use Rattle.std.specs.Prelude.{ℕ, ◌+◌, ◌==◌, ◌&&◌, Bool, true, List, [], ◌∷◌, Option, Some, None}
use Rattle.walrus_base.specs.TypeDef.{type_place}
use Rattle.walrus_base.specs.declared.types.Type.{«Type»}

-- each type has the id of its place, where the first of these places is `place`
abbrev pub under_own_ids : ℕ → List (Option «Type») → Bool
under_own_ids place [] = true
under_own_ids place (None ∷ rest) = under_own_ids (place + 1) rest
under_own_ids place (Some type ∷ rest) = (type_place type == place) && under_own_ids (place + 1) rest
