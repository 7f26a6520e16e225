-- A custom section of places in the code ("Binary Format > Custom Section"). It holds pairs of a place in the input and what stands for it. Its data
-- is, for each pair whose operator was written, the operator's new place and what stands for it, four bytes each, the lowest first.
use Rattle.std.specs.Prelude.{ℕ, suc, ◌^◌, List, [], ◌∷◌, ◌++◌, map, flat_map, Option, Some, None, option_and_then, nat_eq, nat_lt, if◌then◌else◌}
use Rattle.std.specs.String.{string_bytes}
use Rattle.wasm_forms.specs.Spelling.{little_bytes}
use Rattle.walrus_code.specs.Transform.{Transform}
use Rattle.walrus.specs.declared.sections.places.PlacedPair.{PlacedPair}
use Rattle.walrus.specs.declared.sections.places.PlacesSection.{PlacesSection}

-- ---- where an operator went

-- the one that was found later, if one was
abbrev pub later : (found earlier : Option ℕ) → Option ℕ
later (Some place) earlier = Some place
later None earlier = earlier

-- of old places with new ones, the last new one of this old place
abbrev pub last_place : List (ℕ × ℕ) → ℕ → Option ℕ
last_place [] old = None
last_place (move ∷ moves) old = later (last_place moves old) (if nat_eq move.0 old then Some move.1 else None)

-- a place of 32 bits
abbrev pub fitting : ℕ → Option ℕ
fitting place = if nat_lt place (2 ^ 32) then Some place else None

-- the new place of what stood at an old one, where a code transform has it, and it has 32 bits
abbrev pub new_place : Transform → ℕ → Option ℕ
new_place x old = option_and_then fitting (last_place x.instruction_map old)

-- ---- pairs

-- a new pair has no new place yet
abbrev pub new_pair : (place value : ℕ) → PlacedPair
new_pair place value = record { place = place; value = value; now = None }

-- it gets the one that its place has
abbrev pub moved_by : (ℕ → Option ℕ) → PlacedPair → PlacedPair
moved_by new pair = record pair { now = option_and_then fitting (new pair.place) }

-- a new place and what stands for it in eight bytes; none where there is no new place
abbrev pub written_at : (now : Option ℕ) → (value : ℕ) → List ℕ
written_at None value = []
written_at (Some place) value = little_bytes 4 place ++ little_bytes 4 value

abbrev pub written_pairs : List PlacedPair → List ℕ
written_pairs pairs = flat_map (λ pair. written_at pair.now pair.value) pairs

-- a pair in three numbers: its place, what stands for it, and its new place one higher, or 0 where it has none
abbrev pub raised : Option ℕ → ℕ
raised None = 0
raised (Some place) = suc place

abbrev pub pair_state : PlacedPair → List ℕ
pair_state pair = pair.place ∷ pair.value ∷ raised pair.now ∷ []

abbrev pub pairs_state : List PlacedPair → List ℕ
pairs_state pairs = flat_map pair_state pairs

-- ---- the section

abbrev pub places_name : PlacesSection → List ℕ
places_name s = string_bytes s.name

abbrev pub pairs_of : PlacesSection → List PlacedPair
pairs_of s = s.pairs.items

abbrev pub places_state : PlacesSection → List ℕ
places_state s = pairs_state (pairs_of s)

abbrev pub places_contents : PlacesSection → List ℕ
places_contents s = written_pairs (pairs_of s)

-- behind a transform each pair has the new place of its place
abbrev pub places_after : PlacesSection → Transform → List ℕ
places_after s x = pairs_state (map (moved_by (last_place x.instruction_map)) (pairs_of s))
