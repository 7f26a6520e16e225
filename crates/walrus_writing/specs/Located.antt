-- How a code transform is made: of the places of bodies and of the operators in them.
use Rattle.std.specs.Prelude.{ℕ, ◌+◌, Bool, true, false, not, cond, nat_eq, List, [], ◌∷◌, ◌++◌, map, zip, ◌≡◌, IsPermutation, IsSorted, slice_index_or}
use Rattle.std.specs.Ordering.{nat_cmp, ordering_then}
use Rattle.std.specs.declared.cmp.Ordering.{Ordering}
use Rattle.std.specs.declared.ops.Range.{Range}
use Rattle.wasm_frames.specs.Record as wire
use Rattle.wasm_writer.specs.declared.places.CodePlaces.{CodePlaces}
use Rattle.wasm_wire.specs.ModuleSpelling.{as_written, code_place}
use Rattle.wasm_writer.specs.Spelling.{count_place, range_of}
use Rattle.walrus_code.specs.Names.{Lookup}
use Rattle.walrus_bodies.specs.declared.features.Features.{Features}
use Rattle.walrus_contents.specs.declared.parts.Parts.{Parts}
use Rattle.walrus_model.specs.Transform.{default_location}
use Rattle.walrus_base.specs.Operators.{Functions}
use Rattle.walrus_items.specs.Transform as parts
use Rattle.walrus_items.specs.declared.transform.CodeTransform.{CodeTransform}
use Rattle.walrus_writing.specs.Customs.{Task}
use Rattle.walrus_writing.specs.Records.{Records, customs_written, module_of}
use Rattle.walrus_writing.specs.Transform.{OperatorsStandAt, locations_at}

-- ---- bodies

-- of the function at a place, with a body of these bytes: the location of each operator, with its place in the body
pub record AreOffsets (p : Parts) (number : ℕ) (bytes : List ℕ) (offsets : List (ℕ × ℕ)) : Type 0 where
  pub located : map (λ o. o.0) offsets ≡ locations_at p number
  pub stand : OperatorsStandAt bytes (map (λ o. o.1) offsets)

-- the places of the parts of the code section of these bodies, among records of the parts with these custom sections
pub record ArePlaces (p : Parts) (names : Lookup) (features : Features) (order : List ℕ) (bodies : List (List ℕ)) (customs : List wire.Custom) (places : CodePlaces) : Type 0 where
  pub records : Records p features
  pub names_are : records.names ≡ names
  pub order_is : records.own Functions ≡ order
  pub bodies_are : records.bodies ≡ bodies
  pub count : places.count ≡ count_place (code_place (module_of records customs)) (module_of records customs).bodies
  pub ranges : places.bodies.items ≡ map range_of (as_written (module_of records customs)).bodies

-- ---- the ranges of bodies

abbrev pub ends_of : Range ℕ → ℕ × ℕ
ends_of r = (r.start, r.end)

-- by the first number, and then by the others
abbrev pub by_pair : ℕ × ℕ → ℕ × ℕ → Ordering
by_pair x y = ordering_then (nat_cmp x.0 y.0) (nat_cmp x.1 y.1)

abbrev pub by_ends : ℕ × (ℕ × ℕ) → ℕ × (ℕ × ℕ) → Ordering
by_ends x y = ordering_then (nat_cmp x.0 y.0) (by_pair x.1 y.1)

-- the same in order
pub record AreSorted {X : Type 0} (by : X → X → Ordering) (all found : List X) : Type 0 where
  pub moved : IsPermutation all found
  pub sorted : IsSorted by found

-- of these functions, whose bodies are those of the module, the transform tells where these come to stand, and no location
pub record TellsBodies (m : wire.Module) (order : List ℕ) (x : CodeTransform) : Type 0 where
  pub count : x.code_section_start ≡ count_place (code_place m) m.bodies
  pub ranges : AreSorted by_ends (zip order (map ends_of (map range_of (as_written m).bodies))) (map parts.range_of x.function_ranges.items)
  pub no_locations : x.instruction_map.items ≡ []

-- so it does of the module of records of the parts with its custom sections
pub record TellsItems (p : Parts) (t : Task) (x : CodeTransform) : Type 0 where
  pub records : Records p t.choices.features
  pub names_are : records.names ≡ t.names
  pub told : TellsBodies (module_of records (customs_written t records)) (records.own Functions) x

-- ---- the places of locations

-- a location with its place, which the default has not
abbrev pub placed_one : (location place : ℕ) → List (ℕ × ℕ)
placed_one location place = cond (nat_eq location default_location) [] ((location, place) ∷ [])

-- the locations of a body that begins at this place
abbrev pub placed_from : ℕ → List (ℕ × ℕ) → List (ℕ × ℕ)
placed_from start [] = []
placed_from start (o ∷ offsets) = placed_one o.0 (start + o.1) ++ placed_from start offsets

-- those of bodies that begin at these places
abbrev pub all_placed_from : List ℕ → List (List (ℕ × ℕ)) → List (ℕ × ℕ)
all_placed_from (start ∷ starts) (offsets ∷ rest) = placed_from start offsets ++ all_placed_from starts rest
all_placed_from starts offsets = []

-- the places of these things in a list in which so many stand in front of them
abbrev pub places_in : {X : Type 0} → ℕ → List X → List ℕ
places_in n [] = []
places_in n (x ∷ xs) = n ∷ places_in (n + 1) xs

-- the locations of the body at a place of a list, of bodies that begin at these places
abbrev pub placed_at : List ℕ → List (List (ℕ × ℕ)) → ℕ → List (ℕ × ℕ)
placed_at starts offsets n = placed_from (slice_index_or starts n 0) (slice_index_or offsets n [])

-- the next pair has another first number
abbrev pub is_last_of : ℕ × ℕ → List (ℕ × ℕ) → Bool
is_last_of x [] = true
is_last_of x (y ∷ ys) = not (nat_eq x.0 y.0)

-- whether the first pair is the last one of its number
abbrev pub is_first_last : List (ℕ × ℕ) → Bool
is_first_last [] = true
is_first_last (x ∷ xs) = is_last_of x xs

-- it, if it is
abbrev pub first_if_last : List (ℕ × ℕ) → List (ℕ × ℕ)
first_if_last [] = []
first_if_last (x ∷ xs) = cond (is_last_of x xs) (x ∷ []) []

-- of each first number the last pair, where these are sorted
abbrev pub lasts : List (ℕ × ℕ) → List (ℕ × ℕ)
lasts [] = []
lasts (x ∷ xs) = cond (is_last_of x xs) (x ∷ lasts xs) (lasts xs)

-- of these locations with places: for each the last place, or nothing
abbrev pub LastPlaces : Bool → (all found : List (ℕ × ℕ)) → Type 0
LastPlaces false all found = found ≡ []
LastPlaces true all found = (sorted : List (ℕ × ℕ)) × AreSorted by_pair all sorted × (found ≡ lasts sorted)
