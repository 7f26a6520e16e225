-- What emission tells of the places in the bytes that it wrote.
use Rattle.std.specs.Prelude.{ℕ, Bool, true, false, List, [], length, Some, IsSome, Contains, AllPairs, slice_get, ◌≡◌, ◌≢◌, ◌+◌, ◌<◌, ◌≤◌, ◌⊎◌, ◌↔◌}
use Rattle.wasm_frames.specs.Record as wire
use Rattle.walrus_base.specs.Operators.{Functions}
use Rattle.walrus_functions.specs.Transform.{Transform}
use Rattle.walrus_model.specs.Abstract.{Abstract}
use Rattle.walrus_model.specs.Renaming.{Renaming}
use Rattle.walrus_model.specs.Names.{body_of}

abbrev pub no_transform : Transform
no_transform = record { function_ranges = []; code_section_start = 0; instruction_map = [] }

-- the location that says nothing
abbrev pub default_location : ℕ
default_location = 4_294_967_295

-- Function f has the body x among the framed ones, by the index that r gives it; so many functions are imported.
abbrev pub IsBodyOf : (imported : ℕ) → Renaming → wire.Module → ℕ → wire.Body → Type 0
IsBodyOf imported r raw f x = (k : ℕ) × (r.numbers Functions f ≡ imported + k) × (slice_get raw.bodies k ≡ Some x)

abbrev pub IsLocalFunction : Abstract → ℕ → Type 0
IsLocalFunction m f = IsSome (body_of m f)

-- the place of an operator of a function: its offset in the body, moved by the body's start
abbrev pub IsPlaceOf : (imported : ℕ) → Renaming → wire.Module → (ℕ → List (ℕ × ℕ)) → ℕ → ℕ → Type 0
IsPlaceOf imported r raw offsets location place =
    (f : ℕ) × (x : wire.Body) × (offset : ℕ) × IsBodyOf imported r raw f x × Contains (offsets f) (location, offset) × (place ≡ x.start + offset)

-- `imported`: how many functions the bytes import.
-- `offsets f`: for each operator of local function f its location and its offset in the body.
-- `CountStandsAt bytes place`: the code section's count of functions stands there.
module _ (imported : ℕ) (offsets : ℕ → List (ℕ × ℕ)) (CountStandsAt : List ℕ → ℕ → Type 0) where
  -- where there are local functions
  pub record IsTransform (keeps_locations : Bool) (x : Transform) (bytes : List ℕ) (raw : wire.Module) (r : Renaming) (m : Abstract) : Type 0 where
    pub rising : AllPairs (λ (a : ℕ × (ℕ × ℕ)) (b : ℕ × (ℕ × ℕ)). a.0 < b.0) x.function_ranges
    pub functions : (f : ℕ) → IsLocalFunction m f ↔ ((range : ℕ × ℕ) × Contains x.function_ranges (f, range))
    pub ranges : (f : ℕ) (range : ℕ × ℕ) → Contains x.function_ranges (f, range) → (body : wire.Body) × IsBodyOf imported r raw f body × (range ≡ (body.start, body.start + length body.bytes))
    pub start : CountStandsAt bytes x.code_section_start
    pub locations_rise : AllPairs (λ (a : ℕ × ℕ) (b : ℕ × ℕ). a.0 < b.0) x.instruction_map
    pub without : keeps_locations ≡ false → x.instruction_map ≡ []
    -- each location that isn't default and that some body has, and no other, with the last of its places
    pub locations : keeps_locations ≡ true → (location : ℕ) → (((place : ℕ) × Contains x.instruction_map (location, place)) ↔ ((location ≢ default_location) × ((place : ℕ) × IsPlaceOf imported r raw offsets location place)))
    pub last : (location place : ℕ) → Contains x.instruction_map (location, place) → IsPlaceOf imported r raw offsets location place × ((other : ℕ) → IsPlaceOf imported r raw offsets location other → other ≤ place)

  -- the transform is true of the bytes, which frame `raw`, under the numbering r with which m was written
  abbrev pub TrueOf : Bool → Transform → List ℕ → wire.Module → Renaming → Abstract → Type 0
  TrueOf keeps_locations x bytes raw r m =
      ((f : ℕ) × IsLocalFunction m f × IsTransform keeps_locations x bytes raw r m)
      ⊎ (((f : ℕ) → IsLocalFunction m f → ⊥) × (x ≡ no_transform))
