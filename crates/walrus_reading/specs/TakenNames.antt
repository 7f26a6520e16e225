-- What a module's items are named once namings are taken ("Appendix > Custom Sections > Name Section").
use Rattle.std.specs.Prelude.{ℕ, suc, ◌+◌, Bool, true, false, ◌==◌, nat_lt, List, [], ◌∷◌, Option, Some, None, option_map, slice_get, map, filter, flat_map, codes, bytes_eq, if◌then◌else◌, length, ◌≡◌}
use Rattle.std.specs.List.{AllZip}
use Rattle.wasm_frames.specs.Record as wire
use Rattle.wasm_payloads.specs.Names.{Named, ModuleName, ItemName, LocalName, Names}
use Rattle.walrus_base.specs.Operators.{Space, Types, Functions, Tables, Memories, Tags, Globals, Elements, DataSegments}
use Rattle.walrus_model.specs.Abstract.{Name}
use Rattle.walrus_model.specs.Names.{is_not_empty}
use Rattle.walrus_theorem.specs.Namings.{space_of, subsection}
use Rattle.walrus_reading.specs.Renamed.{renamed_by}
use Rattle.walrus_reading.specs.Shown.{Shown, mend_type_name, mend_function, mend_table, mend_memory, mend_tag, mend_global, mend_element, mend_data, mend_local}

-- How many types were read; the first place of the locals of each function, and behind them how many locals there are; whether what has no
-- name is given one.
pub record Bounds : Type 0 where
  pub types : ℕ
  pub starts : List ℕ
  pub synthetic : Bool

-- function f is there, and so its locals
abbrev pub is_known : List ℕ → ℕ → Bool
is_known starts f = nat_lt (f + 1) (length starts)

-- the place, where it is one of those before the end
abbrev pub below : ℕ → Option ℕ → Option ℕ
below place None = None
below place (Some end) = if nat_lt place end then Some place else None

-- the place of a local, where its function's are from this place on, up to that end
abbrev pub place_between : ℕ → Option ℕ → Option ℕ → Option ℕ
place_between x None end = None
place_between x (Some first) end = below (first + x) end

-- the place of local x of function f, if there is such a local
abbrev pub place_of : List ℕ → (f x : ℕ) → Option ℕ
place_of starts f x = place_between x (slice_get starts f) (slice_get starts (suc f))

-- ---- what one naming names

-- an index of this space and its name
abbrev pub naming_in : Named → Space → Option (ℕ × Name)
naming_in (ModuleName name) space = None
naming_in (ItemName named i name) space = if subsection (space_of named) == subsection space then Some (i, name) else None
naming_in (LocalName f x name) space = None

abbrev pub only_below : ℕ → Option (ℕ × Name) → Option (ℕ × Name)
only_below count None = None
only_below count (Some naming) = if nat_lt naming.0 count then Some naming else None

-- a type that was read
abbrev pub type_in : Bounds → Named → Option (ℕ × Name)
type_in b naming = only_below b.types (naming_in naming Types)

-- the name counts: where names are given, an empty one doesn't
abbrev pub counts : Bool → Name → Bool
counts true name = is_not_empty name
counts false name = true

-- the place of a local, and its name
abbrev pub local_in : Bounds → Named → Option (ℕ × Name)
local_in b (ModuleName name) = None
local_in b (ItemName space i name) = None
local_in b (LocalName f x name) = if counts b.synthetic name then option_map (λ place. (place, name)) (place_of b.starts f x) else None

abbrev pub module_named : Named → Option Name → Option Name
module_named (ModuleName name) old = Some name
module_named (ItemName space i name) old = old
module_named (LocalName f x name) old = old

-- what is shown once a naming is taken: what isn't in range is passed over
abbrev pub once_named : Bounds → Shown → Named → Shown
once_named b s naming = record s {
  type_names = renamed_by mend_type_name (type_in b naming) s.type_names;
  functions = renamed_by mend_function (naming_in naming Functions) s.functions;
  tables = renamed_by mend_table (naming_in naming Tables) s.tables;
  memories = renamed_by mend_memory (naming_in naming Memories) s.memories;
  tags = renamed_by mend_tag (naming_in naming Tags) s.tags;
  globals = renamed_by mend_global (naming_in naming Globals) s.globals;
  elements = renamed_by mend_element (naming_in naming Elements) s.elements;
  data_segments = renamed_by mend_data (naming_in naming DataSegments) s.data_segments;
  locals = renamed_by mend_local (local_in b naming) s.locals;
  name = module_named naming s.name;
}

-- and once all of these are, one after another
abbrev pub all_named : Bounds → Shown → List Named → Shown
all_named b s [] = s
all_named b s (naming ∷ namings) = all_named b (once_named b s naming) namings

-- ---- what the sections name

-- the payloads of those of these sections that are called `name`
abbrev pub name_payloads : List wire.Custom → List (List ℕ)
name_payloads customs = map (λ (c : wire.Custom). c.bytes) (filter (λ (c : wire.Custom). bytes_eq c.name (codes "name")) customs)

-- the module shows what it showed, with the namings of these sections taken, those of one section behind those of another
pub record TakesNames (b : Bounds) (customs : List wire.Custom) (old new : Shown) : Type 0 where
  pub namings : List (List Named)
  pub read : AllZip (Names (is_known b.starts)) (name_payloads customs) namings
  pub are : new ≡ all_named b old (flat_map (λ xs. xs) namings)

-- where functions have so many locals each: the place of the first of each, from this place on, and behind them the end
abbrev pub starts_from : ℕ → List ℕ → List ℕ
starts_from place [] = place ∷ []
starts_from place (count ∷ others) = place ∷ starts_from (place + count) others

-- those of these names that count
abbrev pub that_count : Bool → List Name → List Name
that_count true names = filter is_not_empty names
that_count false names = names
