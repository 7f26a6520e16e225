-- A custom section that lists functions which are to be kept ("Binary Format > Custom Section"). Its data is their indices, one behind the other,
-- four bytes each, the lowest first.
use Rattle.std.specs.Prelude.{ℕ, List, [], map, flat_map, Option, Some, None}
use Rattle.std.specs.String.{string_bytes}
use Rattle.wasm_forms.specs.Spelling.{little_bytes}
use Rattle.walrus_base.specs.Operators.{Functions, Item, function_item}
use Rattle.walrus_code.specs.Names.{Lookup}
use Rattle.walrus_items.specs.Roots.{places}
use Rattle.walrus.specs.declared.sections.listed.ListedSection.{ListedSection}

-- an index in four bytes, the lowest first
abbrev pub index_bytes : ℕ → List ℕ
index_bytes i = little_bytes 4 i

-- indices, one behind the other
abbrev pub list_bytes : List ℕ → List ℕ
list_bytes indices = flat_map index_bytes indices

-- the index that was found, in its bytes; none where there is none
abbrev pub found_bytes : Option ℕ → List ℕ
found_bytes None = []
found_bytes (Some i) = index_bytes i

abbrev pub listed_name : ListedSection → List ℕ
listed_name s = string_bytes s.name

-- the places of the functions that it lists
abbrev pub listed_functions : ListedSection → List ℕ
listed_functions s = places s.ids.items

-- it asks to keep them
abbrev pub listed_roots : (functions : List ℕ) → List Item
listed_roots functions = map function_item functions

-- and says the indices that they have
abbrev pub listed_contents : (functions : List ℕ) → Lookup → List ℕ
listed_contents functions indices = flat_map (λ f. found_bytes (indices Functions f)) functions
