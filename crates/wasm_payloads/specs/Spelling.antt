-- The one spelling of what the name section and the producers section say, and what fits it: where each count and each size is below
-- 2 ^ 32.
use Rattle.std.specs.Prelude.{ℕ, List, [], ◌∷◌, ◌++◌, Option, Some, None}
use Rattle.wasm_forms.specs.Writing.{FitsLength, FitsVector}
use Rattle.wasm_forms.specs.Spelling.{number_bytes, block_bytes, row_bytes, vector_bytes}
use Rattle.wasm_payloads.specs.declared.naming.NameSpace.{NameSpace}
use Rattle.wasm_payloads.specs.declared.naming.NameSpace.TheVariants as spaces
use Rattle.wasm_payloads.specs.Producers.{Field}

-- ---- names (Appendix > Custom Sections > Name Section)

-- indices, each with its name
abbrev pub NameMap : Type 0
NameMap = List (ℕ × List ℕ)

-- the subsections: the module's name, the names of the items of each space, and of the locals of functions
pub record NameText : Type 0 where
  pub module_name : Option (List ℕ)
  pub items : NameSpace → NameMap
  pub locals : List (ℕ × NameMap)

-- an index and its name as they are written (Name Maps)
abbrev pub entry_bytes : ℕ × List ℕ → List ℕ
entry_bytes e = number_bytes e.0 ++ block_bytes e.1

-- a name map as it is written: the count of its entries, and these in the order given (Name Maps)
abbrev pub map_bytes : NameMap → List ℕ
map_bytes names = vector_bytes entry_bytes names

-- the names of a function's locals as they are written: the function's index, and a name map (Name Maps, indirect ones)
abbrev pub function_bytes : ℕ × NameMap → List ℕ
function_bytes f = number_bytes f.0 ++ map_bytes f.1

-- a subsection of a list, which isn't written where the list is empty
abbrev pub part_bytes : {X : Type 0} → (id : ℕ) → (X → List ℕ) → List X → List ℕ
part_bytes id spell [] = []
part_bytes id spell (x ∷ xs) = id ∷ block_bytes (vector_bytes spell (x ∷ xs))

-- the subsection of the module's name, which isn't written where there is no name (Module Names)
abbrev pub module_name_bytes : Option (List ℕ) → List ℕ
module_name_bytes None = []
module_name_bytes (Some name) = 0 ∷ block_bytes (block_bytes name)

-- the id of the subsection that names the items of a space (Subsections)
abbrev pub subsection_of : NameSpace → ℕ
subsection_of spaces.Functions = 1
subsection_of spaces.Types = 4
subsection_of spaces.Tables = 5
subsection_of spaces.Memories = 6
subsection_of spaces.Globals = 7
subsection_of spaces.Elements = 8
subsection_of spaces.DataSegments = 9
subsection_of spaces.Tags = 11

-- the subsection that names the items of one index space, which isn't written where none has a name (Subsections)
abbrev pub space_bytes : NameText → NameSpace → List ℕ
space_bytes t space = part_bytes (subsection_of space) entry_bytes (t.items space)

-- the index spaces by the ids of their subsections, the functions and their locals aside
abbrev pub further_spaces : List NameSpace
further_spaces = spaces.Types ∷ spaces.Tables ∷ spaces.Memories ∷ spaces.Globals ∷ spaces.Elements ∷ spaces.DataSegments ∷ spaces.Tags ∷ []

-- by rising id: 0, 1, 2, and then 4 to 9 and 11
abbrev pub names_bytes : NameText → List ℕ
names_bytes t = module_name_bytes t.module_name ++ space_bytes t spaces.Functions ++ part_bytes 2 function_bytes t.locals ++ row_bytes (space_bytes t) further_spaces

-- ---- producers (tool-conventions, ProducersSection)

-- a value of a producers field as it is written: a name and a version, such as a tool's
abbrev pub value_bytes : List ℕ × List ℕ → List ℕ
value_bytes v = block_bytes v.0 ++ block_bytes v.1

-- a producers field as it is written: its name, the count of its values, and these
abbrev pub field_bytes : Field → List ℕ
field_bytes f = block_bytes f.0 ++ vector_bytes value_bytes f.1

abbrev pub ValueFits : List ℕ × List ℕ → Type 0
ValueFits v = FitsLength v.0 × FitsLength v.1

abbrev pub FieldFits : Field → Type 0
FieldFits f = FitsLength f.0 × FitsVector ValueFits f.1

abbrev pub producers_bytes : List Field → List ℕ
producers_bytes fields = vector_bytes field_bytes fields

abbrev pub ProducersFit : List Field → Type 0
ProducersFit fields = FitsVector FieldFits fields
