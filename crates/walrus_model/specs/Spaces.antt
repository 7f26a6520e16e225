-- The items of a module, space by space: what is said once for all of them is said over these.
use Rattle.std.specs.Prelude.{ℕ, List, Option, Some, None, ◌≡◌}
use Rattle.walrus_base.specs.Operators.{Space, Types, Functions, Tables, Memories, Tags, Globals, Elements, DataSegments, Item}
use Rattle.walrus_model.specs.Abstract.{Abstract, TypeDef, Origin, ImportedBy, Defined, FunctionKind, ImportedFunction, LocalFunction, Uninitialised, Function, Table, Memory, Tag, Global, Element, DataSegment}
use Rattle.walrus_model.specs.Refers.{type_names, function_names, table_names, memory_names, tag_names, global_names, element_names, data_names}
use Rattle.walrus_model.specs.Renaming.{Renaming, renamed_table, renamed_memory, renamed_tag, renamed_global, renamed_element, renamed_data}
use Rattle.walrus_model.specs.Same.{SameType, SameFunction}

-- what stands under a number of the space
abbrev pub Thing : Space → Type 0
Thing Types = TypeDef
Thing Functions = Function
Thing Tables = Table
Thing Memories = Memory
Thing Tags = Tag
Thing Globals = Global
Thing Elements = Element
Thing DataSegments = DataSegment

abbrev pub look : Abstract → (s : Space) → ℕ → Option (Thing s)
look m Types = m.types
look m Functions = m.functions
look m Tables = m.tables
look m Memories = m.memories
look m Tags = m.tags
look m Globals = m.globals
look m Elements = m.elements
look m DataSegments = m.data_segments

-- what a thing names
abbrev pub names_in_thing : (s : Space) → Thing s → List Item
names_in_thing Types x = type_names x
names_in_thing Functions x = function_names x
names_in_thing Tables x = table_names x
names_in_thing Memories x = memory_names x
names_in_thing Tags x = tag_names x
names_in_thing Globals x = global_names x
names_in_thing Elements x = element_names x
names_in_thing DataSegments x = data_names x

-- y is thing i, x, under the renaming
abbrev pub SameThing : Renaming → (s : Space) → ℕ → Thing s → Thing s → Type 0
SameThing r Types i x y = SameType (r.numbers Types) i x y
SameThing r Functions i x y = SameFunction r i x y
SameThing r Tables i x y = y ≡ renamed_table r x
SameThing r Memories i x y = y ≡ renamed_memory r x
SameThing r Tags i x y = y ≡ renamed_tag r x
SameThing r Globals i x y = y ≡ renamed_global r x
SameThing r Elements i x y = y ≡ renamed_element r x
SameThing r DataSegments i x y = y ≡ renamed_data r x

abbrev pub function_origin : FunctionKind → Option Origin
function_origin (ImportedFunction i) = Some (ImportedBy i)
function_origin (LocalFunction b) = Some Defined
function_origin Uninitialised = None

-- where it comes from, if its space has imports
abbrev pub origin_in : (s : Space) → Thing s → Option Origin
origin_in Types x = None
origin_in Functions x = function_origin x.kind
origin_in Tables x = Some x.origin
origin_in Memories x = Some x.origin
origin_in Tags x = Some x.origin
origin_in Globals x = Some x.origin
origin_in Elements x = None
origin_in DataSegments x = None
