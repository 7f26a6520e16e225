-- What a name section names, and what each subject is named by it ("Appendix > Custom Sections > Name Section").
use Rattle.std.specs.Prelude.{ℕ, Bool, true, false, ◌&&◌, ◌==◌, nat_lt, ◌+◌, List, [], ◌∷◌, ◌++◌, length, Option, Some, None, is_some, if◌then◌else◌}
use Rattle.wasm_payloads.specs.declared.naming.NameSpace.{NameSpace}
use Rattle.wasm_payloads.specs.declared.naming.NameSpace.TheVariants as spaces
use Rattle.wasm_payloads.specs.Names.{Named, ModuleName, ItemName, LocalName}
use Rattle.walrus_base.specs.Operators.{Space, Types, Functions, Tables, Memories, Tags, Globals, Elements, DataSegments, Item}
use Rattle.walrus_model.specs.Abstract.{Abstract, Name, Subject, TheModule, AnItem, ALocal, Body}
use Rattle.walrus_model.specs.Names.{body_of}

-- the index space to whose items a subsection of the name section gives names
abbrev pub space_of : NameSpace → Space
space_of spaces.Functions = Functions
space_of spaces.Types = Types
space_of spaces.Tables = Tables
space_of spaces.Memories = Memories
space_of spaces.Globals = Globals
space_of spaces.Elements = Elements
space_of spaces.DataSegments = DataSegments
space_of spaces.Tags = Tags

-- a naming as a subject and its name
abbrev pub naming_of : Named → Subject × Name
naming_of (ModuleName name) = (TheModule, name)
naming_of (ItemName space i name) = (AnItem (space_of space, i), name)
naming_of (LocalName f x name) = (ALocal f x, name)

-- the id of the subsection that names the items of a space
abbrev pub subsection : Space → ℕ
subsection Functions = 1
subsection Types = 4
subsection Tables = 5
subsection Memories = 6
subsection Globals = 7
subsection Elements = 8
subsection DataSegments = 9
subsection Tags = 11

-- whether two subjects are one: both are the module, or one item, or one local of one function
abbrev pub is_same : Subject → Subject → Bool
is_same TheModule TheModule = true
is_same (AnItem x) (AnItem y) = subsection x.0 == subsection y.0 && x.1 == y.1
is_same (ALocal f x) (ALocal g y) = f == g && x == y
is_same x y = false

-- whether the module has an item of this index space and number
abbrev pub has : Abstract → Item → Bool
has m (Types, i) = is_some (m.types i)
has m (Functions, i) = is_some (m.functions i)
has m (Tables, i) = is_some (m.tables i)
has m (Memories, i) = is_some (m.memories i)
has m (Tags, i) = is_some (m.tags i)
has m (Globals, i) = is_some (m.globals i)
has m (Elements, i) = is_some (m.elements i)
has m (DataSegments, i) = is_some (m.data_segments i)

-- whether there is a body and x is below the count of its parameters and declared locals
abbrev pub has_local : ℕ → Option Body → Bool
has_local x None = false
has_local x (Some b) = nat_lt x (length b.parameters + b.declared)

-- in range; an imported function has no locals
abbrev pub is_in_range : Abstract → Subject → Bool
is_in_range m TheModule = true
is_in_range m (AnItem x) = has m x
is_in_range m (ALocal f x) = has_local x (body_of m f)

-- the names that these namings give to a subject, in order
abbrev pub names_given : List Named → Subject → List Name
names_given [] x = []
names_given (naming ∷ namings) x = (if is_same (naming_of naming).0 x then (naming_of naming).1 ∷ [] else []) ++ names_given namings x

-- the names given to a subject that is there in the module, in their order
abbrev pub names_in_range : Abstract → List Named → Subject → List Name
names_in_range m namings x = if is_in_range m x then names_given namings x else []
