-- What an item refers to, kind by kind.
use Rattle.std.specs.Prelude.{ℕ, List, [], ◌∷◌, ◌++◌, map, flat_map, Option, Some, None, IsTrue, Contains, ◌≡◌, ◌⊎◌}
use Rattle.walrus_base.specs.Types.{heap_names, val_names, sub_names}
use Rattle.walrus_base.specs.Operators.{Types, Functions, Tables, Memories, Tags, Globals, Elements, DataSegments, Item, type_item, function_item, names_of, locals_of}
use Rattle.walrus_model.specs.Abstract.{Abstract, TypeDef, Body, FunctionKind, ImportedFunction, LocalFunction, Uninitialised, Function, Table, Memory, Global, Tag, ElementKind, PassiveElements, DeclaredElements, ActiveElements, ElementItems, ListedFunctions, Expressions, Element, DataKind, PassiveData, ActiveData, DataSegment}

-- what is named by what stands there, if anything does
abbrev pub named_by : {X : Type 0} → (X → List Item) → Option X → List Item
named_by names None = []
named_by names (Some x) = names x

-- a body uses the locals that its operators name
abbrev pub used_locals : Body → List ℕ
used_locals b = locals_of b.operators

-- an operator of the body names local x; to be a parameter isn't enough
abbrev pub IsUsed : Body → ℕ → Type 0
IsUsed b x = Contains (used_locals b) x

-- the concrete types of a local
abbrev pub local_names : Body → ℕ → List Item
local_names b x = named_by (λ v. map type_item (val_names v)) (b.local_type x)

-- the items that a body names: those that its operators name, and the concrete types of the locals that it uses
abbrev pub body_names : Body → List Item
body_names b = names_of b.operators ++ flat_map (local_names b) (used_locals b)

-- the items that the body of a local function names; a function without a body names none here
abbrev pub kind_names : FunctionKind → List Item
kind_names (LocalFunction b) = body_names b
kind_names (ImportedFunction i) = []
kind_names Uninitialised = []

-- a type: every member of its group, and every type that it names, its supertype among them
abbrev pub type_names : TypeDef → List Item
type_names t = map type_item t.group ++ map type_item (sub_names t.sub)

-- a function: its type, what its body names, and the concrete types of its used locals
abbrev pub function_names : Function → List Item
function_names f = type_item f.ty ∷ kind_names f.kind

-- a table: its concrete element type, and what its initialiser names
abbrev pub table_names : Table → List Item
table_names t = map type_item (heap_names t.ty.element.heap) ++ named_by names_of t.initialiser

-- a memory names nothing
abbrev pub memory_names : Memory → List Item
memory_names m = []

-- a tag: its type
abbrev pub tag_names : Tag → List Item
tag_names t = type_item t.ty ∷ []

-- a global: its concrete type, and what its initialiser names
abbrev pub global_names : Global → List Item
global_names g = map type_item (val_names g.ty.value) ++ named_by names_of g.initialiser

-- the items that stand in how an element segment is used: the table of an active one, and what its offset names
abbrev pub element_kind_names : ElementKind → List Item
element_kind_names PassiveElements = []
element_kind_names DeclaredElements = []
element_kind_names (ActiveElements table offset) = (Tables, table) ∷ names_of offset

-- the items that stand in what an element segment holds: its functions, or its concrete element type and what its expressions name
abbrev pub element_item_names : ElementItems → List Item
element_item_names (ListedFunctions fs) = map function_item fs
element_item_names (Expressions ty es) = map type_item (heap_names ty.heap) ++ flat_map names_of es

-- an element segment: its table, what its offset names, its functions, its concrete element type, what its expressions name
abbrev pub element_names : Element → List Item
element_names e = element_kind_names e.kind ++ element_item_names e.items

-- the items that stand in how a data segment is used: the memory of an active one, and what its offset names
abbrev pub data_kind_names : DataKind → List Item
data_kind_names PassiveData = []
data_kind_names (ActiveData memory offset) = (Memories, memory) ∷ names_of offset

-- active data: its memory, and what its offset names
abbrev pub data_names : DataSegment → List Item
data_names d = data_kind_names d.kind

-- what stands written in an item
abbrev pub written_in : Abstract → Item → List Item
written_in m (Types, i) = named_by type_names (m.types i)
written_in m (Functions, i) = named_by function_names (m.functions i)
written_in m (Tables, i) = named_by table_names (m.tables i)
written_in m (Memories, i) = named_by memory_names (m.memories i)
written_in m (Tags, i) = named_by tag_names (m.tags i)
written_in m (Globals, i) = named_by global_names (m.globals i)
written_in m (Elements, i) = named_by element_names (m.elements i)
written_in m (DataSegments, i) = named_by data_names (m.data_segments i)

-- what an item keeps beside that: a function the types of its legacy handlers, a table or a memory the segments in its set
abbrev pub KeepsToo : Abstract → Item → Item → Type 0
KeepsToo m (Functions, f) y = (t : ℕ) × Contains (m.handler_types f) t × (y ≡ type_item t)
KeepsToo m (Tables, t) y = (e : ℕ) × IsTrue (m.table_segments t e) × (y ≡ (Elements, e))
KeepsToo m (Memories, i) y = (d : ℕ) × IsTrue (m.memory_segments i d) × (y ≡ (DataSegments, d))
KeepsToo m (Types, i) y = ⊥
KeepsToo m (Tags, i) y = ⊥
KeepsToo m (Globals, i) y = ⊥
KeepsToo m (Elements, i) y = ⊥
KeepsToo m (DataSegments, i) y = ⊥

-- x refers to y
abbrev pub Refers : Abstract → Item → Item → Type 0
Refers m x y = Contains (written_in m x) y ⊎ KeepsToo m x y
