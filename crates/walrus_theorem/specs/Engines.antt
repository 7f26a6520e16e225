-- What an engine can tell of a module. It begins with what the module shows: its exports, whether it has a start function, and its active
-- segments, in their order. From there it comes to items by the names that stand in what it looks at. Of an item it sees all that is written in
-- it but numbers: those of items, of imports, for which their two names stand, and of locals. Of two items it is told whether they are one, of
-- types never: to test one it walks both. All else it does on notes of its own, what operators and hosts do among it. That running a module as
-- the standard says ("Execution") is such an engine is read, not proved; `WorkedEngine` has a small one. Many others are, which count, or compare
-- bodies. Nothing here is said of validation, linking, memory, numbers that a host shows, custom sections, time and depth.
use Rattle.std.specs.Prelude.{ℕ, zero, suc, Bool, false, List, [], ◌∷◌, ◌++◌, map, length, Option, Some, None, option_map, is_some, Contains, AllPairs, slice_get, ◌≡◌, ◌==◌, ◌<◌, ◌↔◌}
use Rattle.wasm_opcodes.specs.declared.one_byte.TheConstants.{NOP}
use Rattle.walrus_base.specs.Types.{ValType, SubType, map_sub, map_val, val_names}
use Rattle.walrus_base.specs.Operators.{Space, Types, Functions, Tables, Memories, Tags, Globals, Elements, DataSegments, Item, Op, type_item, names_of}
use Rattle.walrus_base.specs.Shape.{Seen, place_in, in_its_group, others_through}
use Rattle.walrus_model.specs.Abstract.{Abstract, Name, TypeDef, Body, FunctionKind, ImportedFunction, LocalFunction, Uninitialised, Function, Table, Memory, Tag, Global, ElementKind, PassiveElements, DeclaredElements, ActiveElements, Element, DataKind, PassiveData, ActiveData, DataSegment, Import, Export}
use Rattle.walrus_model.specs.Config.{Config}
use Rattle.walrus_model.specs.Examples.{just_end, one_function, one_function_sections}
use Rattle.walrus_model.specs.Kept.{Kept}
use Rattle.walrus_model.specs.Out.{Out, Written}
use Rattle.walrus_model.specs.Refers.{used_locals, written_in, type_names, table_names, memory_names, tag_names, global_names, element_names, data_names}
use Rattle.walrus_model.specs.Renaming.{Renaming, renamed, renamed_ops, renamed_table, renamed_memory, renamed_tag, renamed_global, renamed_element, renamed_data}
use Rattle.walrus_model.specs.Sections.{module_of}
use Rattle.walrus_model.specs.WellMade.{ImportsMatch, origin_import, kind_import}
use Rattle.walrus_theorem.specs.Headline.{ReadsModule, ComesTo}
use Rattle.walrus_theorem.specs.Once.{Premises}

-- ---- what it sees of an item

-- each number becomes 0
abbrev pub nothing : ℕ → ℕ
nothing t = 0

-- a renaming that leaves no number: each one, of an item, an import or a local, becomes 0
abbrev pub blank : Renaming
blank = record { numbers = λ space. nothing; imports = nothing; locals = λ f. nothing }

-- the two names of the import that brings it, if one does
abbrev pub Source : Type 0
Source = Option (Name × Name)

-- an import's two names: the module's that it is from, and its own there
abbrev pub names_of_import : Import → Name × Name
names_of_import x = (x.module_name, x.name)

-- the two names of the import of this number; none where there is no number, or no such import
abbrev pub source : Abstract → Option ℕ → Source
source m None = None
source m (Some i) = option_map names_of_import (m.imports i)

-- Of a local that an operator names: which use of a local is the first one of it, its place among the parameters, and its type.
pub record LocalSeen : Type 0 where
  pub first_use : Option ℕ
  pub parameter : Option ℕ
  pub ty : Option (ValType ℕ)

-- what an engine sees of local x of a body: its first use, its place among the parameters, and its type with the numbers of types blanked
abbrev pub local_seen : Body → ℕ → LocalSeen
local_seen b x = record { first_use = place_in (used_locals b) x; parameter = place_in b.parameters x; ty = option_map (map_val nothing) (b.local_type x) }

-- the operators, and for each use of a local what is seen of it
pub record CodeSeen : Type 0 where
  pub operators : List Op
  pub uses : List LocalSeen

-- what an engine sees of a body: its operators with the numbers of items and locals blanked, and of each use of a local in turn what it sees of that local
abbrev pub code_seen : Body → CodeSeen
code_seen b = record { operators = renamed_ops blank nothing b.operators; uses = map (local_seen b) (used_locals b) }

-- the code that an engine sees of a function: that of its body, and none where it is imported or has no kind yet
abbrev pub kind_seen : FunctionKind → Option CodeSeen
kind_seen (LocalFunction b) = Some (code_seen b)
kind_seen (ImportedFunction i) = None
kind_seen Uninitialised = None

-- all that an engine sees of an item that it looks at, by the index space of the item; `SeesNothing` where it looks at what is not there
pub data Sight : Type 0 where
  -- how many members its group has, which of them it is, and what it says, its own group by positions
  SeesType : (members : ℕ) (position : Option ℕ) (sub : SubType Seen) → Sight
  SeesFunction : Source → Option CodeSeen → Sight
  SeesTable : Source → Table → Sight
  SeesMemory : Source → Memory → Sight
  SeesTag : Source → Tag → Sight
  SeesGlobal : Source → Global → Sight
  SeesElement : Element → Sight
  SeesData : DataSegment → Sight
  SeesNothing : Sight

-- what an engine sees of a type: how many members its recursive group has, which of them it is, and what it says, where types of its group stand by
-- their positions and all others look alike
abbrev pub type_sight : ℕ → TypeDef → Sight
type_sight i x = SeesType (length x.group) (place_in x.group i) (map_sub (others_through nothing) (in_its_group x))

-- what an engine sees of a function: the names of its import if it is imported, its code if it has a body; its type it looks at apart
abbrev pub function_sight : Abstract → Function → Sight
function_sight m f = SeesFunction (source m (kind_import f.kind)) (kind_seen f.kind)

-- what an engine sees of a table: the names of its import if it is imported, its type and its initialiser, with the numbers of items blanked
abbrev pub table_sight : Abstract → Table → Sight
table_sight m t = SeesTable (source m (origin_import t.origin)) (renamed_table blank t)

-- what an engine sees of a memory: the names of its import if it is imported, and its type
abbrev pub memory_sight : Abstract → Memory → Sight
memory_sight m t = SeesMemory (source m (origin_import t.origin)) (renamed_memory blank t)

-- what an engine sees of a tag: the names of its import if it is imported, with the number of its type blanked
abbrev pub tag_sight : Abstract → Tag → Sight
tag_sight m t = SeesTag (source m (origin_import t.origin)) (renamed_tag blank t)

-- what an engine sees of a global: the names of its import if it is imported, its type and its initialiser, with the numbers of items blanked
abbrev pub global_sight : Abstract → Global → Sight
global_sight m g = SeesGlobal (source m (origin_import g.origin)) (renamed_global blank g)

-- the sight of what is there, or that of nothing where nothing is
abbrev pub seen_by : {X : Type 0} → (X → Sight) → Option X → Sight
seen_by see None = SeesNothing
seen_by see (Some x) = see x

-- what an engine sees when it looks at this item of the module
abbrev pub sight : Abstract → Item → Sight
sight m (Types, i) = seen_by (type_sight i) (m.types i)
sight m (Functions, i) = seen_by (function_sight m) (m.functions i)
sight m (Tables, i) = seen_by (table_sight m) (m.tables i)
sight m (Memories, i) = seen_by (memory_sight m) (m.memories i)
sight m (Tags, i) = seen_by (tag_sight m) (m.tags i)
sight m (Globals, i) = seen_by (global_sight m) (m.globals i)
sight m (Elements, i) = seen_by (λ e. SeesElement (renamed_element blank e)) (m.elements i)
sight m (DataSegments, i) = seen_by (λ d. SeesData (renamed_data blank d)) (m.data_segments i)

-- whether two items are one; of types that isn't told
abbrev pub is_one : Item → Item → Bool
is_one (Functions, i) (Functions, j) = i == j
is_one (Tables, i) (Tables, j) = i == j
is_one (Memories, i) (Memories, j) = i == j
is_one (Tags, i) (Tags, j) = i == j
is_one (Globals, i) (Globals, j) = i == j
is_one (Elements, i) (Elements, j) = i == j
is_one (DataSegments, i) (DataSegments, j) = i == j
is_one x y = false

-- ---- what a module shows

-- an element segment of this kind is active, neither passive nor declared
abbrev pub IsActive : ElementKind → Type 0
IsActive (ActiveElements table offset) = Unit {0}
IsActive PassiveElements = ⊥
IsActive DeclaredElements = ⊥

-- a data segment of this kind is active, not passive
abbrev pub IsActiveKind : DataKind → Type 0
IsActiveKind (ActiveData memory offset) = Unit {0}
IsActiveKind PassiveData = ⊥

-- just the numbers of which P holds, in rising order
pub record AreAll (P : ℕ → Type 0) (numbers : List ℕ) : Type 0 where
  pub rising : AllPairs (λ i j. i < j) numbers
  pub are : (i : ℕ) → Contains numbers i ↔ P i

-- element segment i is there, and is active
abbrev pub IsActiveElement : Abstract → ℕ → Type 0
IsActiveElement m i = (e : Element) × (m.elements i ≡ Some e) × IsActive e.kind

-- data segment i is there, and is active
abbrev pub IsActiveData : Abstract → ℕ → Type 0
IsActiveData m i = (d : DataSegment) × (m.data_segments i ≡ Some d) × IsActiveKind d.kind

-- the active segments of a module: lists that have each of them once
pub record Segments (m : Abstract) : Type 0 where
  pub elements : List ℕ
  pub elements_are : AreAll (IsActiveElement m) elements
  pub data_segments : List ℕ
  pub data_are : AreAll (IsActiveData m) data_segments

-- the names of its exports with the space of each, whether it has a start function, and how many active segments
pub record Face : Type 0 where
  pub exports : List (Name × Space)
  pub starts : Bool
  pub elements : ℕ
  pub data_segments : ℕ

-- what m shows to an engine at the start, before it looks at any item; s has the active segments of m
abbrev pub face : (m : Abstract) → Segments m → Face
face m s = record { exports = map (λ (e : Export). (e.name, e.item.0)) m.exports; starts = is_some m.start; elements = length s.elements; data_segments = length s.data_segments }

-- the start function as an item, if there is one
abbrev pub start_items : Option ℕ → List Item
start_items None = []
start_items (Some f) = (Functions, f) ∷ []

-- the items of what it shows
abbrev pub shown : (m : Abstract) → Segments m → List Item
shown m s = map (λ (e : Export). e.item) m.exports ++ (start_items m.start ++ (map (λ i. (Elements, i)) s.elements ++ map (λ i. (DataSegments, i)) s.data_segments))

-- ---- engines

-- What an engine asks next, and what it notes down of the answer. It names items by the order in which it came to them.
pub data Ask : Type 0 where
  LookAt : (item : ℕ) → (Sight → List ℕ) → Ask
  AreOne : (item other : ℕ) → (Bool → List ℕ) → Ask

-- what it notes down of what a module shows, and what it asks by its notes
pub record Engine : Type 0 where
  pub first : Face → List ℕ
  pub next : List ℕ → Ask

-- its notes, and the items that it came to
pub record Walk : Type 0 where
  pub notes : List ℕ
  pub items : List Item

-- it comes to all items that are named in what it looks at
abbrev pub looked : Abstract → Walk → (Sight → List ℕ) → Option Item → Walk
looked m w note None = record { notes = note SeesNothing; items = w.items }
looked m w note (Some x) = record { notes = note (sight m x); items = w.items ++ written_in m x }

-- what an engine is told where it asks whether two are one item: of types, and of what it has not come to, always no
abbrev pub compared : Option Item → Option Item → Bool
compared (Some x) (Some y) = is_one x y
compared x y = false

-- an engine's walk after one question more: it has the notes that it makes of the answer, and has come to what is named in the item that it looked at
abbrev pub answered : Abstract → Walk → Ask → Walk
answered m w (LookAt k note) = looked m w note (slice_get w.items k)
answered m w (AreOne k l note) = record { notes = note (compared (slice_get w.items k) (slice_get w.items l)); items = w.items }

-- an engine on a module after so many steps
abbrev pub walked : Engine → Abstract → Walk → ℕ → Walk
walked e m w zero = w
walked e m w (suc k) = answered m (walked e m w k) (e.next (walked e m w k).notes)

-- it begins with what the module shows, or, with any notes, at one item

-- where an engine begins on a module: with its first notes, of what the module shows, and at the items of what it shows
abbrev pub at_face : Engine → (m : Abstract) → Segments m → Walk
at_face e m s = record { notes = e.first (face m s); items = shown m s }

abbrev pub at_item : List ℕ → Item → Walk
at_item notes x = record { notes = notes; items = x ∷ [] }

-- ---- the laws

-- after the same steps an engine has the same notes on both
abbrev pub LooksSame : Abstract → Abstract → Type 0
LooksSame m n = (s : Segments m) (t : Segments n) (e : Engine) (k : ℕ) → (walked e n (at_face e n t) k).notes ≡ (walked e m (at_face e m s) k).notes

-- and so at a kept item, whatever has asked for it: a test of it that goes by names alone, as one of its types, says the same of both
abbrev pub ItemsLookSame : Renaming → Abstract → Abstract → Type 0
ItemsLookSame r m n = (x : Item) → Kept m x → (e : Engine) (notes : List ℕ) (k : ℕ) → (walked e n (at_item notes (renamed r x)) k).notes ≡ (walked e m (at_item notes x) k).notes

-- so of what comes out
abbrev pub OutLooksSame : Type 0
OutLooksSame = (c : Config) (m n : Abstract) → ImportsMatch m → (out : Out c m n) → LooksSame m n × ItemsLookSame out.renaming m n

-- and of what a module in memory is written as, edited or not, where it names nothing that isn't there
abbrev pub WrittenLooksSame : Type 0
WrittenLooksSame = (c : Config) (v n : Abstract) → Premises v → ImportsMatch v → Written c v n → LooksSame v n

-- and of a run: no engine tells what was read from what was written
abbrev pub RunLooksSame : Type 0
RunLooksSame = (c : Config) (bytes output : List ℕ) → (run : ComesTo c bytes output) → LooksSame run.module_read run.module_written

-- each module that was read has its list of active segments
abbrev pub ReadHasSegments : Type 0
ReadHasSegments = (c : Config) (bytes : List ℕ) (m : Abstract) → ReadsModule c bytes m → Segments m

-- ---- engines tell modules apart: one counts the operators of the first function that is exported

abbrev pub counts : Sight → List ℕ
counts (SeesFunction from (Some code)) = length code.operators ∷ []
counts s = []

abbrev pub counter : Engine
counter = record { first = λ f. []; next = λ notes. LookAt 0 counts }

-- the module of one function with a nop in front of the end
abbrev pub one_nop : Abstract
one_nop = module_of one_function_sections (([], record { op = NOP; args = [] } ∷ just_end) ∷ [])

abbrev pub SomeEngineTells : Type 0
SomeEngineTells = LooksSame one_function one_nop → ⊥

-- ---- what is written in an item is all of it that new numbers for items can change: so what an engine doesn't come to, it doesn't see

abbrev pub AgreeOn : Renaming → Renaming → List Item → Type 0
AgreeOn r s xs = (x : Item) → Contains xs x → r.numbers x.0 x.1 ≡ s.numbers x.0 x.1

pub record NamesSuffice (r s : Renaming) : Type 0 where
  pub types : (x : TypeDef) → AgreeOn r s (type_names x) → (map (r.numbers Types) x.group ≡ map (s.numbers Types) x.group) × (map_sub (r.numbers Types) x.sub ≡ map_sub (s.numbers Types) x.sub)
  pub operators : (l : ℕ → ℕ) (ops : List Op) → AgreeOn r s (names_of ops) → renamed_ops r l ops ≡ renamed_ops s l ops
  pub values : (v : ValType ℕ) → AgreeOn r s (map type_item (val_names v)) → map_val (r.numbers Types) v ≡ map_val (s.numbers Types) v
  pub tables : (t : Table) → AgreeOn r s (table_names t) → renamed_table r t ≡ renamed_table s t
  pub memories : (t : Memory) → AgreeOn r s (memory_names t) → renamed_memory r t ≡ renamed_memory s t
  pub tags : (t : Tag) → AgreeOn r s (tag_names t) → renamed_tag r t ≡ renamed_tag s t
  pub globals : (g : Global) → AgreeOn r s (global_names g) → renamed_global r g ≡ renamed_global s g
  pub elements : (e : Element) → AgreeOn r s (element_names e) → renamed_element r e ≡ renamed_element s e
  pub data_segments : (d : DataSegment) → AgreeOn r s (data_names d) → renamed_data r d ≡ renamed_data s d

abbrev pub NamesAreAll : Type 0
NamesAreAll = (r s : Renaming) → r.imports ≡ s.imports → NamesSuffice r s
