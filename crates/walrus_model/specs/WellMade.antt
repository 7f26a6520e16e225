-- What a module in memory needs to be written: imports and items name each other, no exact heap type.
use Rattle.std.specs.Prelude.{ℕ, List, [], ◌∷◌, ◌++◌, flat_map, Option, Some, None, Contains, ◌≡◌, ◌≢◌}
use Rattle.walrus_base.specs.Types.{HeapType, val_heaps, comp_heaps, IsNotExact}
use Rattle.walrus_base.specs.Operators.{Types, Functions, Tables, Memories, Tags, Globals, Elements, DataSegments, Item, BlockType, NoResult, OneResult, OfType, Arg, Value, Heap, Block, Op}
use Rattle.walrus_model.specs.Abstract.{Abstract, Origin, ImportedBy, Defined, Body, FunctionKind, ImportedFunction, LocalFunction, Uninitialised, Function, ElementKind, PassiveElements, DeclaredElements, ActiveElements, ElementItems, ListedFunctions, Expressions, DataKind, PassiveData, ActiveData, Import}
use Rattle.walrus_model.specs.Refers.{used_locals}

-- ---- imports

-- the import that brings a function of this kind, if one does
abbrev pub kind_import : FunctionKind → Option ℕ
kind_import (ImportedFunction i) = Some i
kind_import (LocalFunction b) = None
kind_import Uninitialised = None

-- the import that brings an item of this origin, if one does
abbrev pub origin_import : Origin → Option ℕ
origin_import (ImportedBy i) = Some i
origin_import Defined = None

abbrev pub import_in : {X : Type 0} → (X → Option ℕ) → Option X → Option ℕ
import_in get None = None
import_in get (Some x) = get x

-- the import that an item names
abbrev pub import_of : Abstract → Item → Option ℕ
import_of m (Functions, i) = import_in (λ f. kind_import f.kind) (m.functions i)
import_of m (Tables, i) = import_in (λ t. origin_import t.origin) (m.tables i)
import_of m (Memories, i) = import_in (λ t. origin_import t.origin) (m.memories i)
import_of m (Tags, i) = import_in (λ t. origin_import t.origin) (m.tags i)
import_of m (Globals, i) = import_in (λ t. origin_import t.origin) (m.globals i)
import_of m x = None

-- an import and its item name each other: so each imported item is named by exactly one, a local one by none
pub record ImportsMatch (m : Abstract) : Type 0 where
  pub items : (x : Item) (i : ℕ) → import_of m x ≡ Some i → (y : Import) × (m.imports i ≡ Some y) × (y.item ≡ x)
  pub imports : (i : ℕ) (y : Import) → m.imports i ≡ Some y → import_of m y.item ≡ Some i

-- ---- what can't be written

abbrev pub block_heaps : BlockType → List (HeapType ℕ)
block_heaps NoResult = []
block_heaps (OneResult v) = val_heaps v
block_heaps (OfType t) = []

abbrev pub arg_heaps : Arg → List (HeapType ℕ)
arg_heaps (Value v) = val_heaps v
arg_heaps (Heap h) = h ∷ []
arg_heaps (Block b) = block_heaps b
arg_heaps arg = []

abbrev pub op_heaps : Op → List (HeapType ℕ)
op_heaps o = flat_map arg_heaps o.args

abbrev pub heaps_by : {X : Type 0} → (X → List (HeapType ℕ)) → Option X → List (HeapType ℕ)
heaps_by get None = []
heaps_by get (Some x) = get x

-- the heap types written for a body: in its operators, and of its used locals
abbrev pub body_heaps : Body → List (HeapType ℕ)
body_heaps b = flat_map op_heaps b.operators ++ flat_map (λ x. heaps_by val_heaps (b.local_type x)) (used_locals b)

abbrev pub kind_heaps : FunctionKind → List (HeapType ℕ)
kind_heaps (LocalFunction b) = body_heaps b
kind_heaps (ImportedFunction i) = []
kind_heaps Uninitialised = []

-- the constant expressions of an item

abbrev pub option_consts : Option (List Op) → List (List Op)
option_consts None = []
option_consts (Some ops) = ops ∷ []

abbrev pub element_kind_consts : ElementKind → List (List Op)
element_kind_consts (ActiveElements table offset) = offset ∷ []
element_kind_consts PassiveElements = []
element_kind_consts DeclaredElements = []

abbrev pub element_item_consts : ElementItems → List (List Op)
element_item_consts (ListedFunctions fs) = []
element_item_consts (Expressions ty es) = es

abbrev pub data_kind_consts : DataKind → List (List Op)
data_kind_consts (ActiveData memory offset) = offset ∷ []
data_kind_consts PassiveData = []

abbrev pub consts_by : {X : Type 0} → (X → List (List Op)) → Option X → List (List Op)
consts_by get None = []
consts_by get (Some x) = get x

abbrev pub consts_in : Abstract → Item → List (List Op)
consts_in m (Tables, i) = consts_by (λ t. option_consts t.initialiser) (m.tables i)
consts_in m (Globals, i) = consts_by (λ g. option_consts g.initialiser) (m.globals i)
consts_in m (Elements, i) = consts_by (λ e. element_kind_consts e.kind ++ element_item_consts e.items) (m.elements i)
consts_in m (DataSegments, i) = consts_by (λ d. data_kind_consts d.kind) (m.data_segments i)
consts_in m x = []

abbrev pub element_item_heaps : ElementItems → List (HeapType ℕ)
element_item_heaps (ListedFunctions fs) = []
element_item_heaps (Expressions ty es) = ty.heap ∷ []

-- the heap types written for an item, those of its constant expressions aside
abbrev pub heaps_in : Abstract → Item → List (HeapType ℕ)
heaps_in m (Types, i) = heaps_by (λ t. comp_heaps t.sub.comp) (m.types i)
heaps_in m (Functions, i) = heaps_by (λ f. kind_heaps f.kind) (m.functions i)
heaps_in m (Tables, i) = heaps_by (λ t. t.ty.element.heap ∷ []) (m.tables i)
heaps_in m (Globals, i) = heaps_by (λ g. val_heaps g.ty.value) (m.globals i)
heaps_in m (Elements, i) = heaps_by (λ e. element_item_heaps e.items) (m.elements i)
heaps_in m x = []

-- no exact heap type, no empty constant expression, no function without a kind
pub record IsWritable (m : Abstract) : Type 0 where
  pub heaps : (x : Item) (h : HeapType ℕ) → Contains (heaps_in m x) h → IsNotExact h
  pub const_heaps : (x : Item) (ops : List Op) (h : HeapType ℕ) → Contains (consts_in m x) ops → Contains (flat_map op_heaps ops) h → IsNotExact h
  pub consts : (x : Item) (ops : List Op) → Contains (consts_in m x) ops → ops ≢ []
  pub initialised : (i : ℕ) (f : Function) → m.functions i ≡ Some f → f.kind ≢ Uninitialised
