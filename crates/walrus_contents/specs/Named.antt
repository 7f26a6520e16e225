-- What an item of a module in memory names, and what has to be there so that it can be told.
use Rattle.std.specs.Prelude.{◌≡◌, ◌↔◌, ◌⊎◌, ℕ, Bool, true, false, not, List, [], ◌++◌, filter, flat_map, map, Option, None, IsSome, Contains, ⊤}
use Rattle.std.specs.Global.{Vec}
use Rattle.std.specs.Option.{option_to_list}
use Rattle.walrus_base.specs.Arena.{entries, item_at, items}
use Rattle.walrus_base.specs.Id.{place}
use Rattle.walrus_base.specs.Types.{ValType, sub_names, val_names}
use Rattle.walrus_base.specs.declared.id.Id.{Id}
use Rattle.walrus_base.specs.declared.keys.FunctionKey.{FunctionKey}
use Rattle.walrus_base.specs.Locals.{locals}
use Rattle.walrus_base.specs.Operators.{Types, Functions, Tables, Memories, Tags, Globals, Elements, DataSegments, Item, function_item, type_item, locals_of}
use Rattle.walrus_base.specs.declared.locals.ModuleLocals.{ModuleLocals}
use Rattle.walrus_code.specs.Code.{item_of}
use Rattle.walrus_items.specs.Function.{body_of}
use Rattle.walrus_code.specs.declared.items.ItemId.{ItemId}
use Rattle.walrus_model.specs.EmittedBody.{types_of as local_types}
use Rattle.walrus_items.specs.Kinds.{exported}
use Rattle.walrus_items.specs.Data.{data_segments, is_passive_data, ModuleData}
use Rattle.walrus_items.specs.Elements.{elements, ModuleElements}
use Rattle.walrus_items.specs.Exports.{exports, ModuleExports}
use Rattle.walrus_items.specs.declared.function_kind.FunctionKind.{FunctionKind}
use Rattle.walrus_items.specs.declared.function_kind.FunctionKind.TheVariants.{Import, Local, Uninitialized}
use Rattle.walrus_items.specs.declared.segments.ElementKind.TheVariants as element_kinds
use Rattle.walrus_items.specs.declared.segments.ElementKind.{ElementKind}
use Rattle.walrus_model.specs.Abstract.{Abstract, TypeDef}
use Rattle.walrus_model.specs.Refers.{KeepsToo, named_by, written_in}
use Rattle.walrus_contents.specs.declared.parts.Contents.{Contents}

-- the items of the ids, in order
abbrev pub items_in : Vec ItemId → List Item
items_in ids = map item_of ids.items

-- behind the ids that were there stand those of these items, in order
abbrev pub Puts : Vec ItemId → Vec ItemId → List Item → Type 0
Puts old new names = items_in new ≡ items_in old ++ names

-- behind the ids that were there stand those of just the items of which P holds
pub record PutsAll (old new : Vec ItemId) (P : Item → Type 0) : Type 0 where
  pub added : List Item
  pub behind : Puts old new added
  pub are : (x : Item) → Contains added x ↔ P x

-- the members of a type's group; no other item has a group
abbrev pub group_names : Abstract → Item → List Item
group_names m (Types, i) = named_by (λ t. map type_item t.group) (m.types i)
group_names m (Functions, i) = []
group_names m (Tables, i) = []
group_names m (Memories, i) = []
group_names m (Tags, i) = []
group_names m (Globals, i) = []
group_names m (Elements, i) = []
group_names m (DataSegments, i) = []

-- what a type names itself: what it names beside the members of its group
abbrev pub own_type_names : TypeDef → List Item
own_type_names t = map type_item (sub_names t.sub)

-- what is written in an item itself
abbrev pub own_written : Abstract → Item → List Item
own_written m (Types, i) = named_by own_type_names (m.types i)
own_written m (Functions, i) = written_in m (Functions, i)
own_written m (Tables, i) = written_in m (Tables, i)
own_written m (Memories, i) = written_in m (Memories, i)
own_written m (Tags, i) = written_in m (Tags, i)
own_written m (Globals, i) = written_in m (Globals, i)
own_written m (Elements, i) = written_in m (Elements, i)
own_written m (DataSegments, i) = written_in m (DataSegments, i)

-- what an item refers to beside the members of its group: what is written in it itself, and what it keeps beside that
abbrev pub NamesItself : Abstract → Item → Item → Type 0
NamesItself m x y = Contains (own_written m x) y ⊎ KeepsToo m x y

-- what the exports name
abbrev pub export_names : ModuleExports → List Item
export_names all = map (λ e. exported e.item) (items (exports all))

-- what the start function is, if there is one
abbrev pub start_names : Option (Id FunctionKey) → List Item
start_names start = map (λ f. function_item (place f)) (option_to_list start)

-- the active data segments, which are roots
abbrev pub active_names : ModuleData → List Item
active_names all = map (λ e. (DataSegments, e.0)) (filter (λ e. not (is_passive_data e.1.kind)) (entries (data_segments all)))

abbrev pub are_passive : ElementKind → Bool
are_passive element_kinds.Passive = true
are_passive element_kinds.Declared = false
are_passive (element_kinds.Active table offset) = false

-- the active and the declared element segments, which are roots
abbrev pub root_elements : ModuleElements → List Item
root_elements all = map (λ e. (Elements, e.0)) (filter (λ e. not (are_passive e.1.kind)) (entries (elements all)))

-- the roots that no export names: the start function, the active data segments, and the element segments that are active or declared
abbrev pub other_roots : Contents → List Item
other_roots c = start_names c.start ++ active_names c.data_ ++ root_elements c.elements

-- the roots: what the exports name, then the start function, the active data segments, and then the active and the declared element
-- segments
abbrev pub root_names : Contents → List Item
root_names c = export_names c.exports ++ other_roots c

-- the type of the local at a place, if one is there
abbrev pub type_at : ModuleLocals → ℕ → Option (ValType ℕ)
type_at all l = item_at (local_types (locals all)) l

-- the concrete types of the local at a place
abbrev pub local_type_names : ModuleLocals → ℕ → List Item
local_type_names all l = named_by (λ v. map type_item (val_names v)) (type_at all l)

-- locals are at all these places
abbrev pub AreThere : ModuleLocals → List ℕ → Type 0
AreThere all used = (l : ℕ) → Contains used l → IsSome (type_at all l)

-- at one of these places is none
abbrev pub OneIsMissing : ModuleLocals → List ℕ → Type 0
OneIsMissing all used = (l : ℕ) × (Contains used l × (type_at all l ≡ None))

-- locals are at all these places, and their concrete types stand behind the ids that were there
abbrev pub PutsTypes : ModuleLocals → List ℕ → Vec ItemId → Vec ItemId → Type 0
PutsTypes all used old new = AreThere all used × Puts old new (flat_map (local_type_names all) used)

-- all of these locals are there, and none names a type
abbrev pub NamesNoTypes : ModuleLocals → List ℕ → Type 0
NamesNoTypes all used = AreThere all used × (flat_map (local_type_names all) used ≡ [])

-- a function of this kind has an import or a body, and the locals that its body uses are there
abbrev pub IsReady : ModuleLocals → FunctionKind → Type 0
IsReady all (Import i) = ⊤
IsReady all (Local f) = AreThere all (locals_of (body_of f))
IsReady all (Uninitialized ty) = ⊥

-- it has neither, or its body uses a local that isn't there
abbrev pub IsUnready : ModuleLocals → FunctionKind → Type 0
IsUnready all (Import i) = ⊥
IsUnready all (Local f) = OneIsMissing all (locals_of (body_of f))
IsUnready all (Uninitialized ty) = ⊤
