-- Names that something gets or loses (Appendix > Custom Sections > Name Section).
use Rattle.std.specs.Prelude.{ℕ, List, Option, Some, None, slice_set, nat_eq, if◌then◌else◌, ◌≡◌}
use Rattle.walrus_base.specs.Arena.{IsLive}
use Rattle.walrus_base.specs.ModuleTypes.{type_names, type_slots}
use Rattle.walrus_base.specs.Operators.{Space, Types, Functions, Tables, Memories, Tags, Globals, Elements, DataSegments}
use Rattle.walrus_base.specs.TypeDef.{name_bytes}
use Rattle.walrus_base.specs.declared.module_types.ModuleTypes.{ModuleTypes}
use Rattle.walrus_contents.specs.There.{IsRefusal}
use Rattle.walrus_contents.specs.declared.parts.Contents.{Contents}
use Rattle.walrus_items.specs.Data.{data_segments}
use Rattle.walrus_items.specs.Elements.{elements}
use Rattle.walrus_items.specs.Functions.{functions}
use Rattle.walrus_items.specs.Globals.{globals}
use Rattle.walrus_items.specs.Memories.{memories}
use Rattle.walrus_items.specs.Tables.{tables}
use Rattle.walrus_items.specs.Tags.{tags}
use Rattle.walrus_items.specs.declared.error.Error.{Error}
use Rattle.walrus_edit_list.specs.Edits.{Named, The, TheModule}
use Rattle.walrus_edit_list.specs.Places.{ChangesAt}
use Rattle.walrus_edit_list.specs.declared.numbers.TheConstants.{OF_TYPE, OF_TABLE, OF_MEMORY, OF_GLOBAL, OF_ELEMENT, OF_FUNCTION, OF_DATA, OF_TAG}

-- the space of what has this number
abbrev pub space_of : ℕ → Option Space
space_of what = if nat_eq what OF_TYPE then Some Types
    else if nat_eq what OF_FUNCTION then Some Functions
    else if nat_eq what OF_TABLE then Some Tables
    else if nat_eq what OF_MEMORY then Some Memories
    else if nat_eq what OF_TAG then Some Tags
    else if nat_eq what OF_GLOBAL then Some Globals
    else if nat_eq what OF_ELEMENT then Some Elements
    else if nat_eq what OF_DATA then Some DataSegments
    else None

-- the type of this id has this name, or none
abbrev pub NamesType : ℕ → Option (List ℕ) → (old new : ModuleTypes) → Type 0
NamesType i n old new =
    IsLive (type_slots old) i × (type_slots new ≡ type_slots old) × (type_names new ≡ slice_set (type_names old) i (Some n))

-- the item of this id has this name, or none; nothing else changed
abbrev pub NamesItem : Option Space → ℕ → Option (List ℕ) → (old new : Contents) → Type 0
NamesItem (Some Types) i n old new = NamesType i n old.types new.types × (new ≡ record old { types = new.types })
NamesItem (Some Functions) i n old new =
    ChangesAt i (λ x. record x { name = n }) (functions old.funcs) (functions new.funcs) × (new ≡ record old { funcs = new.funcs })
NamesItem (Some Tables) i n old new =
    ChangesAt i (λ x. record x { name = n }) (tables old.tables) (tables new.tables) × (new ≡ record old { tables = new.tables })
NamesItem (Some Memories) i n old new =
    ChangesAt i (λ x. record x { name = n }) (memories old.memories) (memories new.memories) × (new ≡ record old { memories = new.memories })
NamesItem (Some Tags) i n old new =
    ChangesAt i (λ x. record x { name = n }) (tags old.tags) (tags new.tags) × (new ≡ record old { tags = new.tags })
NamesItem (Some Globals) i n old new =
    ChangesAt i (λ x. record x { name = n }) (globals old.globals) (globals new.globals) × (new ≡ record old { globals = new.globals })
NamesItem (Some Elements) i n old new =
    ChangesAt i (λ x. record x { name = n }) (elements old.elements) (elements new.elements) × (new ≡ record old { elements = new.elements })
NamesItem (Some DataSegments) i n old new =
    ChangesAt i (λ x. record x { name = n }) (data_segments old.data_) (data_segments new.data_) × (new ≡ record old { data_ = new.data_ })
NamesItem None i n old new = ⊥

-- what is named has this name, or none
abbrev pub GivesName : Named → Option (List ℕ) → (old new : Contents) → Type 0
GivesName TheModule n old new = (name_bytes new.name ≡ n) × (new ≡ record old { name = new.name })
GivesName (The what i) n old new = NamesItem (space_of what) i n old new

-- an item of this id is there
abbrev pub HasItem : Option Space → ℕ → Contents → Type 0
HasItem (Some Types) i m = IsLive (type_slots m.types) i
HasItem (Some Functions) i m = IsLive (functions m.funcs) i
HasItem (Some Tables) i m = IsLive (tables m.tables) i
HasItem (Some Memories) i m = IsLive (memories m.memories) i
HasItem (Some Tags) i m = IsLive (tags m.tags) i
HasItem (Some Globals) i m = IsLive (globals m.globals) i
HasItem (Some Elements) i m = IsLive (elements m.elements) i
HasItem (Some DataSegments) i m = IsLive (data_segments m.data_) i
HasItem None i m = ⊥

-- what is named isn't there
abbrev pub LacksNamed : Named → Contents → Type 0
LacksNamed TheModule m = ⊥
LacksNamed (The what i) m = HasItem (space_of what) i m → ⊥

abbrev pub RefusesName : Named → Contents → Error → Type 0
RefusesName named old error = IsRefusal (LacksNamed named old) error
