-- What a module is written as: its sections in their order, each in its one spelling (Binary Format > Modules).
use Rattle.std.specs.Prelude.{◌≡◌, ℕ, ◌+◌, Bool, ◌||◌, not, List, [], ◌∷◌, ◌++◌, length, map, filter, All, Option, Some, None, IfSome, Result, Ok, Err, Vec, codes, bytes_eq, nat_eq}
use Rattle.std.specs.List.{starts_with}
use Rattle.std.specs.declared.alloc.Global.{Global}
use Rattle.wasm_forms.specs.declared.error.WireError.{WireError}
use Rattle.wasm_forms.specs.declared.error.WireError.TheVariants.{Malformed, Memory, TooLarge}
use Rattle.wasm_frames.specs.Record.{Custom, Module}
use Rattle.wasm_frames.specs.Frames.{Section, CustomSection, Types, Imports, Functions, Tables, Memories, Globals, Exports, Start, Elements, Code, DataSegments, DataCount, Tags, id_of, header, Frames}
use Rattle.wasm_writer.specs.declared.places.CodePlaces.{CodePlaces}
use Rattle.wasm_writer.specs.Spelling.{all_spelled, SectionFits, SectionStands, count_place, first_body, placed_bodies, range_of}
use Rattle.wasm_wire.specs.declared.written.CustomGroup.{CustomGroup}
use Rattle.wasm_wire.specs.declared.written.CustomGroup.TheVariants.{Dylink, Names, Producers, Others}

-- ---- custom sections by their names

-- dynamic linking (tool-conventions, "Dynamic Linking")
abbrev pub is_dylink : List ℕ → Bool
is_dylink name = bytes_eq name (codes "dylink") || bytes_eq name (codes "dylink.0")

abbrev pub is_names : List ℕ → Bool
is_names name = bytes_eq name (codes "name")

abbrev pub is_producers : List ℕ → Bool
is_producers name = bytes_eq name (codes "producers")

abbrev pub is_other : List ℕ → Bool
is_other name = not (is_dylink name || (is_names name || is_producers name))

-- whether a custom section of this name is one of the group
abbrev pub is_in : CustomGroup → List ℕ → Bool
is_in Dylink name = is_dylink name
is_in Names name = is_names name
is_in Producers name = is_producers name
is_in Others name = is_other name

-- whether a custom section of this name is debug information
abbrev pub is_debug_name : List ℕ → Bool
is_debug_name name = starts_with nat_eq name (codes ".debug")

-- the custom sections of a group, in the order in which they were
abbrev pub group_of : CustomGroup → List Custom → List Custom
group_of g cs = filter (λ c. is_in g c.name) cs

-- ---- the sections of a module, in their order

-- the section that lists these, and none where there are none
abbrev pub if_any : {A : Type 0} → (List A → Section) → List A → List Section
if_any make [] = []
if_any make (x ∷ xs) = make (x ∷ xs) ∷ []

-- the section of this number, and none where there is none
abbrev pub if_given : (ℕ → Section) → Option ℕ → List Section
if_given make None = []
if_given make (Some n) = make n ∷ []

-- the sections of a group
abbrev pub customs_of : CustomGroup → Module → List Section
customs_of g m = map CustomSection (group_of g m.customs)

-- what isn't custom, up to the globals, and up to the code section
abbrev pub up_to_globals : Module → List Section
up_to_globals m = if_any Types m.types
    ++ if_any Imports m.imports
    ++ if_any Functions m.functions
    ++ if_any Tables m.tables
    ++ if_any Memories m.memories
    ++ if_any Tags m.tags
    ++ if_any Globals m.globals

abbrev pub before_code : Module → List Section
before_code m = up_to_globals m
    ++ if_any Exports m.exports
    ++ if_given Start m.start
    ++ if_any Elements m.elements
    ++ if_given DataCount m.data_count

-- what isn't custom, in the standard's order
abbrev pub standard_sections : Module → List Section
standard_sections m = before_code m ++ if_any Code m.bodies ++ if_any DataSegments m.data_segments

-- the custom sections that stand behind all others
abbrev pub customs_behind : Module → List Section
customs_behind m = customs_of Names m ++ customs_of Producers m ++ customs_of Others m

abbrev pub sections_in_order : Module → List Section
sections_in_order m = customs_of Dylink m ++ standard_sections m ++ customs_behind m

-- the header, and the sections behind it
abbrev pub module_bytes : Module → List ℕ
module_bytes m = header ++ all_spelled (sections_in_order m)

-- ---- each section of a module, also one that isn't written since it lists nothing

pub record EachSection (P : Section → Type 0) (m : Module) : Type 0 where
  pub types : P (Types m.types)
  pub imports : P (Imports m.imports)
  pub functions : P (Functions m.functions)
  pub tables : P (Tables m.tables)
  pub memories : P (Memories m.memories)
  pub tags : P (Tags m.tags)
  pub globals : P (Globals m.globals)
  pub exports : P (Exports m.exports)
  pub start : IfSome m.start (λ f. P (Start f))
  pub elements : P (Elements m.elements)
  pub data_count : IfSome m.data_count (λ n. P (DataCount n))
  pub bodies : P (Code m.bodies)
  pub data_segments : P (DataSegments m.data_segments)
  pub customs : All (λ c. P (CustomSection c)) m.customs

-- each count, size and limit of 32 bits is below 2 ^ 32
abbrev pub ModuleFits : Module → Type 0
ModuleFits m = EachSection SectionFits m

-- numbers are in the range of their kind, names are text, and no expression is empty
abbrev pub ModuleStands : Module → Type 0
ModuleStands m = EachSection SectionStands m

-- written: the module's bytes, and it fits; too large: it doesn't fit; for want of memory: it fits
abbrev pub WritesModule : Result (Vec ℕ Global) WireError → Module → Type 0
WritesModule (Ok v) m = (v.items ≡ module_bytes m) × ModuleFits m
WritesModule (Err Malformed) m = ⊥
WritesModule (Err (Memory e)) m = ModuleFits m
WritesModule (Err TooLarge) m = ModuleFits m → ⊥

-- ---- what is written reads back

-- where the code section begins: behind the header, the sections of dynamic linking and those before it
abbrev pub code_place : Module → ℕ
code_place m = length header + length (all_spelled (customs_of Dylink m)) + length (all_spelled (before_code m))

-- the module as its bytes read: the ids of the sections that are written, the custom sections in their order, and each body where it starts
abbrev pub as_written : Module → Module
as_written m = record m {
  order = map id_of (standard_sections m);
  bodies = placed_bodies (first_body (code_place m) m.bodies) m.bodies;
  customs = group_of Dylink m.customs ++ group_of Names m.customs ++ group_of Producers m.customs ++ group_of Others m.customs;
}

-- told: where the parts of the code section stand in the module's bytes, and it fits; too large: it doesn't fit; for want of memory: it fits
abbrev pub TellsPlaces : Result CodePlaces WireError → Module → Type 0
TellsPlaces (Ok p) m = (p.count ≡ count_place (code_place m) m.bodies) × (p.bodies.items ≡ map range_of (as_written m).bodies) × ModuleFits m
TellsPlaces (Err Malformed) m = ⊥
TellsPlaces (Err (Memory e)) m = ModuleFits m
TellsPlaces (Err TooLarge) m = ModuleFits m → ⊥

-- the bytes of a module that fits and stands are framed as that module
abbrev pub ModuleFrames : Type 0
ModuleFrames = (m : Module) → ModuleFits m → ModuleStands m → Frames (module_bytes m) (as_written m)
