-- What a module holds of the imports that were read: them, and what each brings to its index space.
use Rattle.std.specs.Prelude.{ℕ, [], ◌∷◌, All, List, length, map, None, option_to_list, Some, ◌≡◌}
use Rattle.wasm_entries.specs.declared.record.RawDesc.{RawDesc}
use Rattle.wasm_entries.specs.declared.record.RawDesc.TheVariants as descs
use Rattle.wasm_entries.specs.Record as entries
use Rattle.wasm_frames.specs.Record as wire
use Rattle.walrus_base.specs.Locals.{locals}
use Rattle.walrus_base.specs.ModuleTypes.{type_names, type_slots}
use Rattle.walrus_base.specs.Operators.{Functions, Tables, Memories, Tags, Globals, Item}
use Rattle.walrus_groups.specs.Groups.{types_from}
use Rattle.walrus_producers.specs.Seen.{producers}
use Rattle.walrus_items.specs.Data.{data_segments}
use Rattle.walrus_items.specs.Elements.{elements}
use Rattle.walrus_items.specs.Exports.{exports}
use Rattle.walrus_items.specs.Functions.{functions}
use Rattle.walrus_items.specs.Imports.{imports}
use Rattle.walrus_items.specs.Globals.{globals}
use Rattle.walrus_items.specs.Memories.{memories}
use Rattle.walrus_items.specs.Tables.{tables}
use Rattle.walrus_items.specs.Tags.{tags}
use Rattle.walrus_model.specs.Abstract.{Import}
use Rattle.walrus_model.specs.Sections.{imported, imported_function, imported_global, imported_memory, imported_table, imported_tag, imports_after}
use Rattle.walrus_contents.specs.declared.parts.Contents.{Contents}
use Rattle.walrus_reading.specs.Held.{HoldsGlobal, HoldsImport, HoldsImportedFunction, HoldsMemory, HoldsTable, HoldsTag, none_kept}
use Rattle.walrus_reading.specs.Placed.{AddsPlaced, AllPlaced}

-- the imports, and in each space what they bring, in their order and without names; nothing else is there
pub record HoldsImports (raw : List entries.Import) (m : Contents) : Type 0 where
  pub imports : AllPlaced HoldsImport 0 (imports_after [] raw) (imports m.imports)
  pub functions : AllPlaced HoldsImportedFunction 0 (imported imported_function 0 raw) (functions m.funcs)
  pub tables : AllPlaced (HoldsTable none_kept) 0 (imported imported_table 0 raw) (tables m.tables)
  pub memories : AllPlaced (HoldsMemory none_kept) 0 (imported imported_memory 0 raw) (memories m.memories)
  pub tags : AllPlaced HoldsTag 0 (imported imported_tag 0 raw) (tags m.tags)
  pub globals : AllPlaced HoldsGlobal 0 (imported imported_global 0 raw) (globals m.globals)

-- the types and what imports bring, and nothing else; no type has a name, nor has the module
pub record HoldsImported (r : wire.Module) (m : Contents) : Type 0 where
  pub types : type_slots m.types ≡ map Some (types_from 0 r.types)
  pub type_names : All (λ name. name ≡ Some None) (type_names m.types)
  pub brought : HoldsImports r.imports m
  pub locals : locals m.locals ≡ []
  pub elements : elements m.elements ≡ []
  pub data_segments : data_segments m.data_ ≡ []
  pub exports : exports m.exports ≡ []
  pub producers : producers m.producers ≡ []
  pub name : m.name ≡ None

-- all else stays
pub record SameOthers (old new : Contents) : Type 0 where
  pub types : new.types ≡ old.types
  pub locals : new.locals ≡ old.locals
  pub elements : new.elements ≡ old.elements
  pub data_ : new.data_ ≡ old.data_
  pub exports : new.exports ≡ old.exports
  pub producers : new.producers ≡ old.producers
  pub name : new.name ≡ old.name

-- ---- for the functions inside

-- the item that is next in the space of what is brought
abbrev pub next_item : Contents → RawDesc → Item
next_item m (descs.Function ty) = (Functions, length (functions m.funcs))
next_item m (descs.Table ty) = (Tables, length (tables m.tables))
next_item m (descs.Memory l) = (Memories, length (memories m.memories))
next_item m (descs.Global ty) = (Globals, length (globals m.globals))
next_item m (descs.Tag ty) = (Tags, length (tags m.tags))

-- an import of that item by these names
abbrev pub next_import : Contents → entries.Import → Import
next_import m x = record { module_name = x.from; name = x.name; item = next_item m x.desc }

-- what the import of this number brings stands behind the others of its space
pub record Brings (i : ℕ) (d : RawDesc) (old new : Contents) : Type 0 where
  pub functions : AddsPlaced HoldsImportedFunction (option_to_list (imported_function i d)) (functions old.funcs) (functions new.funcs)
  pub tables : AddsPlaced (HoldsTable none_kept) (option_to_list (imported_table i d)) (tables old.tables) (tables new.tables)
  pub memories : AddsPlaced (HoldsMemory none_kept) (option_to_list (imported_memory i d)) (memories old.memories) (memories new.memories)
  pub tags : AddsPlaced HoldsTag (option_to_list (imported_tag i d)) (tags old.tags) (tags new.tags)
  pub globals : AddsPlaced HoldsGlobal (option_to_list (imported_global i d)) (globals old.globals) (globals new.globals)
  pub others : SameOthers old new

-- so does the import itself, and they name each other
pub record AddsImport (x : entries.Import) (old new : Contents) : Type 0 where
  pub brings : Brings (length (imports old.imports)) x.desc old new
  pub imports : AddsPlaced HoldsImport (next_import old x ∷ []) (imports old.imports) (imports new.imports)
