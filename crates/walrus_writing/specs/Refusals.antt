-- Why items that name nothing dead, and that have a plan, can't be written.
use Rattle.std.specs.Prelude.{ℕ, List, Option, Some, Contains, ◌≡◌, ◌⊎◌, ⊤, Result, Ok, Err}
use Rattle.wasm_frames.specs.Record as wire
use Rattle.wasm_wire.specs.ModuleSpelling.{ModuleFits}
use Rattle.walrus_base.specs.Arena.{items}
use Rattle.walrus_base.specs.ModuleTypes.{type_slots}
use Rattle.walrus_base.specs.TypeDef.{TypeDef}
use Rattle.walrus_code.specs.Names.{Lookup}
use Rattle.walrus_items.specs.LocalFunction.{LocalFunction}
use Rattle.walrus_bodies.specs.declared.features.Features.{Features}
use Rattle.walrus_functions.specs.EmittedBody.{Source, CantBeWritten, HasTooManyLocals}
use Rattle.walrus_groups.specs.Indexed.{HasExact}
use Rattle.walrus_items.specs.Data.{DataValue, data_segments}
use Rattle.walrus_items.specs.Elements.{ElementValue, elements}
use Rattle.walrus_items.specs.Globals.{GlobalValue, globals}
use Rattle.walrus_items.specs.Tables.{TableValue, tables}
use Rattle.walrus_contents.specs.View.{data_of, element_of, global_of, parts_view, table_of}
use Rattle.walrus_writing.specs.Elements.{ElementIsUnspelled}
use Rattle.walrus_writing.specs.Globals.{GlobalIsUnspelled}
use Rattle.walrus_writing.specs.Imported.{ImportIsExact}
use Rattle.walrus_writing.specs.Segments.{DataIsUnspelled}
use Rattle.walrus_writing.specs.Tables.{TableIsUnspelled}
use Rattle.walrus_contents.specs.declared.parts.Parts.{Parts}
use Rattle.walrus_model.specs.Abstract.{Import}
use Rattle.walrus_writing.specs.Parts.{function_seen, source}
use Rattle.walrus_writing.specs.Customs.{Task}
use Rattle.walrus_writing.specs.Records.{DoesNotFit}
use Rattle.walrus_items.specs.declared.error.Error.{Error}
use Rattle.walrus_items.specs.declared.error.Error.TheVariants.{Memory, NotWritable, TooLarge}

-- a function has such a body, under some indices
abbrev pub HasBody : Parts → Features → (Source → Type 0) → Type 0
HasBody p features P = (names : Lookup) × ((number : ℕ) × ((local : LocalFunction) × (((parts_view p).functions number ≡ Some (function_seen p local)) × P (source p names features local))))

-- a count or a size passes 32 bits: the locals of a function, or what is written
abbrev pub TaskIsTooLarge : Parts → Task → Type 0
TaskIsTooLarge p t = HasBody p t.choices.features HasTooManyLocals ⊎ DoesNotFit p t

-- what no bytes spell: a body, an exact heap type in a type, the type of an imported item, a table, a global, or a segment of elements or
-- of data
pub data HasUnspellable (p : Parts) (features : Features) : Type 0 where
  AnImport : (i : ℕ) (x : Import) → (parts_view p).imports i ≡ Some x → ImportIsExact (parts_view p) x → HasUnspellable p features
  ABody : HasBody p features CantBeWritten → HasUnspellable p features
  AType : HasExact (items (type_slots p.types.now)) → HasUnspellable p features
  ATable : (t : TableValue) → Contains (items (tables p.tables.now)) t → TableIsUnspelled (table_of t) → HasUnspellable p features
  AGlobal : (g : GlobalValue) → Contains (items (globals p.globals.now)) g → GlobalIsUnspelled (global_of g) → HasUnspellable p features
  AnElement : (e : ElementValue) → Contains (items (elements p.elements.now)) e → ElementIsUnspelled (element_of e) → HasUnspellable p features
  ASegment : (d : DataValue) → Contains (items (data_segments p.data_.now)) d → DataIsUnspelled (data_of d) → HasUnspellable p features

-- items that name nothing dead and have a plan: each refusal comes with its cause
abbrev pub RefusesItems : {X : Type 0} → Parts → Task → Result X Error → Type 0
RefusesItems p t (Ok x) = ⊤
RefusesItems p t (Err NotWritable) = HasUnspellable p t.choices.features
RefusesItems p t (Err TooLarge) = TaskIsTooLarge p t
RefusesItems p t (Err (Memory e)) = ⊤
RefusesItems p t (Err _) = ⊥

-- ---- refusals of the parts

-- types are spelled: an exact heap type stands in one
abbrev pub RefusesTypes : List (Option TypeDef) → Error → Type 0
RefusesTypes types (Memory e) = ⊤
RefusesTypes types NotWritable = HasExact (items types)
RefusesTypes types _ = ⊥

-- bodies are spelled
abbrev pub RefusesBodies : Parts → Features → Error → Type 0
RefusesBodies p features (Memory e) = ⊤
RefusesBodies p features NotWritable = HasBody p features CantBeWritten
RefusesBodies p features TooLarge = HasBody p features HasTooManyLocals
RefusesBodies p features _ = ⊥

-- the sections of a module are measured: a count or a size in them passes 32 bits
abbrev pub RefusesModule : wire.Module → Error → Type 0
RefusesModule m (Memory e) = ⊤
RefusesModule m TooLarge = ModuleFits m → ⊥
RefusesModule m _ = ⊥
