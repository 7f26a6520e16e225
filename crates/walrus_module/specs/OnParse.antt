-- What a hook behind reading is handed, what it may do with that, and what comes of bytes that it is told of.
use Rattle.std.specs.Prelude.{ℕ, List, length, Result, Ok, Err, ◌≡◌, ◌⊎◌, ⊤}
use Rattle.std.specs.List.{range_with_len}
use Rattle.walrus_code.specs.Indices.{places_in}
use Rattle.walrus_code.specs.declared.indices.IndicesToIds.{IndicesToIds}
use Rattle.walrus_code.specs.declared.location.InstrLocId.{InstrLocId}
use Rattle.walrus_contents.specs.declared.parts.Contents.{Contents}
use Rattle.walrus_items.specs.Data.{data_segments}
use Rattle.walrus_items.specs.Elements.{elements}
use Rattle.walrus_items.specs.Functions.{functions}
use Rattle.walrus_items.specs.Globals.{globals}
use Rattle.walrus_items.specs.Memories.{memories}
use Rattle.walrus_items.specs.Tables.{tables}
use Rattle.walrus_items.specs.Tags.{tags}
use Rattle.walrus_items.specs.declared.custom.CustomSection.{Ghosts}
use Rattle.walrus_items.specs.declared.error.Error.{Error}
use Rattle.walrus_items.specs.declared.error.Error.TheVariants.{Memory, InvalidWasm}
use Rattle.walrus_reading.specs.Parsed.{HasTypesRead, RefusesBytes}
use Rattle.walrus_module.specs.Flags.{Flags, config_of}
use Rattle.walrus_module.specs.Parsing.{HoldsParsed}
use Rattle.walrus_module.specs.View.{contents_of}
use Rattle.walrus_module.specs.declared.entry.SectionEntry.{SectionEntry}
use Rattle.walrus_module.specs.declared.module.Module.{Module}
use Rattle.walrus_base.specs.Operators.{Space, Types, Functions, Tables, Memories, Tags, Globals, Elements, DataSegments}

-- under each index stands the id of the same place
abbrev pub AreInPlace : IndicesToIds → Type 0
AreInPlace ids = (space : Space) → places_in ids space ≡ range_with_len 0 (length (places_in ids space))

-- how many indices there are: those of all items, and of so many types
abbrev pub index_count : (types : ℕ) → Contents → Space → ℕ
index_count types m Types = types
index_count types m Functions = length (functions m.funcs)
index_count types m Tables = length (tables m.tables)
index_count types m Memories = length (memories m.memories)
index_count types m Tags = length (tags m.tags)
index_count types m Globals = length (globals m.globals)
index_count types m Elements = length (elements m.elements)
index_count types m DataSegments = length (data_segments m.data_)

-- so many indices lead to the ids of the same places
abbrev pub IsNumbered : (types : ℕ) → Contents → IndicesToIds → Type 0
IsNumbered types m ids = (space : Space) → places_in ids space ≡ range_with_len 0 (index_count types m space)

-- the bytes are no module, or memory ran out
abbrev pub IsUnread : Error → Type 0
IsUnread (Memory e) = ⊤
IsUnread (InvalidWasm kind) = ⊤
IsUnread _ = ⊥

-- What a hook may do, whatever type sections of a caller's own are of: of a module that it is handed with these ids it leaves another one, and
-- answers so.
abbrev pub Effect : Type 1
Effect = (V : Type 0) (O : V → Type 0) → ((v : V) → Ghosts (O v)) → IndicesToIds → (old new : Module (SectionEntry V O)) → Result (Unit {0}) Error → Type 0

module _ {V : Type 0} {O : V → Type 0} (G : (v : V) → Ghosts (O v)) where
  -- the bytes were read as this module, and these are the ids of its items by their indices
  pub record IsHanded (f : Flags) (Gives : ℕ → InstrLocId → Type 0) (bytes : List ℕ) (m : Module (SectionEntry V O)) (ids : IndicesToIds) : Type 0 where
    pub read : HoldsParsed G f Gives bytes m
    pub types : ℕ
    pub counted : HasTypesRead bytes types
    pub numbered : IsNumbered types (contents_of m) ids

  -- a hook that does this was handed what was read, left this module of it, and answered so
  pub record HasRun (does : Effect) (f : Flags) (Gives : ℕ → InstrLocId → Type 0) (bytes : List ℕ) (left : Module (SectionEntry V O)) (answer : Result (Unit {0}) Error) : Type 0 where
    pub module_read : Module (SectionEntry V O)
    pub ids : IndicesToIds
    pub handed : IsHanded f Gives bytes module_read ids
    pub did : does V O G ids module_read left answer

  -- a module is what the hook left where it answered Ok; a refusal is one of reading, or the hook's own
  abbrev pub RunsHook : (does : Effect) → Flags → (Gives : ℕ → InstrLocId → Type 0) → (bytes : List ℕ) → Result (Module (SectionEntry V O)) Error → Type 0
  RunsHook does f Gives bytes (Ok m) = HasRun does f Gives bytes m (Ok tt)
  RunsHook does f Gives bytes (Err e) = RefusesBytes (config_of f) bytes e ⊎ ((left : Module (SectionEntry V O)) × HasRun does f Gives bytes left (Err e))
