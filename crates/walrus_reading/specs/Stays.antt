-- That each index in what was read is declared, and leads to an item whose place has that number: while a module is read no item is deleted.
use Rattle.std.specs.Prelude.{ℕ, ◌+◌, ◌<◌, length, All, Option, Some, option_and_then, unwrap_or, ◌≡◌, ⊤}
use Rattle.wasm_forms.specs.declared.types.RawRef.{RawRef}
use Rattle.wasm_forms.specs.declared.types.RawVal.{RawVal}
use Rattle.wasm_entries.specs.declared.record.RawDesc.{RawDesc}
use Rattle.wasm_entries.specs.declared.record.RawDesc.TheVariants as descs
use Rattle.wasm_entries.specs.Record as entries
use Rattle.wasm_frames.specs.Record as wire
use Rattle.wasm_wire.specs.Indices.{IndicesHold}
use Rattle.wasm_wire.specs.declared.rules.counts.Counts.{Counts}
use Rattle.walrus_base.specs.Operators.{Types, Functions, Tables, Memories, Tags, Globals}
use Rattle.walrus_code.specs.FromRaw.{val_of}
use Rattle.walrus_code.specs.Names.{Lookup, named_val}
use Rattle.walrus_constants.specs.Named.{named_const, named_global, named_ref, named_table}
use Rattle.walrus_model.specs.Constants.{consts_of}
use Rattle.walrus_model.specs.Sections.{global_of, ref_of, space_of, table_of}

module _ (names : Lookup) where
  -- the index of a type
  abbrev pub TypeStays : ℕ → Type 0
  TypeStays t = names Types t ≡ Some t

  -- those in a reference type
  abbrev pub RefStays : RawRef → Type 0
  RefStays r = named_ref names (ref_of r) ≡ Some (ref_of r)

  -- those in a value type
  abbrev pub ValStays : RawVal → Type 0
  ValStays v = named_val names (val_of v) ≡ Some (val_of v)

  -- those in a constant expression
  abbrev pub ConstStays : entries.Expression → Type 0
  ConstStays e = named_const names (consts_of e) ≡ Some (consts_of e)

  -- those in a table: in its type and its initialiser
  abbrev pub TableStays : entries.Table → Type 0
  TableStays t = named_table names (table_of t) ≡ Some (table_of t)

  -- those in a global: in its type and its initialiser
  abbrev pub GlobalStays : entries.Global → Type 0
  GlobalStays g = named_global names (global_of g) ≡ Some (global_of g)

  -- the index of a function
  abbrev pub FunctionStays : ℕ → Type 0
  FunctionStays f = names Functions f ≡ Some f

  -- of active elements that of their table, which is table 0 where none is named, and those in their offset
  abbrev pub PlaceStays : entries.ElementMode → Type 0
  PlaceStays (entries.ActiveElements table offset) = (names Tables (unwrap_or table 0) ≡ Some (unwrap_or table 0)) × ConstStays offset
  PlaceStays entries.PassiveElements = ⊤
  PlaceStays entries.DeclaredElements = ⊤

  -- those in what a segment of elements lists
  abbrev pub ItemsStay : entries.Items → Type 0
  ItemsStay (entries.Functions fs) = All FunctionStays fs
  ItemsStay (entries.Expressions ty es) = RefStays ty × All ConstStays es

  -- those in an element segment
  abbrev pub ElementStays : entries.Element → Type 0
  ElementStays e = PlaceStays e.mode × ItemsStay e.items

  -- of active data that of its memory, and those in its offset
  abbrev pub ModeStays : entries.DataMode → Type 0
  ModeStays (entries.ActiveData memory offset) = (names Memories memory ≡ Some memory) × ConstStays offset
  ModeStays entries.PassiveData = ⊤

  -- those in a data segment
  abbrev pub DataStays : entries.Segment → Type 0
  DataStays d = ModeStays d.mode

  -- those in what an import brings
  abbrev pub DescStays : RawDesc → Type 0
  DescStays (descs.Function t) = TypeStays t
  DescStays (descs.Table t) = RefStays t.element
  DescStays (descs.Memory l) = ⊤
  DescStays (descs.Global g) = ValStays g.value
  DescStays (descs.Tag t) = TypeStays t

  -- the index of an export, in the space of its kind
  abbrev pub ExportStays : entries.Export → Type 0
  ExportStays e = names (space_of e.kind) e.index ≡ Some e.index

  -- the index of the start function, if there is one
  abbrev pub StartStays : Option ℕ → Type 0
  StartStays start = option_and_then (names Functions) start ≡ start

  -- so it is for all that sections say of these
  pub record AllStay (m : wire.Module) : Type 0 where
    pub imports : All (λ x. DescStays x.desc) m.imports
    pub functions : All TypeStays m.functions
    pub tables : All TableStays m.tables
    pub tags : All TypeStays m.tags
    pub globals : All GlobalStays m.globals
    pub exports : All ExportStays m.exports
    pub start : StartStays m.start
    pub elements : All ElementStays m.elements
    pub data_segments : All DataStays m.data_segments

  -- each of so many items of a space has the place of its index
  pub record AreNumbered (c : Counts) : Type 0 where
    pub types : (n : ℕ) → n < c.types → names Types n ≡ Some n
    pub functions : (n : ℕ) → n < c.functions → names Functions n ≡ Some n
    pub tables : (n : ℕ) → n < c.tables → names Tables n ≡ Some n
    pub memories : (n : ℕ) → n < c.memories → names Memories n ≡ Some n
    pub tags : (n : ℕ) → n < c.tags → names Tags n ≡ Some n
    pub globals : (n : ℕ) → n < c.globals → names Globals n ≡ Some n

-- the rules on indices say enough for that
abbrev pub RulesKeepIndices : Type 0
RulesKeepIndices = (names : Lookup) (c : Counts) (m : wire.Module) → AreNumbered names c → c.imported_globals + length m.globals ≡ c.globals → IndicesHold c m → AllStay names m
