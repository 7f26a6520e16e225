-- What edits say, and which bytes say them: records of a byte, a size and so many bytes.
use Rattle.std.specs.Prelude.{◌≡◌, ℕ, List, [], ◌∷◌, Bool, Option, Some, None, option_map, nat_eq, if◌then◌else◌, ◌||◌}
use Rattle.std.specs.Borrow.{Bor}
use Rattle.wasm_forms.specs.Grammar.{Block, Byte, Form, Is, IsRow, U32, at, name, ◌then◌}
use Rattle.wasm_forms.specs.Reading.{◌>>=◌}
use Rattle.wasm_entries.specs.Forms.{data_form, export_form, global_form}
use Rattle.wasm_entries.specs.Record.{Export, Global, Segment, data_entry, export_entry, global_entry}
use Rattle.wasm_entries.specs.TypeForms.{memory_type}
use Rattle.wasm_entries.specs.declared.record.RawLimits.{RawLimits}
use Rattle.wasm_frames.specs.Frames.{Section}
use Rattle.wasm_frames.specs.Steps.{content_at, section_record, whole}
use Rattle.walrus_edit_list.specs.declared.numbers.TheConstants.{FUNCTION, SET, DELETE, BRING, NAME, PRODUCER, NO_PRODUCERS, FRONT, OF_CUSTOM, OF_TYPE, OF_IMPORT, OF_TABLE, OF_MEMORY, OF_GLOBAL, OF_EXPORT, OF_START, OF_ELEMENT, OF_FUNCTION, OF_DATA, OF_TAG, OF_MODULE}
use Rattle.walrus_edit_list.specs.declared.edit.Edit.{Edit}
use Rattle.walrus_edit_list.specs.declared.edit.Edit.TheVariants as edits
use Rattle.walrus_edit_list.specs.declared.edit.Replacement.{Replacement}
use Rattle.walrus_edit_list.specs.declared.edit.Replacement.TheVariants as sets
use Rattle.walrus_edit_list.specs.declared.edit.Deletion.{Deletion}
use Rattle.walrus_edit_list.specs.declared.edit.Deletion.TheVariants as deletes
use Rattle.walrus_edit_list.specs.declared.edit.Naming.{Naming}
use Rattle.walrus_edit_list.specs.declared.edit.Naming.TheVariants as names

-- what is written anew: its id, and what it is to be
pub data Setting : Type 0 where
  SetsCustom : ℕ → List ℕ → Setting
  SetsImport : ℕ → (from name : List ℕ) → Setting
  SetsExport : ℕ → Export → Setting
  SetsFunction : ℕ → (code : List ℕ) → Setting
  SetsGlobal : ℕ → Global → Setting
  SetsMemory : ℕ → RawLimits → Setting
  SetsData : ℕ → Segment → Setting

-- what gets a name or loses it
pub data Named : Type 0 where
  TheModule : Named
  The : (what id : ℕ) → Named

-- what an edit says
pub data Said : Type 0 where
  Adds : Section → Said
  AddsFunction : (ty : ℕ) → (code : List ℕ) → Said
  Sets : Setting → Said
  Deletes : (what id : ℕ) → Said
  DeletesStart : Said
  BringsFunction : ℕ → (from name : List ℕ) → Said
  Names : Named → Option (List ℕ) → Said
  AddsProducer : (field name version : List ℕ) → Said
  ClearsProducers : Said
  Fronts : ℕ → (operators : List ℕ) → Said

-- ---- what an edit in memory says

abbrev pub setting_seen : Replacement → Setting
setting_seen (sets.Custom id bytes) = SetsCustom id bytes.now
setting_seen (sets.Import id from name) = SetsImport id from.now name.now
setting_seen (sets.Export id export) = SetsExport id (export_entry export)
setting_seen (sets.Function id code) = SetsFunction id code.now
setting_seen (sets.Global id global) = SetsGlobal id (global_entry global)
setting_seen (sets.Memory id limits) = SetsMemory id limits
setting_seen (sets.Data id segment) = SetsData id (data_entry segment)

abbrev pub deletion_seen : Deletion → Said
deletion_seen (deletes.Custom id) = Deletes OF_CUSTOM id
deletion_seen (deletes.Export id) = Deletes OF_EXPORT id
deletion_seen deletes.Start = DeletesStart
deletion_seen (deletes.Element id) = Deletes OF_ELEMENT id
deletion_seen (deletes.Data id) = Deletes OF_DATA id

-- what a naming in memory names
abbrev pub named_seen : Naming → Named
named_seen (names.Type i n) = The OF_TYPE i
named_seen (names.Table i n) = The OF_TABLE i
named_seen (names.Memory i n) = The OF_MEMORY i
named_seen (names.Global i n) = The OF_GLOBAL i
named_seen (names.Element i n) = The OF_ELEMENT i
named_seen (names.Function i n) = The OF_FUNCTION i
named_seen (names.Data i n) = The OF_DATA i
named_seen (names.Tag i n) = The OF_TAG i
named_seen (names.Module n) = TheModule

-- a name that is lent, as its bytes, or none
abbrev pub name_given : Option (Bor (List ℕ)) → Option (List ℕ)
name_given n = option_map (λ x. x.now) n

-- the name that it gives, or none
abbrev pub given_seen : Naming → Option (List ℕ)
given_seen (names.Type i n) = name_given n
given_seen (names.Table i n) = name_given n
given_seen (names.Memory i n) = name_given n
given_seen (names.Global i n) = name_given n
given_seen (names.Element i n) = name_given n
given_seen (names.Function i n) = name_given n
given_seen (names.Data i n) = name_given n
given_seen (names.Tag i n) = name_given n
given_seen (names.Module n) = name_given n

abbrev pub naming_seen : Naming → Said
naming_seen naming = Names (named_seen naming) (given_seen naming)

abbrev pub edit_seen : Edit → Said
edit_seen (edits.Add section) = Adds (section_record section)
edit_seen (edits.AddFunction ty code) = AddsFunction ty code.now
edit_seen (edits.Set replacement) = Sets (setting_seen replacement)
edit_seen (edits.Delete deletion) = deletion_seen deletion
edit_seen (edits.BringFunction id from name) = BringsFunction id from.now name.now
edit_seen (edits.Name naming) = naming_seen naming
edit_seen (edits.AddProducer field name version) = AddsProducer field.now name.now version.now
edit_seen edits.ClearProducers = ClearsProducers
edit_seen (edits.Front id operators) = Fronts id operators.now

-- ---- what bytes say

-- a byte, and a block
abbrev pub Record : Type 0
Record = ℕ × List ℕ

abbrev pub record_form : Form Record
record_form = Byte then Block

-- the sections that are edits: custom ones, types, imports, globals, exports, start, elements and data
abbrev pub is_added : ℕ → Bool
is_added number = nat_eq number OF_CUSTOM || nat_eq number OF_TYPE || nat_eq number OF_IMPORT || nat_eq number OF_GLOBAL
    || nat_eq number OF_EXPORT || nat_eq number OF_START || nat_eq number OF_ELEMENT || nat_eq number OF_DATA

-- what is written anew: what it is, its id, and all bytes behind that
unfoldable pub setting_of : ℕ → ℕ → List ℕ → Option Setting
setting_of what id bytes = if nat_eq what OF_CUSTOM then Some (SetsCustom id bytes)
    else (if nat_eq what OF_IMPORT then (whole (name then name) bytes >>= λ n. Some (SetsImport id n.0 n.1))
    else (if nat_eq what OF_MEMORY then (whole memory_type bytes >>= λ l. Some (SetsMemory id l))
    else (if nat_eq what OF_GLOBAL then (whole global_form bytes >>= λ g. Some (SetsGlobal id g))
    else (if nat_eq what OF_EXPORT then (whole export_form bytes >>= λ e. Some (SetsExport id e))
    else (if nat_eq what OF_FUNCTION then Some (SetsFunction id bytes)
    else (if nat_eq what OF_DATA then (whole data_form bytes >>= λ s. Some (SetsData id s))
    else None))))))

unfoldable pub setting_at : List ℕ → Option Setting
setting_at bytes = at (Byte then U32) bytes >>= λ x. setting_of x.0.0 x.0.1 x.1

-- a custom section, an export, a segment of elements or of data goes, by its id
abbrev pub deletes_id : ℕ → Bool
deletes_id what = nat_eq what OF_CUSTOM || nat_eq what OF_EXPORT || nat_eq what OF_ELEMENT || nat_eq what OF_DATA

-- this is said where there are no bytes
abbrev pub by_nothing : Said → List ℕ → Option Said
by_nothing e [] = Some e
by_nothing e (b ∷ bs) = None

-- what goes: its id, but the start has none
unfoldable pub deletion_of : ℕ → List ℕ → Option Said
deletion_of what bytes = if nat_eq what OF_START then by_nothing DeletesStart bytes
    else (if deletes_id what then (whole U32 bytes >>= λ id. Some (Deletes what id)) else None)

unfoldable pub deletion_at : List ℕ → Option Said
deletion_at bytes = at Byte bytes >>= λ x. deletion_of x.0 x.1

-- a function comes to be imported: 0, its id, and two names
unfoldable pub bringing_at : List ℕ → Option Said
bringing_at bytes = at (Byte then U32) bytes >>= λ x. whole (name then name) x.1 >>= λ n.
    if nat_eq x.0.0 0 then Some (BringsFunction x.0.1 n.0 n.1) else None

-- what has a name, by its id; the module's is 0
unfoldable pub named : ℕ → ℕ → Option Named
named what id = if nat_eq what OF_MODULE then (if nat_eq id 0 then Some TheModule else None)
    else (if nat_eq what OF_TYPE || nat_eq what OF_TABLE || nat_eq what OF_MEMORY || nat_eq what OF_GLOBAL || nat_eq what OF_ELEMENT
    || nat_eq what OF_FUNCTION || nat_eq what OF_DATA || nat_eq what OF_TAG then Some (The what id) else None)

-- the name that all of these bytes are, or none where there are no bytes
unfoldable pub given_at : List ℕ → Option (Option (List ℕ))
given_at [] = Some None
given_at (b ∷ bs) = whole name (b ∷ bs) >>= λ n. Some (Some n)

-- what gets a name: what it is, its id, and the name, or nothing where it loses it
unfoldable pub naming_at : List ℕ → Option Said
naming_at bytes = at (Byte then U32) bytes >>= λ x. given_at x.1 >>= λ n. named x.0.0 x.0.1 >>= λ w. Some (Names w n)

-- a producer: its field, its name and its version
unfoldable pub producer_at : List ℕ → Option Said
producer_at bytes = at name bytes >>= λ f. whole (name then name) f.1 >>= λ n. Some (AddsProducer f.0 n.0 n.1)

-- what an edit that is no section says, by its byte and all bytes of its payload
unfoldable pub other_said : ℕ → List ℕ → Option Said
other_said number bytes = if nat_eq number FUNCTION then (at U32 bytes >>= λ x. Some (AddsFunction x.0 x.1))
    else (if nat_eq number SET then (setting_at bytes >>= λ s. Some (Sets s))
    else (if nat_eq number DELETE then deletion_at bytes
    else (if nat_eq number BRING then bringing_at bytes
    else (if nat_eq number NAME then naming_at bytes
    else (if nat_eq number PRODUCER then producer_at bytes
    else (if nat_eq number NO_PRODUCERS then by_nothing ClearsProducers bytes
    else (if nat_eq number FRONT then (at U32 bytes >>= λ x. Some (Fronts x.0 x.1))
    else None)))))))

-- what a record says: what a section lists comes, or the edit with this byte
unfoldable pub said : Record → Option Said
said r = if is_added r.0 then (content_at r.0 0 r.1 >>= λ s. Some (Adds s)) else other_said r.0 r.1

-- the edit in front, and the bytes behind it
unfoldable pub edit_at : List ℕ → Option (Said × List ℕ)
edit_at bytes = at record_form bytes >>= λ x. said x.0 >>= λ e. Some (e, x.1)

-- these bytes are a record, which says the edit
abbrev pub IsEdit : List ℕ → Said → Type 0
IsEdit bytes e = (r : Record) × Is record_form bytes r × (said r ≡ Some e)

-- these bytes are these edits, one behind the other
abbrev pub AreEdits : List ℕ → List Said → Type 0
AreEdits bytes es = IsRow IsEdit bytes es

-- bytes are at most one list of edits
abbrev pub HasOneList : Type 0
HasOneList = (bytes : List ℕ) (es fs : List Said) → AreEdits bytes es → AreEdits bytes fs → es ≡ fs
