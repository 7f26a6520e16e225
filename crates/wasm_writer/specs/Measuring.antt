-- How many bytes the writer appends for a section, told before one is written (Binary Format > Modules).
use Rattle.std.specs.Prelude.{◌≡◌, ℕ, ◌+◌, List, length, map, Result, Ok, Err}
use Rattle.wasm_forms.specs.declared.error.WireError.{WireError}
use Rattle.wasm_forms.specs.declared.error.WireError.TheVariants.{Malformed, Memory, TooLarge}
use Rattle.wasm_entries.specs.Record.{group, import_entry, table_entry, global_entry, export_entry, element_entry, data_entry}
use Rattle.wasm_forms.specs.Spelling.{number_bytes}
use Rattle.wasm_frames.specs.Record.{Body}
use Rattle.wasm_frames.specs.Frames as frames
use Rattle.wasm_frames.specs.Frames.{CustomSection, Types, Imports, Functions, Tables, Memories, Globals, Exports, Start, Elements, Code, DataSegments, DataCount, Tags}
use Rattle.wasm_writer.specs.Spelling.{spelled, listed, SectionFits, count_place, first_body, placed_bodies, range_of}
use Rattle.wasm_writer.specs.declared.places.CodePlaces.{CodePlaces}
use Rattle.wasm_writer.specs.declared.measuring.Section.{Section}
use Rattle.wasm_writer.specs.declared.measuring.Section.TheVariants as given

-- so many bytes
abbrev pub body_len : Body → ℕ
body_len b = length b.bytes

-- how many bytes a block has with so many bytes in it: the count of these among them
abbrev pub size_with_count : ℕ → ℕ
size_with_count n = length (number_bytes n) + n

-- a custom section with this name and so many bytes behind it
pub record IsCustomOf (name : List ℕ) (len : ℕ) (s : frames.Section) : Type 0 where
  pub bytes : List ℕ
  pub is : s ≡ CustomSection (record { name = name; bytes = bytes })
  pub long : length bytes ≡ len

-- a code section whose bodies have these lengths, wherever they start
pub record IsCodeOf (lengths : List ℕ) (s : frames.Section) : Type 0 where
  pub bodies : List Body
  pub is : s ≡ Code bodies
  pub long : map body_len bodies ≡ lengths

-- the section is one of those that were given
abbrev pub IsOf : Section → frames.Section → Type 0
IsOf (given.Custom name len) s = IsCustomOf name.now len s
IsOf (given.Types groups) s = s ≡ Types (map group groups.now)
IsOf (given.Imports imports) s = s ≡ Imports (map import_entry imports.now)
IsOf (given.Functions functions) s = s ≡ Functions functions.now
IsOf (given.Tables tables) s = s ≡ Tables (map table_entry tables.now)
IsOf (given.Memories memories) s = s ≡ Memories memories.now
IsOf (given.Tags tags) s = s ≡ Tags tags.now
IsOf (given.Globals globals) s = s ≡ Globals (map global_entry globals.now)
IsOf (given.Exports exports) s = s ≡ Exports (map export_entry exports.now)
IsOf (given.Start function) s = s ≡ Start function
IsOf (given.Elements elements) s = s ≡ Elements (map element_entry elements.now)
IsOf (given.DataCount count) s = s ≡ DataCount count
IsOf (given.Code lengths) s = IsCodeOf lengths.now s
IsOf (given.Data segments) s = s ≡ DataSegments (map data_entry segments.now)

-- what the writer appends for a section: nothing where it would list nothing
abbrev pub appended : frames.Section → List ℕ
appended (CustomSection c) = spelled (CustomSection c)
appended (Types gs) = listed Types gs
appended (Imports is) = listed Imports is
appended (Functions fs) = listed Functions fs
appended (Tables ts) = listed Tables ts
appended (Memories ms) = listed Memories ms
appended (Globals gs) = listed Globals gs
appended (Exports es) = listed Exports es
appended (Start f) = spelled (Start f)
appended (Elements es) = listed Elements es
appended (Code bs) = listed Code bs
appended (DataSegments ds) = listed DataSegments ds
appended (DataCount n) = spelled (DataCount n)
appended (Tags ts) = listed Tags ts

-- told: so many bytes are appended, and the section fits; too large: it doesn't fit; nothing else is answered
abbrev pub Tells : Result ℕ WireError → frames.Section → Type 0
Tells (Ok n) s = (n ≡ length (appended s)) × SectionFits s
Tells (Err TooLarge) s = SectionFits s → ⊥
Tells (Err Malformed) s = ⊥
Tells (Err (Memory e)) s = ⊥

-- told: where the parts of the code section stand that begins at this place, and it fits; too large: it doesn't fit; for want of memory: it fits
abbrev pub TellsPlaces : Result CodePlaces WireError → ℕ → List Body → Type 0
TellsPlaces (Ok p) place bs = (p.count ≡ count_place place bs) × (p.bodies.items ≡ map range_of (placed_bodies (first_body place bs) bs)) × SectionFits (Code bs)
TellsPlaces (Err TooLarge) place bs = SectionFits (Code bs) → ⊥
TellsPlaces (Err Malformed) place bs = ⊥
TellsPlaces (Err (Memory e)) place bs = SectionFits (Code bs)
