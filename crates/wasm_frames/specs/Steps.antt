-- Reading a module from left to right, step by step.
use Rattle.std.specs.Prelude.{◌≡◌, ℕ, zero, suc, ◌+◌, ◌-◌, List, [], ◌∷◌, ◌++◌, length, Option, Some, None, nat_eq, if◌then◌else◌, map}
use Rattle.wasm_forms.specs.Reading.{◌>>=◌, byte_at}
use Rattle.wasm_forms.specs.Grammar.{Form, Block, Vector, U32, name, at}
use Rattle.wasm_entries.specs.Record.{group, import_entry, table_entry, global_entry, export_entry, element_entry, data_entry}
use Rattle.wasm_entries.specs.TypeForms.{group_form, memory_type, tag_type}
use Rattle.wasm_entries.specs.Forms.{import_form, table_form, global_form, export_form, element_form, data_form}
use Rattle.wasm_frames.specs.declared.section.RawSection.{RawSection}
use Rattle.wasm_frames.specs.declared.section.RawSection.TheVariants as raw
use Rattle.wasm_frames.specs.Record.{Body, Custom, Module, body_record, custom_record}
use Rattle.wasm_frames.specs.Frames.{Section, CustomSection, Types, Imports, Functions, Tables, Memories, Globals, Exports, Start, Elements, Code, DataSegments, DataCount, Tags, with_section, header}
use Rattle.wasm_frames.specs.Until.{LacksHeader}

-- what a section in memory holds
abbrev pub section_record : RawSection → Section
section_record (raw.Custom c) = CustomSection (custom_record c)
section_record (raw.Types gs) = Types (map group gs.items)
section_record (raw.Imports is) = Imports (map import_entry is.items)
section_record (raw.Functions fs) = Functions fs.items
section_record (raw.Tables ts) = Tables (map table_entry ts.items)
section_record (raw.Memories ms) = Memories ms.items
section_record (raw.Globals gs) = Globals (map global_entry gs.items)
section_record (raw.Exports es) = Exports (map export_entry es.items)
section_record (raw.Start f) = Start f
section_record (raw.Elements es) = Elements (map element_entry es.items)
section_record (raw.Code bs) = Code (map body_record bs.items)
section_record (raw.DataSegments ds) = DataSegments (map data_entry ds.items)
section_record (raw.DataCount n) = DataCount n
section_record (raw.Tags ts) = Tags ts.items

-- what was read, if no bytes are left
abbrev pub used_up : {A : Type 0} → A × List ℕ → Option A
used_up (a, []) = Some a
used_up (a, b ∷ bs) = None

-- the value of the text that all of these bytes are
unfoldable pub whole : {A : Type 0} → Form A → List ℕ → Option A
whole f bytes = at f bytes >>= used_up

-- a name, and all bytes behind it
unfoldable pub custom_at : List ℕ → Option Custom
custom_at bytes = at name bytes >>= λ n. Some (record { name = n.0; bytes = n.1 })

-- a body, whose size stands at this place
unfoldable pub body_at : ℕ → List ℕ → Option (Body × List ℕ)
body_at place bytes = at Block bytes >>= λ c.
    Some (record { start = place + (length bytes - length c.1 - length c.0); bytes = c.0 }, c.1)

-- that many bodies, the first at this place
unfoldable pub bodies_at : ℕ → ℕ → List ℕ → Option (List Body × List ℕ)
bodies_at zero place bytes = Some ([], bytes)
bodies_at (suc n) place bytes = body_at place bytes >>= λ b. bodies_at n (place + (length bytes - length b.1)) b.1 >>= λ bs. Some (b.0 ∷ bs.0, bs.1)

-- the count of the bodies, which stands at this place, and these
unfoldable pub code_at : ℕ → List ℕ → Option (List Body × List ℕ)
code_at place bytes = at U32 bytes >>= λ n. bodies_at n.0 (place + (length bytes - length n.1)) n.1

-- the bodies that all of these bytes are, the count of which stands at this place
unfoldable pub whole_code : ℕ → List ℕ → Option (List Body)
whole_code place bytes = code_at place bytes >>= used_up

-- the text of this form that all of these bytes are, in a section of its kind
unfoldable pub content_of : {A : Type 0} → Form A → (A → Section) → List ℕ → Option Section
content_of f make bytes = whole f bytes >>= λ a. Some (make a)

-- the content of a section with this id, from this place on
unfoldable pub content_at : ℕ → ℕ → List ℕ → Option Section
content_at id place bytes = if nat_eq id 0 then (custom_at bytes >>= λ c. Some (CustomSection c))
    else (if nat_eq id 1 then content_of (Vector group_form) Types bytes
    else (if nat_eq id 2 then content_of (Vector import_form) Imports bytes
    else (if nat_eq id 3 then content_of (Vector U32) Functions bytes
    else (if nat_eq id 4 then content_of (Vector table_form) Tables bytes
    else (if nat_eq id 5 then content_of (Vector memory_type) Memories bytes
    else (if nat_eq id 6 then content_of (Vector global_form) Globals bytes
    else (if nat_eq id 7 then content_of (Vector export_form) Exports bytes
    else (if nat_eq id 8 then content_of U32 Start bytes
    else (if nat_eq id 9 then content_of (Vector element_form) Elements bytes
    else (if nat_eq id 10 then (whole_code place bytes >>= λ bs. Some (Code bs))
    else (if nat_eq id 11 then content_of (Vector data_form) DataSegments bytes
    else (if nat_eq id 12 then content_of U32 DataCount bytes
    else (if nat_eq id 13 then content_of (Vector tag_type) Tags bytes
    else None)))))))))))))

-- the section at this place
unfoldable pub section_at : ℕ → List ℕ → Option (Section × List ℕ)
section_at place bytes = byte_at bytes >>= λ i. at Block i.1 >>= λ c.
    content_at i.0 (place + (length bytes - length c.1 - length c.0)) c.0 >>= λ s. Some (s, c.1)

-- a module with the section at this place more
unfoldable pub next_at : ℕ → Module → List ℕ → Option (Module × List ℕ)
next_at place m bytes = section_at place bytes >>= λ s. Some (with_section m s.0, s.1)

-- what was read of the header: what stands behind it, or that it doesn't stand in front
abbrev pub ReadsHeader : {X : Type 0} → (X → List ℕ) → List ℕ → Option X → Type 0
ReadsHeader view bytes (Some x) = bytes ≡ header ++ view x
ReadsHeader view bytes None = LacksHeader bytes

-- what was found, seen by view, is what stands there
abbrev pub GoesOn : {X Y : Type 0} → (X → Y) → Option X → Option Y → Type 0
GoesOn view (Some x) read = read ≡ Some (view x)
GoesOn view None read = read ≡ None
