-- What is written stands in the grammar: each section at its place, and any list of them behind a header.
use Rattle.std.proofs.Common.{◌≡◌, ℕ, suc, ◌+◌, List, [], ◌∷◌, length, refl, sym, ap, subst}
use Rattle.std.specs.List.{All}
use Rattle.std.specs.Str.{IsUtf8}
use Rattle.std.proofs.lemmas.List.Elements.{All-head, All-tail}
use Rattle.wasm_forms.specs.Grammar.{Is, U32, Vector}
use Rattle.wasm_forms.specs.Spelling.{number_bytes, block_bytes, row_bytes, vector_bytes}
use Rattle.wasm_forms.specs.Writing.{FitsLength, FitsVector, EachFits}
use Rattle.wasm_forms.proofs.Spelled.{number_stands, name_stands}
use Rattle.wasm_forms.proofs.Stands.{list_stands}
use Rattle.wasm_entries.specs.TypeForms.{group_form, memory_type, tag_type}
use Rattle.wasm_entries.specs.Forms.{import_form, table_form, global_form, export_form, element_form, data_form}
use Rattle.wasm_entries.specs.TypeSpelling.{group_bytes, limits_bytes, GroupFits, LimitsFit, GroupStands, LimitsStand}
use Rattle.wasm_entries.specs.Spelling.{import_bytes, table_bytes, global_bytes, export_bytes, element_bytes, data_bytes, ImportFits, TableFits, ExportFits, ElementFits, DataFits, IsIndex, ImportStands, TableStands, GlobalStands, ExportStands, ElementStands, DataStands}
use Rattle.wasm_entries.proofs.TypesStand.{group_stands}
use Rattle.wasm_entries.proofs.LimitsStand.{memory_stands, tag_stands}
use Rattle.wasm_entries.proofs.Entries.{import_stands, table_stands, global_stands, export_stands}
use Rattle.wasm_entries.proofs.Segments.{element_stands, data_stands, list_stands as small_stand}
use Rattle.wasm_frames.specs.Record.{Body, Custom}
use Rattle.wasm_frames.specs.Frames.{Section, CustomSection, Types, Imports, Functions, Tables, Memories, Globals, Exports, Start, Elements, Code, DataSegments, DataCount, Tags, id_of, IsCustom, AreBodies, IsCode, IsContent, IsSection, AreSections}
use Rattle.wasm_frames.specs.Spelling.{custom_bytes, body_bytes}
use Rattle.wasm_writer.specs.Spelling.{tag_bytes, content_bytes, spelled, all_spelled, CanBeWritten, placed_bodies, placed, all_placed, WrittenFrames}

-- ---- bodies

bodies_stand : (place : ℕ) (bs : List Body) → EachFits (λ b. FitsLength b.bytes) bs → AreBodies place (row_bytes body_bytes bs) (placed_bodies place bs)
bodies_stand place [] h = refl
bodies_stand place (b ∷ bs) h = (
  body_bytes b,
  (
    row_bytes body_bytes bs,
    (
      refl,
      record {
        size = number_bytes (length b.bytes);
        spelled = refl;
        sized = number_stands (length b.bytes) h.0;
        starts = refl;
      },
      bodies_stand (place + length (body_bytes b)) bs h.1,
    ),
  ),
)

length-placed : (place : ℕ) (bs : List Body) → length (placed_bodies place bs) ≡ length bs
length-placed place [] = refl
length-placed place (b ∷ bs) = ap suc (length-placed (place + length (body_bytes b)) bs)

abbrev Counts : List ℕ → ℕ → Type 0
Counts count n = Is U32 count n

code_stands : (place : ℕ) (bs : List Body) → FitsVector (λ b. FitsLength b.bytes) bs → IsCode place (vector_bytes body_bytes bs) (placed_bodies (place + length (number_bytes (length bs))) bs)
code_stands place bs h = record {
  count = number_bytes (length bs);
  row = row_bytes body_bytes bs;
  spelled = refl;
  counted = subst (Counts (number_bytes (length bs))) (sym (length-placed (place + length (number_bytes (length bs))) bs)) (number_stands (length bs) h.0);
  bodies = bodies_stand (place + length (number_bytes (length bs))) bs h.1;
}

custom_stands : (c : Custom) → FitsLength c.name → IsUtf8 c.name → IsCustom (custom_bytes c) c
custom_stands c short text = record { front = block_bytes c.name; spelled = refl; named = name_stands c.name text short }

-- ---- sections

-- where the content of a section begins
abbrev behind_size : ℕ → List ℕ → ℕ
behind_size place content = place + 1 + length (number_bytes (length content))

content_stands : (place : ℕ) (s : Section) → CanBeWritten s → IsContent (behind_size place (content_bytes s)) (content_bytes s) (placed place s)
content_stands place (CustomSection c) h = custom_stands c h.0.0 h.1
content_stands place (Types gs) h = list_stands group_form group_bytes GroupFits GroupStands group_stands gs h.0.0 h.1
content_stands place (Imports is) h = list_stands import_form import_bytes ImportFits ImportStands import_stands is h.0.0 h.1
content_stands place (Functions fs) h = small_stand U32 number_bytes IsIndex number_stands fs h.0.0 h.1
content_stands place (Tables ts) h = list_stands table_form table_bytes TableFits TableStands table_stands ts h.0.0 h.1
content_stands place (Memories ms) h = list_stands memory_type limits_bytes LimitsFit LimitsStand memory_stands ms h.0.0 h.1
content_stands place (Globals gs) h = small_stand global_form global_bytes GlobalStands global_stands gs h.0.0 h.1
content_stands place (Exports es) h = list_stands export_form export_bytes ExportFits ExportStands export_stands es h.0.0 h.1
content_stands place (Start f) h = number_stands f h.1
content_stands place (Elements es) h = list_stands element_form element_bytes ElementFits ElementStands element_stands es h.0.0 h.1
content_stands place (Code bs) h = code_stands (behind_size place (vector_bytes body_bytes bs)) bs h.0.0
content_stands place (DataSegments ds) h = list_stands data_form data_bytes DataFits DataStands data_stands ds h.0.0 h.1
content_stands place (DataCount n) h = number_stands n h.1
content_stands place (Tags ts) h = small_stand tag_type tag_bytes IsIndex tag_stands ts h.0.0 h.1

-- a section keeps its id where it is placed
id_placed : (place : ℕ) (s : Section) → id_of s ≡ id_of (placed place s)
id_placed place (CustomSection c) = refl
id_placed place (Types gs) = refl
id_placed place (Imports is) = refl
id_placed place (Functions fs) = refl
id_placed place (Tables ts) = refl
id_placed place (Memories ms) = refl
id_placed place (Globals gs) = refl
id_placed place (Exports es) = refl
id_placed place (Start f) = refl
id_placed place (Elements es) = refl
id_placed place (Code bs) = refl
id_placed place (DataSegments ds) = refl
id_placed place (DataCount n) = refl
id_placed place (Tags ts) = refl

section_stands : (place : ℕ) (s : Section) → CanBeWritten s → IsSection place (spelled s) (placed place s)
section_stands place s h = record {
  size = number_bytes (length (content_bytes s));
  content = content_bytes s;
  spelled = ap (λ i. i ∷ block_bytes (content_bytes s)) (id_placed place s);
  sized = number_stands (length (content_bytes s)) h.0.1;
  used = content_stands place s h;
}

sections_stand : (place : ℕ) (ss : List Section) → All CanBeWritten ss → AreSections place (all_spelled ss) (all_placed place ss)
sections_stand place [] h = refl
sections_stand place (s ∷ ss) h = (spelled s, (all_spelled ss, (refl, section_stands place s (All-head CanBeWritten s ss h), sections_stand (place + length (spelled s)) ss (All-tail CanBeWritten s ss h))))

pub written_frames_lem : WrittenFrames
written_frames_lem = λ ss can. record {
  rest = all_spelled ss;
  parts = all_placed 8 ss;
  headed = refl;
  framed = sections_stand 8 ss can;
  holds = refl;
}
