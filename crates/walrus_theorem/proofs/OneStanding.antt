-- Each list of a text stands as its section does.
use Rattle.std.proofs.Common.{List, [], ◌∷◌, ◌++◌, map}
use Rattle.std.specs.Prelude.{All, codes}
use Rattle.std.proofs.lemmas.List.Elements.{All-head, All-nil}
use Rattle.wasm_forms.specs.Spelling.{vector_bytes}
use Rattle.wasm_entries.specs.TypeSpelling.{GroupStands}
use Rattle.wasm_entries.specs.Spelling.{ImportStands, TableStands, GlobalStands, ElementStands, DataStands}
use Rattle.wasm_frames.specs.Frames as frames
use Rattle.wasm_frames.specs.Frames.{Section, CustomSection}
use Rattle.wasm_writer.specs.Spelling.{SectionStands}
use Rattle.walrus_theorem.specs.Text.{Text, listed, if_some, custom, sections_of, unplaced, names_bytes, field_bytes}
use Rattle.walrus_model.proofs.OneList.{All-front, All-back}

pub record ListsStand (t : Text) : Type 0 where
  pub types : All GroupStands t.types
  pub imports : All ImportStands t.imports
  pub tables : All TableStands t.tables
  pub globals : All GlobalStands t.globals
  pub elements : All ElementStands t.elements
  pub data_segments : All DataStands t.data_segments

list_stands : {A : Type 0} (make : List A → Section) (xs : List A) → SectionStands (make []) → All SectionStands (listed make xs) → SectionStands (make xs)
list_stands make [] none h = none
list_stands make (x ∷ xs) none h = All-head SectionStands (make (x ∷ xs)) [] h

pub lists_stand : (t : Text) → All SectionStands (sections_of t) → ListsStand t
lists_stand t h =
    let p0 : List Section = map CustomSection t.dylinks in
    let p1 : List Section = p0 ++ listed frames.Types t.types in
    let p2 : List Section = p1 ++ listed frames.Imports t.imports in
    let p3 : List Section = p2 ++ listed frames.Functions t.functions in
    let p4 : List Section = p3 ++ listed frames.Tables t.tables in
    let p5 : List Section = p4 ++ listed frames.Memories t.memories in
    let p6 : List Section = p5 ++ listed frames.Tags t.tags in
    let p7 : List Section = p6 ++ listed frames.Globals t.globals in
    let p8 : List Section = p7 ++ listed frames.Exports t.exports in
    let p9 : List Section = p8 ++ if_some frames.Start t.start in
    let p10 : List Section = p9 ++ listed frames.Elements t.elements in
    let p11 : List Section = p10 ++ if_some frames.DataCount t.data_count in
    let p12 : List Section = p11 ++ listed frames.Code (map unplaced t.bodies) in
    let p13 : List Section = p12 ++ listed frames.DataSegments t.data_segments in
    let p14 : List Section = p13 ++ listed (λ bytes. custom (codes "name") bytes) (names_bytes t.names) in
    let p15 : List Section = p14 ++ listed (λ fields. custom (codes "producers") (vector_bytes field_bytes fields)) t.producers in
    let h15 : All SectionStands p15 = All-front SectionStands p15 (map CustomSection t.others) h in
    let h14 : All SectionStands p14 = All-front SectionStands p14 (listed (λ fields. custom (codes "producers") (vector_bytes field_bytes fields)) t.producers) h15 in
    let h13 : All SectionStands p13 = All-front SectionStands p13 (listed (λ bytes. custom (codes "name") bytes) (names_bytes t.names)) h14 in
    let h12 : All SectionStands p12 = All-front SectionStands p12 (listed frames.DataSegments t.data_segments) h13 in
    let h11 : All SectionStands p11 = All-front SectionStands p11 (listed frames.Code (map unplaced t.bodies)) h12 in
    let h10 : All SectionStands p10 = All-front SectionStands p10 (if_some frames.DataCount t.data_count) h11 in
    let h9 : All SectionStands p9 = All-front SectionStands p9 (listed frames.Elements t.elements) h10 in
    let h8 : All SectionStands p8 = All-front SectionStands p8 (if_some frames.Start t.start) h9 in
    let h7 : All SectionStands p7 = All-front SectionStands p7 (listed frames.Exports t.exports) h8 in
    let h6 : All SectionStands p6 = All-front SectionStands p6 (listed frames.Globals t.globals) h7 in
    let h5 : All SectionStands p5 = All-front SectionStands p5 (listed frames.Tags t.tags) h6 in
    let h4 : All SectionStands p4 = All-front SectionStands p4 (listed frames.Memories t.memories) h5 in
    let h3 : All SectionStands p3 = All-front SectionStands p3 (listed frames.Tables t.tables) h4 in
    let h2 : All SectionStands p2 = All-front SectionStands p2 (listed frames.Functions t.functions) h3 in
    let h1 : All SectionStands p1 = All-front SectionStands p1 (listed frames.Imports t.imports) h2 in
    record {
      types = list_stands frames.Types t.types (All-nil GroupStands) (All-back SectionStands p0 (listed frames.Types t.types) h1);
      imports = list_stands frames.Imports t.imports (All-nil ImportStands) (All-back SectionStands p1 (listed frames.Imports t.imports) h2);
      tables = list_stands frames.Tables t.tables (All-nil TableStands) (All-back SectionStands p3 (listed frames.Tables t.tables) h4);
      globals = list_stands frames.Globals t.globals (All-nil GlobalStands) (All-back SectionStands p6 (listed frames.Globals t.globals) h7);
      elements = list_stands frames.Elements t.elements (All-nil ElementStands) (All-back SectionStands p9 (listed frames.Elements t.elements) h10);
      data_segments = list_stands frames.DataSegments t.data_segments (All-nil DataStands) (All-back SectionStands p12 (listed frames.DataSegments t.data_segments) h13);
    }
