-- A section written from records, and the sections of a module one behind the other.
use Rattle.std.proofs.Common.{◌≡◌, ℕ, List, [], ◌∷◌, ◌++◌, map, refl, sym, ap, ◌∙◌, subst}
use Rattle.std.specs.Prelude.{All, IfSome, Option, Some, None}
use Rattle.std.proofs.lemmas.List.{append-nil}
use Rattle.std.proofs.lemmas.List.Elements.{filter-append}
use Rattle.wasm_entries.specs.Record.{Group, data_entry, element_entry, export_entry, global_entry, import_entry, table_entry}
use Rattle.wasm_entries.specs.declared.record.RawLimits.{RawLimits}
use Rattle.wasm_frames.specs.Frames.{Section, CustomSection, Types, Imports, Functions, Tables, Memories, Globals, Exports, Start, Elements, Code, DataSegments, DataCount, Tags}
use Rattle.wasm_frames.specs.Record as wire
use Rattle.wasm_writer.specs.Spelling.{SectionFits, listed, spelled}
use Rattle.wasm_wire.specs.ModuleSpelling.{before_code, customs_behind, customs_of, group_of, if_any, if_given, is_in, standard_sections}
use Rattle.wasm_wire.specs.declared.written.CustomGroup.TheVariants as group
use Rattle.wasm_wire.proofs.ModuleWritten.{grown, listed_first, listed_grown}
use Rattle.walrus_base.specs.Arena.{items}
use Rattle.walrus_base.specs.ModuleTypes.{type_slots}
use Rattle.walrus_code.specs.Names.{Lookup}
use Rattle.walrus_contents.specs.View.{parts_view}
use Rattle.walrus_contents.specs.declared.parts.Parts.{Parts}
use Rattle.walrus_groups.specs.Indexed.{AreIndexed}
use Rattle.walrus_items.specs.Data.{data_segments}
use Rattle.walrus_items.specs.Elements.{elements}
use Rattle.walrus_items.specs.Exports.{exports}
use Rattle.walrus_items.specs.Globals.{globals}
use Rattle.walrus_items.specs.Memories.{memories}
use Rattle.walrus_items.specs.Tables.{tables}
use Rattle.walrus_items.specs.Tags.{tags}
use Rattle.walrus_writing.specs.Customs.{made_sections, sections_of}
use Rattle.walrus_writing.specs.declared.customs.Payloads.{Payloads}
use Rattle.walrus_writing.specs.BySection.{AreElements, AreExports, AreGlobals, AreImports, AreMemories, AreSegments, AreTables, AreTags, Stand, Told, Writes, WritesAll, WritesBack, WritesFront, told_module}

-- ---- one section

-- the section of these records was written from a slice of them
pub wrote : {W E : Type 0} (make : List E → Section) (view : List W → List E) (Said : List W → Type 0) (raw lent : List W) (old new : List ℕ)
    → lent ≡ raw → Said raw → (new ≡ old ++ listed make (view lent)) × SectionFits (make (view lent)) → Writes make view Said old new
wrote make view Said raw lent old new same said w = record { raw = raw; said = said; appends = subst (λ l. new ≡ old ++ listed make (view l)) same w.0; fits = subst (λ l. SectionFits (make (view l))) same w.1 }

-- the section of a number, where there is one
pub given : (make : ℕ → Section) (n : ℕ) (old new : List ℕ) → new ≡ old ++ spelled (make n) → SectionFits (make n)
    → Stand old new (if_given make (Some n)) × IfSome (Some n) (λ k. SectionFits (make k))
given make n old new w fits = (w ∙ ap (λ l. old ++ l) (sym (append-nil (spelled (make n)))), fits)

-- ---- all sections

pub all_stand : (p : Parts) (names : Lookup) (functions : List ℕ) (start count : Option ℕ) (bodies : List wire.Body) (customs : List wire.Custom) (w0 w1 w2 w3 w4 w5 w6 w7 w8 w9 w10 w11 w12 w13 w14 w15 w16 w17 : List ℕ)
    → All (λ (c : wire.Custom). SectionFits (CustomSection c)) customs
    → Stand w0 w1 (map CustomSection (group_of group.Dylink customs))
    → Writes Types (λ (l : List Group). l) (AreIndexed names (items (type_slots p.types.now))) w1 w2
    → Writes Imports (map import_entry) (AreImports p names) w2 w3
    → (w4 ≡ w3 ++ listed Functions functions) × SectionFits (Functions functions)
    → Writes Tables (map table_entry) (AreTables names (items (tables p.tables.now))) w4 w5
    → Writes Memories (λ (l : List RawLimits). l) (AreMemories (items (memories p.memories.now))) w5 w6
    → Writes Tags (λ (l : List ℕ). l) (AreTags names (items (tags p.tags.now))) w6 w7
    → Writes Globals (map global_entry) (AreGlobals names (items (globals p.globals.now))) w7 w8
    → Writes Exports (map export_entry) (AreExports names (items (exports p.exports.now))) w8 w9
    → Stand w9 w10 (if_given Start start) × IfSome start (λ f. SectionFits (Start f))
    → Writes Elements (map element_entry) (AreElements names (parts_view p).tables (items (elements p.elements.now))) w10 w11
    → Stand w11 w12 (if_given DataCount count) × IfSome count (λ n. SectionFits (DataCount n))
    → Stand w12 w13 (if_any Code bodies) × SectionFits (Code bodies)
    → Writes DataSegments (map data_entry) (AreSegments names (items (data_segments p.data_.now))) w13 w14
    → Stand w14 w15 (map CustomSection (group_of group.Names customs))
    → Stand w15 w16 (map CustomSection (group_of group.Producers customs))
    → Stand w16 w17 (map CustomSection (group_of group.Others customs))
    → WritesAll p names functions start count bodies customs w0 w17
all_stand p names functions start count bodies customs w0 w1 w2 w3 w4 w5 w6 w7 w8 w9 w10 w11 w12 w13 w14 w15 w16 w17 fit dylinks typed imported owned tabled remembered tagged known exported started listed counted code segments named produced others =
    let told : Told p names = record {
      types = typed.raw;
      types_are = typed.said;
      imports_raw = imported.raw;
      imports_are = imported.said;
      tables_raw = tabled.raw;
      tables_are = tabled.said;
      memories_raw = remembered.raw;
      memories_are = remembered.said;
      tags_raw = tagged.raw;
      tags_are = tagged.said;
      globals_raw = known.raw;
      globals_are = known.said;
      exports_raw = exported.raw;
      exports_are = exported.said;
      elements_raw = listed.raw;
      elements_are = listed.said;
      segments_raw = segments.raw;
      segments_are = segments.said;
    } in
    let m : wire.Module = told_module told functions start count bodies customs in
    let d1 : List Section = if_any Types m.types in
    let h1 = listed_first w1 w2 Types _ m.types refl typed.appends in
    let h2 = listed_grown w1 w2 w3 d1 Imports _ m.imports refl h1 imported.appends in
    let d2 : List Section = d1 ++ if_any Imports m.imports in
    let h3 = listed_grown w1 w3 w4 d2 Functions _ m.functions refl h2 owned.0 in
    let d3 : List Section = d2 ++ if_any Functions m.functions in
    let h4 = listed_grown w1 w4 w5 d3 Tables _ m.tables refl h3 tabled.appends in
    let d4 : List Section = d3 ++ if_any Tables m.tables in
    let h5 = listed_grown w1 w5 w6 d4 Memories _ m.memories refl h4 remembered.appends in
    let d5 : List Section = d4 ++ if_any Memories m.memories in
    let h6 = listed_grown w1 w6 w7 d5 Tags _ m.tags refl h5 tagged.appends in
    let d6 : List Section = d5 ++ if_any Tags m.tags in
    let h7 = listed_grown w1 w7 w8 d6 Globals _ m.globals refl h6 known.appends in
    let d7 : List Section = d6 ++ if_any Globals m.globals in
    let h8 = listed_grown w1 w8 w9 d7 Exports _ m.exports refl h7 exported.appends in
    let d8 : List Section = d7 ++ if_any Exports m.exports in
    let h9 = grown w1 w9 w10 d8 (if_given Start start) h8 started.0 in
    let d9 : List Section = d8 ++ if_given Start start in
    let h10 = listed_grown w1 w10 w11 d9 Elements _ m.elements refl h9 listed.appends in
    let d10 : List Section = d9 ++ if_any Elements m.elements in
    let h11 = grown w1 w11 w12 d10 (if_given DataCount count) h10 counted.0 in
    let h12 = grown w1 w12 w13 (before_code m) (if_any Code bodies) h11 code.0 in
    let h13 = listed_grown w1 w13 w14 (before_code m ++ if_any Code bodies) DataSegments _ m.data_segments refl h12 segments.appends in
    let front = grown w0 w1 w14 (customs_of group.Dylink m) (standard_sections m) dylinks h13 in
    let two = grown w14 w15 w16 (customs_of group.Names m) (customs_of group.Producers m) named produced in
    let behind = grown w14 w16 w17 (customs_of group.Names m ++ customs_of group.Producers m) (customs_of group.Others m) two others in
    record {
      told = told;
      stand = grown w0 w14 w17 (customs_of group.Dylink m ++ standard_sections m) (customs_behind m) front behind;
      fit = record {
        types = typed.fits;
        imports = imported.fits;
        functions = owned.1;
        tables = tabled.fits;
        memories = remembered.fits;
        tags = tagged.fits;
        globals = known.fits;
        exports = exported.fits;
        start = started.1;
        elements = listed.fits;
        data_count = counted.1;
        bodies = code.1;
        data_segments = segments.fits;
        customs = fit;
      };
    }

-- those that are made are none of dynamic linking
pub none_made : (names producers : List ℕ) → group_of group.Dylink (made_sections names producers) ≡ []
none_made [] [] = refl
none_made [] (b ∷ bs) = refl
none_made (a ∷ as_) [] = refl
none_made (a ∷ as_) (b ∷ bs) = refl

same_dylinks : (own : List wire.Custom) (payloads : Option Payloads) → group_of group.Dylink own ≡ group_of group.Dylink (own ++ sections_of payloads)
same_dylinks own None = ap (group_of group.Dylink) (sym (append-nil own))
same_dylinks own (Some made) =
    sym
    (filter-append (λ (c : wire.Custom). is_in group.Dylink c.name) own (made_sections made.names.items made.producers.items)
    ∙ ap (λ (l : List wire.Custom). group_of group.Dylink own ++ l) (none_made made.names.items made.producers.items)
    ∙ append-nil (group_of group.Dylink own))

-- those before the code, the code, and those behind it, with custom sections that are made
pub in_turn : (p : Parts) (names : Lookup) (functions : List ℕ) (start count : Option ℕ) (bodies : List wire.Body) (own : List wire.Custom) (payloads : Option Payloads) (old front coded all : List ℕ)
    → WritesFront p names functions start count own old front → Stand front coded (if_any Code bodies) × SectionFits (Code bodies) → WritesBack p names (own ++ sections_of payloads) coded all
    → WritesAll p names functions start count bodies (own ++ sections_of payloads) old all
in_turn p names functions start count bodies own payloads old front coded all f code b =
    all_stand p names functions start count bodies (own ++ sections_of payloads) old f.behind_dylinks f.behind_types f.behind_imports f.behind_functions f.behind_tables f.behind_memories f.behind_tags f.behind_globals f.behind_exports f.behind_start f.behind_elements front coded b.behind_segments b.behind_names b.behind_producers all
    b.fit (subst (λ (l : List wire.Custom). Stand old f.behind_dylinks (map CustomSection l)) (same_dylinks own payloads) f.dylinks_stand)
    f.types_stand f.imports_stand f.functions_stand f.tables_stand f.memories_stand f.tags_stand f.globals_stand f.exports_stand f.start_stands f.elements_stand f.count_stands code b.segments_stand b.names_stand b.producers_stand b.others_stand
