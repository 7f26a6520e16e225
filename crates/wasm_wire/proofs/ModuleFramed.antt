-- What is written of a module is framed as that module.
use Rattle.std.proofs.Common.{◌≡◌, ℕ, ◌+◌, List, [], ◌∷◌, ◌++◌, length, map, refl, sym, ap, ◌∙◌, subst, arith, append_assoc, length-append}
use Rattle.std.specs.Prelude.{Option, Some, None, IfSome, All}
use Rattle.std.proofs.lemmas.List.{append-nil, map-append}
use Rattle.std.proofs.lemmas.List.Elements.{All-nil, All-cons, All-append, All-map, All-filter}
use Rattle.wasm_entries.specs.declared.record.RawLimits.{RawLimits}
use Rattle.wasm_entries.specs.Record.{Group, Import, Table, Global, Export, Element, Segment}
use Rattle.wasm_frames.specs.Record.{Body, Custom, Module, no_sections}
use Rattle.wasm_frames.specs.Frames.{Section, CustomSection, Types, Imports, Functions, Tables, Memories, Globals, Exports, Start, Elements, Code, DataSegments, DataCount, Tags, id_of, with_section, gathered_onto, Frames}
use Rattle.wasm_writer.specs.Spelling.{spelled, all_spelled, SectionFits, SectionStands, CanBeWritten, first_body, placed_bodies, placed, all_placed}
use Rattle.wasm_writer.proofs.WrittenModule.{written_frames_lem}
use Rattle.wasm_wire.specs.declared.written.CustomGroup.{CustomGroup}
use Rattle.wasm_wire.specs.declared.written.CustomGroup.TheVariants as groups
use Rattle.wasm_wire.specs.ModuleSpelling.{is_in, group_of, if_any, if_given, customs_of, up_to_globals, before_code, standard_sections, customs_behind, sections_in_order, module_bytes, EachSection, ModuleFits, ModuleStands, code_place, as_written, ModuleFrames}

-- ---- sections one behind the other

pub spelled-append : (xs ys : List Section) → all_spelled (xs ++ ys) ≡ all_spelled xs ++ all_spelled ys
spelled-append [] ys = refl
spelled-append (x ∷ xs) ys = ap (λ l. spelled x ++ l) (spelled-append xs ys) ∙ sym (append_assoc (spelled x) (all_spelled xs) (all_spelled ys))

gathered-append : (m : Module) (xs ys : List Section) → gathered_onto m (xs ++ ys) ≡ gathered_onto (gathered_onto m xs) ys
gathered-append m [] ys = refl
gathered-append m (x ∷ xs) ys = gathered-append (with_section m x) xs ys

behind : (place : ℕ) (x : Section) (xs : List Section) → place + length (spelled x) + length (all_spelled xs) ≡ place + length (spelled x ++ all_spelled xs)
behind place x xs = omega (arith, length-append (spelled x) (all_spelled xs))

placed-append : (place : ℕ) (xs ys : List Section) → all_placed place (xs ++ ys) ≡ all_placed place xs ++ all_placed (place + length (all_spelled xs)) ys
placed-append place [] ys = let same : place ≡ place + 0 = omega arith in ap (λ (p : ℕ). all_placed p ys) same
placed-append place (x ∷ xs) ys = ap (λ (l : List Section). placed place x ∷ l)
    (placed-append (place + length (spelled x)) xs ys ∙ ap (λ (p : ℕ). all_placed (place + length (spelled x)) xs ++ all_placed p ys) (behind place x xs))

-- the one module with these sections more, written at this place, is the other
abbrev Gathers : ℕ → Module → List Section → Module → Type 0
Gathers place m ss n = gathered_onto m (all_placed place ss) ≡ n

gathers_both : (place : ℕ) (xs ys : List Section) (m n o : Module) → Gathers place m xs n → Gathers (place + length (all_spelled xs)) n ys o → Gathers place m (xs ++ ys) o
gathers_both place xs ys m n o h k =
    let after : ℕ = place + length (all_spelled xs) in
    ap (gathered_onto m) (placed-append place xs ys) ∙ gathered-append m (all_placed place xs) (all_placed after ys) ∙ ap (λ (l : Module). gathered_onto l (all_placed after ys)) h ∙ k

-- ---- each kind

more_ids : (done more : List Section) → map id_of done ++ map id_of more ≡ map id_of (done ++ more)
more_ids done more = sym (map-append id_of done more)

no_more : (done : List Section) → map id_of done ≡ map id_of (done ++ [])
no_more done = ap (map id_of) (sym (append-nil done))

gathers_types : (place : ℕ) (done : List Section) (m : Module) (xs : List Group) → Gathers place (record m { order = map id_of done; types = [] }) (if_any Types xs) (record m { order = map id_of (done ++ if_any Types xs); types = xs })
gathers_types place done m [] = ap (λ (o : List ℕ). record m { order = o; types = [] }) (no_more done)
gathers_types place done m (x ∷ xs) = ap (λ (o : List ℕ). record m { order = o; types = x ∷ xs }) (more_ids done (Types (x ∷ xs) ∷ []))

gathers_imports : (place : ℕ) (done : List Section) (m : Module) (xs : List Import) → Gathers place (record m { order = map id_of done; imports = [] }) (if_any Imports xs) (record m { order = map id_of (done ++ if_any Imports xs); imports = xs })
gathers_imports place done m [] = ap (λ (o : List ℕ). record m { order = o; imports = [] }) (no_more done)
gathers_imports place done m (x ∷ xs) = ap (λ (o : List ℕ). record m { order = o; imports = x ∷ xs }) (more_ids done (Imports (x ∷ xs) ∷ []))

gathers_functions : (place : ℕ) (done : List Section) (m : Module) (xs : List ℕ) → Gathers place (record m { order = map id_of done; functions = [] }) (if_any Functions xs) (record m { order = map id_of (done ++ if_any Functions xs); functions = xs })
gathers_functions place done m [] = ap (λ (o : List ℕ). record m { order = o; functions = [] }) (no_more done)
gathers_functions place done m (x ∷ xs) = ap (λ (o : List ℕ). record m { order = o; functions = x ∷ xs }) (more_ids done (Functions (x ∷ xs) ∷ []))

gathers_tables : (place : ℕ) (done : List Section) (m : Module) (xs : List Table) → Gathers place (record m { order = map id_of done; tables = [] }) (if_any Tables xs) (record m { order = map id_of (done ++ if_any Tables xs); tables = xs })
gathers_tables place done m [] = ap (λ (o : List ℕ). record m { order = o; tables = [] }) (no_more done)
gathers_tables place done m (x ∷ xs) = ap (λ (o : List ℕ). record m { order = o; tables = x ∷ xs }) (more_ids done (Tables (x ∷ xs) ∷ []))

gathers_memories : (place : ℕ) (done : List Section) (m : Module) (xs : List RawLimits) → Gathers place (record m { order = map id_of done; memories = [] }) (if_any Memories xs) (record m { order = map id_of (done ++ if_any Memories xs); memories = xs })
gathers_memories place done m [] = ap (λ (o : List ℕ). record m { order = o; memories = [] }) (no_more done)
gathers_memories place done m (x ∷ xs) = ap (λ (o : List ℕ). record m { order = o; memories = x ∷ xs }) (more_ids done (Memories (x ∷ xs) ∷ []))

gathers_tags : (place : ℕ) (done : List Section) (m : Module) (xs : List ℕ) → Gathers place (record m { order = map id_of done; tags = [] }) (if_any Tags xs) (record m { order = map id_of (done ++ if_any Tags xs); tags = xs })
gathers_tags place done m [] = ap (λ (o : List ℕ). record m { order = o; tags = [] }) (no_more done)
gathers_tags place done m (x ∷ xs) = ap (λ (o : List ℕ). record m { order = o; tags = x ∷ xs }) (more_ids done (Tags (x ∷ xs) ∷ []))

gathers_globals : (place : ℕ) (done : List Section) (m : Module) (xs : List Global) → Gathers place (record m { order = map id_of done; globals = [] }) (if_any Globals xs) (record m { order = map id_of (done ++ if_any Globals xs); globals = xs })
gathers_globals place done m [] = ap (λ (o : List ℕ). record m { order = o; globals = [] }) (no_more done)
gathers_globals place done m (x ∷ xs) = ap (λ (o : List ℕ). record m { order = o; globals = x ∷ xs }) (more_ids done (Globals (x ∷ xs) ∷ []))

gathers_exports : (place : ℕ) (done : List Section) (m : Module) (xs : List Export) → Gathers place (record m { order = map id_of done; exports = [] }) (if_any Exports xs) (record m { order = map id_of (done ++ if_any Exports xs); exports = xs })
gathers_exports place done m [] = ap (λ (o : List ℕ). record m { order = o; exports = [] }) (no_more done)
gathers_exports place done m (x ∷ xs) = ap (λ (o : List ℕ). record m { order = o; exports = x ∷ xs }) (more_ids done (Exports (x ∷ xs) ∷ []))

gathers_elements : (place : ℕ) (done : List Section) (m : Module) (xs : List Element) → Gathers place (record m { order = map id_of done; elements = [] }) (if_any Elements xs) (record m { order = map id_of (done ++ if_any Elements xs); elements = xs })
gathers_elements place done m [] = ap (λ (o : List ℕ). record m { order = o; elements = [] }) (no_more done)
gathers_elements place done m (x ∷ xs) = ap (λ (o : List ℕ). record m { order = o; elements = x ∷ xs }) (more_ids done (Elements (x ∷ xs) ∷ []))

gathers_segments : (place : ℕ) (done : List Section) (m : Module) (xs : List Segment) → Gathers place (record m { order = map id_of done; data_segments = [] }) (if_any DataSegments xs) (record m { order = map id_of (done ++ if_any DataSegments xs); data_segments = xs })
gathers_segments place done m [] = ap (λ (o : List ℕ). record m { order = o; data_segments = [] }) (no_more done)
gathers_segments place done m (x ∷ xs) = ap (λ (o : List ℕ). record m { order = o; data_segments = x ∷ xs }) (more_ids done (DataSegments (x ∷ xs) ∷ []))

gathers_start : (place : ℕ) (done : List Section) (m : Module) (o : Option ℕ) → Gathers place (record m { order = map id_of done; start = None }) (if_given Start o) (record m { order = map id_of (done ++ if_given Start o); start = o })
gathers_start place done m None = ap (λ (o : List ℕ). record m { order = o; start = None }) (no_more done)
gathers_start place done m (Some n) = ap (λ (o : List ℕ). record m { order = o; start = Some n }) (more_ids done (Start n ∷ []))

gathers_data_count : (place : ℕ) (done : List Section) (m : Module) (o : Option ℕ) → Gathers place (record m { order = map id_of done; data_count = None }) (if_given DataCount o) (record m { order = map id_of (done ++ if_given DataCount o); data_count = o })
gathers_data_count place done m None = ap (λ (o : List ℕ). record m { order = o; data_count = None }) (no_more done)
gathers_data_count place done m (Some n) = ap (λ (o : List ℕ). record m { order = o; data_count = Some n }) (more_ids done (DataCount n ∷ []))

gathers_code : (place : ℕ) (done : List Section) (m : Module) (bs : List Body)
    → Gathers place (record m { order = map id_of done; bodies = [] }) (if_any Code bs) (record m { order = map id_of (done ++ if_any Code bs); bodies = placed_bodies (first_body place bs) bs })
gathers_code place done m [] = ap (λ (o : List ℕ). record m { order = o; bodies = [] }) (no_more done)
gathers_code place done m (b ∷ bs) = ap (λ (o : List ℕ). record m { order = o; bodies = placed_bodies (first_body place (b ∷ bs)) (b ∷ bs) }) (more_ids done (Code (b ∷ bs) ∷ []))

gathers_customs : (place : ℕ) (m : Module) (cs : List Custom) → Gathers place m (map CustomSection cs) (record m { customs = m.customs ++ cs })
gathers_customs place m [] = ap (λ (l : List Custom). record m { customs = l }) (sym (append-nil m.customs))
gathers_customs place m (c ∷ cs) =
    gathers_customs (place + length (spelled (CustomSection c))) (with_section m (CustomSection c)) cs
    ∙ ap (λ (l : List Custom). record m { customs = l }) (append_assoc m.customs (c ∷ []) cs)

-- ---- the sections of a module

-- its custom sections are these, and what isn't custom reaches up to the globals, or up to the code section
abbrev with_globals : Module → List Custom → Module
with_globals m cs = record no_sections { order = map id_of (up_to_globals m); types = m.types; imports = m.imports; functions = m.functions; tables = m.tables; memories = m.memories; tags = m.tags; globals = m.globals; customs = cs }

abbrev without_code : Module → List Custom → Module
without_code m cs = record m { order = map id_of (before_code m); bodies = []; data_segments = []; customs = cs }

gathers_to_globals : (place : ℕ) (m : Module) (cs : List Custom) → Gathers place (record no_sections { customs = cs }) (up_to_globals m) (with_globals m cs)
gathers_to_globals place m cs =
    let s0 : Module = record no_sections { customs = cs } in
    let s1 : Module = record s0 { types = m.types } in
    let s2 : Module = record s1 { imports = m.imports } in
    let s3 : Module = record s2 { functions = m.functions } in
    let s4 : Module = record s3 { tables = m.tables } in
    let s5 : Module = record s4 { memories = m.memories } in
    let s6 : Module = record s5 { tags = m.tags } in
    let s7 : Module = record s6 { globals = m.globals } in
    let d1 : List Section = if_any Types m.types in
    let d2 : List Section = d1 ++ if_any Imports m.imports in
    let d3 : List Section = d2 ++ if_any Functions m.functions in
    let d4 : List Section = d3 ++ if_any Tables m.tables in
    let d5 : List Section = d4 ++ if_any Memories m.memories in
    let d6 : List Section = d5 ++ if_any Tags m.tags in
    let d7 : List Section = d6 ++ if_any Globals m.globals in
    gathers_both place d6 (if_any Globals m.globals) s0 _ _ (gathers_both place d5 (if_any Tags m.tags) s0 _ _ (gathers_both place d4 (if_any Memories m.memories) s0 _ _ (gathers_both place d3 (if_any Tables m.tables) s0 _ _ (gathers_both place d2 (if_any Functions m.functions) s0 _ _ (gathers_both place d1 (if_any Imports m.imports) s0 _ _ (gathers_types place [] s0 m.types) (gathers_imports (place + length (all_spelled d1)) d1 s1 m.imports)) (gathers_functions (place + length (all_spelled d2)) d2 s2 m.functions)) (gathers_tables (place + length (all_spelled d3)) d3 s3 m.tables)) (gathers_memories (place + length (all_spelled d4)) d4 s4 m.memories)) (gathers_tags (place + length (all_spelled d5)) d5 s5 m.tags)) (gathers_globals (place + length (all_spelled d6)) d6 s6 m.globals)

gathers_before_code : (place : ℕ) (m : Module) (cs : List Custom) → Gathers place (record no_sections { customs = cs }) (before_code m) (without_code m cs)
gathers_before_code place m cs =
    let s0 : Module = with_globals m cs in
    let d0 : List Section = up_to_globals m in
    let s1 : Module = record s0 { exports = m.exports } in
    let s2 : Module = record s1 { start = m.start } in
    let s3 : Module = record s2 { elements = m.elements } in
    let s4 : Module = record s3 { data_count = m.data_count } in
    let d1 : List Section = d0 ++ if_any Exports m.exports in
    let d2 : List Section = d1 ++ if_given Start m.start in
    let d3 : List Section = d2 ++ if_any Elements m.elements in
    let d4 : List Section = d3 ++ if_given DataCount m.data_count in
    gathers_both place d3 (if_given DataCount m.data_count) (record no_sections { customs = cs }) _ _ (gathers_both place d2 (if_any Elements m.elements) (record no_sections { customs = cs }) _ _ (gathers_both place d1 (if_given Start m.start) (record no_sections { customs = cs }) _ _ (gathers_both place d0 (if_any Exports m.exports) (record no_sections { customs = cs }) _ _ (gathers_to_globals place m cs) (gathers_exports (place + length (all_spelled d0)) d0 s0 m.exports)) (gathers_start (place + length (all_spelled d1)) d1 s1 m.start)) (gathers_elements (place + length (all_spelled d2)) d2 s2 m.elements)) (gathers_data_count (place + length (all_spelled d3)) d3 s3 m.data_count)

gathers_standard : (place : ℕ) (m : Module) (cs : List Custom) → Gathers place (record no_sections { customs = cs }) (standard_sections m)
    (record m { order = map id_of (standard_sections m); bodies = placed_bodies (first_body (place + length (all_spelled (before_code m))) m.bodies) m.bodies; customs = cs })
gathers_standard place m cs =
    let s0 : Module = record no_sections { customs = cs } in
    let before : List Section = before_code m in
    let at_code : ℕ = place + length (all_spelled before) in
    let to_code : List Section = before ++ if_any Code m.bodies in
    let s2 : Module = record m { bodies = placed_bodies (first_body at_code m.bodies) m.bodies; customs = cs } in
    gathers_both place to_code (if_any DataSegments m.data_segments) s0 _ _
    (gathers_both place before (if_any Code m.bodies) s0 _ _ (gathers_before_code place m cs) (gathers_code at_code before (without_code m cs) m.bodies))
    (gathers_segments (place + length (all_spelled to_code)) to_code s2 m.data_segments)

gathers_behind : (place : ℕ) (m n : Module) → Gathers place n (customs_behind m) (record n { customs = n.customs ++ group_of groups.Names m.customs ++ group_of groups.Producers m.customs ++ group_of groups.Others m.customs })
gathers_behind place m n =
    let names : List Custom = group_of groups.Names m.customs in
    let producers : List Custom = group_of groups.Producers m.customs in
    let two : List Section = customs_of groups.Names m ++ customs_of groups.Producers m in
    gathers_both place two (customs_of groups.Others m) n _ _
    (gathers_both place (customs_of groups.Names m) (customs_of groups.Producers m) n _ _ (gathers_customs place n names)
    (gathers_customs (place + length (all_spelled (customs_of groups.Names m))) (record n { customs = n.customs ++ names }) producers))
    (gathers_customs (place + length (all_spelled two)) (record n { customs = n.customs ++ names ++ producers }) (group_of groups.Others m.customs))

gathers_all : (m : Module) → Gathers 8 no_sections (sections_in_order m) (as_written m)
gathers_all m =
    let first : List Custom = group_of groups.Dylink m.customs in
    let front : List Section = customs_of groups.Dylink m ++ standard_sections m in
    gathers_both 8 front (customs_behind m) no_sections _ _
    (gathers_both 8 (customs_of groups.Dylink m) (standard_sections m) no_sections _ _ (gathers_customs 8 no_sections first) (gathers_standard (8 + length (all_spelled (customs_of groups.Dylink m))) m first))
    (gathers_behind (8 + length (all_spelled front)) m (record m { order = map id_of (standard_sections m); bodies = placed_bodies (first_body (code_place m) m.bodies) m.bodies; customs = first }))

-- ---- each section can be written

any_of : {A : Type 0} (P : Section → Type 0) (make : List A → Section) (xs : List A) → P (make xs) → All P (if_any make xs)
any_of P make [] h = All-nil P
any_of P make (x ∷ xs) h = All-cons P (make (x ∷ xs)) [] h (All-nil P)

given_of : (P : Section → Type 0) (make : ℕ → Section) (o : Option ℕ) → IfSome o (λ n. P (make n)) → All P (if_given make o)
given_of P make None h = All-nil P
given_of P make (Some n) h = All-cons P (make n) [] h (All-nil P)

group_can : (P : Section → Type 0) (g : CustomGroup) (m : Module) → EachSection P m → All P (customs_of g m)
group_can P g m e = All-map P CustomSection (group_of g m.customs) (All-filter (λ (c : Custom). is_in g c.name) (λ c. P (CustomSection c)) m.customs e.customs)

-- P of the sections of the one list, and of those behind it
both : (P : Section → Type 0) (xs ys : List Section) → All P xs → All P ys → All P (xs ++ ys)
both P xs ys h k = All-append P xs ys h k

can_up_to_globals : (P : Section → Type 0) (m : Module) → EachSection P m → All P (up_to_globals m)
can_up_to_globals P m e =
    both P _ (if_any Globals m.globals) (both P _ (if_any Tags m.tags) (both P _ (if_any Memories m.memories) (both P _ (if_any Tables m.tables) (both P _ (if_any Functions m.functions) (both P _ (if_any Imports m.imports) (any_of P Types m.types e.types) (any_of P Imports m.imports e.imports)) (any_of P Functions m.functions e.functions)) (any_of P Tables m.tables e.tables)) (any_of P Memories m.memories e.memories)) (any_of P Tags m.tags e.tags)) (any_of P Globals m.globals e.globals)

can_before_code : (P : Section → Type 0) (m : Module) → EachSection P m → All P (before_code m)
can_before_code P m e =
    both P _ (if_given DataCount m.data_count) (both P _ (if_any Elements m.elements) (both P _ (if_given Start m.start) (both P _ (if_any Exports m.exports) (can_up_to_globals P m e) (any_of P Exports m.exports e.exports)) (given_of P Start m.start e.start)) (any_of P Elements m.elements e.elements)) (given_of P DataCount m.data_count e.data_count)

pub each_in_order : (P : Section → Type 0) (m : Module) → EachSection P m → All P (sections_in_order m)
each_in_order P m e =
    let standard = both P _ (if_any DataSegments m.data_segments) (both P _ (if_any Code m.bodies) (can_before_code P m e) (any_of P Code m.bodies e.bodies)) (any_of P DataSegments m.data_segments e.data_segments) in
    let behind = both P _ (customs_of groups.Others m) (both P _ (customs_of groups.Producers m) (group_can P groups.Names m e) (group_can P groups.Producers m e)) (group_can P groups.Others m e) in
    both P _ (customs_behind m) (both P _ (standard_sections m) (group_can P groups.Dylink m e) standard) behind

-- a number that there may be
two_of : (P Q : ℕ → Type 0) (o : Option ℕ) → IfSome o P → IfSome o Q → IfSome o (λ n. P n × Q n)
two_of P Q None p q = tt
two_of P Q (Some n) p q = (p, q)

can_be_written : (m : Module) → ModuleFits m → ModuleStands m → EachSection CanBeWritten m
can_be_written m f s = record {
  types = (f.types, s.types);
  imports = (f.imports, s.imports);
  functions = (f.functions, s.functions);
  tables = (f.tables, s.tables);
  memories = (f.memories, s.memories);
  tags = (f.tags, s.tags);
  globals = (f.globals, s.globals);
  exports = (f.exports, s.exports);
  start = two_of (λ n. SectionFits (Start n)) (λ n. SectionStands (Start n)) m.start f.start s.start;
  elements = (f.elements, s.elements);
  data_count = two_of (λ n. SectionFits (DataCount n)) (λ n. SectionStands (DataCount n)) m.data_count f.data_count s.data_count;
  bodies = (f.bodies, s.bodies);
  data_segments = (f.data_segments, s.data_segments);
  customs = λ k d within. (f.customs k d within, s.customs k d within);
}

pub module_frames : ModuleFrames
module_frames = λ m fits stands.
    subst (λ (n : Module). Frames (module_bytes m) n) (gathers_all m) (written_frames_lem (sections_in_order m) (each_in_order CanBeWritten m (can_be_written m fits stands)))
