-- What is spelled frames its sections, in the standard's order; where they read back, so does the module.
use Rattle.std.proofs.Common.{◌≡◌, ℕ, ◌+◌, Bool, true, false, List, [], ◌∷◌, ◌++◌, length, get_or, map, zip, refl, sym, ap, ap₂, subst, ◌∙◌, arith, append_assoc}
use Rattle.std.specs.Prelude.{Option, Some, None, All, AllPairs, codes, cond, filter, flat_map}
use Rattle.std.specs.List.{AllZip}
use Rattle.std.proofs.lemmas.List.{append-nil, map-append, length-map}
use Rattle.std.proofs.lemmas.Option.{slice_get-get_or}
use Rattle.std.proofs.lemmas.List.Kept.{AllPairs-filter}
use Rattle.wasm_forms.specs.Spelling.{vector_bytes}
use Rattle.wasm_frames.specs.Record as wire
use Rattle.wasm_frames.specs.Spelling.{body_bytes}
use Rattle.wasm_frames.specs.Record.{no_sections}
use Rattle.wasm_frames.specs.Order.{StandsBefore, InOrder, standard_order}
use Rattle.wasm_frames.specs.Frames as frames
use Rattle.wasm_frames.specs.Frames.{Section, CustomSection, id_of, with_section, gathered_onto, gathered, Frames}
use Rattle.wasm_payloads.specs.Names.{Named, Names}
use Rattle.wasm_payloads.specs.Producers.{Field, Fields}
use Rattle.wasm_writer.specs.Spelling.{SectionFits, SectionStands, spelled, first_body, placed, placed_bodies, all_placed}
use Rattle.wasm_writer.proofs.WrittenModule.{written_frames_lem}
use Rattle.walrus_model.specs.Abstract.{Abstract, ProducerField}
use Rattle.walrus_model.specs.Config.{Config}
use Rattle.walrus_model.specs.Sections.{Said}
use Rattle.walrus_theorem.specs.Headline.{ReadsBody, ReadsModule, has_function, payloads, field_of, DataCountHolds}
use Rattle.walrus_theorem.specs.Sections.{module_of}
use Rattle.walrus_theorem.specs.Spelling.{IsCount, IsSpelling, written_as}
use Rattle.walrus_theorem.specs.Text.{Text, listed, if_some, custom, sections_of, said, said_by, unplaced, names_bytes, field_bytes, namings_of}
use Rattle.walrus_theorem.proofs.OneSections.{bare, laid, laid_out, later_none}
use Rattle.walrus_theorem.proofs.OneSpelling.{as_told}
use Rattle.wasm_frames.proofs.SectionRows.{all_ids, all_ordered}

-- ---- where bodies start, aside

abbrev un : wire.Body → wire.Body
un b = record { start = 0; bytes = b.bytes }

abbrev unstarted : wire.Module → wire.Module
unstarted m = record m { bodies = map un m.bodies }

placed_un : (place : ℕ) (bs : List wire.Body) → map un (placed_bodies place bs) ≡ map un bs
placed_un place [] = refl
placed_un place (b ∷ bs) = ap (λ l. un b ∷ l) (placed_un (place + length (body_bytes b)) bs)

more_un : (xs ys zs : List wire.Body) → map un ys ≡ map un zs → map un (xs ++ ys) ≡ map un xs ++ map un zs
more_un xs ys zs e = map-append un xs ys ∙ ap (λ l. map un xs ++ l) e

step_un : (place : ℕ) (s : Section) (m n : wire.Module) → unstarted m ≡ unstarted n → unstarted (with_section m (placed place s)) ≡ unstarted (with_section n s)
step_un place (frames.Code bs) m n e =
    ap (λ (l : List wire.Body). record m { order = m.order ++ 10 ∷ []; bodies = l }) (more_un m.bodies (placed_bodies (first_body place bs) bs) bs (placed_un (first_body place bs) bs))
    ∙ ap (λ (x : wire.Module). record x { order = x.order ++ 10 ∷ []; bodies = x.bodies ++ map un bs }) e
    ∙ sym (ap (λ (l : List wire.Body). record n { order = n.order ++ 10 ∷ []; bodies = l }) (more_un n.bodies bs bs refl))
step_un place s m n e = ap (λ x. with_section x s) e

all_un : (place : ℕ) (ss : List Section) (m n : wire.Module) → unstarted m ≡ unstarted n → unstarted (gathered_onto m (all_placed place ss)) ≡ unstarted (gathered_onto n ss)
all_un place [] m n e = e
all_un place (s ∷ ss) m n e = all_un (place + length (spelled s)) ss (with_section m (placed place s)) (with_section n s) (step_un place s m n e)

-- what the bytes of a text hold
abbrev pub held : Text → wire.Module
held t = gathered (all_placed 8 (sections_of t))

same_un : (t : Text) → unstarted (held t) ≡ unstarted (gathered (sections_of t))
same_un t = all_un 8 (sections_of t) no_sections no_sections refl

pub held_laid : (t : Text) → bare (unstarted (held t)) ≡ unstarted (laid t)
held_laid t = ap bare (same_un t) ∙ ap unstarted (laid_out t)

-- ---- the order

standard : AllPairs StandsBefore standard_order
standard i j d before last = record {
  place_of_a = i;
  place_of_b = j;
  earlier = before;
  a_stands = slice_get-get_or standard_order i d (omega (arith, before, last));
  b_stands = slice_get-get_or standard_order j d last;
}

ids_append : (xs ys : List Section) → all_ids (xs ++ ys) ≡ all_ids xs ++ all_ids ys
ids_append [] ys = refl
ids_append (CustomSection c ∷ xs) ys = ids_append xs ys
ids_append (x ∷ xs) ys = ap (λ l. id_of x ∷ l) (ids_append xs ys)

no_ids : (cs : List wire.Custom) → all_ids (map CustomSection cs) ≡ []
no_ids [] = refl
no_ids (c ∷ cs) = no_ids cs

abbrev any : {A : Type 0} → List A → Bool
any [] = false
any (x ∷ xs) = true

abbrev given : Option ℕ → Bool
given None = false
given (Some n) = true

-- the sections behind xs, if they are there, add this id in front of the rest
adds : (p : ℕ → Bool) (xs ys : List Section) (id : ℕ) (rest : List ℕ) → all_ids ys ≡ cond (p id) (id ∷ []) [] → all_ids (xs ++ ys) ++ filter p rest ≡ all_ids xs ++ filter p (id ∷ rest)
adds p xs ys id rest e =
    ap (λ l. l ++ filter p rest) (ids_append xs ys ∙ ap (λ l. all_ids xs ++ l) e)
    ∙ append_assoc (all_ids xs) (cond (p id) (id ∷ []) []) (filter p rest)
    ∙ ap (λ l. all_ids xs ++ l) (by_case (p id))
  where
    by_case : (b : Bool) → cond b (id ∷ []) [] ++ filter p rest ≡ cond b (id ∷ filter p rest) (filter p rest)
    by_case true = refl
    by_case false = refl

then_none : (xs ys : List Section) (rest : List ℕ) → all_ids ys ≡ [] → all_ids (xs ++ ys) ++ rest ≡ all_ids xs ++ rest
then_none xs ys rest e = ap (λ l. l ++ rest) (ids_append xs ys ∙ ap (λ l. all_ids xs ++ l) e ∙ append-nil (all_ids xs))

abbrev IsNumbered : {A : Type 0} → (List A → Section) → ℕ → Type 0
IsNumbered {A} make id = (x : A) (xs : List A) → all_ids (make (x ∷ xs) ∷ []) ≡ id ∷ []

listed_ids : {A : Type 0} (make : List A → Section) (id : ℕ) (ys : List A) → IsNumbered make id → all_ids (listed make ys) ≡ cond (any ys) (id ∷ []) []
listed_ids make id [] h = refl
listed_ids make id (y ∷ ys) h = h y ys

some_ids : (make : ℕ → Section) (id : ℕ) (o : Option ℕ) → ((n : ℕ) → all_ids (make n ∷ []) ≡ id ∷ []) → all_ids (if_some make o) ≡ cond (given o) (id ∷ []) []
some_ids make id None h = refl
some_ids make id (Some n) h = h n

custom_ids : {A : Type 0} (make : List A → Section) (ys : List A) → ((x : A) (xs : List A) → all_ids (make (x ∷ xs) ∷ []) ≡ []) → all_ids (listed make ys) ≡ []
custom_ids make [] h = refl
custom_ids make (y ∷ ys) h = h y ys

-- which ids a text has, by id
abbrev flags : Text → List Bool
flags t = false ∷ any t.types ∷ any t.imports ∷ any t.functions ∷ any t.tables ∷ any t.memories ∷ any t.globals ∷ any t.exports ∷ given t.start ∷ any t.elements ∷ any (map unplaced t.bodies) ∷ any t.data_segments ∷ given t.data_count ∷ any t.tags ∷ []

ids_are : (t : Text) → all_ids (sections_of t) ≡ filter (λ a. get_or (flags t) a false) standard_order
ids_are t =
    let p : ℕ → Bool = λ a. get_or (flags t) a false in
    let p0 : List Section = map CustomSection t.dylinks in
    let p1 : List Section = p0 ++ listed frames.Types t.types in
    let p2 : List Section = p1 ++ listed frames.Imports t.imports in
    let p3 : List Section = p2 ++ listed frames.Functions t.functions in
    let p4 : List Section = p3 ++ listed frames.Tables t.tables in
    let p5 : List Section = p4 ++ listed frames.Memories t.memories in
    let p6 : List Section = p5 ++ listed frames.Tags t.tags in
    let p7 : List Section = p6 ++ listed frames.Globals t.globals in
    let p8 : List Section = p7 ++ listed frames.Exports t.exports in
    let p9 : List Section = p8 ++ if_some frames.Start t.start in
    let p10 : List Section = p9 ++ listed frames.Elements t.elements in
    let p11 : List Section = p10 ++ if_some frames.DataCount t.data_count in
    let p12 : List Section = p11 ++ listed frames.Code (map unplaced t.bodies) in
    let p13 : List Section = p12 ++ listed frames.DataSegments t.data_segments in
    let p14 : List Section = p13 ++ listed (λ bytes. custom (codes "name") bytes) (names_bytes t.names) in
    let p15 : List Section = p14 ++ listed (λ fields. custom (codes "producers") (vector_bytes field_bytes fields)) t.producers in
    sym (append-nil (all_ids (sections_of t)))
    ∙ then_none p15 (map CustomSection t.others) [] (no_ids t.others)
    ∙ then_none p14 (listed (λ fields. custom (codes "producers") (vector_bytes field_bytes fields)) t.producers) [] (custom_ids (λ fields. custom (codes "producers") (vector_bytes field_bytes fields)) t.producers (λ x xs. refl))
    ∙ then_none p13 (listed (λ bytes. custom (codes "name") bytes) (names_bytes t.names)) [] (custom_ids (λ bytes. custom (codes "name") bytes) (names_bytes t.names) (λ x xs. refl))
    ∙ adds p p12 (listed frames.DataSegments t.data_segments) 11 ([]) (listed_ids frames.DataSegments 11 t.data_segments (λ x xs. refl))
    ∙ adds p p11 (listed frames.Code (map unplaced t.bodies)) 10 (11 ∷ []) (listed_ids frames.Code 10 (map unplaced t.bodies) (λ x xs. refl))
    ∙ adds p p10 (if_some frames.DataCount t.data_count) 12 (10 ∷ 11 ∷ []) (some_ids frames.DataCount 12 t.data_count (λ n. refl))
    ∙ adds p p9 (listed frames.Elements t.elements) 9 (12 ∷ 10 ∷ 11 ∷ []) (listed_ids frames.Elements 9 t.elements (λ x xs. refl))
    ∙ adds p p8 (if_some frames.Start t.start) 8 (9 ∷ 12 ∷ 10 ∷ 11 ∷ []) (some_ids frames.Start 8 t.start (λ n. refl))
    ∙ adds p p7 (listed frames.Exports t.exports) 7 (8 ∷ 9 ∷ 12 ∷ 10 ∷ 11 ∷ []) (listed_ids frames.Exports 7 t.exports (λ x xs. refl))
    ∙ adds p p6 (listed frames.Globals t.globals) 6 (7 ∷ 8 ∷ 9 ∷ 12 ∷ 10 ∷ 11 ∷ []) (listed_ids frames.Globals 6 t.globals (λ x xs. refl))
    ∙ adds p p5 (listed frames.Tags t.tags) 13 (6 ∷ 7 ∷ 8 ∷ 9 ∷ 12 ∷ 10 ∷ 11 ∷ []) (listed_ids frames.Tags 13 t.tags (λ x xs. refl))
    ∙ adds p p4 (listed frames.Memories t.memories) 5 (13 ∷ 6 ∷ 7 ∷ 8 ∷ 9 ∷ 12 ∷ 10 ∷ 11 ∷ []) (listed_ids frames.Memories 5 t.memories (λ x xs. refl))
    ∙ adds p p3 (listed frames.Tables t.tables) 4 (5 ∷ 13 ∷ 6 ∷ 7 ∷ 8 ∷ 9 ∷ 12 ∷ 10 ∷ 11 ∷ []) (listed_ids frames.Tables 4 t.tables (λ x xs. refl))
    ∙ adds p p2 (listed frames.Functions t.functions) 3 (4 ∷ 5 ∷ 13 ∷ 6 ∷ 7 ∷ 8 ∷ 9 ∷ 12 ∷ 10 ∷ 11 ∷ []) (listed_ids frames.Functions 3 t.functions (λ x xs. refl))
    ∙ adds p p1 (listed frames.Imports t.imports) 2 (3 ∷ 4 ∷ 5 ∷ 13 ∷ 6 ∷ 7 ∷ 8 ∷ 9 ∷ 12 ∷ 10 ∷ 11 ∷ []) (listed_ids frames.Imports 2 t.imports (λ x xs. refl))
    ∙ adds p p0 (listed frames.Types t.types) 1 (2 ∷ 3 ∷ 4 ∷ 5 ∷ 13 ∷ 6 ∷ 7 ∷ 8 ∷ 9 ∷ 12 ∷ 10 ∷ 11 ∷ []) (listed_ids frames.Types 1 t.types (λ x xs. refl))
    ∙ ap (λ l. l ++ filter (λ a. get_or (flags t) a false) standard_order) (no_ids t.dylinks)

pub held_in_order : (t : Text) → InOrder (held t).order
held_in_order t =
    subst InOrder (sym (ap (λ (m : wire.Module). m.order) (same_un t) ∙ all_ordered no_sections (sections_of t) ∙ ids_are t)) (AllPairs-filter StandsBefore (λ a. get_or (flags t) a false) standard_order standard)

-- ---- bodies, whatever their places

module _ (R : ℕ × wire.Body → Said → Type 0) (law : (f : ℕ) (b : wire.Body) (x : Said) → R (f, un b) x → R (f, b) x) (back : (f : ℕ) (b : wire.Body) (x : Said) → R (f, b) x → R (f, un b) x) where
  on_un : (fs : List ℕ) (bs : List wire.Body) (xs : List Said) → AllZip R (zip fs bs) xs → AllZip R (zip fs (map un bs)) xs
  on_un [] [] xs h = h
  on_un [] (b ∷ bs) xs h = h
  on_un (f ∷ fs) [] xs h = h
  on_un (f ∷ fs) (b ∷ bs) [] h = absurd h
  on_un (f ∷ fs) (b ∷ bs) (x ∷ xs) h = (back f b x h.0, on_un fs bs xs h.1)

  off_un : (fs : List ℕ) (bs : List wire.Body) (xs : List Said) → AllZip R (zip fs (map un bs)) xs → AllZip R (zip fs bs) xs
  off_un [] [] xs h = h
  off_un [] (b ∷ bs) xs h = h
  off_un (f ∷ fs) [] xs h = h
  off_un (f ∷ fs) (b ∷ bs) [] h = absurd h
  off_un (f ∷ fs) (b ∷ bs) (x ∷ xs) h = (law f b x h.0, off_un fs bs xs h.1)

-- ---- the count of data segments

count_holds : (n : Abstract) (segments : ℕ) (o : Option ℕ) → IsCount n segments o → (k : ℕ) → o ≡ Some k → k ≡ segments
count_holds n segments None h k e = absurd cc
count_holds n segments (Some j) h k e = let same : j ≡ k = cc in sym same ∙ h.1

both_all : (P Q : Section → Type 0) (ss : List Section) → All P ss → All Q ss → All (λ s. P s × Q s) ss
both_all P Q ss h k i d low = (h i d low, k i d low)

pub framed_back : (t : Text) → All SectionStands (sections_of t) → All SectionFits (sections_of t) → Frames (written_as t) (held t)
framed_back t stand fits = written_frames_lem (sections_of t) (both_all SectionFits SectionStands (sections_of t) fits stand)

pub read_held : (c : Config) (t : Text) → AllZip (ReadsBody c (laid t)) (zip t.functions (map unplaced t.bodies)) (map said t.bodies) → AllZip (ReadsBody c (held t)) (zip (held t).functions (held t).bodies) (map said t.bodies)
read_held c t bodies =
    off_un (ReadsBody c (held t)) (λ f b x h. h) (λ f b x h. h) (held t).functions (held t).bodies (map said t.bodies)
    (subst (λ (m : wire.Module). AllZip (ReadsBody c m) (zip m.functions m.bodies) (map said t.bodies)) (sym (held_laid t))
    (on_un (ReadsBody c (laid t)) (λ f b x h. h) (λ f b x h. h) t.functions (map unplaced t.bodies) (map said t.bodies) bodies))

-- ---- all of it, where bodies, names and producers read back

module _ (c : Config) (t : Text) (spells : IsSpelling (said_by t) t) (fits : All SectionFits (sections_of t))
    (bodies : AllZip (ReadsBody c (laid t)) (zip t.functions (map unplaced t.bodies)) (map said t.bodies))
    (namings : List (List Named)) (named : AllZip (Names (has_function (laid t))) (payloads (codes "name") (laid t)) namings) (are_named : flat_map (λ xs. xs) namings ≡ namings_of t.names)
    (fields : List (List Field)) (produced : AllZip Fields (payloads (codes "producers") (laid t)) fields) (are_produced : flat_map (map field_of) fields ≡ t.producers) where
  e : bare (unstarted (held t)) ≡ unstarted (laid t)
  e = held_laid t

  functions : (held t).functions ≡ t.functions
  functions = ap (λ (m : wire.Module). m.functions) e

  bytes_same : map un (held t).bodies ≡ map un (map unplaced t.bodies)
  bytes_same = ap (λ (m : wire.Module). m.bodies) e

  as_many : length (held t).bodies ≡ length (held t).functions
  as_many = sym (length-map (held t).bodies un) ∙ ap length bytes_same ∙ length-map (map unplaced t.bodies) un ∙ length-map t.bodies unplaced ∙ spells.as_many_bodies ∙ ap length (sym functions)

  count : DataCountHolds (held t)
  count k is =
      count_holds (said_by t) (length t.data_segments) t.data_count spells.data_count k (sym (later_none t.data_count) ∙ sym (ap (λ (m : wire.Module). m.data_count) e) ∙ is)
      ∙ ap length (sym (ap (λ (m : wire.Module). m.data_segments) e))

  is : said_by t ≡ module_of (held t) (map said t.bodies) (flat_map (map field_of) fields) (flat_map (λ xs. xs) namings)
  is =
      as_told t
      ∙ ap (λ (m : wire.Module). module_of m (map said t.bodies) t.producers (namings_of t.names)) (sym e)
      ∙ ap₂ (λ (p : List ProducerField) (l : List Named). module_of (held t) (map said t.bodies) p l) (sym are_produced) (sym are_named)

  pub reads_back : ReadsModule c (written_as t) (said_by t)
  reads_back = record {
    sections = held t;
    framed = framed_back t spells.stand fits;
    in_order = held_in_order t;
    as_many_bodies = as_many;
    data_count = count;
    bodies = map said t.bodies;
    read = read_held c t bodies;
    namings = namings;
    named = subst (λ (m : wire.Module). AllZip (Names (has_function m)) (payloads (codes "name") m) namings) (sym e) named;
    fields = fields;
    produced = subst (λ (m : wire.Module). AllZip Fields (payloads (codes "producers") m) fields) (sym e) produced;
    is = is;
  }
