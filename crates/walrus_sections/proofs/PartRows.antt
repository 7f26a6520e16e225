-- The parts of whole modules: each module has one list of them, and its sections are read one after another.
use Rattle.std.proofs.Common.{◌≡◌, ℕ, suc, ◌+◌, ◌<◌, ◌≤◌, Bool, true, false, List, [], ◌∷◌, ◌++◌, length, map, filter, drop, get_or, refl, sym, ap, subst, ◌∙◌, arith, Vec, Global, append_assoc, append-nil, length-append, drop-cons, drop_of_length-le}
use Rattle.std.proofs.lemmas.List.{append_cancel_right}
use Rattle.std.specs.Prelude.{Option, Some, None, Result, Err, if◌then◌else◌}
use Rattle.wasm_forms.specs.declared.error.WireError.{WireError}
use Rattle.wasm_forms.specs.declared.error.WireError.TheVariants.{Malformed, Memory, TooLarge}
use Rattle.wasm_forms.specs.Reading.{Refuses}
use Rattle.wasm_forms.specs.Number.{IsU32}
use Rattle.wasm_forms.specs.Grammar.{Form, Is, IsRow, Block, Vector}
use Rattle.wasm_forms.proofs.Bind.{some_same, some_not_none}
use Rattle.wasm_forms.proofs.Exact.{one_reading}
use Rattle.wasm_entries.specs.Record.{Import}
use Rattle.wasm_entries.specs.Forms.{import_form, data_form}
use Rattle.wasm_frames.specs.Frames.{Section, Imports, Code, DataSegments, id_of, AreBodies, IsSection, AreSections, with_section, gathered, gathered_onto, Frames}
use Rattle.wasm_frames.specs.Record.{Body, Module, no_sections}
use Rattle.wasm_frames.specs.declared.pieces.RawPiece.{RawPiece}
use Rattle.wasm_frames.specs.declared.pieces.Pieced.{Pieced}
use Rattle.wasm_frames.specs.declared.pieces.Pieced.TheVariants as found
use Rattle.wasm_frames.specs.Pieces.{Piece, IsPiece, ArePieces, HasPieces, IsPieced, piece_record}
use Rattle.wasm_frames.proofs.Modules.{behind_header, one_record_lem}
use Rattle.wasm_frames.specs.PieceSteps.{piece_at}
use Rattle.wasm_frames.proofs.PieceRows.{cut_short, module_has_pieces}
use Rattle.wasm_frames.proofs.PieceText.{piece_exact}
use Rattle.walrus_base.proofs.Lookups.{heads}
use Rattle.walrus_sections.specs.Parts.{Part, SectionPart, brings_function, functions_imported, functions_in, segments_in, IsParted, AreParts, HasParts, FramesNothing, IsImported, HasOnePartList, ModuleHasParts, OnlyModulesHaveParts}
use Rattle.walrus_sections.specs.PartSteps.{part_from}
use Rattle.walrus_sections.proofs.PartItems.{count_long, data_long}
use Rattle.walrus_sections.proofs.PartText.{part_again, within_exists}

-- ---- sections by their contents, and as they stand

abbrev pub Aligned : ℕ → List ℕ → List Section → List Piece → Type 0
Aligned place bytes [] [] = bytes ≡ []
Aligned place bytes (s ∷ ss) [] = ⊥
Aligned place bytes [] (p ∷ ps) = ⊥
Aligned place bytes (s ∷ ss) (p ∷ ps) =
    (front : List ℕ) × ((back : List ℕ) × ((bytes ≡ front ++ back) × IsSection place front s × IsPiece place front p × Aligned (place + length front) back ss ps))

not_nil : (bytes front back rest : List ℕ) (id : ℕ) → bytes ≡ [] → bytes ≡ front ++ back → front ≡ id ∷ rest → ⊥
not_nil bytes front back rest id none split front_is = omega (arith, ap length none, ap length split, length-append front back, ap length front_is)

-- an id, a count and so many bytes are one front
one_front : (i j : ℕ) (front back front' back' size content size' content' : List ℕ) → front ++ back ≡ front' ++ back'
    → front ≡ i ∷ (size ++ content) → front' ≡ j ∷ (size' ++ content') → IsU32 size (length content) → IsU32 size' (length content') → (front' ≡ front) × (back' ≡ back)
one_front i j front back front' back' size content size' content' same is is' sized sized' =
    let split : i ∷ ((size ++ content) ++ back) ≡ j ∷ ((size' ++ content') ++ back') = sym (ap (λ l. l ++ back) is) ∙ same ∙ ap (λ l. l ++ back') is' in
    let behind : (size ++ content) ++ back ≡ (size' ++ content') ++ back' = (heads i j _ _ split).1 in
    let backs : back ≡ back' = (one_reading Block (size ++ content) back (size' ++ content') back' content content' behind (size, (refl, sized)) (size', (refl, sized'))).1 in
    (append_cancel_right front' front back (ap (λ l. front' ++ l) backs ∙ sym same), sym backs)

pub aligned : (ss : List Section) (ps : List Piece) (place : ℕ) (bytes : List ℕ) → AreSections place bytes ss → ArePieces place bytes ps → Aligned place bytes ss ps
aligned [] [] place bytes h k = h
aligned (s ∷ ss) [] place bytes h k = absurd (not_nil bytes h.0 h.1.0 (h.1.1.1.size ++ h.1.1.1.content) (id_of s) k h.1.1.0 h.1.1.1.spelled)
aligned [] (p ∷ ps) place bytes h k = absurd (not_nil bytes k.0 k.1.0 (k.1.1.1.size ++ k.1.1.1.content) p.id h k.1.1.0 k.1.1.1.spelled)
aligned (s ∷ ss) (p ∷ ps) place bytes h k =
    let section = h.1.1.1 in
    let piece = k.1.1.1 in
    let one = one_front (id_of s) p.id h.0 h.1.0 k.0 k.1.0 section.size section.content piece.size piece.content (sym h.1.1.0 ∙ k.1.1.0) section.spelled piece.spelled section.sized piece.sized in
    let stands : IsPiece place h.0 p = subst (λ (l : List ℕ). IsPiece place l p) one.0 piece in
    let others : ArePieces (place + length h.0) h.1.0 ps =
    subst (λ (l : List ℕ). ArePieces (place + length h.0) l ps) one.1 (subst (λ (l : List ℕ). ArePieces (place + length l) k.1.0 ps) one.0 k.1.1.2) in
    (h.0, (h.1.0, (h.1.1.0, section, stands, aligned ss ps (place + length h.0) h.1.0 h.1.1.2 others)))

-- ---- no more entries than bytes

abbrev pub imports_in : Section → ℕ
imports_in (Imports is) = length is
imports_in s = 0

abbrev pub imports_left : List Section → ℕ
imports_left [] = 0
imports_left (s ∷ ss) = imports_in s + imports_left ss

row_few : {A : Type 0} (f : Form A) → ((bytes : List ℕ) (x : A) → Is f bytes x → 1 ≤ length bytes) → (bytes : List ℕ) (xs : List A) → IsRow (Is f) bytes xs → length xs ≤ length bytes
row_few f long bytes [] row = omega arith
row_few f long bytes (x ∷ xs) row =
    omega (arith, ap length row.1.1.0, length-append row.0 row.1.0, long row.0 x row.1.1.1, row_few f long row.1.0 xs row.1.1.2)

bodies_few : (bs : List Body) (place : ℕ) (bytes : List ℕ) → AreBodies place bytes bs → length bs ≤ length bytes
bodies_few [] place bytes row = omega arith
bodies_few (b ∷ bs) place bytes row =
    let body = row.1.1.1 in
    omega (
      arith,
      ap length row.1.1.0,
      length-append row.0 row.1.0,
      ap length body.spelled,
      length-append body.size b.bytes,
      count_long body.size (length b.bytes) body.sized,
      bodies_few bs (place + length row.0) row.1.0 row.1.1.2,
    )

import_long : (bytes : List ℕ) (x : Import) → Is import_form bytes x → 1 ≤ length bytes
unfolding import_form
import_long bytes x i =
    let p = i.1.1 in
    let block = p.1.1.1.0 in
    omega (arith, ap length p.1.1.0, length-append p.0 p.1.0, ap length block.1.0, length-append block.0 i.0.0, count_long block.0 (length i.0.0) block.1.1)

vector_few : {A : Type 0} (f : Form A) → ((bytes : List ℕ) (x : A) → Is f bytes x → 1 ≤ length bytes) → (bytes : List ℕ) (xs : List A) → Is (Vector f) bytes xs → length xs ≤ length bytes
vector_few f long bytes xs i = omega (arith, ap length i.1.1.1.0, length-append i.1.0 i.1.1.0, row_few f long i.1.1.0 xs i.1.1.1.2.0)

content_below : (bytes size content : List ℕ) (id : ℕ) → bytes ≡ id ∷ (size ++ content) → length content ≤ length bytes
content_below bytes size content id e = omega (arith, ap length e, length-append size content)

items_few : (s : Section) (place : ℕ) (bytes : List ℕ) → IsSection place bytes s → functions_in s + imports_in s ≤ length bytes
items_few (Code bs) place bytes h =
    let code = h.used in
    omega (
      arith,
      content_below bytes h.size h.content 10 h.spelled,
      ap length code.spelled,
      length-append code.count code.row,
      bodies_few bs (place + 1 + length h.size + length code.count) code.row code.bodies,
    )
items_few (Imports is) place bytes h =
    omega (arith, content_below bytes h.size h.content 2 h.spelled, vector_few import_form import_long h.content is h.used)
items_few s place bytes h = omega arith

segments_few : (s : Section) (place : ℕ) (bytes : List ℕ) → IsSection place bytes s → segments_in s ≤ length bytes
segments_few (DataSegments ds) place bytes h =
    omega (arith, content_below bytes h.size h.content 11 h.spelled, vector_few data_form data_long h.content ds h.used)
segments_few s place bytes h = omega arith

imports_few : (ss : List Section) (ps : List Piece) (place : ℕ) (bytes : List ℕ) → Aligned place bytes ss ps → imports_left ss ≤ length bytes
imports_few [] [] place bytes h = omega arith
imports_few [] (p ∷ ps) place bytes h = absurd h
imports_few (s ∷ ss) [] place bytes h = absurd h
imports_few (s ∷ ss) (p ∷ ps) place bytes h =
    let t = h.1.1 in
    omega (arith, ap length t.0, length-append h.0 h.1.0, items_few s place h.0 t.1, imports_few ss ps (place + length h.0) h.1.0 t.3)

no_imports : (s : Section) → id_of s ≡ 10 → imports_in s ≡ 0
no_imports (Imports is) e = absurd cc
no_imports s e = refl

imports_added : (m : Module) (s : Section) → length (with_section m s).imports ≡ length m.imports + imports_in s
imports_added m (Imports is) = length-append m.imports is
imports_added m s = omega arith

imports_gathered : (m : Module) (ss : List Section) → length (gathered_onto m ss).imports ≡ length m.imports + imports_left ss
imports_gathered m [] = omega arith
imports_gathered m (s ∷ ss) = omega (arith, imports_gathered (with_section m s) ss, imports_added m s)

filter_few : {A : Type 0} (t : A → Bool) (xs : List A) → length (filter t xs) ≤ length xs
filter_few t [] = omega arith
filter_few t (x ∷ xs) = filter_step t (t x) x xs (filter_few t xs) where
  filter_step : {A : Type 0} (t : A → Bool) (b : Bool) (x : A) (xs : List A) → length (filter t xs) ≤ length xs → length (if b then x ∷ filter t xs else filter t xs) ≤ length (x ∷ xs)
  filter_step t true x xs h = omega (arith, h)
  filter_step t false x xs h = omega (arith, h)

imported_few : (ss : List Section) → functions_imported (gathered ss) ≤ imports_left ss
imported_few ss = omega (arith, filter_few brings_function (gathered ss).imports, imports_gathered no_sections ss)

-- ---- reading one section after another

-- the parts so far, and the sections that are left
pub record PartsReached (bytes : List ℕ) (functions segments : ℕ) (left : List Piece) (so_far : List Part) : Type 0 where
  pub place : ℕ
  pub rest : List ℕ
  pub sections : List Section
  pub stand : Aligned place rest sections left
  pub onward : (others : List Part) → AreParts functions segments place rest sections others → HasParts bytes (so_far ++ others)
  pub functions_fit : functions + length rest ≤ length bytes + imports_left sections
  pub segments_fit : segments + length rest ≤ length bytes
  pub reaches : place + length rest ≡ length bytes

pub parts_begin : (bytes : List ℕ) (imported : ℕ) (ps : List Piece) → IsImported bytes imported → HasPieces bytes ps → PartsReached bytes imported 0 ps []
parts_begin bytes imported ps n h =
    let f = n.1.0 in
    let same : h.rest ≡ f.rest = behind_header bytes h.rest f.rest h.headed f.headed in
    let count : imported ≡ functions_imported (gathered f.parts) = n.1.1 ∙ ap functions_imported f.holds in
    record {
      place = 8;
      rest = f.rest;
      sections = f.parts;
      stand = aligned f.parts ps 8 f.rest f.framed (subst (λ (l : List ℕ). ArePieces 8 l ps) same h.framed);
      onward = λ others t. record { rest = f.rest; sections = f.parts; headed = f.headed; parted = subst (λ (k : ℕ). AreParts k 0 8 f.rest f.parts others) count t };
      functions_fit = omega (arith, count, imported_few f.parts, ap length f.headed);
      segments_fit = omega (arith, ap length f.headed);
      reaches = omega (arith, ap length f.headed);
    }

pub parts_end : (bytes : List ℕ) (functions segments : ℕ) (so_far : List Part) → PartsReached bytes functions segments [] so_far → HasParts bytes so_far
parts_end bytes functions segments so_far h = ended h.sections h.stand h.onward where
  ended : (ss : List Section) → Aligned h.place h.rest ss [] → ((others : List Part) → AreParts functions segments h.place h.rest ss others → HasParts bytes (so_far ++ others)) → HasParts bytes so_far
  ended [] none onward = subst (HasParts bytes) (append-nil so_far) (onward [] (none, refl))
  ended (s ∷ ss) none onward = absurd none

-- what the next section gives
pub record NextParts (bytes : List ℕ) (functions segments : ℕ) (p : Piece) (left : List Piece) (so_far : List Part) : Type 0 where
  pub now : List Part
  pub next_function : ℕ
  pub next_segment : ℕ
  pub read : part_from functions segments so_far p ≡ Some (now, (next_function, next_segment))
  pub reached : PartsReached bytes next_function next_segment left now
  pub within : p.start + length p.bytes ≤ length bytes
  pub functions_fit : p.id ≡ 10 → functions + length p.bytes ≤ length bytes
  pub segments_fit : segments + length p.bytes ≤ length bytes

pub parts_next : (bytes : List ℕ) (functions segments : ℕ) (p : Piece) (left : List Piece) (so_far : List Part) → PartsReached bytes functions segments (p ∷ left) so_far
    → NextParts bytes functions segments p left so_far
parts_next bytes functions segments p left so_far h = next_of h.sections h.stand h.onward h.functions_fit where
  next_of : (ss : List Section) → Aligned h.place h.rest ss (p ∷ left)
      → ((others : List Part) → AreParts functions segments h.place h.rest ss others → HasParts bytes (so_far ++ others))
      → functions + length h.rest ≤ length bytes + imports_left ss → NextParts bytes functions segments p left so_far
  next_of [] none onward fit = absurd none
  next_of (s ∷ ss) t onward fit =
      let front : List ℕ = t.0 in
      let back : List ℕ = t.1.0 in
      let u = t.1.1 in
      let section = u.1 in
      let stands = u.2 in
      let inner = within_exists s functions segments (h.place + 1 + length section.size) section.content section.used in
      let parted : IsParted functions segments h.place front s p inner.0 = record { section = section; stands = stands; within = inner.1 } in
      let whole : length h.rest ≡ length front + length back = ap length u.0 ∙ length-append front back in
      let few : functions_in s + imports_in s ≤ length front = items_few s h.place front section in
      let few_segments : segments_in s ≤ length front = segments_few s h.place front section in
      let few_left : imports_left ss ≤ length back = imports_few ss left (h.place + length front) back u.3 in
      let size : length p.bytes ≡ length front = ap length stands.held in
      record {
        now = so_far ++ SectionPart p ∷ inner.0;
        next_function = functions + functions_in s;
        next_segment = segments + segments_in s;
        read = part_again s functions segments h.place so_far inner.0 front p parted;
        reached = record {
          place = h.place + length front;
          rest = back;
          sections = ss;
          stand = u.3;
          onward = λ others v.
              subst (HasParts bytes) (sym (append_assoc so_far (SectionPart p ∷ inner.0) others))
              (onward (SectionPart p ∷ (inner.0 ++ others)) (front, (back, (p, (inner.0, (others, (u.0, parted, refl, v)))))));
          functions_fit = omega (arith, fit, whole, few);
          segments_fit = omega (arith, h.segments_fit, whole, few_segments);
          reaches = omega (arith, h.reaches, whole);
        };
        within = omega (arith, size, stands.starts, whole, h.reaches);
        functions_fit = λ is.
            let code : id_of s ≡ 10 = (heads (id_of s) p.id (section.size ++ section.content) (stands.size ++ stands.content) (sym section.spelled ∙ stands.spelled)).0 ∙ is in
            omega (arith, size, fit, whole, few_left, no_imports s code);
        segments_fit = omega (arith, size, h.segments_fit, whole);
      }

-- what was read is what the section gives
pub parts_on : (bytes : List ℕ) (functions segments next_function next_segment : ℕ) (p : Piece) (left : List Piece) (so_far now : List Part)
    → PartsReached bytes functions segments (p ∷ left) so_far → part_from functions segments so_far p ≡ Some (now, (next_function, next_segment))
    → PartsReached bytes next_function next_segment left now
parts_on bytes functions segments next_function next_segment p left so_far now h e =
    let next = parts_next bytes functions segments p left so_far h in
    let Answer : Type 0 = List Part × (ℕ × ℕ) in
    let given : Answer = (now, (next_function, next_segment)) in
    let told : Answer = (next.now, (next.next_function, next.next_segment)) in
    let same : told ≡ given = some_same told given (sym next.read ∙ e) in
    subst (λ (x : Answer). PartsReached bytes x.1.0 x.1.1 left x.0) same next.reached

pub never_stuck : (bytes : List ℕ) (functions segments : ℕ) (p : Piece) (left : List Piece) (so_far : List Part) → PartsReached bytes functions segments (p ∷ left) so_far
    → part_from functions segments so_far p ≡ None → ⊥
never_stuck bytes functions segments p left so_far h e =
    let next = parts_next bytes functions segments p left so_far h in
    some_not_none (next.now, (next.next_function, next.next_segment)) (sym next.read ∙ e)

-- the section at a place of a list, and those behind it
left_at : (pieces : List RawPiece) (i : ℕ) (d : RawPiece) → i < length pieces → map piece_record (drop i pieces) ≡ piece_record (get_or pieces i d) ∷ map piece_record (drop (i + 1) pieces)
left_at pieces i d below =
    let one : suc i ≡ i + 1 = omega arith in
    ap (map piece_record) (drop-cons pieces i d below) ∙ ap (λ (k : ℕ). piece_record (get_or pieces i d) ∷ map piece_record (drop k pieces)) one

pub reached_at : (bytes : List ℕ) (functions segments : ℕ) (pieces : List RawPiece) (i : ℕ) (d : RawPiece) (so_far : List Part) → i < length pieces
    → PartsReached bytes functions segments (map piece_record (drop i pieces)) so_far
    → PartsReached bytes functions segments (piece_record (get_or pieces i d) ∷ map piece_record (drop (i + 1) pieces)) so_far
reached_at bytes functions segments pieces i d so_far below h = subst (λ (left : List Piece). PartsReached bytes functions segments left so_far) (left_at pieces i d below) h

pub reached_end : (bytes : List ℕ) (functions segments : ℕ) (pieces : List RawPiece) (i : ℕ) (so_far : List Part) → length pieces ≤ i
    → PartsReached bytes functions segments (map piece_record (drop i pieces)) so_far → HasParts bytes so_far
reached_end bytes functions segments pieces i so_far past h =
    parts_end bytes functions segments so_far (subst (λ (left : List RawPiece). PartsReached bytes functions segments (map piece_record left) so_far) (drop_of_length-le pieces past) h)

-- ---- refusals

pub frames_nothing : {X : Type 0} (bytes : List ℕ) (e : WireError) → ((m : Module) → Frames bytes m → Refuses e (Some m)) → (◌≡◌ {A = Result X WireError} (Err e) (Err TooLarge) → ⊥) → FramesNothing bytes e
frames_nothing bytes Malformed h large = λ m f. some_not_none m (h m f)
frames_nothing bytes (Memory e) h large = tt
frames_nothing bytes TooLarge h large = large refl

pub reads_all : {A : Type 0} (bytes : List ℕ) (e : WireError) (o : Option A) → (o ≡ None → ⊥) → Refuses e o → FramesNothing bytes e
reads_all bytes Malformed o some h = absurd (some h)
reads_all bytes (Memory e) o some h = tt
reads_all bytes TooLarge o some h = h

-- a module's sections reach its end
pub never_cut : (bytes : List ℕ) (imported : ℕ) (p : Pieced) → IsImported bytes imported → IsPieced bytes p → ((ps : Vec RawPiece Global) → p ≡ found.Whole ps → ⊥) → ⊥
never_cut bytes imported (found.Whole ps) n h other = other ps refl
never_cut bytes imported found.NoHeader n h other = h n.1.0.rest n.1.0.headed
never_cut bytes imported (found.Until ps place) n h other =
    let pieces = module_has_pieces bytes n.0 n.1.0 in
    cut_short bytes (map piece_record ps.items) pieces.0 place h pieces.1

pub filter_seen : {X Y : Type 0} (t : Y → Bool) (view : X → Y) (xs : List X) → length (filter (λ x. t (view x)) xs) ≡ length (filter t (map view xs))
filter_seen t view [] = refl
filter_seen t view (x ∷ xs) = seen_step t view (t (view x)) x xs (filter_seen t view xs) where
  seen_step : {X Y : Type 0} (t : Y → Bool) (view : X → Y) (b : Bool) (x : X) (xs : List X) → length (filter (λ x. t (view x)) xs) ≡ length (filter t (map view xs))
      → length (if b then x ∷ filter (λ x. t (view x)) xs else filter (λ x. t (view x)) xs) ≡ length (if b then view x ∷ filter t (map view xs) else filter t (map view xs))
  seen_step t view true x xs h = omega (arith, h)
  seen_step t view false x xs h = h

-- ---- laws

abbrev Parted : (functions segments place : ℕ) → List ℕ → List Section → Type 0
Parted functions segments place bytes ss = (parts : List Part) × AreParts functions segments place bytes ss parts

parts_exist : (ss : List Section) (ps : List Piece) (functions segments place : ℕ) (bytes : List ℕ) → Aligned place bytes ss ps → Parted functions segments place bytes ss
parts_exist [] [] functions segments place bytes h = ([], (h, refl))
parts_exist [] (p ∷ ps) functions segments place bytes h = absurd h
parts_exist (s ∷ ss) [] functions segments place bytes h = absurd h
parts_exist (s ∷ ss) (p ∷ ps) functions segments place bytes h =
    let t = h.1.1 in
    let section = t.1 in
    let inner = within_exists s functions segments (place + 1 + length section.size) section.content section.used in
    let others = parts_exist ss ps (functions + functions_in s) (segments + segments_in s) (place + length h.0) h.1.0 t.3 in (
      SectionPart p ∷ (inner.0 ++ others.0),
      (h.0, (h.1.0, (p, (inner.0, (others.0, (t.0, record { section = section; stands = t.2; within = inner.1 }, refl, others.1)))))),
    )

pub module_has_parts : ModuleHasParts
module_has_parts = λ bytes m f.
    let pieces = module_has_pieces bytes m f in
    let h = pieces.1 in
    let same : h.rest ≡ f.rest = behind_header bytes h.rest f.rest h.headed f.headed in
    let stand : Aligned 8 f.rest f.parts pieces.0 = aligned f.parts pieces.0 8 f.rest f.framed (subst (λ (l : List ℕ). ArePieces 8 l pieces.0) same h.framed) in
    let parts = parts_exist f.parts pieces.0 (functions_imported (gathered f.parts)) 0 8 f.rest stand in
    (parts.0, record { rest = f.rest; sections = f.parts; headed = f.headed; parted = parts.1 })

sections_of : (ss : List Section) (functions segments place : ℕ) (bytes : List ℕ) (parts : List Part) → AreParts functions segments place bytes ss parts → AreSections place bytes ss
sections_of [] functions segments place bytes parts h = h.0
sections_of (s ∷ ss) functions segments place bytes parts h =
    let t = h.1.1.1.1.1 in
    (h.0, (h.1.0, (t.0, t.1.section, sections_of ss (functions + functions_in s) (segments + segments_in s) (place + length h.0) h.1.0 h.1.1.1.1.0 t.3)))

framed_of : (bytes : List ℕ) (ps : List Part) (h : HasParts bytes ps) → Frames bytes (gathered h.sections)
framed_of bytes ps h = record {
  rest = h.rest;
  parts = h.sections;
  headed = h.headed;
  framed = sections_of h.sections (functions_imported (gathered h.sections)) 0 8 h.rest ps h.parted;
  holds = refl;
}

pub only_modules : OnlyModulesHaveParts
only_modules = λ bytes ps h. (gathered h.sections, framed_of bytes ps h)

part_step : (p q : Piece) (inner inner' others others' parts parts' : List Part) → SectionPart p ∷ inner ≡ SectionPart q ∷ inner' → others ≡ others'
    → parts ≡ SectionPart p ∷ (inner ++ others) → parts' ≡ SectionPart q ∷ (inner' ++ others') → parts ≡ parts'
part_step p q inner inner' others others' parts parts' first behind is is' =
    is ∙ ap (λ (ps : List Part). ps ++ others) first ∙ ap (λ (ps : List Part). (SectionPart q ∷ inner') ++ ps) behind ∙ sym is'

one_parts : (ss ss' : List Section) (functions segments place : ℕ) (bytes bytes' : List ℕ) (ps qs : List Part) → bytes ≡ bytes' → AreParts functions segments place bytes ss ps
    → AreParts functions segments place bytes' ss' qs → ps ≡ qs
one_parts [] [] functions segments place bytes bytes' ps qs e h k = h.1 ∙ sym k.1
one_parts [] (s ∷ ss') functions segments place bytes bytes' ps qs e h k =
    let t = k.1.1.1.1.1 in
    absurd (not_nil bytes' k.0 k.1.0 (t.1.section.size ++ t.1.section.content) (id_of s) (sym e ∙ h.0) t.0 t.1.section.spelled)
one_parts (s ∷ ss) [] functions segments place bytes bytes' ps qs e h k =
    let t = h.1.1.1.1.1 in
    absurd (not_nil bytes h.0 h.1.0 (t.1.section.size ++ t.1.section.content) (id_of s) (e ∙ k.0) t.0 t.1.section.spelled)
one_parts (s ∷ ss) (s' ∷ ss') functions segments place bytes bytes' ps qs e h k =
    let p : Piece = h.1.1.0 in
    let q : Piece = k.1.1.0 in
    let inner : List Part = h.1.1.1.0 in
    let inner' : List Part = k.1.1.1.0 in
    let others : List Part = h.1.1.1.1.0 in
    let others' : List Part = k.1.1.1.1.0 in
    let t = h.1.1.1.1.1 in
    let u = k.1.1.1.1.1 in
    let piece = t.1.stands in
    let piece' = u.1.stands in
    let ends : h.0 ++ h.1.0 ≡ k.0 ++ k.1.0 = sym t.0 ∙ e ∙ u.0 in
    let one = one_front p.id q.id h.0 h.1.0 k.0 k.1.0 piece.size piece.content piece'.size piece'.content ends piece.spelled piece'.spelled piece.sized piece'.sized in
    let Read : Type 0 = Piece × List ℕ in
    let first : Read = (p, h.1.0) in
    let first' : Read = (q, k.1.0) in
    let reads : first ≡ first' =
    some_same first first' (sym ((piece_exact place).again h.0 h.1.0 p piece) ∙ ap (piece_at place) ends ∙ (piece_exact place).again k.0 k.1.0 q piece') in
    let pieces : p ≡ q = ap (λ (x : Read). x.0) reads in
    let Answer : Type 0 = List Part × (ℕ × ℕ) in
    let answer : Answer = (SectionPart p ∷ inner, (functions + functions_in s, segments + segments_in s)) in
    let answer' : Answer = (SectionPart q ∷ inner', (functions + functions_in s', segments + segments_in s')) in
    let same : answer ≡ answer' =
    some_same answer answer'
    (sym (part_again s functions segments place [] inner h.0 p t.1) ∙ ap (part_from functions segments []) pieces ∙ part_again s' functions segments place [] inner' k.0 q u.1) in
    let At : ℕ × ℕ → List ℕ → List ℕ → Type 0 = λ n front back. AreParts n.0 n.1 (place + length front) back ss' others' in
    let counts : (functions + functions_in s', segments + segments_in s') ≡ (functions + functions_in s, segments + segments_in s) = sym (ap (λ (x : Answer). x.1) same) in
    let there : AreParts (functions + functions_in s) (segments + segments_in s) (place + length h.0) k.1.0 ss' others' =
    subst (λ (n : ℕ × ℕ). At n h.0 k.1.0) counts (subst (λ (l : List ℕ). At (functions + functions_in s', segments + segments_in s') l k.1.0) one.0 u.3) in
    let behind : others ≡ others' =
    one_parts ss ss' (functions + functions_in s) (segments + segments_in s) (place + length h.0) h.1.0 k.1.0 others others' (sym one.1) t.3 there in
    part_step p q inner inner' others others' ps qs (ap (λ (x : Answer). x.0) same) behind t.2 u.2

pub one_part_list_lem : HasOnePartList
one_part_list_lem = λ bytes ps qs h k.
    let rests : h.rest ≡ k.rest = behind_header bytes h.rest k.rest h.headed k.headed in
    let module_same : gathered k.sections ≡ gathered h.sections =
    one_record_lem bytes (gathered k.sections) (gathered h.sections) (framed_of bytes qs k) (framed_of bytes ps h) in
    let imported : functions_imported (gathered k.sections) ≡ functions_imported (gathered h.sections) = ap functions_imported module_same in
    one_parts h.sections k.sections (functions_imported (gathered h.sections)) 0 8 h.rest k.rest ps qs rests h.parted
    (subst (λ (n : ℕ). AreParts n 0 8 k.rest k.sections qs) imported k.parted)
