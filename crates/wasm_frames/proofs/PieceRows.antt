-- Sections as they stand, one after another: those of bytes are one list, up to one place.
use Rattle.std.proofs.Common.{◌≡◌, ℕ, suc, ◌+◌, ◌<◌, List, [], ◌∷◌, ◌++◌, length, refl, sym, ap, subst, ◌∙◌, arith, append_assoc, length-append}
use Rattle.std.proofs.lemmas.List.{append-nil}
use Rattle.std.specs.Prelude.{Option, Some, None, flat_map}
use Rattle.wasm_forms.proofs.Bind.{some_same}
use Rattle.wasm_frames.specs.Frames.{Section, CustomSection, Types, Imports, Functions, Tables, Memories, Globals, Exports, Start, Elements, Code, DataSegments, DataCount, Tags, id_of, IsContent, IsSection, AreSections, header}
use Rattle.wasm_frames.specs.Pieces.{Piece, IsNamed, IsPiece, ArePieces, LacksPiece, HasOneRow, HasOneStop, IsCutShort, HoldsAll, ModuleHasPieces}
use Rattle.wasm_frames.specs.PieceSteps.{count_in, piece_at}
use Rattle.wasm_frames.proofs.Modules.{behind_header}
use Rattle.wasm_frames.proofs.PieceText.{counted, piece_exact}

not_nil : (x : ℕ) (xs ys : List ℕ) → [] ≡ (x ∷ xs) ++ ys → ⊥
not_nil x xs ys e = cc

-- no section stands in front of no bytes
none_left : (place : ℕ) → LacksPiece place []
none_left place = λ front back p e h. not_nil p.id (h.size ++ h.content) back (e ∙ ap (λ l. l ++ back) h.spelled)

cons_same : (p q : Piece) (ps qs : List Piece) → p ≡ q → ps ≡ qs → p ∷ ps ≡ q ∷ qs
cons_same p q ps qs e f = cc

-- whole sections in front of equal bytes, behind which none stands, are the same and equally long
one_reach : (ps qs : List Piece) (place : ℕ) (whole rest whole' rest' : List ℕ)
    → whole ++ rest ≡ whole' ++ rest' → ArePieces place whole ps → ArePieces place whole' qs
    → LacksPiece (place + length whole) rest → LacksPiece (place + length whole') rest' → (ps ≡ qs) × (length whole ≡ length whole')
one_reach [] [] place whole rest whole' rest' e h h' lacks lacks' = (refl, ap length h ∙ sym (ap length h'))
one_reach [] (q ∷ qs) place whole rest whole' rest' e h h' lacks lacks' =
    let split : rest ≡ h'.0 ++ (h'.1.0 ++ rest') = sym (ap (λ l. l ++ rest) h) ∙ e ∙ ap (λ l. l ++ rest') h'.1.1.0 ∙ append_assoc h'.0 h'.1.0 rest' in
    let there : place ≡ place + length whole = omega (arith, ap length h) in
    absurd (lacks h'.0 (h'.1.0 ++ rest') q split (subst (λ (n : ℕ). IsPiece n h'.0 q) there h'.1.1.1))
one_reach (p ∷ ps) [] place whole rest whole' rest' e h h' lacks lacks' =
    let split : rest' ≡ h.0 ++ (h.1.0 ++ rest) = sym (ap (λ l. l ++ rest') h') ∙ sym e ∙ ap (λ l. l ++ rest) h.1.1.0 ∙ append_assoc h.0 h.1.0 rest in
    let there : place ≡ place + length whole' = omega (arith, ap length h') in
    absurd (lacks' h.0 (h.1.0 ++ rest) p split (subst (λ (n : ℕ). IsPiece n h.0 p) there h.1.1.1))
one_reach (p ∷ ps) (q ∷ qs) place whole rest whole' rest' e h h' lacks lacks' =
    let split : whole ++ rest ≡ h.0 ++ (h.1.0 ++ rest) = ap (λ l. l ++ rest) h.1.1.0 ∙ append_assoc h.0 h.1.0 rest in
    let split' : whole' ++ rest' ≡ h'.0 ++ (h'.1.0 ++ rest') = ap (λ l. l ++ rest') h'.1.1.0 ∙ append_assoc h'.0 h'.1.0 rest' in
    let ends : h.0 ++ (h.1.0 ++ rest) ≡ h'.0 ++ (h'.1.0 ++ rest') = sym split ∙ e ∙ split' in
    let both : Some (p, h.1.0 ++ rest) ≡ Some (q, h'.1.0 ++ rest') =
    sym ((piece_exact place).again h.0 (h.1.0 ++ rest) p h.1.1.1)
    ∙ ap (piece_at place) ends ∙ (piece_exact place).again h'.0 (h'.1.0 ++ rest') q h'.1.1.1 in
    let same : (p, h.1.0 ++ rest) ≡ (q, h'.1.0 ++ rest') = some_same (p, h.1.0 ++ rest) (q, h'.1.0 ++ rest') both in
    let rests : h.1.0 ++ rest ≡ h'.1.0 ++ rest' = ap (λ (x : Piece × List ℕ). x.1) same in
    let far : length h.0 ≡ length h'.0 =
    omega (arith, ap length ends, ap length rests, length-append h.0 (h.1.0 ++ rest), length-append h'.0 (h'.1.0 ++ rest')) in
    let long : length whole ≡ length h.0 + length h.1.0 = ap length h.1.1.0 ∙ length-append h.0 h.1.0 in
    let long' : length whole' ≡ length h'.0 + length h'.1.0 = ap length h'.1.1.0 ∙ length-append h'.0 h'.1.0 in
    let onward : ArePieces (place + length h.0) h'.1.0 qs = subst (λ (n : ℕ). ArePieces (place + n) h'.1.0 qs) (sym far) h'.1.1.2 in
    let there : place + length whole ≡ (place + length h.0) + length h.1.0 = omega arith in
    let there' : place + length whole' ≡ (place + length h.0) + length h'.1.0 = omega arith in
    let lack : LacksPiece ((place + length h.0) + length h.1.0) rest = subst (λ (n : ℕ). LacksPiece n rest) there lacks in
    let lack' : LacksPiece ((place + length h.0) + length h'.1.0) rest' = subst (λ (n : ℕ). LacksPiece n rest') there' lacks' in
    let back = one_reach ps qs (place + length h.0) h.1.0 rest h'.1.0 rest' rests h.1.1.2 onward lack lack' in
    let behind : length h.1.0 ≡ length h'.1.0 = back.1 in
    let longs : length whole ≡ length whole' = omega arith in
    (cons_same p q ps qs (ap (λ (x : Piece × List ℕ). x.0) same) back.0, longs)

pub one_row_lem : HasOneRow
one_row_lem = λ bytes ps qs h h'.
    let same : h.rest ++ [] ≡ h'.rest ++ [] = ap (λ l. l ++ []) (behind_header bytes h.rest h'.rest h.headed h'.headed) in
    (one_reach ps qs 8 h.rest [] h'.rest [] same h.framed h'.framed (none_left (8 + length h.rest)) (none_left (8 + length h'.rest))).0

pub one_stop_lem : HasOneStop
one_stop_lem = λ bytes ps qs p q h h'.
    let same : h.whole ++ h.rest ≡ h'.whole ++ h'.rest = behind_header bytes (h.whole ++ h.rest) (h'.whole ++ h'.rest) h.headed h'.headed in
    let lack : LacksPiece (8 + length h.whole) h.rest = subst (λ (n : ℕ). LacksPiece n h.rest) h.reached h.stops in
    let lack' : LacksPiece (8 + length h'.whole) h'.rest = subst (λ (n : ℕ). LacksPiece n h'.rest) h'.reached h'.stops in
    let far = one_reach ps qs 8 h.whole h.rest h'.whole h'.rest same h.framed h'.framed lack lack' in
    (far.0, h.reached ∙ ap (λ n. 8 + n) far.1 ∙ sym h'.reached)

-- bytes of which sections stand up to a place, and no further, are no list of sections
pub cut_short : IsCutShort
cut_short = λ bytes ps qs place h f.
    let same : h.whole ++ h.rest ≡ f.rest ++ [] = behind_header bytes (h.whole ++ h.rest) f.rest h.headed f.headed ∙ sym (append-nil f.rest) in
    let lack : LacksPiece (8 + length h.whole) h.rest = subst (λ (n : ℕ). LacksPiece n h.rest) h.reached h.stops in
    let far : length h.whole ≡ length f.rest =
    (one_reach ps qs 8 h.whole h.rest f.rest [] same h.framed f.framed lack (none_left (8 + length f.rest))).1 in
    let some : 0 < length h.rest = h.left in
    omega (arith, ap length same, length-append h.whole h.rest, length-append f.rest [])

row_bytes : (ps : List Piece) (place : ℕ) (bytes : List ℕ) → ArePieces place bytes ps → bytes ≡ flat_map (λ (p : Piece). p.bytes) ps
row_bytes [] place bytes h = h
row_bytes (p ∷ ps) place bytes h =
    h.1.1.0 ∙ ap (λ l. l ++ h.1.0) (sym h.1.1.1.held) ∙ ap (λ l. p.bytes ++ l) (row_bytes ps (place + length h.0) h.1.0 h.1.1.2)

pub holds_all : HoldsAll
holds_all = λ bytes ps h. h.headed ∙ ap (λ l. header ++ l) (row_bytes ps 8 h.rest h.framed)

-- a section of a module as it stands

abbrev HasName : ℕ → List ℕ → Type 0
HasName id content = (n : Option (List ℕ)) × IsNamed id content n

unnamed : (n : ℕ) (content : List ℕ) → HasName (suc n) content
unnamed n content = (None, λ (e : suc n ≡ 0). absurd (omega (arith, e)))

name_of : (place : ℕ) (content : List ℕ) (s : Section) → IsContent place content s → HasName (id_of s) content
name_of place content (CustomSection c) h = (Some c.name, (refl, (h.front, (c.bytes, (h.spelled, h.named)))))
name_of place content (Types gs) h = unnamed 0 content
name_of place content (Imports is) h = unnamed 1 content
name_of place content (Functions fs) h = unnamed 2 content
name_of place content (Tables ts) h = unnamed 3 content
name_of place content (Memories ms) h = unnamed 4 content
name_of place content (Globals gs) h = unnamed 5 content
name_of place content (Exports es) h = unnamed 6 content
name_of place content (Start f) h = unnamed 7 content
name_of place content (Elements es) h = unnamed 8 content
name_of place content (Code bs) h = unnamed 9 content
name_of place content (DataSegments ds) h = unnamed 10 content
name_of place content (DataCount n) h = unnamed 11 content
name_of place content (Tags ts) h = unnamed 12 content

of_section : (place : ℕ) (bytes : List ℕ) (s : Section) → IsSection place bytes s → (p : Piece) × IsPiece place bytes p
of_section place bytes s h =
    let n = name_of (place + 1 + length h.size) h.content s h.used in (
      record { id = id_of s; name = n.0; entries = count_in (id_of s) h.content; start = place; bytes = bytes },
      record {
        size = h.size;
        content = h.content;
        spelled = h.spelled;
        sized = h.sized;
        named = n.1;
        counted = counted (id_of s) h.content;
        starts = refl;
        held = refl;
      },
    )

of_sections : (ss : List Section) (place : ℕ) (bytes : List ℕ) → AreSections place bytes ss → (ps : List Piece) × ArePieces place bytes ps
of_sections [] place bytes h = ([], h)
of_sections (s ∷ ss) place bytes h =
    let p = of_section place h.0 s h.1.1.1 in
    let q = of_sections ss (place + length h.0) h.1.0 h.1.1.2 in
    (p.0 ∷ q.0, (h.0, (h.1.0, (h.1.1.0, p.1, q.1))))

pub module_has_pieces : ModuleHasPieces
module_has_pieces = λ bytes m f. let q = of_sections f.parts 8 f.rest f.framed in (q.0, record { rest = f.rest; headed = f.headed; framed = q.1 })
