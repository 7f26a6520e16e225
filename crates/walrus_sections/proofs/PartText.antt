-- What is read of a section is what stands in it.
use Rattle.std.proofs.Common.{◌≡◌, ℕ, suc, ◌+◌, ◌-◌, Bool, true, false, List, [], ◌∷◌, ◌++◌, length, refl, sym, ap, subst, ◌∙◌, arith, append_assoc, append-nil, length-append}
use Rattle.std.specs.Prelude.{Option, Some, nat_eq, if◌then◌else◌}
use Rattle.wasm_forms.specs.Reading.{◌>>=◌, byte_at}
use Rattle.wasm_forms.specs.Number.{IsU32}
use Rattle.wasm_forms.specs.Grammar.{Is, IsRow, Block, U32, at}
use Rattle.wasm_forms.proofs.Bind.{bind_at}
use Rattle.wasm_forms.proofs.Exact.{exact}
use Rattle.wasm_entries.specs.Record.{Segment}
use Rattle.wasm_entries.specs.Forms.{data_form}
use Rattle.wasm_frames.specs.Frames.{Section, Code, DataSegments, id_of, AreBodies, IsContent}
use Rattle.wasm_frames.specs.Pieces.{Piece}
use Rattle.walrus_base.proofs.Lookups.{heads}
use Rattle.walrus_sections.specs.Parts.{Part, SectionPart, FunctionPart, SegmentPart, Body, item, functions_in, segments_in, function_parts, AreSegments, AreWithin, IsParted}
use Rattle.walrus_sections.specs.PartSteps.{item_at, items_from, items_in, part_from}
use Rattle.walrus_sections.proofs.PartItems.{code_item, data_item, then_items}

-- ---- rows

row_split : (bytes front back : List ℕ) → bytes ≡ front ++ back → length bytes ≡ length front + length back
row_split bytes front back e = ap length e ∙ length-append front back

code_row : (bs : List Body) (index place end : ℕ) (before : List Part) (row : List ℕ) → AreBodies place row bs → end ≡ place + length row
    → items_from true (length bs) index end before row ≡ Some (before ++ function_parts index bs, index + length bs)
unfolding items_from item_at
code_row [] index place end before row h e =
    let i : index ≡ index + 0 = omega arith in
    ap (λ (ps : List Part). Some (ps, index)) (sym (append-nil before)) ∙ ap (λ (k : ℕ). Some (before ++ [], k)) i
code_row (b ∷ bs) index place end before row h e =
    let front : List ℕ = h.0 in
    let back : List ℕ = h.1.0 in
    let body = h.1.1.1 in
    let whole : length row ≡ length front + length back = row_split row front back h.1.1.0 in
    let long : length front ≡ length body.size + length b.bytes = row_split front body.size b.bytes body.spelled in
    let there : (end - length row) + (length row - length back - length b.bytes) ≡ b.start = omega (arith, e, whole, long, body.starts) in
    let onward : end ≡ (place + length front) + length back = omega (arith, e, whole) in
    let read : at Block row ≡ Some (b.bytes, back) = ap (at Block) h.1.1.0 ∙ (exact Block).again front back b.bytes (body.size, (body.spelled, body.sized)) in
    let found : item_at true index end row ≡ Some (FunctionPart (item index b.start (length b.bytes)), back) =
    bind_at (at Block row) (code_item index end row) (b.bytes, back) read
    ∙ ap (λ (n : ℕ). Some (FunctionPart (item index n (length b.bytes)), back)) there in
    let first : Part = FunctionPart (item index b.start (length b.bytes)) in
    let last : suc index + length bs ≡ index + suc (length bs) = omega arith in
    bind_at (item_at true index end row) (then_items true end (length bs) index before) (first, back) found
    ∙ code_row bs (suc index) (place + length front) end (before ++ first ∷ []) back h.1.1.2 onward
    ∙ ap (λ (ps : List Part). Some (ps, suc index + length bs)) (append_assoc before (first ∷ []) (function_parts (suc index) bs))
    ∙ ap (λ (k : ℕ). Some (before ++ first ∷ function_parts (suc index) bs, k)) last

data_row : (ds : List Segment) (index place end : ℕ) (before parts : List Part) (row : List ℕ) → AreSegments index place row ds parts → end ≡ place + length row
    → items_from false (length ds) index end before row ≡ Some (before ++ parts, index + length ds)
unfolding items_from item_at
data_row [] index place end before parts row h e =
    let i : index ≡ index + 0 = omega arith in
    ap (λ (ps : List Part). Some (ps, index)) (sym (append-nil before) ∙ ap (λ (ps : List Part). before ++ ps) (sym h.1))
    ∙ ap (λ (k : ℕ). Some (before ++ parts, k)) i
data_row (d ∷ ds) index place end before parts row h e =
    let front : List ℕ = h.0 in
    let back : List ℕ = h.1.0 in
    let others : List Part = h.1.1.0 in
    let t = h.1.1.1 in
    let whole : length row ≡ length front + length back = row_split row front back t.0 in
    let there : end - length row ≡ place = omega (arith, e) in
    let long : length row - length back ≡ length front = omega (arith, whole) in
    let onward : end ≡ (place + length front) + length back = omega (arith, e, whole) in
    let read : at data_form row ≡ Some (d, back) = ap (at data_form) t.0 ∙ (exact data_form).again front back d t.1 in
    let found : item_at false index end row ≡ Some (SegmentPart (item index place (length front)), back) =
    bind_at (at data_form row) (data_item index end row) (d, back) read
    ∙ ap (λ (n : ℕ). Some (SegmentPart (item index n (length row - length back)), back)) there
    ∙ ap (λ (n : ℕ). Some (SegmentPart (item index place n), back)) long in
    let first : Part = SegmentPart (item index place (length front)) in
    let last : suc index + length ds ≡ index + suc (length ds) = omega arith in
    bind_at (item_at false index end row) (then_items false end (length ds) index before) (first, back) found
    ∙ data_row ds (suc index) (place + length front) end (before ++ first ∷ []) others back t.3 onward
    ∙ ap (λ (ps : List Part). Some (ps, suc index + length ds)) (append_assoc before (first ∷ []) others)
    ∙ ap (λ (ps : List Part). Some (before ++ ps, suc index + length ds)) (sym t.2)
    ∙ ap (λ (k : ℕ). Some (before ++ parts, k)) last

-- ---- sections

abbrev counted_items : Bool → (index end : ℕ) → List Part → ℕ × List ℕ → Option (List Part × ℕ)
counted_items is_code index end before n = items_from is_code n.0 index end before n.1

abbrev sized_items : Bool → (index end : ℕ) → List Part → List ℕ × List ℕ → Option (List Part × ℕ)
sized_items is_code index end before c = at U32 c.0 >>= counted_items is_code index end before

abbrev led_items : Bool → (index end : ℕ) → List Part → ℕ × List ℕ → Option (List Part × ℕ)
led_items is_code index end before i = at Block i.1 >>= sized_items is_code index end before

-- the content of a section, and its count and row
opened : (is_code : Bool) (index place id n : ℕ) (before : List Part) (bytes size content count row : List ℕ) → bytes ≡ id ∷ (size ++ content) → IsU32 size (length content)
    → content ≡ count ++ row → IsU32 count n → items_in is_code index place before bytes ≡ items_from is_code n index (place + length bytes) before row
unfolding items_in
opened is_code index place id n before bytes size content count row spelled sized split counted =
    let end : ℕ = place + length bytes in
    let all : (size ++ content) ++ [] ≡ size ++ content = append-nil (size ++ content) in
    bind_at (byte_at bytes) (led_items is_code index end before) (id, size ++ content) (ap byte_at spelled)
    ∙ bind_at (at Block (size ++ content)) (sized_items is_code index end before) (content, [])
    (ap (at Block) (sym all) ∙ (exact Block).again (size ++ content) [] content (size, (refl, sized)))
    ∙ bind_at (at U32 content) (counted_items is_code index end before) (n, row) (ap (at U32) split ∙ (exact U32).again count row n counted)

-- where the row of a section's entries ends
row_ends : (place id : ℕ) (bytes size content count row : List ℕ) → bytes ≡ id ∷ (size ++ content) → content ≡ count ++ row
    → place + length bytes ≡ ((place + 1 + length size) + length count) + length row
row_ends place id bytes size content count row spelled split = omega (arith, ap length spelled, length-append size content, ap length split, length-append count row)

abbrev with_segments : ℕ → List Part × ℕ → Option (List Part × (ℕ × ℕ))
with_segments segments x = Some (x.0, (x.1, segments))

abbrev with_functions : ℕ → List Part × ℕ → Option (List Part × (ℕ × ℕ))
with_functions functions x = Some (x.0, (functions, x.1))

abbrev step_by : (id functions segments : ℕ) (before : List Part) → Piece → Option (List Part × (ℕ × ℕ))
step_by id functions segments before p =
    if nat_eq id 10 then (items_in true functions p.start (before ++ SectionPart p ∷ []) p.bytes >>= with_segments segments)
    else (if nat_eq id 11 then (items_in false segments p.start (before ++ SectionPart p ∷ []) p.bytes >>= with_functions functions)
    else Some (before ++ SectionPart p ∷ [], (functions, segments)))

stepped : (id functions segments : ℕ) (before : List Part) (p : Piece) → p.id ≡ id → part_from functions segments before p ≡ step_by id functions segments before p
unfolding part_from
stepped id functions segments before p e = ap (λ (i : ℕ). step_by i functions segments before p) e

-- a section in which nothing is told
plain : (id functions segments : ℕ) (before inner : List Part) (p : Piece) → p.id ≡ id → nat_eq id 10 ≡ false → nat_eq id 11 ≡ false → inner ≡ []
    → part_from functions segments before p ≡ Some (before ++ SectionPart p ∷ inner, (functions + 0, segments + 0))
plain id functions segments before inner p is other last none =
    let f : functions ≡ functions + 0 = omega arith in
    let d : segments ≡ segments + 0 = omega arith in
    stepped id functions segments before p is
    ∙ ap (λ (t : Bool). if t then (items_in true functions p.start (before ++ SectionPart p ∷ []) p.bytes >>= with_segments segments)
    else (if nat_eq id 11 then (items_in false segments p.start (before ++ SectionPart p ∷ []) p.bytes >>= with_functions functions)
    else Some (before ++ SectionPart p ∷ [], (functions, segments)))) other
    ∙ ap (λ (t : Bool). if t then (items_in false segments p.start (before ++ SectionPart p ∷ []) p.bytes >>= with_functions functions)
    else Some (before ++ SectionPart p ∷ [], (functions, segments))) last
    ∙ ap (λ (ps : List Part). Some (before ++ SectionPart p ∷ ps, (functions, segments))) (sym none)
    ∙ ap (λ (n : ℕ). Some (before ++ SectionPart p ∷ inner, (n, segments))) f
    ∙ ap (λ (n : ℕ). Some (before ++ SectionPart p ∷ inner, (functions + 0, n))) d

-- what is read of a section with parts in it: these, behind the section
pub part_again : (s : Section) (functions segments place : ℕ) (before inner : List Part) (bytes : List ℕ) (p : Piece) → IsParted functions segments place bytes s p inner
    → part_from functions segments before p ≡ Some (before ++ SectionPart p ∷ inner, (functions + functions_in s, segments + segments_in s))
part_again (Code bs) functions segments place before inner bytes p h =
    let section = h.section in
    let code = section.used in
    let front : List Part = before ++ SectionPart p ∷ [] in
    let spelled : p.bytes ≡ 10 ∷ (section.size ++ section.content) = h.stands.held ∙ section.spelled in
    let is : p.id ≡ 10 = (heads p.id 10 (h.stands.size ++ h.stands.content) (section.size ++ section.content) (sym h.stands.spelled ∙ section.spelled)).0 in
    let ends : p.start + length p.bytes ≡ ((place + 1 + length section.size) + length code.count) + length code.row =
    ap (λ (n : ℕ). n + length p.bytes) h.stands.starts ∙ row_ends place 10 p.bytes section.size section.content code.count code.row spelled code.spelled in
    let d : segments ≡ segments + 0 = omega arith in
    stepped 10 functions segments before p is
    ∙ bind_at (items_in true functions p.start front p.bytes) (with_segments segments) (front ++ function_parts functions bs, functions + length bs)
    (opened true functions p.start 10 (length bs) front p.bytes section.size section.content code.count code.row spelled section.sized code.spelled code.counted
    ∙ code_row bs functions ((place + 1 + length section.size) + length code.count) (p.start + length p.bytes) front code.row code.bodies ends)
    ∙ ap (λ (ps : List Part). Some (ps, (functions + length bs, segments)))
    (append_assoc before (SectionPart p ∷ []) (function_parts functions bs) ∙ ap (λ (ps : List Part). before ++ SectionPart p ∷ ps) (sym h.within))
    ∙ ap (λ (n : ℕ). Some (before ++ SectionPart p ∷ inner, (functions + length bs, n))) d
part_again (DataSegments ds) functions segments place before inner bytes p h =
    let section = h.section in
    let row = h.within in
    let front : List Part = before ++ SectionPart p ∷ [] in
    let spelled : p.bytes ≡ 11 ∷ (section.size ++ section.content) = h.stands.held ∙ section.spelled in
    let is : p.id ≡ 11 = (heads p.id 11 (h.stands.size ++ h.stands.content) (section.size ++ section.content) (sym h.stands.spelled ∙ section.spelled)).0 in
    let ends : p.start + length p.bytes ≡ ((place + 1 + length section.size) + length row.count) + length row.row =
    ap (λ (n : ℕ). n + length p.bytes) h.stands.starts ∙ row_ends place 11 p.bytes section.size section.content row.count row.row spelled row.spelled in
    let f : functions ≡ functions + 0 = omega arith in
    stepped 11 functions segments before p is
    ∙ bind_at (items_in false segments p.start front p.bytes) (with_functions functions) (front ++ inner, segments + length ds)
    (opened false segments p.start 11 (length ds) front p.bytes section.size section.content row.count row.row spelled section.sized row.spelled row.counted
    ∙ data_row ds segments ((place + 1 + length section.size) + length row.count) (p.start + length p.bytes) front inner row.row row.segments ends)
    ∙ ap (λ (ps : List Part). Some (ps, (functions, segments + length ds))) (append_assoc before (SectionPart p ∷ []) inner)
    ∙ ap (λ (n : ℕ). Some (before ++ SectionPart p ∷ inner, (n, segments + length ds))) f
part_again s functions segments place before inner bytes p h =
    plain (id_of s) functions segments before inner p
    (heads p.id (id_of s) (h.stands.size ++ h.stands.content) (h.section.size ++ h.section.content) (sym h.stands.spelled ∙ h.section.spelled)).0 refl refl h.within

-- ---- each section has its parts

abbrev SegmentParts : (index place : ℕ) → List ℕ → List Segment → Type 0
SegmentParts index place row ds = (parts : List Part) × AreSegments index place row ds parts

segments_exist : (ds : List Segment) (index place : ℕ) (row : List ℕ) → IsRow (Is data_form) row ds → SegmentParts index place row ds
segments_exist [] index place row h = ([], (h, refl))
segments_exist (d ∷ ds) index place row h =
    let onward = segments_exist ds (suc index) (place + length h.0) h.1.0 h.1.1.2 in
    (SegmentPart (item index place (length h.0)) ∷ onward.0, (h.0, (h.1.0, (onward.0, (h.1.1.0, h.1.1.1, refl, onward.1)))))

abbrev Within : (functions segments place : ℕ) → List ℕ → Section → Type 0
Within functions segments place content s = (parts : List Part) × AreWithin functions segments place content s parts

pub within_exists : (s : Section) (functions segments place : ℕ) (content : List ℕ) → IsContent place content s → Within functions segments place content s
within_exists (Code bs) functions segments place content h = (function_parts functions bs, refl)
within_exists (DataSegments ds) functions segments place content h =
    let count : List ℕ = h.1.0 in
    let row : List ℕ = h.1.1.0 in
    let counted : IsU32 count (length ds) = subst (λ (n : ℕ). IsU32 count n) (sym h.1.1.1.2.1) h.1.1.1.1 in
    let onward = segments_exist ds segments (place + length count) row h.1.1.1.2.0 in
    (onward.0, record { count = count; row = row; spelled = h.1.1.1.0; counted = counted; segments = onward.1 })
within_exists s functions segments place content h = ([], refl)
