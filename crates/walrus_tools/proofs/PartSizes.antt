-- The bodies, and the sections, of a module have no more bytes than the module.
use Rattle.std.proofs.Common.{◌≡◌, ◌≤◌, ◌+◌, ◌<◌, ℕ, suc, Bool, true, false, cond, not, List, [], ◌∷◌, length, filter, get_or, map, take, sum_by, refl, sym, ap, ◌∙◌, arith, length-append}
use Rattle.std.specs.Prelude.{if◌then◌else◌}
use Rattle.std.proofs.lemmas.List.Sums.{sum_by-append, sum_by-cons, sum_by_more, sum_by_more_le}
use Rattle.std.proofs.lemmas.List.{take_all}
use Rattle.wasm_entries.specs.Record.{Segment}
use Rattle.walrus.specs.Frames.Frames.{AreBodies, Code, DataSegments, IsContent, Section}
use Rattle.walrus.specs.Frames.Record.{Body}
use Rattle.walrus_sections.specs.Parts.{AreParts, AreSegments, AreWithin, FunctionPart, HasParts, IsParted, Part, Piece, SectionPart, SegmentPart, function_parts, functions_in, item, part_record, segments_in}
use Rattle.walrus_tools.specs.Weigh.{bytes_of, is_debug, is_dropped, names_debug, part_size}
use Rattle.walrus_tools.specs.WeighSteps.{size_if, sizes}
use Rattle.walrus_sections.specs.declared.parts.Item.{Item}
use Rattle.walrus_sections.specs.declared.parts.Part.{Part as RawPart}

-- ---- sums

if_le : (b : Bool) (n : ℕ) → (if b then n else 0) ≤ n
if_le true n = omega arith
if_le false n = omega arith

module _ (passes : Part → Bool) where
  abbrev total : List Part → ℕ
  total parts = sum_by (size_if passes) parts

  passed : (b : Bool) (p : Part) (parts : List Part) → sum_by part_size (cond b (p ∷ parts) parts) ≡ (if b then part_size p else 0) + sum_by part_size parts
  passed true p parts = sum_by-cons part_size p parts
  passed false p parts = omega arith

  bytes_by : (parts : List Part) → bytes_of passes parts ≡ total parts
  bytes_by [] = refl
  bytes_by (p ∷ parts) = passed (passes p) p (filter passes parts) ∙ ap (λ (n : ℕ). size_if passes p + n) (bytes_by parts) ∙ sym (sum_by-cons (size_if passes) p parts)

  in_memory : (parts : List RawPart) → sizes passes parts ≡ total (map part_record parts)
  in_memory [] = refl
  in_memory (p ∷ parts) =
      sum_by-cons (λ (q : RawPart). size_if passes (part_record q)) p parts
      ∙ ap (λ (n : ℕ). size_if passes (part_record p) + n) (in_memory parts)
      ∙ sym (sum_by-cons (size_if passes) (part_record p) (map part_record parts))

  -- those in memory have as many
  pub sizes_are : (parts : List RawPart) → sizes passes parts ≡ bytes_of passes (map part_record parts)
  sizes_are parts = in_memory parts ∙ sym (bytes_by (map part_record parts))

  -- with the next one they have as many more
  pub sizes_more : (parts : List RawPart) (i : ℕ) (d : RawPart) → i < length parts → (old size : ℕ) → old ≡ sizes passes (take i parts) → size ≡ size_if passes (part_record (get_or parts i d)) → old + size ≡ sizes passes (take (i + 1) parts)
  sizes_more parts i d below old size were is = omega (arith, sum_by_more (λ (q : RawPart). size_if passes (part_record q)) parts i d below, were, is)

  -- which is no more than all have
  pub sizes_within : (parts : List RawPart) (i : ℕ) (d : RawPart) → i < length parts → (old size : ℕ) → old ≡ sizes passes (take i parts) → size ≡ size_if passes (part_record (get_or parts i d)) → old + size ≤ sizes passes parts
  sizes_within parts i d below old size were is = omega (arith, sum_by_more_le (λ (q : RawPart). size_if passes (part_record q)) parts i d below, were, is)

  -- behind the last these are all
  pub sizes_all : (parts : List RawPart) (i : ℕ) → length parts ≤ i → (old : ℕ) → old ≡ sizes passes (take i parts) → old ≡ sizes passes parts
  sizes_all parts i past old were = were ∙ ap (sizes passes) (take_all i parts past)

  -- ---- parts that don't pass

  module _ (none : (i : Item) → passes (SegmentPart i) ≡ false) where
    segment_none : (i : Item) → size_if passes (SegmentPart i) ≡ 0
    segment_none i = ap (λ (b : Bool). if b then i.size else 0) (none i)

    segments_none : (ds : List Segment) (index place : ℕ) (bytes : List ℕ) (parts : List Part) → AreSegments index place bytes ds parts → total parts ≡ 0
    segments_none [] index place bytes parts h = ap total h.1
    segments_none (d ∷ ds) index place bytes parts h =
        let others : List Part = h.1.1.0 in
        let t = h.1.1.1 in
        let first : Part = SegmentPart (item index place (length h.0)) in
        omega (
          arith,
          ap total t.2,
          sum_by-cons (size_if passes) first others,
          segment_none (item index place (length h.0)),
          segments_none ds (suc index) (place + length h.0) h.1.0 others t.3,
        )

  -- ---- section by section

  module _ (one : (s : Section) (functions segments place : ℕ) (front : List ℕ) (p : Piece) (inner : List Part) → IsParted functions segments place front s p inner → total (SectionPart p ∷ inner) ≤ length front) where
    parts_fit : (ss : List Section) (functions segments place : ℕ) (bytes : List ℕ) (parts : List Part) → AreParts functions segments place bytes ss parts → total parts ≤ length bytes
    parts_fit [] functions segments place bytes parts h = omega (arith, ap total h.1)
    parts_fit (s ∷ ss) functions segments place bytes parts h =
        let front : List ℕ = h.0 in
        let back : List ℕ = h.1.0 in
        let p : Piece = h.1.1.0 in
        let inner : List Part = h.1.1.1.0 in
        let others : List Part = h.1.1.1.1.0 in
        let t = h.1.1.1.1.1 in
        omega (
          arith,
          ap total t.2,
          sum_by-append (size_if passes) (SectionPart p ∷ inner) others,
          one s functions segments place front p inner t.1,
          parts_fit ss (functions + functions_in s) (segments + segments_in s) (place + length front) back others t.3,
          ap length t.0,
          length-append front back,
        )

    pub all_fit : (bytes : List ℕ) (parts : List Part) → HasParts bytes parts → bytes_of passes parts ≤ length bytes
    all_fit bytes parts h = omega (arith, bytes_by parts, parts_fit h.sections _ 0 8 h.rest parts h.parted, ap length h.headed)

-- ---- debug information

bodies_no_debug : (index : ℕ) (bs : List Body) → total is_debug (function_parts index bs) ≡ 0
bodies_no_debug index [] = refl
bodies_no_debug index (b ∷ bs) =
    let first : Part = FunctionPart (item index b.start (length b.bytes)) in
    omega (arith, sum_by-cons (size_if is_debug) first (function_parts (suc index) bs), bodies_no_debug (suc index) bs)

within_no_debug : (s : Section) (functions segments place : ℕ) (content : List ℕ) (parts : List Part) → AreWithin functions segments place content s parts → total is_debug parts ≡ 0
within_no_debug (Code bs) functions segments place content parts h = ap (total is_debug) h ∙ bodies_no_debug functions bs
within_no_debug (DataSegments ds) functions segments place content parts h = segments_none is_debug (λ i. refl) ds segments (place + length h.count) h.row parts h.segments
within_no_debug s functions segments place content parts h = ap (total is_debug) h

one_debug : (s : Section) (functions segments place : ℕ) (front : List ℕ) (p : Piece) (inner : List Part) → IsParted functions segments place front s p inner → total is_debug (SectionPart p ∷ inner) ≤ length front
one_debug s functions segments place front p inner h =
    omega (
      arith,
      sum_by-cons (size_if is_debug) (SectionPart p) inner,
      if_le (names_debug p.name) (length p.bytes),
      within_no_debug s functions segments (place + 1 + length h.section.size) h.section.content inner h.within,
      ap length h.stands.held,
    )

-- debug information is no longer than the module
pub debug_fits : (bytes : List ℕ) (parts : List Part) → HasParts bytes parts → bytes_of is_debug parts ≤ length bytes
debug_fits = all_fit is_debug one_debug

-- ---- bodies

module _ (stays : ℕ → Bool) where
  bodies_few : (bs : List Body) (index place : ℕ) (row : List ℕ) → AreBodies place row bs → total (is_dropped stays) (function_parts index bs) ≤ length row
  bodies_few [] index place row h = omega arith
  bodies_few (b ∷ bs) index place row h =
      let body = h.1.1.1 in
      let first : Part = FunctionPart (item index b.start (length b.bytes)) in
      omega (
        arith,
        sum_by-cons (size_if (is_dropped stays)) first (function_parts (suc index) bs),
        if_le (not (stays index)) (length b.bytes),
        bodies_few bs (suc index) (place + length h.0) h.1.0 h.1.1.2,
        ap length body.spelled,
        length-append body.size b.bytes,
        ap length h.1.1.0,
        length-append h.0 h.1.0,
      )

  within_few : (s : Section) (functions segments place : ℕ) (content : List ℕ) (parts : List Part) → IsContent place content s → AreWithin functions segments place content s parts
      → total (is_dropped stays) parts ≤ length content
  within_few (Code bs) functions segments place content parts code h =
      omega (
        arith,
        ap (total (is_dropped stays)) h,
        bodies_few bs functions (place + length code.count) code.row code.bodies,
        ap length code.spelled,
        length-append code.count code.row,
      )
  within_few (DataSegments ds) functions segments place content parts used h =
      omega (arith, segments_none (is_dropped stays) (λ i. refl) ds segments (place + length h.count) h.row parts h.segments)
  within_few s functions segments place content parts used h = omega (arith, ap (total (is_dropped stays)) h)

  one_body : (s : Section) (functions segments place : ℕ) (front : List ℕ) (p : Piece) (inner : List Part) → IsParted functions segments place front s p inner
      → total (is_dropped stays) (SectionPart p ∷ inner) ≤ length front
  one_body s functions segments place front p inner h =
      omega (
        arith,
        sum_by-cons (size_if (is_dropped stays)) (SectionPart p) inner,
        within_few s functions segments (place + 1 + length h.section.size) h.section.content inner h.section.used h.within,
        ap length h.section.spelled,
        length-append h.section.size h.section.content,
      )

  -- bodies are no longer than the module
  pub bodies_fit : (bytes : List ℕ) (parts : List Part) → HasParts bytes parts → bytes_of (is_dropped stays) parts ≤ length bytes
  bodies_fit = all_fit (is_dropped stays) one_body
