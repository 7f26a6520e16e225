-- The bodies that bytes frame stand one behind another.
use Rattle.std.proofs.Common.{◌≡◌, ℕ, zero, suc, ◌+◌, ◌<◌, ◌≤◌, List, [], ◌∷◌, ◌++◌, length, sym, ap, ◌∙◌, subst, arith, inl, inr, length-append}
use Rattle.std.specs.Prelude.{Some, slice_get}
use Rattle.walrus.specs.Frames.Record as wire
use Rattle.walrus.specs.Frames.Frames.{Section, CustomSection, Types, Imports, Functions, Tables, Memories, Globals, Exports, Start, Elements, Code, DataSegments, DataCount, Tags, AreBodies, IsSection, AreSections, with_section, gathered_onto, Frames}
use Rattle.walrus.specs.Base.Operators.{Op}
use Rattle.walrus.proofs.Base.Standing.{some_inj}
use Rattle.walrus.proofs.Base.Agree.{Compared, compared}
use Rattle.walrus_tools.specs.Stands.{StandsIn}
use Rattle.walrus_tools.proofs.PlacedOps.{begins_within}

-- the bodies stand one behind another from p on, and end by q
abbrev pub Within : ℕ → ℕ → List wire.Body → Type 0
Within p q [] = p ≤ q
Within p q (b ∷ bs) = (p ≤ b.start) × Within (b.start + length b.bytes) q bs

from_before : (o p q : ℕ) (bs : List wire.Body) → o ≤ p → Within p q bs → Within o q bs
from_before o p q [] le h = omega (arith, le, h)
from_before o p q (b ∷ bs) le h = (let low : p ≤ b.start = h.0 in omega (arith, le, low), h.1)

up_to : (p q r : ℕ) (bs : List wire.Body) → q ≤ r → Within p q bs → Within p r bs
up_to p q r [] le h = omega (arith, le, h)
up_to p q r (b ∷ bs) le h = (h.0, up_to (b.start + length b.bytes) q r bs le h.1)

joined : (p q r : ℕ) (xs ys : List wire.Body) → Within p q xs → Within q r ys → Within p r (xs ++ ys)
joined p q r [] ys h k = from_before p q r ys h k
joined p q r (b ∷ xs) ys h k = (h.0, joined (b.start + length b.bytes) q r xs ys h.1 k)

bodies_within : (p : ℕ) (bytes : List ℕ) (bs : List wire.Body) → AreBodies p bytes bs → Within p (p + length bytes) bs
bodies_within p bytes [] h = omega arith
bodies_within p bytes (b ∷ bs) (front, (back, (parts, is, rest))) =
    let long : length bytes ≡ length front + length back = ap length parts ∙ length-append front back in
    let size : length front ≡ length is.size + length b.bytes = ap length is.spelled ∙ length-append is.size b.bytes in
    let starts : b.start ≡ p + length is.size = is.starts in
    let next : p + length front ≡ b.start + length b.bytes = omega (arith, size, starts) in
    let end : p + length front + length back ≡ p + length bytes = omega (arith, long) in (
      omega (arith, starts),
      subst (λ (n : ℕ). Within n (p + length bytes) bs) next (subst (λ (n : ℕ). Within (p + length front) n bs) end (bodies_within (p + length front) back bs rest)),
    )

module _ (place : ℕ) (front : List ℕ) (m : wire.Module) (h : Within 0 place m.bodies) where
  further : Within 0 (place + length front) m.bodies
  further = up_to 0 place (place + length front) m.bodies (omega arith) h

  section_within : (s : Section) → IsSection place front s → Within 0 (place + length front) (with_section m s).bodies
  section_within (Code bs) is =
      let used = is.used in
      let row = bodies_within (place + 1 + length is.size + length used.count) used.row bs used.bodies in
      let content : length is.content ≡ length used.count + length used.row = ap length used.spelled ∙ length-append used.count used.row in
      let sized : length (is.size ++ is.content) ≡ length is.size + length is.content = length-append is.size is.content in
      let long : length front ≡ 1 + length (is.size ++ is.content) = ap length is.spelled ∙ (let z : suc (length (is.size ++ is.content)) ≡ 1 + length (is.size ++ is.content) = omega arith in z) in
      let end : place + 1 + length is.size + length used.count + length used.row ≡ place + length front = omega (arith, content, sized, long) in
      joined 0 place (place + length front) m.bodies bs h
      (from_before place (place + 1 + length is.size + length used.count) (place + length front) bs (omega arith)
      (subst (λ (n : ℕ). Within (place + 1 + length is.size + length used.count) n bs) end row))
  section_within (CustomSection c) is = further
  section_within (Types c) is = further
  section_within (Imports c) is = further
  section_within (Functions c) is = further
  section_within (Tables c) is = further
  section_within (Memories c) is = further
  section_within (Globals c) is = further
  section_within (Exports c) is = further
  section_within (Start c) is = further
  section_within (Elements c) is = further
  section_within (DataSegments c) is = further
  section_within (DataCount c) is = further
  section_within (Tags c) is = further

sections_within : (ss : List Section) (place : ℕ) (bytes : List ℕ) (m : wire.Module) → Within 0 place m.bodies → AreSections place bytes ss → Within 0 (place + length bytes) (gathered_onto m ss).bodies
sections_within [] place bytes m h are = up_to 0 place (place + length bytes) m.bodies (omega arith) h
sections_within (s ∷ ss) place bytes m h (front, (back, (parts, is, rest))) =
    let long : length bytes ≡ length front + length back = ap length parts ∙ length-append front back in
    let end : place + length front + length back ≡ place + length bytes = omega (arith, long) in
    subst (λ (n : ℕ). Within 0 n (gathered_onto (with_section m s) ss).bodies) end (sections_within ss (place + length front) back (with_section m s) (section_within place front m h s is) rest)

pub framed_within : (bytes : List ℕ) (m : wire.Module) (f : Frames bytes m) → Within 0 (8 + length f.rest) m.bodies
framed_within bytes m f =
    subst (λ (n : wire.Module). Within 0 (8 + length f.rest) n.bodies) (sym f.holds) (sections_within f.parts 8 f.rest wire.no_sections (omega arith) f.framed)

later_starts : (p q : ℕ) (bs : List wire.Body) (j : ℕ) (b : wire.Body) → Within p q bs → slice_get bs j ≡ Some b → p ≤ b.start
later_starts p q [] j b h e = absurd (cc)
later_starts p q (x ∷ bs) zero b h e = subst (λ (y : wire.Body). p ≤ y.start) (some_inj x b e) h.0
later_starts p q (x ∷ bs) (suc j) b h e =
    let low : p ≤ x.start = h.0 in
    let more : x.start + length x.bytes ≤ b.start = later_starts (x.start + length x.bytes) q bs j b h.1 e in
    omega (arith, low, more)

ends_before : (p q : ℕ) (bs : List wire.Body) (i j : ℕ) (a b : wire.Body) → Within p q bs → i < j → slice_get bs i ≡ Some a → slice_get bs j ≡ Some b → a.start + length a.bytes ≤ b.start
ends_before p q [] i j a b h lt e f = absurd (cc)
ends_before p q (x ∷ bs) i zero a b h lt e f = absurd (omega (arith, lt))
ends_before p q (x ∷ bs) zero (suc j) a b h lt e f =
    subst (λ (y : wire.Body). y.start + length y.bytes ≤ b.start) (some_inj x a e) (later_starts (x.start + length x.bytes) q bs j b h.1 f)
ends_before p q (x ∷ bs) (suc i) (suc j) a b h lt e f = ends_before (x.start + length x.bytes) q bs i j a b h.1 (omega (arith, lt)) e f

-- two operators of bodies at one place are of one body
pub one_body : (bytes : List ℕ) (m : wire.Module) → Frames bytes m → (i j : ℕ) (a b : wire.Body) → slice_get m.bodies i ≡ Some a → slice_get m.bodies j ≡ Some b
    → (k l place : ℕ) (o p : Op) → StandsIn a k place o → StandsIn b l place p → i ≡ j
one_body bytes m f i j a b e g k l place o p s t = by (compared i j)
  where
    by : Compared i j → i ≡ j
    by (inl lt) =
        let apart = ends_before 0 (8 + length f.rest) m.bodies i j a b (framed_within bytes m f) lt e g in
        absurd (omega (arith, apart, (begins_within a k place o s).1, (begins_within b l place p t).0))
    by (inr (inl same)) = same
    by (inr (inr lt)) =
        let apart = ends_before 0 (8 + length f.rest) m.bodies j i b a (framed_within bytes m f) lt g e in
        absurd (omega (arith, apart, (begins_within b l place p t).1, (begins_within a k place o s).0))
