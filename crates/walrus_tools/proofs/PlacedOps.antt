-- The operators of a body at their places.
use Rattle.std.proofs.Common.{◌≡◌, ℕ, zero, suc, ◌+◌, ◌-◌, ◌^◌, ◌<◌, ◌≤◌, Bool, true, false, List, [], ◌∷◌, ◌++◌, length, map, refl, sym, ap, ap₂, ◌∙◌, subst, arith, inl, inr, ltb-true, lt-ltb, length-append, append_assoc}
use Rattle.std.specs.Prelude.{Some, slice_get, min, nat_lt, if◌then◌else◌}
use Rattle.std.proofs.Math.Nat.{min-eq_left, min-eq_right}
use Rattle.walrus.specs.Forms.RawVal.{RawVal}
use Rattle.walrus.specs.Forms.Grammar.{Is, IsRow}
use Rattle.walrus.specs.Forms.Spelling.{row_bytes}
use Rattle.walrus.proofs.Forms.Exact.{one_reading}
use Rattle.walrus.specs.Frames.Record as wire
use Rattle.walrus.specs.Operators.Operators as operators
use Rattle.walrus.specs.Operators.Forms.{operator}
use Rattle.walrus.specs.Operators.Spelling.{op_bytes}
use Rattle.walrus.specs.Base.Operators.{Op}
use Rattle.walrus.specs.Code.FromRaw.{op_of}
use Rattle.walrus.specs.Code.Location.{location, location_at}
use Rattle.walrus.specs.Code.InstrLocId.{InstrLocId}
use Rattle.walrus.specs.Modules.Body.{Located, declarations}
use Rattle.walrus.specs.Modules.BodyRead.{BodyLocated}
use Rattle.walrus.specs.Modules.Emitting.{AllStand, places_from}
use Rattle.walrus.proofs.Base.Standing.{some_inj}
use Rattle.walrus.specs.Modules.Located.{IsPlace}
use Rattle.walrus.proofs.Base.Agree.{Compared, compared}
use Rattle.walrus.specs.Modules.Transform.{OperatorsStandAt}
use Rattle.walrus_tools.specs.Stands.{StandsIn}

abbrev pub Text : Type 0
Text = operators.Op

-- ---- operators in a row

-- operators one behind another and no byte left, whose first bytes have these places; the first of them is p
abbrev pub Row : ℕ → List ℕ → List Text → List ℕ → Type 0
Row p bytes [] [] = bytes ≡ []
Row p bytes [] (q ∷ qs) = ⊥
Row p bytes (t ∷ ts) [] = ⊥
Row p bytes (t ∷ ts) (q ∷ qs) = (q ≡ p) × ((front : List ℕ) × ((back : List ℕ) × ((bytes ≡ front ++ back) × Is operator front t × Row (p + length front) back ts qs)))

-- an operator has a first byte
pub led : (front : List ℕ) (text : Text) → Is operator front text → 1 ≤ length front
unfolding operator
led front text (b, (first, (back, (parts, one, rest)))) =
    let long : length front ≡ length first + length back = ap length parts ∙ length-append first back in
    let single : length first ≡ 1 = ap length one in
    omega arith

none_is_one : (bytes front back : List ℕ) (text : Text) → bytes ≡ [] → bytes ≡ front ++ back → Is operator front text → ⊥
none_is_one bytes front back text none parts is =
    let long : length bytes ≡ length front + length back = ap length parts ∙ length-append front back in
    let short : length bytes ≡ 0 = ap length none in
    let first = led front text is in
    omega (arith, first)

-- the bytes are k operators, the operator t at the place q, and others
pub record Cut (p : ℕ) (bytes : List ℕ) (k q : ℕ) (t : Text) : Type 0 where
  pub front : List ℕ
  pub before : List Text
  pub leads : IsRow (Is operator) front before
  pub counted : length before ≡ k
  pub own : List ℕ
  pub spelled : Is operator own t
  pub behind : List ℕ
  pub parts : bytes ≡ front ++ (own ++ behind)
  pub stands : q ≡ p + length front

cut_at : (p : ℕ) (bytes : List ℕ) (ts : List Text) (qs : List ℕ) (k q : ℕ) (t : Text) → Row p bytes ts qs → slice_get ts k ≡ Some t → slice_get qs k ≡ Some q → Cut p bytes k q t
cut_at p bytes [] qs k q t row e f = absurd (cc)
cut_at p bytes (x ∷ ts) [] k q t row e f = absurd row
cut_at p bytes (x ∷ ts) (y ∷ qs) zero q t (at, (front, (back, (parts, is, rest)))) e f = record {
  front = [];
  before = [];
  leads = refl;
  counted = refl;
  own = front;
  spelled = subst (λ (z : Text). Is operator front z) (some_inj x t e) is;
  behind = back;
  parts = parts;
  stands = sym (some_inj y q f) ∙ at ∙ (let z : p ≡ p + 0 = omega arith in z);
}
cut_at p bytes (x ∷ ts) (y ∷ qs) (suc k) q t (at, (front, (back, (parts, is, rest)))) e f =
    let r = cut_at (p + length front) back ts qs k q t rest e f in
    record {
      front = front ++ r.front;
      before = x ∷ r.before;
      leads = (front, (r.front, (refl, is, r.leads)));
      counted = ap suc r.counted;
      own = r.own;
      spelled = r.spelled;
      behind = r.behind;
      parts = parts ∙ ap (λ (z : List ℕ). front ++ z) r.parts ∙ sym (append_assoc front r.front (r.own ++ r.behind));
      stands = r.stands ∙ (let z : p + length front + length r.front ≡ p + length (front ++ r.front) = omega (arith, length-append front r.front) in z);
    }

-- no bytes are two rows
at_cut : (before : List Text) (p : ℕ) (bytes : List ℕ) (ts : List Text) (qs : List ℕ) (k q : ℕ) (t : Text) (front own behind : List ℕ) → Row p bytes ts qs → IsRow (Is operator) front before → length before ≡ k → Is operator own t
    → bytes ≡ front ++ (own ++ behind) → q ≡ p + length front → (slice_get ts k ≡ Some t) × (slice_get qs k ≡ Some q)
at_cut [] p bytes [] [] k q t front own behind row leads counted is parts stands = absurd (none_is_one bytes own behind t row (parts ∙ ap (λ (f : List ℕ). f ++ (own ++ behind)) leads) is)
at_cut [] p bytes [] (y ∷ qs) k q t front own behind row leads counted is parts stands = absurd row
at_cut [] p bytes (x ∷ ts) [] k q t front own behind row leads counted is parts stands = absurd row
at_cut [] p bytes (x ∷ ts) (y ∷ qs) (suc k) q t front own behind row leads counted is parts stands = absurd (omega (arith, counted))
at_cut [] p bytes (x ∷ ts) (y ∷ qs) zero q t front own behind (at, (f, (b, (cut, one, rest)))) leads counted is parts stands =
    let both = one_reading operator f b own behind x t (sym cut ∙ parts ∙ ap (λ (l : List ℕ). l ++ (own ++ behind)) leads) one is in
    let none : length front ≡ 0 = ap length leads in
    let here : p ≡ p + length front = omega (arith, none) in
    (ap Some both.0, ap Some (at ∙ here ∙ sym stands))
at_cut (z ∷ before) p bytes ts qs zero q t front own behind row leads counted is parts stands = absurd (omega (arith, counted))
at_cut (z ∷ before) p bytes [] [] (suc k) q t front own behind row (f, (g, (e, first, later))) counted is parts stands =
    absurd (none_is_one bytes f (g ++ (own ++ behind)) z row (parts ∙ ap (λ (l : List ℕ). l ++ (own ++ behind)) e ∙ append_assoc f g (own ++ behind)) first)
at_cut (z ∷ before) p bytes [] (y ∷ qs) (suc k) q t front own behind row leads counted is parts stands = absurd row
at_cut (z ∷ before) p bytes (x ∷ ts) [] (suc k) q t front own behind row leads counted is parts stands = absurd row
at_cut (z ∷ before) p bytes (x ∷ ts) (y ∷ qs) (suc k) q t front own behind (at, (h, (b, (cut, one, rest)))) (f, (g, (e, first, later))) counted is parts stands =
    let whole : bytes ≡ f ++ (g ++ (own ++ behind)) = parts ∙ ap (λ (l : List ℕ). l ++ (own ++ behind)) e ∙ append_assoc f g (own ++ behind) in
    let same : h ++ b ≡ f ++ (g ++ (own ++ behind)) = sym cut ∙ whole in
    let both = one_reading operator h b f (g ++ (own ++ behind)) x z same one first in
    let long : length h ≡ length f = omega (arith, ap length same, ap length both.1, length-append h b, length-append f (g ++ (own ++ behind))) in
    let far : length front ≡ length f + length g = ap length e ∙ length-append f g in
    let later_stands : q ≡ p + length h + length g = stands ∙ (let s : p + length front ≡ p + length h + length g = omega (arith, far, long) in s) in
    at_cut before (p + length h) b ts qs k q t g own behind rest later (let c : length before ≡ k = omega (arith, counted) in c) is both.1 later_stands

-- places rise
least : (p : ℕ) (bytes : List ℕ) (ts : List Text) (qs : List ℕ) (k q : ℕ) → Row p bytes ts qs → slice_get qs k ≡ Some q → p ≤ q
least p bytes [] [] k q row e = absurd (cc)
least p bytes [] (y ∷ qs) k q row e = absurd row
least p bytes (x ∷ ts) [] k q row e = absurd row
least p bytes (x ∷ ts) (y ∷ qs) zero q (at, rest) e = let s : q ≡ p = sym (some_inj y q e) ∙ at in omega (arith, s)
least p bytes (x ∷ ts) (y ∷ qs) (suc k) q (at, (front, (back, (parts, is, rest)))) e = let more = least (p + length front) back ts qs k q rest e in omega (arith, more)

-- of each place there is an operator
pub text_at : (p : ℕ) (bytes : List ℕ) (ts : List Text) (qs : List ℕ) (k q : ℕ) → Row p bytes ts qs → slice_get qs k ≡ Some q → (t : Text) × (slice_get ts k ≡ Some t)
text_at p bytes [] [] k q row e = absurd (cc)
text_at p bytes [] (y ∷ qs) k q row e = absurd row
text_at p bytes (x ∷ ts) [] k q row e = absurd row
text_at p bytes (x ∷ ts) (y ∷ qs) zero q row e = (x, refl)
text_at p bytes (x ∷ ts) (y ∷ qs) (suc k) q (at, (front, (back, (parts, is, rest)))) e = text_at (p + length front) back ts qs k q rest e

-- and a place of each operator
place_at : (p : ℕ) (bytes : List ℕ) (ts : List Text) (qs : List ℕ) (k : ℕ) (t : Text) → Row p bytes ts qs → slice_get ts k ≡ Some t → (q : ℕ) × (slice_get qs k ≡ Some q)
place_at p bytes [] qs k t row e = absurd (cc)
place_at p bytes (x ∷ ts) [] k t row e = absurd row
place_at p bytes (x ∷ ts) (y ∷ qs) zero t row e = (y, refl)
place_at p bytes (x ∷ ts) (y ∷ qs) (suc k) t (at, (front, (back, (parts, is, rest)))) e = place_at (p + length front) back ts qs k t rest e

one_number : (p : ℕ) (bytes : List ℕ) (ts : List Text) (qs : List ℕ) (k l q : ℕ) → Row p bytes ts qs → slice_get qs k ≡ Some q → slice_get qs l ≡ Some q → k ≡ l
one_number p bytes [] [] k l q row e f = absurd (cc)
one_number p bytes [] (y ∷ qs) k l q row e f = absurd row
one_number p bytes (x ∷ ts) [] k l q row e f = absurd row
one_number p bytes (x ∷ ts) (y ∷ qs) zero zero q row e f = refl
one_number p bytes (x ∷ ts) (y ∷ qs) zero (suc l) q (at, (front, (back, (parts, is, rest)))) e f =
    let low : q ≡ p = sym (some_inj y q e) ∙ at in
    let one = led front x is in
    let high = least (p + length front) back ts qs l q rest f in
    absurd (omega (arith, low, one, high))
one_number p bytes (x ∷ ts) (y ∷ qs) (suc k) zero q (at, (front, (back, (parts, is, rest)))) e f =
    let low : q ≡ p = sym (some_inj y q f) ∙ at in
    let one = led front x is in
    let high = least (p + length front) back ts qs k q rest e in
    absurd (omega (arith, low, one, high))
one_number p bytes (x ∷ ts) (y ∷ qs) (suc k) (suc l) q (at, (front, (back, (parts, is, rest)))) e f = ap suc (one_number (p + length front) back ts qs k l q rest e f)

-- ---- the same without places

row_of : (p : ℕ) (bytes : List ℕ) (ts : List Text) (qs : List ℕ) → Row p bytes ts qs → IsRow (Is operator) bytes ts
row_of p bytes [] [] row = row
row_of p bytes [] (y ∷ qs) row = absurd row
row_of p bytes (x ∷ ts) [] row = absurd row
row_of p bytes (x ∷ ts) (y ∷ qs) (at, (front, (back, (parts, is, rest)))) = (front, (back, (parts, is, row_of (p + length front) back ts qs rest)))

same_rows : (xs ys : List Text) (bytes others : List ℕ) → bytes ≡ others → IsRow (Is operator) bytes xs → IsRow (Is operator) others ys → xs ≡ ys
same_rows [] [] bytes others same row other = refl
same_rows [] (y ∷ ys) bytes others same none (front, (back, (parts, is, rest))) = absurd (none_is_one bytes front back y none (same ∙ parts) is)
same_rows (x ∷ xs) [] bytes others same (front, (back, (parts, is, rest))) none = absurd (none_is_one others front back x none (sym same ∙ parts) is)
same_rows (x ∷ xs) (y ∷ ys) bytes others same (front, (back, (parts, is, rest))) (f, (b, (cut, one, later))) =
    let both = one_reading operator front back f b x y (sym parts ∙ same ∙ cut) is one in
    ap₂ ◌∷◌ both.0 (same_rows xs ys back b both.1 rest later)

-- ---- operators in a body

-- the bytes of a body are declarations, and these operators, whose first bytes have these places in the bytes of the module
pub record RowIn (body : wire.Body) (texts : List Text) (places : List ℕ) : Type 0 where
  pub locals : List ℕ
  pub declared : List (ℕ × RawVal)
  pub declares : Is declarations locals declared
  pub row : List ℕ
  pub parts : body.bytes ≡ locals ++ row
  pub placed : Row (body.start + length locals) row texts places

module _ (body : wire.Body) (ts : List Text) (qs : List ℕ) (r : RowIn body ts qs) where
  pub stands_in : (k q : ℕ) (t : Text) → slice_get ts k ≡ Some t → slice_get qs k ≡ Some q → StandsIn body k q (op_of t)
  stands_in k q t e f =
      let c = cut_at (body.start + length r.locals) r.row ts qs k q t r.placed e f in
      record {
        locals = r.locals;
        declared = r.declared;
        declares = r.declares;
        front = c.front;
        before = c.before;
        leads = c.leads;
        counted = c.counted;
        own = c.own;
        text = t;
        spelled = c.spelled;
        says = refl;
        behind = c.behind;
        parts = r.parts ∙ ap (λ (l : List ℕ). r.locals ++ l) c.parts;
        stands = c.stands;
      }

  pub in_row : (k q : ℕ) (o : Op) (s : StandsIn body k q o) → (slice_get ts k ≡ Some s.text) × (slice_get qs k ≡ Some q)
  in_row k q o s =
      let same : r.locals ++ r.row ≡ s.locals ++ (s.front ++ (s.own ++ s.behind)) = sym r.parts ∙ s.parts in
      let both = one_reading declarations r.locals r.row s.locals (s.front ++ (s.own ++ s.behind)) r.declared s.declared same r.declares s.declares in
      let long : length r.locals ≡ length s.locals = omega (arith, ap length same, ap length both.1, length-append r.locals r.row, length-append s.locals (s.front ++ (s.own ++ s.behind))) in
      let stands : q ≡ body.start + length r.locals + length s.front = s.stands ∙ (let z : body.start + length s.locals + length s.front ≡ body.start + length r.locals + length s.front = omega (arith, long) in z) in
      at_cut s.before (body.start + length r.locals) r.row ts qs k q s.text s.front s.own s.behind r.placed s.leads s.counted s.spelled both.1 stands

  pub one_op : (k l q : ℕ) → slice_get qs k ≡ Some q → slice_get qs l ≡ Some q → k ≡ l
  one_op k l q e f = one_number (body.start + length r.locals) r.row ts qs k l q r.placed e f

  pub text_there : (k q : ℕ) → slice_get qs k ≡ Some q → (t : Text) × (slice_get ts k ≡ Some t)
  text_there k q e = text_at (body.start + length r.locals) r.row ts qs k q r.placed e

  pub place_there : (k : ℕ) (t : Text) → slice_get ts k ≡ Some t → (q : ℕ) × (slice_get qs k ≡ Some q)
  place_there k t e = place_at (body.start + length r.locals) r.row ts qs k t r.placed e

  -- other words for the same bytes say the same operators
  pub same_texts : (front back : List ℕ) (declared : List (ℕ × RawVal)) (texts : List Text) → body.bytes ≡ front ++ back → Is declarations front declared → IsRow (Is operator) back texts → texts ≡ ts
  same_texts front back declared texts parts declares row =
      let both = one_reading declarations front back r.locals r.row declared r.declared (sym parts ∙ r.parts) declares r.declares in
      same_rows texts ts back r.row both.1 row (row_of (body.start + length r.locals) r.row ts qs r.placed)

-- operators in a row have places
row_places : (p : ℕ) (bytes : List ℕ) (ts : List Text) → IsRow (Is operator) bytes ts → (qs : List ℕ) × Row p bytes ts qs
row_places p bytes [] row = ([], row)
row_places p bytes (t ∷ ts) (front, (back, (parts, is, rest))) = let r = row_places (p + length front) back ts rest in (p ∷ r.0, (refl, (front, (back, (parts, is, r.1)))))

pub row_in : (body : wire.Body) (front back : List ℕ) (declared : List (ℕ × RawVal)) (texts : List Text) → body.bytes ≡ front ++ back → Is declarations front declared → IsRow (Is operator) back texts → (qs : List ℕ) × RowIn body texts qs
row_in body front back declared texts parts declares row =
    let r = row_places (body.start + length front) back texts row in
    (r.0, record { locals = front; declared = declared; declares = declares; row = back; parts = parts; placed = r.1 })

-- an operator of a body begins in it
pub begins_within : (body : wire.Body) (k q : ℕ) (o : Op) → StandsIn body k q o → (body.start ≤ q) × (q < body.start + length body.bytes)
begins_within body k q o s =
    let one = led s.own s.text s.spelled in
    let long : length body.bytes ≡ length s.locals + (length s.front + (length s.own + length s.behind)) =
    ap length s.parts ∙ length-append s.locals (s.front ++ (s.own ++ s.behind)) ∙ ap (λ (n : ℕ). length s.locals + n) (length-append s.front (s.own ++ s.behind) ∙ ap (λ (n : ℕ). length s.front + n) (length-append s.own s.behind)) in
    let is : q ≡ body.start + length s.locals + length s.front = s.stands in
    (omega (arith, is), omega (arith, is, long, one))

-- ---- where locations say it

top_default : (p : ℕ) (b : Bool) → nat_lt p (2 ^ 32 - 1) ≡ b → 2 ^ 64 - 1 ≤ p → 2 ^ 32 - 1 ≡ location_at p
top_default p true e high = let low = ltb-true p (2 ^ 32 - 1) e in absurd (omega (arith, low, high))
top_default p false e high = ap (λ (b : Bool). if b then p else (2 ^ 32 - 1)) (sym e)

capped : (p : ℕ) → location_at (min p (2 ^ 64 - 1)) ≡ location_at p
capped p = by (compared p (2 ^ 64 - 1))
  where
    high : 2 ^ 64 - 1 ≤ p → location_at (min p (2 ^ 64 - 1)) ≡ location_at p
    high le = ap location_at (min-eq_right le) ∙ top_default p (nat_lt p (2 ^ 32 - 1)) refl le

    by : Compared p (2 ^ 64 - 1) → location_at (min p (2 ^ 64 - 1)) ≡ location_at p
    by (inl lt) = ap location_at (min-eq_left (let le : p ≤ 2 ^ 64 - 1 = omega (arith, lt) in le))
    by (inr (inl e)) = high (let le : 2 ^ 64 - 1 ≤ p = omega (arith, e) in le)
    by (inr (inr lt)) = high (let le : 2 ^ 64 - 1 ≤ p = omega (arith, lt) in le)

-- a location that isn't the default is a place
pub real_place : (q : ℕ) → (location_at q ≡ 2 ^ 32 - 1 → ⊥) → (location_at q ≡ q) × (q < 2 ^ 32 - 1)
real_place q none = by (nat_lt q (2 ^ 32 - 1)) refl
  where
    by : (b : Bool) → nat_lt q (2 ^ 32 - 1) ≡ b → (location_at q ≡ q) × (q < 2 ^ 32 - 1)
    by true e = (ap (λ (b : Bool). if b then q else (2 ^ 32 - 1)) e, ltb-true q (2 ^ 32 - 1) e)
    by false e = absurd (none (ap (λ (b : Bool). if b then q else (2 ^ 32 - 1)) e))

pub fits_place : (q : ℕ) → q < 2 ^ 32 - 1 → location_at q ≡ q
fits_place q lt = ap (λ (b : Bool). if b then q else (2 ^ 32 - 1)) (lt-ltb q (2 ^ 32 - 1) lt)

located_row : (p : ℕ) (bytes : List ℕ) (locs : List InstrLocId) → Located IsPlace p bytes locs → (ts : List Text) × ((qs : List ℕ) × (Row p bytes ts qs × (map location locs ≡ map location_at qs)))
located_row p bytes [] h = ([], ([], (h, refl)))
located_row p bytes (loc ∷ locs) (text, (front, (back, (parts, is, given, rest)))) =
    let r = located_row (p + length front) back locs rest in
    (text ∷ r.0, (p ∷ r.1.0, ((refl, (front, (back, (parts, is, r.1.1.0)))), ap₂ ◌∷◌ (given ∙ capped p) r.1.1.1)))

pub located_in : (body : wire.Body) (locs : List InstrLocId) → BodyLocated IsPlace body.start body.bytes locs → (ts : List Text) × ((qs : List ℕ) × (RowIn body ts qs × (map location locs ≡ map location_at qs)))
located_in body locs (front, (back, (declared, (parts, declares, located)))) =
    let r = located_row (body.start + length front) back locs located in
    (r.0, (r.1.0, (record { locals = front; declared = declared; declares = declares; row = back; parts = parts; placed = r.1.1.0 }, r.1.1.1)))

-- ---- where they are written

stands_row : (p : ℕ) (ts : List Text) → AllStand ts → Row p (row_bytes op_bytes ts) ts (places_from p ts)
stands_row p [] h = refl
stands_row p (t ∷ ts) h = (refl, (op_bytes t, (row_bytes op_bytes ts, (refl, h.0, stands_row (p + length (op_bytes t)) ts h.1))))

shifted : (s p : ℕ) (ts : List Text) → places_from (s + p) ts ≡ map (λ x. s + x) (places_from p ts)
shifted s p [] = refl
shifted s p (t ∷ ts) =
    ap (λ (l : List ℕ). (s + p) ∷ l)
    (ap (λ (n : ℕ). places_from n ts) (let z : s + p + length (op_bytes t) ≡ s + (p + length (op_bytes t)) = omega arith in z) ∙ shifted s (p + length (op_bytes t)) ts)

pub written_in : (body : wire.Body) (offsets : List ℕ) → OperatorsStandAt body.bytes offsets → (ts : List Text) × RowIn body ts (map (λ x. body.start + x) offsets)
written_in body offsets s = (
  s.texts,
  record {
    locals = s.front;
    declared = s.declared;
    declares = s.declares;
    row = row_bytes op_bytes s.texts;
    parts = s.spelled;
    placed = subst (λ (qs : List ℕ). Row (body.start + length s.front) (row_bytes op_bytes s.texts) s.texts qs)
        (shifted body.start (length s.front) s.texts ∙ ap (map (λ x. body.start + x)) (sym s.placed)) (stands_row (body.start + length s.front) s.texts s.stand);
  },
)
