-- What stands at the same places of several lists: functions, their bodies, the ranges of these, and the offsets of their operators.
use Rattle.std.proofs.Common.{◌≡◌, ◌⊎◌, inl, inr, ⊎_elim, ℕ, zero, suc, ◌+◌, Bool, true, false, cond, List, [], ◌∷◌, length, map, refl, sym, ap, ◌∙◌, subst, arith, Some, None}
use Rattle.std.specs.Prelude.{◌≢◌, Contains, Option, nat_eq, option_and_then, option_map, slice_get, zip}
use Rattle.std.specs.List.{IsDistinct}
use Rattle.std.specs.declared.ops.Range.{Range}
use Rattle.std.proofs.lemmas.Bool.Decides.{eqb_tells}
use Rattle.wasm_frames.specs.Record as wire
use Rattle.wasm_writer.specs.Spelling.{range_of}
use Rattle.walrus_base.specs.Shape.{place_in}
use Rattle.walrus_base.proofs.Lookups.{got_both, got_map, mapped_some}
use Rattle.walrus_model.specs.Transform.{default_location}
use Rattle.walrus_model.proofs.Indices.{found_at}
use Rattle.walrus_base.proofs.Lists.{Contains-append_1, Contains-append_2, Contains-head, Contains-none, Contains-tail, Contains-uncons}
use Rattle.walrus_base.proofs.Standing.{some_inj, stands_at}
use Rattle.walrus_model.proofs.OrderByImport.{in_either}
use Rattle.walrus_writing.specs.Located.{all_placed_from, ends_of, placed_from, placed_one}
use Rattle.walrus_model.proofs.Looked.{got_contains as is_there}

abbrev pub Pair : Type 0
Pair = ℕ × ℕ

-- ---- lists

-- as long as another one that has something there
pub also_there : {A B : Type 0} (xs : List A) (ys : List B) (k : ℕ) (x : A) → length xs ≡ length ys → slice_get xs k ≡ Some x → (y : B) × (slice_get ys k ≡ Some y)
also_there [] ys k x same at = absurd (cc)
also_there (z ∷ xs) [] k x same at = absurd (omega (arith, same))
also_there (z ∷ xs) (y ∷ ys) zero x same at = (y, refl)
also_there (z ∷ xs) (y ∷ ys) (suc k) x same at = also_there xs ys k x (omega (arith, same)) at

-- what a pair of two lists is made of
pub record ZipAt {A B : Type 0} (xs : List A) (ys : List B) (a : A) (b : B) : Type 0 where
  pub index : ℕ
  pub left : slice_get xs index ≡ Some a
  pub right : slice_get ys index ≡ Some b

pub zip_first : {A B : Type 0} (p q : A × B) → p ≡ q → (p.0 ≡ q.0) × (p.1 ≡ q.1)
zip_first {A} {B} p q e = (ap (λ (z : A × B). z.0) e, ap (λ (z : A × B). z.1) e)

pub from_zip : {A B : Type 0} (xs : List A) (ys : List B) (a : A) (b : B) → Contains (zip xs ys) (a, b) → ZipAt xs ys a b
from_zip [] ys a b at = absurd (Contains-none (a, b) at)
from_zip (x ∷ xs) [] a b at = absurd (Contains-none (a, b) at)
from_zip {A} {B} (x ∷ xs) (y ∷ ys) a b at = ⊎_elim
    (λ (e : ◌≡◌ {A = A × B} (x, y) (a, b)). record { index = 0; left = ap (λ (z : A × B). Some z.0) e; right = ap (λ (z : A × B). Some z.1) e })
    (λ (c : Contains (zip xs ys) (a, b)). let r = from_zip xs ys a b c in record { index = suc r.index; left = r.left; right = r.right })
    (Contains-uncons (x, y) (a, b) (zip xs ys) at)

pub to_zip : {A B : Type 0} (xs : List A) (ys : List B) (a : A) (b : B) → ZipAt xs ys a b → Contains (zip xs ys) (a, b)
to_zip xs ys a b z = is_there (zip xs ys) z.index (a, b) (got_both xs ys z.index a b z.left z.right)

pub zip_firsts : {A B : Type 0} (xs : List A) (ys : List B) → length xs ≡ length ys → map (λ (e : A × B). e.0) (zip xs ys) ≡ xs
zip_firsts [] ys same = refl
zip_firsts (x ∷ xs) [] same = absurd (omega (arith, same))
zip_firsts {A} {B} (x ∷ xs) (y ∷ ys) same = ap (λ (l : List A). x ∷ l) (zip_firsts xs ys (omega (arith, same)))

-- ---- ranges

abbrev pub place_of : wire.Body → ℕ × ℕ
place_of b = (b.start, b.start + length b.bytes)

pub range_at : (bs : List wire.Body) (k : ℕ) (b : wire.Body) → slice_get bs k ≡ Some b → slice_get (map ends_of (map range_of bs)) k ≡ Some (place_of b)
range_at bs k b at = got_map ends_of (map range_of bs) k ∙ ap (option_map ends_of) (got_map range_of bs k ∙ ap (option_map range_of) at)

pub start_at : (bs : List wire.Body) (k : ℕ) (b : wire.Body) → slice_get bs k ≡ Some b → slice_get (map (λ (r : Range ℕ). r.start) (map range_of bs)) k ≡ Some b.start
start_at bs k b at = got_map (λ (r : Range ℕ). r.start) (map range_of bs) k ∙ ap (option_map (λ (r : Range ℕ). r.start)) (got_map range_of bs k ∙ ap (option_map range_of) at)

-- the body of a range, and of a start
pub range_body : (bs : List wire.Body) (k : ℕ) (ends : ℕ × ℕ) → slice_get (map ends_of (map range_of bs)) k ≡ Some ends → (b : wire.Body) × (slice_get bs k ≡ Some b) × (ends ≡ place_of b)
range_body bs k ends at =
    let r = mapped_some ends_of (slice_get (map range_of bs) k) ends (sym (got_map ends_of (map range_of bs) k) ∙ at) in
    let b = mapped_some range_of (slice_get bs k) r.0 (sym (got_map range_of bs k) ∙ r.1) in
    (b.0, b.1, r.2 ∙ ap ends_of b.2)

pub start_body : (bs : List wire.Body) (k start : ℕ) → slice_get (map (λ (r : Range ℕ). r.start) (map range_of bs)) k ≡ Some start → (b : wire.Body) × (slice_get bs k ≡ Some b) × (start ≡ b.start)
start_body bs k start at =
    let r = mapped_some (λ (r : Range ℕ). r.start) (slice_get (map range_of bs) k) start (sym (got_map (λ (r : Range ℕ). r.start) (map range_of bs) k) ∙ at) in
    let b = mapped_some range_of (slice_get bs k) r.0 (sym (got_map range_of bs k) ∙ r.1) in
    (b.0, b.1, r.2 ∙ ap (λ (r : Range ℕ). r.start) b.2)

-- ---- locations with their places

-- a location stands at this place, in a body that begins at start
pub record PlacedBy (start : ℕ) (offsets : List Pair) (location place : ℕ) : Type 0 where
  pub offset : ℕ
  pub among : Contains offsets (location, offset)
  pub here : place ≡ start + offset
  pub located : location ≢ default_location

one_from : (l p location place : ℕ) → ((nat_eq l default_location ≡ true) × (l ≡ default_location)) ⊎ ((nat_eq l default_location ≡ false) × (l ≢ default_location)) → Contains (placed_one l p) (location, place) → (l ≡ location) × (p ≡ place) × (location ≢ default_location)
one_from l p location place (inl t) at = absurd (Contains-none (location, place) (subst (λ (b : Bool). Contains {X = Pair} (cond b [] ((l, p) ∷ [])) (location, place)) t.0 at))
one_from l p location place (inr t) at = ⊎_elim
    (λ (e : ◌≡◌ {A = Pair} (l, p) (location, place)). let same : l ≡ location = ap (λ (z : Pair). z.0) e in (same, ap (λ (z : Pair). z.1) e, λ is. t.1 (same ∙ is)))
    (λ (none : Contains [] (location, place)). absurd (Contains-none (location, place) none))
    (Contains-uncons (l, p) (location, place) [] (subst (λ (b : Bool). Contains {X = Pair} (cond b [] ((l, p) ∷ [])) (location, place)) t.0 at))

one_to : (l p : ℕ) → l ≢ default_location → ((nat_eq l default_location ≡ true) × (l ≡ default_location)) ⊎ ((nat_eq l default_location ≡ false) × (l ≢ default_location)) → Contains (placed_one l p) (l, p)
one_to l p apart (inl t) = absurd (apart t.1)
one_to l p apart (inr t) = subst (λ (b : Bool). Contains {X = Pair} (cond b [] ((l, p) ∷ [])) (l, p)) (sym t.0) (Contains-head (l, p) [])

pub placed_by : (start : ℕ) (offsets : List Pair) (location place : ℕ) → Contains (placed_from start offsets) (location, place) → PlacedBy start offsets location place
placed_by start [] location place at = absurd (Contains-none (location, place) at)
placed_by start (o ∷ offsets) location place at = ⊎_elim
    (λ (first : Contains (placed_one o.0 (start + o.1)) (location, place)).
    let f = one_from o.0 (start + o.1) location place (eqb_tells o.0 default_location) first in
    record { offset = o.1; among = subst (λ (l : ℕ). Contains (o ∷ offsets) (l, o.1)) f.0 (Contains-head o offsets); here = sym f.1; located = f.2 })
    (λ (later : Contains (placed_from start offsets) (location, place)).
    let r = placed_by start offsets location place later in
    record { offset = r.offset; among = Contains-tail o (location, r.offset) offsets r.among; here = r.here; located = r.located })
    (in_either (placed_one o.0 (start + o.1)) (placed_from start offsets) (location, place) at)

by_placed : (start : ℕ) (offsets : List Pair) (location offset : ℕ) → location ≢ default_location → Contains offsets (location, offset) → Contains (placed_from start offsets) (location, start + offset)
by_placed start [] location offset located at = absurd (Contains-none (location, offset) at)
by_placed start (o ∷ offsets) location offset located at = ⊎_elim
    (λ (e : o ≡ (location, offset)). Contains-append_1 (location, start + offset) (placed_one o.0 (start + o.1)) (placed_from start offsets)
    (subst (λ (z : Pair). Contains (placed_one z.0 (start + z.1)) (location, start + offset)) (sym e) (one_to location (start + offset) located (eqb_tells location default_location))))
    (λ (later : Contains offsets (location, offset)). Contains-append_2 (location, start + offset) (placed_one o.0 (start + o.1)) (placed_from start offsets) (by_placed start offsets location offset located later))
    (Contains-uncons o (location, offset) offsets at)

-- of all bodies: one that begins somewhere, and its offsets
pub record PlacedIn (starts : List ℕ) (rest : List (List Pair)) (location place : ℕ) : Type 0 where
  pub index : ℕ
  pub start : ℕ
  pub offsets : List Pair
  pub starts_at : slice_get starts index ≡ Some start
  pub offsets_at : slice_get rest index ≡ Some offsets
  pub placed : PlacedBy start offsets location place

pub placed_in : (starts : List ℕ) (rest : List (List Pair)) (location place : ℕ) → Contains (all_placed_from starts rest) (location, place) → PlacedIn starts rest location place
placed_in [] rest location place at = absurd (Contains-none (location, place) at)
placed_in (start ∷ starts) [] location place at = absurd (Contains-none (location, place) at)
placed_in (start ∷ starts) (offsets ∷ rest) location place at = ⊎_elim
    (λ (first : Contains (placed_from start offsets) (location, place)).
    record { index = 0; start = start; offsets = offsets; starts_at = refl; offsets_at = refl; placed = placed_by start offsets location place first })
    (λ (later : Contains (all_placed_from starts rest) (location, place)).
    let r = placed_in starts rest location place later in
    record { index = suc r.index; start = r.start; offsets = r.offsets; starts_at = r.starts_at; offsets_at = r.offsets_at; placed = r.placed })
    (in_either (placed_from start offsets) (all_placed_from starts rest) (location, place) at)

in_all : (starts : List ℕ) (rest : List (List Pair)) (index start : ℕ) (offsets : List Pair) (e : Pair) → slice_get starts index ≡ Some start → slice_get rest index ≡ Some offsets → Contains (placed_from start offsets) e → Contains (all_placed_from starts rest) e
in_all [] rest index start offsets e s o at = absurd (cc)
in_all (s0 ∷ starts) [] index start offsets e s o at = absurd (cc)
in_all (s0 ∷ starts) (o0 ∷ rest) zero start offsets e s o at =
    Contains-append_1 e (placed_from s0 o0) (all_placed_from starts rest)
    (subst (λ (l : List Pair). Contains (placed_from s0 l) e) (some_inj offsets o0 (sym o))
    (subst (λ (n : ℕ). Contains (placed_from n offsets) e) (some_inj start s0 (sym s)) at))
in_all (s0 ∷ starts) (o0 ∷ rest) (suc index) start offsets e s o at = Contains-append_2 e (placed_from s0 o0) (all_placed_from starts rest) (in_all starts rest index start offsets e s o at)

pub in_placed : (starts : List ℕ) (rest : List (List Pair)) (location place : ℕ) → PlacedIn starts rest location place → Contains (all_placed_from starts rest) (location, place)
in_placed starts rest location place r =
    subst (λ (p : ℕ). Contains (all_placed_from starts rest) (location, p)) (sym r.placed.here)
    (in_all starts rest r.index r.start r.offsets (location, r.start + r.placed.offset) r.starts_at r.offsets_at
    (by_placed r.start r.offsets location r.placed.offset r.placed.located r.placed.among))

-- ---- the offsets of a function's operators, by the place of the function in an order

abbrev pub or_nothing : Option (List Pair) → List Pair
or_nothing None = []
or_nothing (Some offsets) = offsets

abbrev pub offsets_in : List ℕ → List (List Pair) → ℕ → List Pair
offsets_in order rest f = or_nothing (option_and_then (slice_get rest) (place_in order f))

pub offsets_at : (order : List ℕ) (rest : List (List Pair)) (f k : ℕ) (offsets : List Pair) → IsDistinct nat_eq order → slice_get order k ≡ Some f → slice_get rest k ≡ Some offsets → offsets_in order rest f ≡ offsets
offsets_at order rest f k offsets differ at of =
    ap (λ (o : Option ℕ). or_nothing (option_and_then (slice_get rest) o)) (stands_at order f k differ at) ∙ ap or_nothing of

-- one that isn't among them has none
none_by : (order : List ℕ) (rest : List (List Pair)) (f : ℕ) (o : Option ℕ) → place_in order f ≡ o → (Contains order f → ⊥) → or_nothing (option_and_then (slice_get rest) o) ≡ []
none_by order rest f None e none = refl
none_by order rest f (Some k) e none = absurd (none (is_there order k f (found_at order f k e)))

pub offsets_none : (order : List ℕ) (rest : List (List Pair)) (f : ℕ) → (Contains order f → ⊥) → offsets_in order rest f ≡ []
offsets_none order rest f none = none_by order rest f (place_in order f) refl none

-- what has one stands there
among_by : (order : List ℕ) (rest : List (List Pair)) (f : ℕ) (e : Pair) (o : Option ℕ) → place_in order f ≡ o → Contains (or_nothing (option_and_then (slice_get rest) o)) e → Contains order f
among_by order rest f e None is at = absurd (Contains-none e at)
among_by order rest f e (Some k) is at = is_there order k f (found_at order f k is)

pub offsets_among : (order : List ℕ) (rest : List (List Pair)) (f : ℕ) (e : Pair) → Contains (offsets_in order rest f) e → Contains order f
offsets_among order rest f e at = among_by order rest f e (place_in order f) refl at
