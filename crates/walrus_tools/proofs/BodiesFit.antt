-- The bodies that a transform tells of stand apart in the output, so that their sizes come to no more than its length.
use Rattle.std.proofs.Common.{◌≡◌, ◌≢◌, ◌==◌, ℕ, zero, suc, ◌+◌, ◌-◌, ◌<◌, ◌≤◌, Bool, true, false, not, List, [], ◌∷◌, length, Option, Some, None, refl, sym, ap, ◌∙◌, subst, arith, ⊎_elim, length-append}
use Rattle.std.specs.Prelude.{Contains, IsSome, filter, slice_get}
use Rattle.std.specs.List.{sum_by}
use Rattle.std.proofs.lemmas.Bool.{eq-eqb, eqb-true}
use Rattle.std.proofs.lemmas.List.Filters.{sum_by-filter_both}
use Rattle.std.proofs.lemmas.List.Sums.{sum_by-cons}
use Rattle.walrus.specs.Frames.Frames.{Frames, header}
use Rattle.walrus.specs.Frames.Record as wire
use Rattle.walrus.specs.Base.Operators.{Functions}
use Rattle.walrus.proofs.Base.Filters.{in_filter}
use Rattle.walrus.proofs.Base.Lists.{Contains-head, Contains-none, Contains-tail, Contains-uncons}
use Rattle.walrus.specs.Code.Transform.{Transform}
use Rattle.walrus.specs.Model.Abstract.{Abstract, Function}
use Rattle.walrus.specs.Model.Config.{Config}
use Rattle.walrus.specs.Model.Names.{body_of_function}
use Rattle.walrus.specs.Model.Transform.{IsBodyOf, IsTransform, no_transform}
use Rattle.walrus.proofs.Model.RisingLists.{Rises, first_below, later_rise}
use Rattle.walrus.specs.Modules.Transform.{CountStandsAt, IsTransformOf, imported_functions}
use Rattle.walrus_tools.specs.Alone.{bytes_of, size_of}
use Rattle.walrus_tools.proofs.BodiesRise.{Within, framed_within}

untrue : false ≡ true → ⊥
untrue h = cc

-- ---- sums of what stands apart

member_counts : (g : ℕ → ℕ) (ns : List ℕ) (n : ℕ) → Contains ns n → g n ≤ sum_by g ns
member_counts g [] n c = absurd (Contains-none n c)
member_counts g (m ∷ ns) n c = ⊎_elim
    (λ (same : m ≡ n). let e : g m ≡ g n = ap g same in omega (arith, e, sum_by-cons g m ns))
    (λ (later : Contains ns n). let le = member_counts g ns n later in omega (arith, le, sum_by-cons g m ns))
    (Contains-uncons m n ns c)

differ : (m n : ℕ) (t : Bool) → (m == n) ≡ t → m ≢ n → not (m == n) ≡ true
differ m n true is apart = absurd (apart (eqb-true m n is))
differ m n false is apart = ap not is

-- things that rise by a key, and have numbers of their own among these, weigh no more than what has these numbers
module _ {A : Type 0} (key number size : A → ℕ) (g : ℕ → ℕ) where
  weighs : (rs : List A) (ns : List ℕ) → Rises key rs → ((a b : A) → Contains rs a → Contains rs b → key a < key b → number b ≢ number a)
      → ((a : A) → Contains rs a → size a ≡ g (number a)) → ((a : A) → Contains rs a → Contains ns (number a)) → sum_by size rs ≤ sum_by g ns
  weighs [] ns rises apart sized among = omega arith
  weighs (a ∷ rs) ns rises apart sized among =
      let p : ℕ → Bool = λ n. n == number a in
      let q : ℕ → Bool = λ n. not (n == number a) in
      let split : sum_by g (filter p ns) + sum_by g (filter q ns) ≡ sum_by g ns = sum_by-filter_both p q (λ n. refl) g ns in
      let own : g (number a) ≤ sum_by g (filter p ns) = member_counts g (filter p ns) (number a) (in_filter p ns (number a) (among a (Contains-head a rs)) (eq-eqb (number a) (number a) refl)) in
      let one : size a ≡ g (number a) = sized a (Contains-head a rs) in
      let rest : sum_by size rs ≤ sum_by g (filter q ns) = weighs rs (filter q ns) (later_rise key a rs rises)
      (λ b c at there. apart b c (Contains-tail a b rs at) (Contains-tail a c rs there))
      (λ b at. sized b (Contains-tail a b rs at))
      (λ b at. in_filter q ns (number b) (among b (Contains-tail a b rs at))
      (differ (number b) (number a) (number b == number a) refl (apart a b (Contains-head a rs) (Contains-tail a b rs at) (first_below key a b rs rises at)))) in
      omega (arith, split, own, one, rest, sum_by-cons size a rs)

-- ---- bodies

abbrev body_size : wire.Body → ℕ
body_size b = length b.bytes

abbrev size_there : Option wire.Body → ℕ
size_there None = 0
size_there (Some b) = body_size b

numbers_from : ℕ → List wire.Body → List ℕ
numbers_from n [] = []
numbers_from n (b ∷ bs) = n ∷ numbers_from (suc n) bs

has_number : (n : ℕ) (bs : List wire.Body) (k : ℕ) (b : wire.Body) → slice_get bs k ≡ Some b → Contains (numbers_from n bs) (n + k)
unfolding numbers_from
has_number n [] k b is = absurd cc
has_number n (x ∷ bs) zero b is = let e : n ≡ n + 0 = omega arith in subst (λ (m : ℕ). Contains (n ∷ numbers_from (suc n) bs) m) e (Contains-head n (numbers_from (suc n) bs))
has_number n (x ∷ bs) (suc k) b is =
    let e : suc n + k ≡ n + suc k = omega arith in
    subst (λ (m : ℕ). Contains (n ∷ numbers_from (suc n) bs) m) e (Contains-tail n (suc n + k) (numbers_from (suc n) bs) (has_number (suc n) bs k b is))

numbers_weigh : (n : ℕ) (bs : List wire.Body) (g : ℕ → ℕ) → ((k : ℕ) → g (n + k) ≡ size_there (slice_get bs k)) → sum_by g (numbers_from n bs) ≡ sum_by body_size bs
unfolding numbers_from
numbers_weigh n [] g is = refl
numbers_weigh n (b ∷ bs) g is =
    let zero_is : g (n + 0) ≡ body_size b = is 0 in
    let e : n + 0 ≡ n = omega arith in
    let first : g n ≡ body_size b = ap g (sym e) ∙ zero_is in
    let rest : sum_by g (numbers_from (suc n) bs) ≡ sum_by body_size bs = numbers_weigh (suc n) bs g (λ k. (let f : suc n + k ≡ n + suc k = omega arith in ap g f ∙ is (suc k))) in
    omega (arith, first, rest, sum_by-cons g n (numbers_from (suc n) bs), sum_by-cons body_size b bs)

sum_within : (p q : ℕ) (bs : List wire.Body) → Within p q bs → p + sum_by body_size bs ≤ q
sum_within p q [] h = let le : p ≤ q = h in omega (arith, le)
sum_within p q (b ∷ bs) h =
    let low : p ≤ b.start = h.0 in
    let rest : b.start + length b.bytes + sum_by body_size bs ≤ q = sum_within (b.start + length b.bytes) q bs h.1 in
    omega (arith, low, rest, sum_by-cons body_size b bs)

framed_fit : (bytes : List ℕ) (m : wire.Module) (f : Frames bytes m) → sum_by body_size m.bodies ≤ length bytes
framed_fit bytes m f =
    let within : 0 + sum_by body_size m.bodies ≤ 8 + length f.rest = sum_within 0 (8 + length f.rest) m.bodies (framed_within bytes m f) in
    let long : length bytes ≡ 8 + length f.rest = ap length f.headed ∙ length-append header f.rest in
    omega (arith, within, long)

-- ---- the transform

local_live : (o : Option Function) → IsSome (body_of_function o) → IsSome o
local_live None h = h
local_live (Some g) h = refl

back_from : (a b : ℕ) → (a + b) - a ≡ b
back_from a b = omega arith

module _ (c : Config) (keeps : Bool) (locations : ℕ → List ℕ) (v : Abstract) (output : List ℕ) (x : Transform) (t : IsTransformOf c keeps locations v output x) where
  abbrev imported : ℕ
  imported = imported_functions (t.raw)

  abbrev index : ℕ → ℕ
  index f = t.written.written.renaming.numbers Functions f

  module _ (h : IsTransform imported t.offsets CountStandsAt keeps x output t.raw t.written.written.renaming v) where
    abbrev Range : Type 0
    Range = ℕ × (ℕ × ℕ)

    number : Range → ℕ
    number r = index r.0 - imported

    abbrev g : ℕ → ℕ
    g k = size_there (slice_get t.raw.bodies k)

    module _ (r : Range) (at : Contains x.function_ranges r) where
      abbrev told : (body : wire.Body) × IsBodyOf imported t.written.written.renaming t.raw r.0 body × (r.1 ≡ (body.start, body.start + length body.bytes))
      told = h.ranges r.0 r.1 at

      numbered : number r ≡ told.1.0
      unfolding number
      numbered = ap (λ (n : ℕ). n - imported) told.1.1 ∙ back_from imported told.1.0

      sized : size_of r ≡ g (number r)
      sized = ap (λ (e : ℕ × ℕ). e.1 - e.0) told.2 ∙ back_from (told.0).start (length (told.0).bytes) ∙ ap size_there (sym told.1.2) ∙ ap g (sym numbered)

      among : Contains (numbers_from 0 t.raw.bodies) (number r)
      among = let e : 0 + told.1.0 ≡ number r = (let z : 0 + told.1.0 ≡ told.1.0 = omega arith in z ∙ sym numbered) in subst (λ (n : ℕ). Contains (numbers_from 0 t.raw.bodies) n) e (has_number 0 t.raw.bodies told.1.0 told.0 told.1.2)

      live : IsSome (v.functions r.0)
      live = local_live (v.functions r.0) ((h.functions r.0).1 (r.1, at))

    apart : (a b : Range) → Contains x.function_ranges a → Contains x.function_ranges b → a.0 < b.0 → number b ≢ number a
    apart a b at there less same =
        let numbers : (told b there).1.0 ≡ (told a at).1.0 = sym (numbered b there) ∙ same ∙ numbered a at in
        let indices : index b.0 ≡ index a.0 = (told b there).1.1 ∙ ap (λ (k : ℕ). imported + k) numbers ∙ sym (told a at).1.1 in
        let one : b.0 ≡ a.0 = t.written.written.carried.apart Functions (λ e. cc) b.0 a.0 (live b there) (live a at) indices in
        omega (arith, less, one)

    fit : bytes_of x.function_ranges ≤ sum_by body_size t.raw.bodies
    fit =
        let le : bytes_of x.function_ranges ≤ sum_by g (numbers_from 0 t.raw.bodies) = weighs (λ (r : Range). r.0) number size_of g x.function_ranges (numbers_from 0 t.raw.bodies) h.rising apart sized among in
        let is : sum_by g (numbers_from 0 t.raw.bodies) ≡ sum_by body_size t.raw.bodies = numbers_weigh 0 t.raw.bodies g (λ k. (let z : 0 + k ≡ k = omega arith in ap g z)) in
        omega (arith, le, is)

  none_fit : x ≡ no_transform → bytes_of x.function_ranges ≤ length output
  none_fit is = let none : bytes_of x.function_ranges ≡ 0 = ap (λ (y : Transform). bytes_of y.function_ranges) is in omega (arith, none)

  pub bodies_fit : bytes_of x.function_ranges ≤ length output
  bodies_fit = ⊎_elim
      (λ some. let all = framed_fit output t.raw t.framed in (let most = fit some.2 in omega (arith, most, all)))
      (λ none. none_fit none.1)
      t.holds
