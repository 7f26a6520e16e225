-- A transform that is made of the places of bodies and of operators is true of them.
use Rattle.std.proofs.Common.{◌≡◌, ◌⊎◌, inl, inr, ℕ, ◌+◌, ◌<◌, ◌≤◌, Bool, true, false, leb, List, [], ◌∷◌, length, map, refl, sym, ap, ◌∙◌, subst, arith, Some}
use Rattle.std.specs.Prelude.{◌≢◌, ◌↔◌, AllPairs, Contains, nat_eq, slice_get, zip}
use Rattle.std.specs.List.{IsDistinct}
use Rattle.std.specs.List.Sorted.{IsSorted}
use Rattle.std.specs.Ordering.{is_lt, nat_cmp}
use Rattle.std.specs.declared.ops.Range.{Range}
use Rattle.std.proofs.lemmas.Bool.Decides.{leb_tells}
use Rattle.std.proofs.lemmas.Cmp.{nat_cmp_total, on_total, then_total}
use Rattle.std.proofs.lemmas.List.Sorted.{Contains-permutation, IsPermutation-map, IsPermutation-sym}
use Rattle.std.proofs.lemmas.Map.Keys.{IsDistinct-IsPermutation}
use Rattle.std.specs.Cmp.{IsTotalOrder, nat_cmp_is}
use Rattle.std.specs.declared.cmp.Ordering.TheVariants.{Less}
use Rattle.wasm_frames.specs.Record as wire
use Rattle.wasm_writer.specs.Spelling.{range_of}
use Rattle.walrus_base.specs.Operators.{Functions}
use Rattle.walrus_functions.specs.Transform.{Transform}
use Rattle.walrus_model.specs.Abstract.{Abstract}
use Rattle.walrus_model.specs.Renaming.{Renaming}
use Rattle.walrus_model.specs.Transform.{IsLocalFunction, IsPlaceOf, IsTransform, default_location}
use Rattle.walrus_base.proofs.Lists.{Contains-none}
use Rattle.walrus_model.proofs.OrderOfPlaces.{pairs_weaker}
use Rattle.walrus_model.proofs.Orders.{eq_flips}
use Rattle.walrus_base.proofs.Standing.{got_where}
use Rattle.walrus_writing.specs.Located.{AreSorted, LastPlaces, all_placed_from, by_ends, by_pair, ends_of, lasts}
use Rattle.walrus_writing.specs.Transform.{CountStandsAt}
use Rattle.walrus_writing.proofs.LastPlaces.{AreLasts, NotAfter, are_lasts}
use Rattle.walrus_writing.proofs.Placing.{PlacedIn, Pair, ZipAt, also_there, from_zip, in_placed, offsets_among, offsets_at, offsets_in, place_of, placed_in, range_at, range_body, start_at, start_body, to_zip, zip_firsts}
use Rattle.walrus_model.proofs.RisingLists.{Before, sorted_pairs, strictly_rising}
use Rattle.wasm_operators.proofs.OneStands.{true_not_false as untrue}
use Rattle.walrus_model.proofs.Looked.{got_contains as is_there}

-- ---- sorted pairs

pair_total : IsTotalOrder by_pair
pair_total = then_total (on_total (λ (a : Pair). a.0) nat_cmp_total) (on_total (λ (a : Pair). a.1) nat_cmp_total)

by_tests : (m n : ℕ) → ((leb m n ≡ true) × (m ≤ n)) ⊎ ((leb m n ≡ false) × (n < m)) → is_lt (nat_cmp n m) ≡ false → m ≤ n
by_tests m n (inl t) far = t.1
by_tests m n (inr t) far = absurd (untrue (ap is_lt (nat_cmp_is n m Less t.1) ∙ far))

not_after : (a b : Pair) → Before nat_cmp nat_cmp_total a b → NotAfter a b
not_after a b (inl less) = inl less
not_after a b (inr tied) = inr (tied.0, by_tests a.1 b.1 (leb_tells a.1 b.1) tied.1)

pairs_sorted : (xs : List Pair) → IsSorted by_pair xs → AllPairs NotAfter xs
pairs_sorted xs h = pairs_weaker (Before nat_cmp nat_cmp_total) NotAfter xs (sorted_pairs nat_cmp nat_cmp_total xs h) (λ a b first second. not_after a b)

-- ---- functions by their order, and what belongs to each

module _ (v : Abstract) (r : Renaming) (raw : wire.Module) (imports : ℕ) (order : List ℕ) (rest : List (List Pair))
    (local : (f : ℕ) → Contains order f → IsLocalFunction v f) (listed : (f : ℕ) → IsLocalFunction v f → Contains order f) (differ : IsDistinct nat_eq order)
    (numbered : (k f : ℕ) → slice_get order k ≡ Some f → r.numbers Functions f ≡ imports + k)
    (as_many : length order ≡ length raw.bodies) (offsets_many : length rest ≡ length order) where
  abbrev ranges : List (Range ℕ)
  ranges = map range_of raw.bodies

  abbrev starts : List ℕ
  starts = map (λ (x : Range ℕ). x.start) ranges

  abbrev pub offsets : ℕ → List Pair
  offsets f = offsets_in order rest f

  abbrev pub IsBody : ℕ → wire.Body → Type 0
  IsBody f b = (k : ℕ) × (r.numbers Functions f ≡ imports + k) × (slice_get raw.bodies k ≡ Some b)

  pub body_at : (k f : ℕ) (b : wire.Body) → slice_get order k ≡ Some f → slice_get raw.bodies k ≡ Some b → IsBody f b
  body_at k f b at to = (k, numbered k f at, to)

  -- a function's body stands at the place of the function
  pub body_there : (k f : ℕ) (b : wire.Body) → slice_get order k ≡ Some f → IsBody f b → slice_get raw.bodies k ≡ Some b
  body_there k f b at is =
      let first : r.numbers Functions f ≡ imports + is.0 = is.1 in
      let second : r.numbers Functions f ≡ imports + k = numbered k f at in
      let same : k ≡ is.0 = omega (arith, first, second) in
      ap (slice_get raw.bodies) same ∙ is.2

  abbrev IsPlace : ℕ → ℕ → Type 0
  IsPlace location place = IsPlaceOf imports r raw offsets location place

  from_placed : (location place : ℕ) → PlacedIn starts rest location place → IsPlace location place
  from_placed location place q =
      let b = start_body raw.bodies q.index q.start q.starts_at in
      let f = also_there rest order q.index q.offsets offsets_many q.offsets_at in (
        f.0,
        b.0,
        q.placed.offset,
        body_at q.index f.0 b.0 f.1 b.1,
        subst (λ (l : List Pair). Contains l (location, q.placed.offset)) (sym (offsets_at order rest f.0 q.index q.offsets differ f.1 q.offsets_at)) q.placed.among,
        q.placed.here ∙ ap (λ (n : ℕ). n + q.placed.offset) b.2,
      )

  to_placed : (location place : ℕ) → location ≢ default_location → IsPlace location place → PlacedIn starts rest location place
  to_placed location place located (f, b, offset, is, at, here) =
      let c = offsets_among order rest f (location, offset) at in
      let where_f : slice_get order c.0 ≡ Some f = got_where order f c in
      let o = also_there order rest c.0 f (sym offsets_many) where_f in
      record {
        index = c.0;
        start = b.start;
        offsets = o.0;
        starts_at = start_at raw.bodies c.0 b (body_there c.0 f b where_f is);
        offsets_at = o.1;
        placed = record {
          offset = offset;
          among = subst (λ (l : List Pair). Contains l (location, offset)) (offsets_at order rest f c.0 o.0 differ where_f o.1) at;
          here = here;
          located = located;
        };
      }

  -- ---- the map

  abbrev all : List Pair
  all = all_placed_from starts rest

  record MapTold (keeps : Bool) (found : List Pair) : Type 0 where
    pub rise : AllPairs (λ (a : Pair) (b : Pair). a.0 < b.0) found
    pub without : keeps ≡ false → found ≡ []
    pub locations : keeps ≡ true → (location : ℕ) → (((place : ℕ) × Contains found (location, place)) ↔ ((location ≢ default_location) × ((place : ℕ) × IsPlace location place)))
    pub last : (location place : ℕ) → Contains found (location, place) → IsPlace location place × ((other : ℕ) → IsPlace location other → other ≤ place)

  no_pairs : AllPairs (λ (a : Pair) (b : Pair). a.0 < b.0) []
  no_pairs = λ i j d less low. let l : j < 0 = low in absurd (omega (arith, l))

  module _ (sorted : List Pair) (moved : AreSorted by_pair all sorted) where
    lasts_are : AreLasts sorted (lasts sorted)
    lasts_are = are_lasts sorted (pairs_sorted sorted moved.sorted)

    -- what stands in the map has a place
    placed_of : (location place : ℕ) → Contains (lasts sorted) (location, place) → PlacedIn starts rest location place
    placed_of location place at = placed_in starts rest location place (Contains-permutation sorted all (location, place) (IsPermutation-sym all sorted moved.moved) (lasts_are.within (location, place) at))

    among_sorted : (location place : ℕ) → location ≢ default_location → IsPlace location place → Contains sorted (location, place)
    among_sorted location place located is = Contains-permutation all sorted (location, place) moved.moved (in_placed starts rest location place (to_placed location place located is))

    found_last : (location place : ℕ) → location ≢ default_location → IsPlace location place → (other : ℕ) × Contains (lasts sorted) (location, other)
    found_last location place located is =
        let e = lasts_are.each (location, place) (among_sorted location place located is) in
        (e.0.1, subst (λ (l : ℕ). Contains {X = Pair} (lasts sorted) (l, e.0.1)) e.2 e.1)

    map_kept : MapTold true (lasts sorted)
    map_kept = record {
      rise = lasts_are.rise;
      without = λ e. absurd (untrue e);
      locations = λ e location. (
        λ found. let q = placed_of location found.0 found.1 in (q.placed.located, (found.0, from_placed location found.0 q)),
        λ is. found_last location is.1.0 is.0 is.1.1,
      );
      last = λ location place at.
          let q = placed_of location place at in (
            from_placed location place q,
            λ other is. lasts_are.greatest (location, place) (location, other) at (among_sorted location other q.placed.located is) refl,
          );
    }

  untrue_back : false ≡ true → ⊥
  untrue_back e = cc

  map_told : (keeps : Bool) (found : List Pair) → LastPlaces keeps all found → MapTold keeps found
  map_told true found h = subst (λ (l : List Pair). MapTold true l) (sym h.2) (map_kept h.0 h.1)
  map_told false found h = subst (λ (l : List Pair). MapTold false l) (sym h) (record {
    rise = no_pairs;
    without = λ e. refl;
    locations = λ e location. absurd (untrue_back e);
    last = λ location place at. absurd (Contains-none (location, place) at);
  })

  -- ---- the ranges

  abbrev Ranged : Type 0
  Ranged = ℕ × (ℕ × ℕ)

  abbrev pairs : List Ranged
  pairs = zip order (map ends_of ranges)

  as_many_ranges : (bs : List wire.Body) → length bs ≡ length (map ends_of (map range_of bs))
  as_many_ranges [] = refl
  as_many_ranges (b ∷ bs) = let more : length bs ≡ length (map ends_of (map range_of bs)) = as_many_ranges bs in omega (arith, more)

  module _ (found : List Ranged) (moved : AreSorted by_ends pairs found) where
    abbrev number : Ranged → ℕ
    number e = e.0

    found_differ : IsDistinct nat_eq (map number found)
    found_differ =
        IsDistinct-IsPermutation nat_eq eq_flips (map number pairs) (map number found) (IsPermutation-map number pairs found moved.moved)
        (subst (λ (l : List ℕ). IsDistinct nat_eq l) (sym (zip_firsts order (map ends_of ranges) (as_many ∙ as_many_ranges raw.bodies))) differ)

    ranges_rise : AllPairs (λ (a : Ranged) (b : Ranged). a.0 < b.0) found
    ranges_rise = strictly_rising by_pair pair_total found found_differ (sorted_pairs by_pair pair_total found moved.sorted)

    zip_of : (f : ℕ) (range : ℕ × ℕ) → Contains found (f, range) → ZipAt order (map ends_of ranges) f range
    zip_of f range at = from_zip order (map ends_of ranges) f range (Contains-permutation found pairs (f, range) (IsPermutation-sym pairs found moved.moved) at)

    range_of_local : (f : ℕ) → IsLocalFunction v f → (range : ℕ × ℕ) × Contains found (f, range)
    range_of_local f is =
        let c = listed f is in
        let b = also_there order raw.bodies c.0 f as_many (got_where order f c) in (
          place_of b.0,
          Contains-permutation pairs found (f, place_of b.0) moved.moved
              (to_zip order (map ends_of ranges) f (place_of b.0) (record { index = c.0; left = got_where order f c; right = range_at raw.bodies c.0 b.0 b.1 })),
        )

    local_of_range : (f : ℕ) → ((range : ℕ × ℕ) × Contains found (f, range)) → IsLocalFunction v f
    local_of_range f h = let z = zip_of f h.0 h.1 in local f (is_there order z.index f z.left)

    body_of_range : (f : ℕ) (range : ℕ × ℕ) → Contains found (f, range) → (body : wire.Body) × IsBody f body × (range ≡ (body.start, body.start + length body.bytes))
    body_of_range f range at =
        let z = zip_of f range at in
        let b = range_body raw.bodies z.index range z.right in
        (b.0, body_at z.index f b.0 z.left b.1, b.2)

  -- ---- all of it

  module _ (keeps : Bool) (bytes : List ℕ) (x : Transform) (start : CountStandsAt bytes x.code_section_start) (moved : AreSorted by_ends pairs x.function_ranges) (lasts_of : LastPlaces keeps all x.instruction_map) where
    pub is_transform : IsTransform imports offsets CountStandsAt keeps x bytes raw r v
    is_transform = let told = map_told keeps x.instruction_map lasts_of in record {
      rising = ranges_rise x.function_ranges moved;
      functions = λ f. (range_of_local x.function_ranges moved f, local_of_range x.function_ranges moved f);
      ranges = body_of_range x.function_ranges moved;
      start = start;
      locations_rise = told.rise;
      without = told.without;
      locations = told.locations;
      last = told.last;
    }
