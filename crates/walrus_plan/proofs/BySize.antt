-- The functions with a body as a list of slots of their own; their order by size is an order of these, the larger ones first.
use Rattle.std.proofs.Common.{inl, inr, ◌≡◌, ◌⊎◌, ℕ, zero, suc, ◌+◌, ◌<◌, ◌≤◌, true, false, List, [], ◌∷◌, ◌++◌, map, length, get_or, leb, refl, sym, ap, ◌∙◌, subst, arith}
use Rattle.std.specs.Prelude.{◌≢◌, Option, Some, None, IsSome, AllPairs, Contains, option_map, option_and_then, slice_get}
use Rattle.std.specs.Cmp.{IsTotalOrder, nat_cmp_is}
use Rattle.std.specs.Option.{option_to_list}
use Rattle.std.specs.Ordering.{nat_cmp, ordering_then, is_lt}
use Rattle.std.specs.declared.cmp.Ordering.{Ordering}
use Rattle.std.specs.declared.cmp.Ordering.TheVariants.{Less, Equal}
use Rattle.std.proofs.lemmas.Bool.Decides.{leb_tells}
use Rattle.std.proofs.lemmas.Cmp.{nat_cmp_total, on_total, back_total, then_total}
use Rattle.std.proofs.lemmas.List.MinMax.{ranks_by}
use Rattle.std.proofs.lemmas.List.Sorted.{sorted_far, Contains-permutation, IsPermutation-map, IsPermutation-sym}
use Rattle.walrus_base.specs.Arena.{item_at, entries, entries_from}
use Rattle.walrus_items.specs.LocalFunction.{LocalFunction}
use Rattle.walrus_items.specs.Functions.{FunctionValue, local_functions, local_at}
use Rattle.walrus_items.specs.declared.function_kind.FunctionKind.{FunctionKind}
use Rattle.walrus_items.specs.declared.function_kind.FunctionKind.TheVariants as kind
use Rattle.walrus_base.specs.Shape.{place_in}
use Rattle.walrus_items.specs.Function.{size_of}
use Rattle.walrus_base.proofs.Lookups.{pairs_map, got_map}
use Rattle.walrus_model.proofs.Slots.{stands_at as stands_among}
use Rattle.walrus_model.specs.Ordered.{Ordered}
use Rattle.walrus_model.proofs.Orders.{lists_permuted, ordered_entries}
use Rattle.walrus_model.proofs.Reach.{Contains-unmap}
use Rattle.walrus_base.proofs.Standing.{got_in, none_there, some_inj, stands_at}
use Rattle.walrus_plan.specs.Sizes.{by_size, local_sizes, IsOrder}
use Rattle.std.proofs.lemmas.Option.{slice_get-get_or as got_at}

-- ---- functions with a body

abbrev pub own_body : FunctionKind → Option LocalFunction
own_body (kind.Local f) = Some f
own_body (kind.Import i) = None
own_body (kind.Uninitialized ty) = None

abbrev pub body_at : Option FunctionValue → Option LocalFunction
body_at o = option_and_then (λ (v : FunctionValue). own_body v.kind) o

abbrev pub bodies_in : List (Option FunctionValue) → List (Option LocalFunction)
bodies_in ss = map body_at ss

pub body_there : (ss : List (Option FunctionValue)) (n : ℕ) → item_at (bodies_in ss) n ≡ body_at (item_at ss n)
body_there [] n = refl
body_there (s ∷ ss) zero = refl
body_there (s ∷ ss) (suc n) = body_there ss n

one_entry : (k : ℕ) (g : FunctionKind) (more : List (ℕ × LocalFunction)) (rest : List (Option LocalFunction)) → more ≡ entries_from (k + 1) rest → option_to_list (local_at k g) ++ more ≡ entries_from k (own_body g ∷ rest)
one_entry k (kind.Local f) more rest e = ap (λ l. (k, f) ∷ l) e
one_entry k (kind.Import i) more rest e = e
one_entry k (kind.Uninitialized ty) more rest e = e

bodies_from : (k : ℕ) (ss : List (Option FunctionValue)) → local_functions (entries_from k ss) ≡ entries_from k (bodies_in ss)
bodies_from k [] = refl
bodies_from k (None ∷ rest) = bodies_from (k + 1) rest
bodies_from k (Some v ∷ rest) = one_entry k v.kind (local_functions (entries_from (k + 1) rest)) (bodies_in rest) (bodies_from (k + 1) rest)

-- ---- the larger one first

size_total : IsTotalOrder by_size
size_total = then_total (back_total (on_total (λ (x : ℕ × ℕ). x.0) nat_cmp_total)) (on_total (λ (x : ℕ × ℕ). x.1) nat_cmp_total)

larger_less : (m n i j : ℕ) → (n < m) ⊎ ((m ≡ n) × (i < j)) → is_lt (by_size (m, i) (n, j)) ≡ true
larger_less m n i j (inl h) = ap (λ (o : Ordering). is_lt (ordering_then o (nat_cmp i j))) (sym (nat_cmp_is n m Less h))
larger_less m n i j (inr (e, h)) =
    ap (λ (o : Ordering). is_lt (ordering_then o (nat_cmp i j))) (sym (nat_cmp_is n m Equal (sym e)))
    ∙ ap (λ (o : Ordering). is_lt o) (sym (nat_cmp_is i j Less h))

-- m at place i, and n at j
module _ (m n i j : ℕ) (apart : i ≢ j) (far : is_lt (by_size (n, j) (m, i)) ≡ false) where
  not_larger : (m < n) ⊎ ((n ≡ m) × (j < i)) → ⊥
  not_larger h = none_there (sym far ∙ larger_less n m j i h)

  by_place : m ≡ n → ((leb i j ≡ true) × (i ≤ j)) ⊎ ((leb i j ≡ false) × (j < i)) → i < j
  by_place same (inl le) = let most : i ≤ j = le.1 in omega (arith, most, apart)
  by_place same (inr lt) = absurd (not_larger (inr (sym same, lt.1)))

  of_sizes : ((leb m n ≡ true) × (m ≤ n)) ⊎ ((leb m n ≡ false) × (n < m)) → ((leb n m ≡ true) × (n ≤ m)) ⊎ ((leb n m ≡ false) × (m < n)) → (n < m) ⊎ ((m ≡ n) × (i < j))
  of_sizes (inr lt) t = inl lt.1
  of_sizes (inl le) (inr lt) = absurd (not_larger (inl lt.1))
  of_sizes (inl le) (inl ge) =
      let most : m ≤ n = le.1 in
      let least : n ≤ m = ge.1 in
      let same : m ≡ n = omega (arith, most, least) in
      inr (same, by_place same (leb_tells i j))

  pub larger_first : (n < m) ⊎ ((m ≡ n) × (i < j))
  larger_first = of_sizes (leb_tells m n) (leb_tells n m)

-- ---- their order

places_of : (es : List (ℕ × LocalFunction)) → map (λ (s : ℕ × ℕ). s.1) (map (λ (e : ℕ × LocalFunction). (size_of e.1, e.0)) es) ≡ map (λ (e : ℕ × LocalFunction). e.0) es
places_of [] = refl
places_of (e ∷ es) = ap (λ (ps : List ℕ). e.0 ∷ ps) (places_of es)

module _ (ss : List (Option FunctionValue)) (order : List ℕ) (h : IsOrder ss order) where
  abbrev placed : ℕ × ℕ → ℕ
  placed s = s.1

  pub ordered_by_size : Ordered (item_at (bodies_in ss)) order
  ordered_by_size =
      subst (λ (ps : List ℕ). Ordered (item_at (bodies_in ss)) ps) (sym h.is)
      (lists_permuted (λ p. IsSome (item_at (bodies_in ss) p)) (map placed (local_sizes ss)) (map placed h.sized) (IsPermutation-map placed (local_sizes ss) h.sized h.moved)
      (subst (λ (ps : List ℕ). Ordered (item_at (bodies_in ss)) ps) (sym (places_of (local_functions (entries ss)) ∙ ap (map (λ (e : ℕ × LocalFunction). e.0)) (bodies_from 0 ss))) (ordered_entries (bodies_in ss))))

  -- a size is that of the body at its place
  pub record IsSizeOf (s : ℕ × ℕ) : Type 0 where
    pub body : LocalFunction
    pub at : item_at (bodies_in ss) s.1 ≡ Some body
    pub long : s.0 ≡ size_of body

  size_among : (s : ℕ × ℕ) → Contains h.sized s → IsSizeOf s
  size_among s c =
      let size : ℕ × LocalFunction → ℕ × ℕ = λ e. (size_of e.1, e.0) in
      let e = Contains-unmap size (local_functions (entries ss)) s (Contains-permutation h.sized (local_sizes ss) s (IsPermutation-sym (local_sizes ss) h.sized h.moved) c) in
      let at : item_at (bodies_in ss) e.0.0 ≡ Some e.0.1 = stands_among (bodies_in ss) e.0 (subst (λ (es : List (ℕ × LocalFunction)). Contains es e.0) (bodies_from 0 ss) e.1) in
      subst IsSizeOf e.2 (record { body = e.0.1; at = at; long = refl })

  placed_at : (k : ℕ) (d : ℕ × ℕ) → k < length h.sized → slice_get order k ≡ Some (get_or h.sized k d).1
  placed_at k d low = ap (λ (ps : List ℕ). slice_get ps k) h.is ∙ got_map placed h.sized k ∙ ap (option_map placed) (got_at h.sized k d low)

  places_apart : (i j : ℕ) (d : ℕ × ℕ) → i < j → j < length h.sized → (get_or h.sized i d).1 ≢ (get_or h.sized j d).1
  places_apart i j d less low same =
      let within : i < length h.sized = omega (arith, less, low) in
      let first = stands_at order (get_or h.sized i d).1 i ordered_by_size.differ (placed_at i d within) in
      let second = stands_at order (get_or h.sized j d).1 j ordered_by_size.differ (placed_at j d low) in
      let one : i ≡ j = some_inj i j (sym first ∙ ap (place_in order) same ∙ second) in
      omega (arith, one, less)

  abbrev member : (i : ℕ) (d : ℕ × ℕ) → i < length h.sized → Contains h.sized (get_or h.sized i d)
  member i d low = let g = got_in h.sized i (get_or h.sized i d) (got_at h.sized i d low) in (i, g.0, g.1 (get_or h.sized i d))

  -- what holds of two bodies, the larger first, holds along the order
  pub pairs_by_size : (R : ℕ → ℕ → Type 0) → ((i j : ℕ) (f g : LocalFunction) → item_at (bodies_in ss) i ≡ Some f → item_at (bodies_in ss) j ≡ Some g
      → (size_of g < size_of f) ⊎ ((size_of f ≡ size_of g) × (i < j)) → R i j) → AllPairs R order
  pairs_by_size R law =
      subst (λ (ps : List ℕ). AllPairs R ps) (sym h.is)
      (pairs_map R placed h.sized (λ i j d less low.
      let within : i < length h.sized = omega (arith, less, low) in
      let s = get_or h.sized i d in
      let t = get_or h.sized j d in
      let f = size_among s (member i d within) in
      let g = size_among t (member j d low) in
      let far : is_lt (by_size t s) ≡ false = sorted_far (λ x y. is_lt (by_size x y)) (ranks_by size_total (λ (x : ℕ × ℕ). x)) h.sized h.sorted i j d (omega (arith, less)) low in
      law s.1 t.1 f.body g.body f.at g.at
      (subst (λ (n : ℕ). (n < size_of f.body) ⊎ ((size_of f.body ≡ n) × (s.1 < t.1))) g.long
      (subst (λ (m : ℕ). (t.0 < m) ⊎ ((m ≡ t.0) × (s.1 < t.1))) f.long (larger_first s.0 t.0 s.1 t.1 (places_apart i j d less low) far)))))
