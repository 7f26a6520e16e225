-- Each local stands behind all locals of the functions in front of its own.
use Rattle.std.proofs.Common.{◌≡◌, ℕ, zero, suc, ◌+◌, ◌<◌, ◌≤◌, List, [], ◌∷◌, ◌++◌, length, map, refl, sym, ap, ap₂, ◌∙◌, arith, length-append}
use Rattle.std.specs.Prelude.{Some, option_to_list, replicate, slice_get, sum_by, zip}
use Rattle.std.specs.List.{range_with_len}
use Rattle.std.proofs.lemmas.List.{map-append}
use Rattle.std.proofs.lemmas.List.FromFn.{length-range_with_len}
use Rattle.std.proofs.lemmas.List.Sums.{sum_by-cons}
use Rattle.wasm_entries.specs.Record as entries
use Rattle.wasm_entries.specs.declared.record.RawDesc.{RawDesc}
use Rattle.wasm_entries.specs.declared.record.RawDesc.TheVariants as descs
use Rattle.wasm_frames.specs.Record as wire
use Rattle.walrus_functions.specs.Handlers.{params_of}
use Rattle.walrus_model.specs.Abstract.{Function}
use Rattle.walrus_model.specs.Names.{body_of_function, body_of_kind}
use Rattle.walrus_model.specs.Sections.{Said, function_with, functions_of, imported, imported_function, types_of}
use Rattle.walrus_base.proofs.Standing.{some_inj}
use Rattle.walrus_reading.specs.TakenNames.{place_of, starts_from}
use Rattle.walrus_reading.proofs.Locals.{in_front}
use Rattle.walrus_reading.specs.Parsed.{local_count}
use Rattle.walrus_reading.specs.Taken.{local_counts, starts_of}
use Rattle.walrus_reading.proofs.LocalStarts.{joined}

-- ---- places by counts

-- the first so many of these together
abbrev pub before : ℕ → List ℕ → ℕ
before zero ns = 0
before (suc f) [] = 0
before (suc f) (n ∷ ns) = n + before f ns

-- what is placed stands behind all in front of it
stands_behind : (k : ℕ) (ns : List ℕ) (f x p : ℕ) → place_of (starts_from k ns) f x ≡ Some p → (p ≡ k + before f ns + x) × (f < length ns)
stands_behind k [] zero x p is = absurd cc
stands_behind k [] (suc f) x p is = absurd cc
stands_behind k (n ∷ ns) zero x p is =
    let h = in_front k n ns x p is in
    let at : p ≡ k + 0 + x = omega (arith, h.0) in
    (at, omega arith)
stands_behind k (n ∷ ns) (suc f) x p is =
    let h = stands_behind (k + n) ns f x p is in
    let at : p ≡ k + (n + before f ns) + x = omega (arith, h.0) in
    (at, omega (arith, h.1))

-- counts that are looked up, added up
added_up : (get : ℕ → ℕ) (k : ℕ) (ns : List ℕ) → ((i j n : ℕ) → j ≡ k + i → slice_get ns i ≡ Some n → get j ≡ n) → (f : ℕ) → f ≤ length ns → sum_by get (range_with_len k f) ≡ before f ns
added_up get k ns are zero le = refl
added_up get k [] are (suc f) le = absurd (omega (arith, le))
added_up get k (n ∷ ns) are (suc f) le =
    sum_by-cons get k (range_with_len (k + 1) f)
    ∙ ap₂ (λ (a b : ℕ). a + b) (are 0 k n (omega arith) refl) (added_up get (k + 1) ns (λ i j m e at. are (suc i) j m (omega (arith, e)) at) f (omega (arith, le)))

-- ---- the functions of a module

abbrev pub count : Function → ℕ
count f = local_count (body_of_kind f.kind)

count_got : (fs : List Function) (i n : ℕ) → slice_get (map count fs) i ≡ Some n → local_count (body_of_function (slice_get fs i)) ≡ n
count_got [] i n e = absurd cc
count_got (f ∷ fs) zero n e = some_inj (count f) n e
count_got (f ∷ fs) (suc i) n e = count_got fs i n e

-- imported functions have no locals
none_imported : (i : ℕ) (xs : List entries.Import) → map count (imported imported_function i xs) ≡ replicate (length (imported imported_function i xs)) 0
none_imported i [] = refl
none_imported i (x ∷ xs) = by_desc x.desc (none_imported (i + 1) xs) where
  by_desc : (d : RawDesc) → map count (imported imported_function (i + 1) xs) ≡ replicate (length (imported imported_function (i + 1) xs)) 0
      → map count (option_to_list (imported_function i d) ++ imported imported_function (i + 1) xs) ≡ replicate (length (option_to_list (imported_function i d) ++ imported imported_function (i + 1) xs)) 0
  by_desc (descs.Function ty) others = ap (λ (l : List ℕ). 0 ∷ l) others
  by_desc (descs.Table ty) others = others
  by_desc (descs.Memory l) others = others
  by_desc (descs.Global ty) others = others
  by_desc (descs.Tag ty) others = others

module _ (r : wire.Module) where
  own_counts : (said : List (ℕ × Said)) → map count (map (function_with r) said) ≡ local_counts (types_of r) said
  own_counts [] = refl
  own_counts (f ∷ said) = ap₂ (λ (n : ℕ) (ns : List ℕ). n ∷ ns) one (own_counts said) where
    one : length (range_with_len 0 (length (params_of (types_of r f.0)))) + length f.1.0 ≡ length (params_of (types_of r f.0) ++ f.1.0)
    one = omega (arith, length-range_with_len 0 (length (params_of (types_of r f.0))), length-append (params_of (types_of r f.0)) f.1.0)

  module _ (bodies : List Said) where
    abbrev pub brought : ℕ
    brought = length (imported imported_function 0 r.imports)

    abbrev pub counts : List ℕ
    counts = replicate brought 0 ++ local_counts (types_of r) (zip r.functions bodies)

    pub all_counts : map count (functions_of r bodies) ≡ counts
    all_counts =
        map-append count (imported imported_function 0 r.imports) (map (function_with r) (zip r.functions bodies))
        ∙ ap₂ (λ (a b : List ℕ). a ++ b) (none_imported 0 r.imports) (own_counts (zip r.functions bodies))

    abbrev pub looked_up : ℕ → ℕ
    looked_up g = local_count (body_of_function (slice_get (functions_of r bodies) g))

    pub sums : (f : ℕ) → f ≤ length (map count (functions_of r bodies)) → sum_by looked_up (range_with_len 0 f) ≡ before f (map count (functions_of r bodies))
    sums f le = added_up looked_up 0 (map count (functions_of r bodies)) are f le where
      are : (i j n : ℕ) → j ≡ 0 + i → slice_get (map count (functions_of r bodies)) i ≡ Some n → looked_up j ≡ n
      are i j n e at =
          let same : j ≡ i = omega (arith, e) in
          ap looked_up same ∙ count_got (functions_of r bodies) i n at

    -- a local that is placed by the starts stands behind those of all functions in front of its own
    pub counted_up_to : (starts : List ℕ) → starts ≡ starts_of (types_of r) brought (zip r.functions bodies) → (f x p : ℕ) → place_of starts f x ≡ Some p → p ≡ sum_by looked_up (range_with_len 0 f) + x
    counted_up_to starts are f x p is =
        let begin : starts ≡ starts_from 0 (map count (functions_of r bodies)) = are ∙ joined brought (local_counts (types_of r) (zip r.functions bodies)) ∙ ap (starts_from 0) (sym all_counts) in
        let behind = stands_behind 0 (map count (functions_of r bodies)) f x p (ap (λ (l : List ℕ). place_of l f x) (sym begin) ∙ is) in
        let at : p ≡ 0 + before f (map count (functions_of r bodies)) + x = behind.0 in
        let lt : f < length (map count (functions_of r bodies)) = behind.1 in
        let total : sum_by looked_up (range_with_len 0 f) ≡ before f (map count (functions_of r bodies)) = sums f (omega (arith, lt)) in
        omega (arith, at, total)
