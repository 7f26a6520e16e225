-- Each place up to the count of all locals is that of a local of some function.
use Rattle.std.proofs.Common.{◌≡◌, ℕ, zero, suc, ◌+◌, ◌<◌, ◌≤◌, Bool, true, false, List, [], ◌∷◌, ◌++◌, length, map, flat_map, refl, sym, ap, subst, ◌∙◌, arith, length-append}
use Rattle.std.specs.Prelude.{Some, IsSome, nat_lt, option_to_list, replicate, slice_get, sum_by, zip}
use Rattle.std.specs.List.{AllByRecursion, range_with_len}
use Rattle.std.proofs.lemmas.Bool.{ltb-false, ltb-true}
use Rattle.std.proofs.lemmas.List.FromFn.{length-range_with_len}
use Rattle.wasm_entries.specs.Record as entries
use Rattle.wasm_entries.specs.declared.record.RawDesc.{RawDesc}
use Rattle.wasm_entries.specs.declared.record.RawDesc.TheVariants as descs
use Rattle.wasm_frames.specs.Record as wire
use Rattle.walrus_functions.specs.Handlers.{params_of}
use Rattle.walrus_model.specs.Abstract.{Body, Function, ImportedFunction}
use Rattle.walrus_model.specs.Names.{body_of_function, body_of_kind}
use Rattle.walrus_model.specs.Sections.{Said, body_with, function_with, functions_of, imported, imported_function, types_of}
use Rattle.walrus_base.proofs.Standing.{some_inj}
use Rattle.walrus_reading.specs.Taken.{local_counts, locals_said}
use Rattle.walrus_reading.proofs.LocalsCounted.{all_counts, before, count, looked_up, sums}
use Rattle.walrus_base.proofs.Lookups.{there}
use Rattle.walrus_theorem.proofs.ManyLocals.{gap as split}

-- ---- places among counts

-- all of these together
abbrev total : List ℕ → ℕ
total [] = 0
total (n ∷ ns) = n + total ns

-- a function of which a local stands there
record FoundAt (fs : List Function) (p : ℕ) : Type 0 where
  place : ℕ
  one : Function
  local : ℕ
  got : slice_get fs place ≡ Some one
  within : local < count one
  at : p ≡ before place (map count fs) + local

found : (fs : List Function) (p : ℕ) → p < total (map count fs) → FoundAt fs p
found [] p lt = absurd (omega (arith, lt))
found (g ∷ fs) p lt = by (λ q less. found fs q less) (nat_lt p (count g)) refl where
  by : ((q : ℕ) → q < total (map count fs) → FoundAt fs q) → (t : Bool) → nat_lt p (count g) ≡ t → FoundAt (g ∷ fs) p
  by others true e =
      let at : p ≡ 0 + p = omega arith in
      record { place = 0; one = g; local = p; got = refl; within = ltb-true p (count g) e; at = at }
  by others false e =
      let ge : count g ≤ p = ltb-false p (count g) e in
      let s = split (count g) p ge in
      let all : p < count g + total (map count fs) = lt in
      let less : s.0 < total (map count fs) = omega (arith, all, s.1) in
      let h = others s.0 less in
      let at : p ≡ count g + before h.place (map count fs) + h.local = omega (arith, s.1, h.at) in
      record { place = suc h.place; one = h.one; local = h.local; got = h.got; within = h.within; at = at }

got_below : (fs : List Function) (i : ℕ) (g : Function) → slice_get fs i ≡ Some g → i < length (map count fs)
got_below [] i g e = absurd cc
got_below (f ∷ fs) zero g e = omega arith
got_below (f ∷ fs) (suc i) g e = let lt : i < length (map count fs) = got_below fs i g e in omega (arith, lt)

-- ---- each local has a type

-- where a local is counted, the function has a body in which it has a type
abbrev IsTyped : Function → Type 0
IsTyped g = (x : ℕ) → x < count g → (b : Body) × ((body_of_kind g.kind ≡ Some b) × IsSome (b.local_type x))

imported_typed : (i : ℕ) (xs : List entries.Import) → AllByRecursion IsTyped (imported imported_function i xs)
imported_typed i [] = tt
imported_typed i (x ∷ xs) = by_desc x.desc (imported_typed (i + 1) xs) where
  by_desc : (d : RawDesc) → AllByRecursion IsTyped (imported imported_function (i + 1) xs) → AllByRecursion IsTyped (option_to_list (imported_function i d) ++ imported imported_function (i + 1) xs)
  by_desc (descs.Function ty) others = (none_there, others) where
    none_there : IsTyped (record { ty = ty; kind = ImportedFunction i })
    none_there y lt = let below : y < 0 = lt in absurd (omega (arith, below))
  by_desc (descs.Table ty) others = others
  by_desc (descs.Memory l) others = others
  by_desc (descs.Global ty) others = others
  by_desc (descs.Tag ty) others = others

both_typed : (xs ys : List Function) → AllByRecursion IsTyped xs → AllByRecursion IsTyped ys → AllByRecursion IsTyped (xs ++ ys)
both_typed [] ys h k = k
both_typed (x ∷ xs) ys h k = (h.0, both_typed xs ys h.1 k)

typed_got : (fs : List Function) (i : ℕ) (g : Function) → AllByRecursion IsTyped fs → slice_get fs i ≡ Some g → IsTyped g
typed_got [] i g h e = absurd cc
typed_got (f ∷ fs) zero g h e = subst IsTyped (some_inj f g e) h.0
typed_got (f ∷ fs) (suc i) g h e = typed_got fs i g h.1 e

module _ (r : wire.Module) where
  own_typed : (said : List (ℕ × Said)) → AllByRecursion IsTyped (map (function_with r) said)
  own_typed [] = tt
  own_typed (f ∷ said) = (one, own_typed said) where
    one : IsTyped (function_with r f)
    one x lt =
        let within : x < length (range_with_len 0 (length (params_of (types_of r f.0)))) + length f.1.0 = lt in
        let below : x < length (params_of (types_of r f.0) ++ f.1.0) = omega (arith, within, length-range_with_len 0 (length (params_of (types_of r f.0))), length-append (params_of (types_of r f.0)) f.1.0) in
        (body_with (params_of (types_of r f.0)) f.1, (refl, there (params_of (types_of r f.0) ++ f.1.0) x below))

  total_zeros : (n : ℕ) (ns : List ℕ) → total (replicate n 0 ++ ns) ≡ total ns
  total_zeros zero ns = refl
  total_zeros (suc n) ns = let e : 0 + total (replicate n 0 ++ ns) ≡ total ns = omega (arith, total_zeros n ns) in e

  total_row : (said : List (ℕ × Said)) → total (local_counts (types_of r) said) ≡ length (flat_map (locals_said (types_of r)) said)
  total_row [] = refl
  total_row (f ∷ said) = ap (λ (n : ℕ). length (locals_said (types_of r) f) + n) (total_row said) ∙ sym (length-append (locals_said (types_of r) f) (flat_map (locals_said (types_of r)) said))

  module _ (bodies : List Said) where
    abbrev fs : List Function
    fs = functions_of r bodies

    all_typed : AllByRecursion IsTyped fs
    all_typed = both_typed (imported imported_function 0 r.imports) (map (function_with r) (zip r.functions bodies)) (imported_typed 0 r.imports) (own_typed (zip r.functions bodies))

    as_many : total (map count fs) ≡ length (flat_map (locals_said (types_of r)) (zip r.functions bodies))
    as_many = ap total (all_counts r bodies) ∙ total_zeros (length (imported imported_function 0 r.imports)) (local_counts (types_of r) (zip r.functions bodies)) ∙ total_row (zip r.functions bodies)

    -- local x of function f stands at place p
    pub record Stands (p : ℕ) : Type 0 where
      pub f : ℕ
      pub body : Body
      pub x : ℕ
      pub is : body_of_function (slice_get fs f) ≡ Some body
      pub typed : IsSome (body.local_type x)
      pub at : sum_by (looked_up r bodies) (range_with_len 0 f) + x ≡ p

    pub each_stands : (p : ℕ) → p < length (flat_map (locals_said (types_of r)) (zip r.functions bodies)) → Stands p
    each_stands p lt =
        let less : p < total (map count fs) = omega (arith, lt, as_many) in
        let h = found fs p less in
        let t = typed_got fs h.place h.one all_typed h.got h.local h.within in
        let below : h.place < length (map count fs) = got_below fs h.place h.one h.got in
        let in_front : sum_by (looked_up r bodies) (range_with_len 0 h.place) ≡ before h.place (map count fs) = sums r bodies h.place (omega (arith, below)) in
        let at : sum_by (looked_up r bodies) (range_with_len 0 h.place) + h.local ≡ p = omega (arith, in_front, h.at) in
        record { f = h.place; body = t.0; x = h.local; is = ap body_of_function h.got ∙ t.1.0; typed = t.1.1; at = at }
