-- A body whose locals keep their indices, as it is written.
use Rattle.std.proofs.Common.{◌≡◌, ℕ, ◌+◌, ◌-◌, ◌<◌, ◌≤◌, ◌^◌, ◌++◌, Bool, true, List, length, map, take, drop, Some, Result, Ok, Err, IfOk, refl, sym, ap, ◌∙◌, subst, arith}
use Rattle.std.specs.Prelude.{nat_eq}
use Rattle.std.specs.List.{IsDistinct, list_any, range_with_len}
use Rattle.std.proofs.lemmas.List.{drop-map, length-map, take-map}
use Rattle.std.proofs.lemmas.List.FromFn.{length-range_with_len}
use Rattle.wasm_forms.specs.declared.types.RawVal.{RawVal}
use Rattle.walrus_base.specs.Operators.{locals_of}
use Rattle.walrus_base.specs.Shape.{place_in}
use Rattle.walrus_code.specs.declared.error.IrError.{IrError}
use Rattle.walrus_bodies.specs.Blocks.{blocks_hold}
use Rattle.walrus_bodies.specs.Locals.{AreMarked}
use Rattle.walrus_functions.specs.DeclaredLocals.{AreDeclared}
use Rattle.walrus_functions.specs.EmittedBody.{FitsType, Source, EmitsBody, Declares, index_in}
use Rattle.walrus_functions.specs.Kept.{KeepsIndices}
use Rattle.walrus_functions.specs.Writing.{HasSignature, LocalsDeclared, WritesBehind}
use Rattle.walrus_functions.proofs.KeptLemmas as kept
use Rattle.walrus_functions.proofs.WrittenLemmas as written

-- a range of places, told by ids, in two parts
module _ {A : Type 0} (place : A → ℕ) (ids : List A) (first count params : ℕ) (are : map place ids ≡ range_with_len first count) (within : params ≤ count) where
  pub front : map place (take params ids) ≡ range_with_len first params
  front = sym (take-map place params ids) ∙ ap (take params) are ∙ kept.take_range first count params within

  pub back : map place (drop params ids) ≡ range_with_len (first + params) (count - params)
  back = sym (drop-map place params ids) ∙ ap (drop params) are ∙ kept.drop_range first count params within

  pub as_many : length ids ≡ count
  as_many = sym (length-map ids place) ∙ ap length are ∙ length-range_with_len first count

module _ (s : Source) (flags : List Bool) (first params count : ℕ) (marked : AreMarked first flags (locals_of s.ops)) (many : length flags ≡ count) (k : KeepsIndices s.slots flags first params count) (few : count < 2 ^ 32) (args_are : s.parameters ≡ range_with_len first params) where
  abbrev pub order : List ℕ
  order = range_with_len (first + params) (count - params)

  pub declared : Declares s order
  declared = subst (λ (ps : List ℕ). AreDeclared s.slots (locals_of s.ops) ps order) (sym args_are) (kept.declared flags (locals_of s.ops) first marked s.slots params count many k)

  pub all_are : s.parameters ++ order ≡ range_with_len first count
  all_are = ap (λ (ps : List ℕ). ps ++ order) args_are ∙ kept.whole first count params k.within

  pub agree : (i : ℕ) → i < count → index_in s order (first + i) ≡ Some i
  agree i low = ap (λ (ps : List ℕ). place_in ps (first + i)) all_are ∙ kept.place_range first count i (first + i) refl low

  pub few_order : length order < 2 ^ 32
  few_order = let size = length-range_with_len (first + params) (count - params) in omega (arith, size, few)

  differ : HasSignature s.def s.slots s.parameters → FitsType s.def s.slots s.parameters
  differ h = written.fits_type s h (subst (λ (ps : List ℕ). IsDistinct nat_eq ps) (sym args_are) (kept.distinct first params))

  module _ (ids : List ℕ) (listed : ids ≡ range_with_len first count) (ds : List (ℕ × RawVal)) (are : LocalsDeclared s.names s.slots order ds) (fits : HasSignature s.def s.slots s.parameters) (blocks : blocks_hold s.is_function_type s.ops ≡ true) where
    uses : flags ≡ map (λ x. list_any (nat_eq x) (locals_of s.ops)) ids
    uses =
        kept.flags_are flags (locals_of s.ops) first marked
        ∙ ap (λ (n : ℕ). map (λ x. list_any (nat_eq x) (locals_of s.ops)) (range_with_len first n)) many
        ∙ ap (map (λ x. list_any (nat_eq x) (locals_of s.ops))) (sym listed)

    pub emitted : {X : Type 0} (bytes places : List ℕ) (i : X → List ℕ) (u : X → List Bool) (r : Result X IrError) → IfOk r (λ x. (i x ≡ ids) × (u x ≡ flags)) → WritesBehind s.names (index_in s order) s.features s.ops ds (λ _. bytes) (λ _. places) r → EmitsBody s (λ _. bytes) (λ _. places) (λ _. index_in s order) i u r
    emitted {X} bytes places i u r same w =
        written.emitted s order declared ds are (differ fits) blocks few_order (index_in s order) (λ x. refl) ids (listed ∙ sym all_are) flags uses (λ _. bytes) (λ _. places) (λ _. index_in s order) i u r (known r same) w
      where
        known : (r : Result X IrError) → IfOk r (λ x. (i x ≡ ids) × (u x ≡ flags)) → IfOk r (λ x. (index_in s order ≡ index_in s order) × (i x ≡ ids) × (u x ≡ flags))
        known (Ok x) h = (refl, h.0, h.1)
        known (Err e) h = tt
