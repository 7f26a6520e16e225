-- A whole body of what was read, with other numbers for its locals, is well formed.
use Rattle.std.proofs.Common.{◌≡◌, ◌≢◌, ℕ, zero, suc, ◌+◌, ◌<◌, List, [], ◌∷◌, ◌++◌, length, map, refl, sym, ap, ap₂, ◌∙◌, subst, arith, length-append}
use Rattle.std.specs.Prelude.{Option, Some, AllPairs, option_map, slice_get}
use Rattle.std.specs.List.{range_with_len}
use Rattle.std.proofs.lemmas.List.{map-append}
use Rattle.std.proofs.lemmas.List.FromFn.{get_or-map-range_with_len, length-map-range_with_len}
use Rattle.std.proofs.lemmas.Option.{slice_get-map}
use Rattle.walrus_base.specs.Types.{ValType}
use Rattle.walrus_code.specs.Names.{Lookup}
use Rattle.walrus_bodies.specs.Body.{context, BodyReads}
use Rattle.walrus_bodies.specs.FunctionTypes.{is_function_def}
use Rattle.walrus_model.specs.BlockHandlers.{params_of}
use Rattle.walrus_model.specs.ReadFunction.{locals_from}
use Rattle.walrus_model.specs.Abstract.{Abstract, Body}
use Rattle.walrus_model.specs.Config.{Config}
use Rattle.walrus_model.specs.Sections.{Said, body_with}
use Rattle.walrus_model.specs.Renaming.{Renaming}
use Rattle.walrus_model.specs.Rules.{IsFunctionType}
use Rattle.walrus_theorem.specs.Chain.{IsWholeBody}
use Rattle.walrus_theorem.specs.Features.{features_of}
use Rattle.walrus_theorem.specs.WellMade.{IsWellFormed}
use Rattle.walrus_base.proofs.Lists.{map-map}
use Rattle.walrus_model.proofs.MovedBody.{moved_op, moved_reads}
use Rattle.walrus_theorem.proofs.StepHandlers.{slice_get-front}
use Rattle.walrus_base.proofs.Lookups.{there as slice_there}
use Rattle.walrus_model.proofs.TypeLists.{got_right as behind}

range_join : (a p d : ℕ) → range_with_len a (p + d) ≡ range_with_len a p ++ range_with_len (a + p) d
range_join a zero d = ap₂ (λ (x n : ℕ). range_with_len x n) (let e : a ≡ a + 0 = omega arith in e) (let e : 0 + d ≡ d = omega arith in e)
range_join a (suc p) d =
    let n : suc p + d ≡ suc (p + d) = omega arith in
    let b : a + 1 + p ≡ a + suc p = omega arith in
    ap (range_with_len a) n ∙ ap (λ l. a ∷ l) (range_join (a + 1) p d ∙ ap (λ (x : ℕ). range_with_len (a + 1) p ++ range_with_len x d) b)

typed_range : {V : Type 0} (T : ℕ → Option V) (whole : List V) → ((x : ℕ) (v : V) → slice_get whole x ≡ Some v → T x ≡ Some v) → (low : ℕ) (xs : List V) → ((k : ℕ) (y : V) → slice_get xs k ≡ Some y → slice_get whole (low + k) ≡ Some y) → map (λ v. Some v) xs ≡ map T (range_with_len low (length xs))
typed_range T whole h low [] at = refl
typed_range T whole h low (x ∷ xs) at =
    let zeroth : low ≡ low + 0 = omega arith in
    ap₂ ◌∷◌ (sym (h low x (ap (slice_get whole) zeroth ∙ at 0 x refl)))
    (typed_range T whole h (low + 1) xs (λ k y e. let next : low + 1 + k ≡ low + suc k = omega arith in ap (slice_get whole) next ∙ at (suc k) y e))

module _ (c : Config) (v : Abstract) (ty : ℕ) (ps : List (ValType ℕ)) (said : Said) (b : Body) (r : Renaming) (i : ℕ) (whole : IsWholeBody r i (body_with ps said) b) where
  abbrev l : ℕ → ℕ
  l = r.locals i

  distinct : AllPairs (λ (x : ℕ) (y : ℕ). x ≢ y) (map l (range_with_len 0 (length ps)))
  distinct j k d before last same =
      let n : length (map l (range_with_len 0 (length ps))) ≡ length ps = length-map-range_with_len l 0 (length ps) in
      let second : k < length ps = omega (arith, last, n) in
      let first : j < length ps = omega (arith, before, second) in
      let all : length (ps ++ said.0) ≡ length ps + length said.0 = length-append ps said.0 in
      let up : l j < l k = whole.rise j k (slice_there (ps ++ said.0) j (omega (arith, first, all))) (slice_there (ps ++ said.0) k (omega (arith, second, all))) before in
      let e : l j ≡ l k = sym (get_or-map-range_with_len l 0 (length ps) j j d first (omega arith)) ∙ same ∙ get_or-map-range_with_len l 0 (length ps) k k d second (omega arith) in
      omega (arith, up, e)

  abbrev further : List ℕ
  further = map l (range_with_len (length ps) (length said.0))

  found : (n : ℕ) → slice_get (b.parameters ++ further) n ≡ option_map l (locals_from 0 (length ps + length said.0) n)
  found n =
      let from : 0 + length ps ≡ length ps = omega arith in
      ap (λ (xs : List ℕ). slice_get (xs ++ further) n) whole.parameters
      ∙ ap (λ (xs : List ℕ). slice_get xs n) (sym (map-append l (range_with_len 0 (length ps)) (range_with_len (length ps) (length said.0))) ∙ ap (map l) (ap (λ (x : ℕ). range_with_len 0 (length ps) ++ range_with_len x (length said.0)) (sym from) ∙ sym (range_join 0 (length ps) (length said.0))))
      ∙ slice_get-map l (range_with_len 0 (length ps + length said.0)) n

  pub well_formed : b.operators ≡ map (moved_op l) said.1 → params_of (v.types ty) ≡ ps → IsFunctionType v ty → (names : Lookup) (text : List ℕ) → BodyReads (context names (λ t. is_function_def (v.types t)) (features_of c)) (locals_from 0 (length ps + length said.0)) text said.0 said.1 → IsWellFormed c v ty b
  well_formed ops params function names text read = record {
    function_type = function;
    distinct = subst (AllPairs (λ (x : ℕ) (y : ℕ). x ≢ y)) (sym whole.parameters) distinct;
    typed =
        ap (map b.local_type) whole.parameters
        ∙ map-map b.local_type l (range_with_len 0 (length ps))
        ∙ sym (typed_range (λ x. b.local_type (l x)) (ps ++ said.0) whole.types 0 ps (λ k y e. let z : k ≡ 0 + k = omega arith in ap (slice_get (ps ++ said.0)) (sym z) ∙ slice_get-front ps said.0 k y e))
        ∙ ap (λ (xs : List (ValType ℕ)). map (λ x. Some x) xs) (sym params);
    names = names;
    further = further;
    types = said.0;
    further_typed =
        typed_range (λ x. b.local_type (l x)) (ps ++ said.0) whole.types (length ps) said.0 (λ k y e. behind ps said.0 k (length ps + k) refl ∙ e)
        ∙ sym (map-map b.local_type l (range_with_len (length ps) (length said.0)));
    text = text;
    read = subst (BodyReads (context names (λ t. is_function_def (v.types t)) (features_of c)) (slice_get (b.parameters ++ further)) text said.0) (sym ops)
        (moved_reads (context names (λ t. is_function_def (v.types t)) (features_of c)) l (locals_from 0 (length ps + length said.0)) (slice_get (b.parameters ++ further)) found text said.0 said.1 read);
  }
