-- A body without parameters and locals, as it is written.
use Rattle.std.proofs.Common.{◌≡◌, ℕ, ◌++◌, Bool, true, List, [], ◌∷◌, map, Option, Some, Result, Ok, Err, IfOk, refl, sym, ap, ◌∙◌, subst, arith}
use Rattle.std.specs.Prelude.{Contains, nat_eq}
use Rattle.std.specs.List.{IsDistinct}
use Rattle.walrus_base.specs.Arena.{item_at}
use Rattle.walrus_base.specs.Types.{ValType}
use Rattle.walrus_base.specs.Operators.{locals_of}
use Rattle.walrus_code.specs.declared.error.IrError.{IrError}
use Rattle.walrus_bodies.specs.Blocks.{blocks_hold}
use Rattle.walrus_functions.specs.EmittedBody.{FitsType, Source, EmitsBody, Declares, index_in, takes}
use Rattle.walrus_functions.specs.Writing.{HasSignature, LocalsDeclared, WritesBehind}
use Rattle.walrus_functions.proofs.WrittenLemmas as written
use Rattle.walrus_base.proofs.InSet.{none_in as nothing}

no_types : (types : List (ValType ℕ)) → map {B = Option (ValType ℕ)} (λ v. Some v) types ≡ [] → types ≡ []
no_types [] e = refl
no_types (v ∷ vs) e = absurd cc

module _ (s : Source) (no_args : s.parameters ≡ []) where
  signed : takes s.def ≡ Some [] → HasSignature s.def s.slots s.parameters
  signed taken = ([], (taken, ap (map (item_at s.slots)) no_args))

  pub fits : takes s.def ≡ Some [] → FitsType s.def s.slots s.parameters
  unfolding IsDistinct
  fits taken = written.fits_type s (signed taken) (subst (λ (ps : List ℕ). IsDistinct nat_eq ps) (sym no_args) tt)

  pub takes_none : FitsType s.def s.slots s.parameters → takes s.def ≡ Some []
  takes_none f = f.taken ∙ ap (λ (ts : List (ValType ℕ)). Some ts) (no_types f.types (sym f.typed ∙ ap (map (item_at s.slots)) no_args))

  module _ (unnamed : locals_of s.ops ≡ []) where
    declared : Declares s []
    declared = record {
      which = λ x. (λ c. absurd (nothing x c), λ d. absurd (nothing x (subst (λ (xs : List ℕ). Contains xs x) unnamed d.is_used)));
      sorted = λ i j d before below. absurd (omega (arith, below));
    }

    are : LocalsDeclared s.names s.slots [] []
    are = record {
      types = [];
      typed = refl;
      groups = [];
      runs = record { all = refl; filled = λ k d low. absurd (omega (arith, low)); changes = tt };
      indexed = record { are = refl; stand = λ k d low. absurd (omega (arith, low)) };
    }

    module _ (taken : takes s.def ≡ Some []) (blocks : blocks_hold s.is_function_type s.ops ≡ true) {X : Type 0} (new old : List ℕ) (i : X → List ℕ) (u : X → List Bool) where
      known : (r : Result X IrError) → IfOk r (λ x. (i x ≡ []) × (u x ≡ [])) → IfOk r (λ x. (index_in s [] ≡ index_in s []) × (i x ≡ []) × (u x ≡ []))
      known (Ok x) h = (refl, h.0, h.1)
      known (Err e) h = tt

      -- the whole
      pub made : (r : Result X IrError) → IfOk r (λ x. (i x ≡ []) × (u x ≡ []))
          → (bytes places : List ℕ) × (WritesBehind s.names (index_in s []) s.features s.ops [] (λ _. bytes) (λ _. places) r × IfOk r (λ _. new ≡ old ++ bytes))
          → (bytes places : List ℕ) × (numbers : ℕ → Option ℕ) × (EmitsBody s (λ _. bytes) (λ _. places) (λ _. numbers) i u r × IfOk r (λ _. new ≡ old ++ bytes))
      made r same w =
          let listed : [] ≡ s.parameters ++ [] = sym (ap (λ (ps : List ℕ). ps ++ []) no_args) in
          (w.0, w.1, index_in s [], (written.emitted s [] declared [] are (fits taken) blocks (omega arith) (index_in s []) (λ x. refl) [] listed [] refl (λ _. w.0) (λ _. w.1) (λ _. index_in s []) i u r (known r same) w.2.0, w.2.1))
