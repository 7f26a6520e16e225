-- Operators that are looked up, one after another.
use Rattle.std.proofs.Common.{◌≡◌, ℕ, List, [], ◌∷◌, ◌++◌, Option, Some, None, refl}
use Rattle.wasm_forms.specs.Reading.{◌>>=◌}
use Rattle.walrus_base.specs.Operators.{Op}
use Rattle.walrus_code.specs.Names.{Lookup, named_op, named_ops}

module _ (names : Lookup) (locals : ℕ → Option ℕ) where
  named_next : (p : Op) (ops : List Op) (o found : Op) (all : List Op) (one : Option Op) (rest : Option (List Op)) → ((xs : List Op) → rest ≡ Some xs → named_ops names locals (ops ++ o ∷ []) ≡ Some (xs ++ found ∷ [])) → (one >>= λ x. rest >>= λ xs. Some (x ∷ xs)) ≡ Some all → (one >>= λ x. named_ops names locals (ops ++ o ∷ []) >>= λ xs. Some (x ∷ xs)) ≡ Some (all ++ found ∷ [])
  named_next p ops o found all None rest later is = absurd cc
  named_next p ops o found all (Some x) None later is = absurd cc
  named_next p ops o found all (Some x) (Some xs) later is =
      let whole : all ≡ x ∷ xs = cc in
      rw (whole, later xs refl) refl

  -- one more operator
  pub named-more : (ops all : List Op) (o found : Op) → named_ops names locals ops ≡ Some all → named_op names locals o ≡ Some found → named_ops names locals (ops ++ o ∷ []) ≡ Some (all ++ found ∷ [])
  named-more [] all o found is one = let none : all ≡ [] = cc in rw (none, one) refl
  named-more (p ∷ ops) all o found is one =
      named_next p ops o found all (named_op names locals p) (named_ops names locals ops) (λ xs e. named-more ops xs o found e one) is

  none_next : (one : Option Op) (rest : Option (List Op)) → rest ≡ None → (one >>= λ x. rest >>= λ xs. Some (x ∷ xs)) ≡ None
  none_next None rest is = refl
  none_next (Some x) rest is = rw is refl

  -- one that isn't found
  pub named-none : (ops : List Op) (o : Op) (later : List Op) → named_op names locals o ≡ None → named_ops names locals (ops ++ o ∷ later) ≡ None
  named-none [] o later is = rw is refl
  named-none (p ∷ ops) o later is = none_next (named_op names locals p) (named_ops names locals (ops ++ o ∷ later)) (named-none ops o later is)
