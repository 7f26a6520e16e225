-- The vector of v128.const, byte by byte.
use Rattle.std.proofs.Common.{◌≡◌, false, List, [], ◌∷◌, map, refl, ap, Some}
use Rattle.std.specs.Prelude.{ℕ, Option}
use Rattle.wasm_forms.specs.Reading.{◌>>=◌}
use Rattle.walrus_base.specs.ConstOps.{vector_const}
use Rattle.walrus_base.specs.Operators.{Arg, Byte, Op}
use Rattle.walrus_code.specs.Names.{Lookup, named_args}
use Rattle.walrus_code.specs.Results.{args_are_exact}
use Rattle.walrus_constants.specs.Named.{named_const_op}

module _ (names : Lookup) where
  bytes_named : (bytes : List ℕ) → named_args names (λ x. Some x) (map Byte bytes) ≡ Some (map Byte bytes)
  bytes_named [] = refl
  bytes_named (b ∷ bytes) = ap (λ (o : Option (List Arg)). o >>= λ others. Some (Byte b ∷ others)) (bytes_named bytes)

  -- it names nothing
  pub vector_named : (bytes : List ℕ) → named_const_op names (vector_const bytes) ≡ Some (vector_const bytes)
  vector_named bytes = ap (λ (o : Option (List Arg)). o >>= λ args. Some (let made : Op = record { op = (vector_const bytes).op; args = args } in made)) (bytes_named bytes)

-- and no heap type stands in it
pub vector_plain : (bytes : List ℕ) → args_are_exact (map Byte bytes) ≡ false
vector_plain [] = refl
vector_plain (b ∷ bytes) = vector_plain bytes
