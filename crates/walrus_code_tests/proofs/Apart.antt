-- Two places that differ.
use Rattle.std.proofs.Common.{◌≡◌, ℕ, [], ◌∷◌, arith}
use Rattle.std.specs.Prelude.{nat_eq}
use Rattle.std.specs.List.{IsDistinct}
use Rattle.std.proofs.lemmas.Bool.{ne_eqb}

pub apart : (x y : ℕ) → x ≡ 2 → y ≡ 0 → IsDistinct nat_eq (x ∷ y ∷ [])
unfolding IsDistinct
apart x y two none = ((ne_eqb x y (λ same. omega (arith, same, two, none)), tt), (tt, tt))
