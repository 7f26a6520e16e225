-- Sizes that fit the width of addresses.
use Rattle.std.proofs.Common.{◌≡◌, ℕ, ◌^◌, Bool, true, false, ltb, sym, subst}
use Rattle.std.specs.Prelude.{IsTrue, ◌↔◌}
use Rattle.std.proofs.lemmas.Bool.{ltb-true, lt-ltb}
use Rattle.wasm_entries.specs.TypeSpelling.{FitsWide}

pub wide_fits : (wide : Bool) (size : ℕ) → wide ≡ true → IsTrue wide ↔ FitsWide wide size
wide_fits wide size e = ((λ _. subst (λ w. FitsWide w size) (sym e) tt), (λ _. e))

pub narrow_fits : (wide : Bool) (size : ℕ) → wide ≡ false → IsTrue (ltb size (2 ^ 32)) ↔ FitsWide wide size
narrow_fits wide size e = subst (λ w. IsTrue (ltb size (2 ^ 32)) ↔ FitsWide w size) (sym e) ((λ h. ltb-true size (2 ^ 32) h), (λ h. lt-ltb size (2 ^ 32) h))
