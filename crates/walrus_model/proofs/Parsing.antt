-- The bodies that were read, and the locals that these use.
use Rattle.std.proofs.Common.{◌≡◌, ℕ, ◌+◌, ◌<◌, ⊎_elim, Bool, true, false, List, [], ◌∷◌, length, refl, sym, subst, ◌∙◌, arith}
use Rattle.std.specs.Prelude.{Option, Some, None, Contains, nat_lt}
use Rattle.std.specs.List.{AllByRecursion}
use borrow.Author.Tests.{ltb-true, ltb-false}
use Rattle.wasm_forms.proofs.Bind.{some_same}
use Rattle.wasm_frames.specs.Record as wire
use Rattle.walrus_base.specs.Operators.{locals_of}
use Rattle.walrus_functions.specs.FromRaw.{ops_of}
use Rattle.walrus_functions.specs.ReadFunction.{locals_from}
use Rattle.walrus_functions.proofs.LawNamed.{HasIndex, ops_found}
use Rattle.walrus_functions.specs.Features.{Features}
use Rattle.walrus_model.specs.Reads.{declared, arity, ReadsBodyWith}
use Rattle.walrus_model.specs.Sections.{Said}
use Rattle.walrus_base.proofs.Lists.{Contains-uncons, Contains-none}
use Rattle.walrus_base.proofs.Taking.{get_own, get_past}

-- ---- lists

pub each_in : {X : Type 0} (P : X → Type 0) (xs : List X) (y : X) → AllByRecursion P xs → Contains xs y → P y
each_in P [] y all c = absurd (Contains-none y c)
each_in P (x ∷ xs) y all c = ⊎_elim (λ (e : x ≡ y). subst P e all.0) (λ (d : Contains xs y). each_in P xs y all.1 d) (Contains-uncons x y xs c)

-- ---- bodies that were read

-- a local of so many, from the first on, is below their number
index_below : (count n x : ℕ) (t : Bool) → nat_lt n count ≡ t → locals_from 0 count n ≡ Some x → x < count
index_below count n x true lt e =
    let small : n < count = ltb-true n count lt in
    let same : n ≡ x = some_same n x (sym (get_own count n small) ∙ e) in
    omega (arith, small, same)
index_below count n x false ge e = let none : ◌≡◌ {A = Option ℕ} None (Some x) = sym (get_past 0 count n (ltb-false n count ge)) ∙ e in absurd cc

pub used_below : (c : Features) (r : wire.Module) (f : ℕ × wire.Body) (said : Said) (x : ℕ) → ReadsBodyWith c r f said → Contains (locals_of said.1) x → x < arity r f.0 + length said.0
used_below c r f said x read used =
    let count = arity r f.0 + length said.0 in
    let all = ops_found (declared r) (locals_from 0 count) (ops_of read.operators.texts) said.1 read.operators.named in
    let h = each_in (HasIndex (declared r) (locals_from 0 count)) (locals_of said.1) x all used in
    index_below count h.0 x (nat_lt h.0 count) refl h.1
