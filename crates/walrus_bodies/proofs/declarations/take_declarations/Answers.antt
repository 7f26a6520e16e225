use Rattle.std.proofs.Common.{◌≡◌, ℕ, List, [], ◌∷◌, Some, refl, ap, ◌∙◌, sym, arith}
use Rattle.wasm_forms.specs.Grammar.{Is, at}
use Rattle.wasm_forms.specs.declared.types.RawVal.{RawVal}
use Rattle.wasm_forms.proofs.Exact.{exact}
use Rattle.walrus_bodies.specs.Body.{declarations}
use Rattle.walrus_bodies.specs.Declarations.{declarations_of}
use Rattle.walrus_bodies.specs.declared.declarations.Declaration.{Declaration}
use Rattle.walrus_bodies.proofs.declarations.take_declarations.Goals as goal

-- a 0 alone says that there are none
is_none : Is declarations (0 ∷ []) []
unfolding declarations
is_none = (0, (0 ∷ [], ([], (refl, record { spelled = (omega arith, refl); short = omega arith; small = omega arith }, (refl, refl)))))

none_declared : (rest : List ℕ) → at declarations (0 ∷ rest) ≡ Some ([], rest)
none_declared rest = (exact declarations).again (0 ∷ []) rest [] is_none

pub returns-in-Some : goal.returns-in-Some
returns-in-Some c =
    ap (at declarations) c.in-Some.ensures ∙ none_declared c.in-Some.rest.now
    ∙ ap (λ (ds : List Declaration). let x : List (ℕ × RawVal) × List ℕ = (declarations_of ds, c.in-Some.rest.now) in Some x) (sym c.new.ensures.items)
