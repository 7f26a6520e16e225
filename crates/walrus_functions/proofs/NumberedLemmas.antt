-- Locals get their indices one after another.
use Rattle.std.proofs.Common.{inl, inr, ◌≡◌, ℕ, true, false, List, [], ◌∷◌, ◌++◌, length, sym, ap, ◌∙◌, subst, Some, None}
use Rattle.std.specs.Prelude.{◌≢◌, ◌⊎◌, ◌==◌}
use Rattle.std.proofs.lemmas.Bool.Decides.{eqb_tells}
use Rattle.walrus_base.specs.Shape.{place_in}
use Rattle.walrus_code.specs.Indices.{local_index, locals_given, NumbersLocal}
use Rattle.walrus_code.specs.declared.local_numbers.LocalNumbers.{LocalNumbers}
use Rattle.walrus_code.proofs.Placing.{placed_last, placed_other}

numbered_at : (old new : LocalNumbers) (done : List ℕ) (p x : ℕ) → ((y : ℕ) → local_index old y ≡ place_in done y) → locals_given old ≡ length done → place_in done p ≡ None → NumbersLocal old new p
    → (((x == p) ≡ true) × (x ≡ p)) ⊎ (((x == p) ≡ false) × (x ≢ p)) → local_index new x ≡ place_in (done ++ p ∷ []) x
numbered_at old new done p x are count none step (inl e) =
    subst (λ (y : ℕ). local_index new y ≡ place_in (done ++ p ∷ []) y) (sym e.1) (step.numbered ∙ ap (λ (n : ℕ). Some n) count ∙ sym (placed_last done p none))
numbered_at old new done p x are count none step (inr e) = step.kept x e.1 ∙ are x ∙ sym (placed_other done p x e.1)

-- one more local
pub numbered-more : (old new : LocalNumbers) (done more : List ℕ) (p : ℕ) → more ≡ done ++ p ∷ [] → ((y : ℕ) → local_index old y ≡ place_in done y) → locals_given old ≡ length done → place_in done p ≡ None → NumbersLocal old new p → (x : ℕ) → local_index new x ≡ place_in more x
numbered-more old new done more p is are count none step x = numbered_at old new done p x are count none step (eqb_tells x p) ∙ ap (λ (ys : List ℕ). place_in ys x) (sym is)
