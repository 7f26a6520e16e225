use Rattle.std.proofs.Common.{◌≡◌, ◌<◌, ◌+◌, ℕ, zero, suc, List, length, get_or, refl, ap, sym, ◌∙◌, arith, inl, inr}
use Rattle.std.specs.Prelude.{◌⊎◌, ◌≢◌}
use Rattle.std.proofs.lemmas.Grind.{get_or_default_zero}
use Rattle.wasm_text.specs.Marks.{kind_of}
use Rattle.walrus_bodies.proofs.block_types.has_blocks.Goals as goal

next : (k n : ℕ) → (k < n) ⊎ (k ≡ n) → (suc k < suc n) ⊎ (suc k ≡ suc n)
next k n (inl low) = inl (omega (arith, low))
next k n (inr same) = inr (ap suc same)

-- below the next place is below this one or at it
below : (k n : ℕ) → k < n + 1 → (k < n) ⊎ (k ≡ n)
below zero zero low = inr refl
below zero (suc n) low = inl (omega arith)
below (suc k) zero low = absurd (omega (arith, low))
below (suc k) (suc n) low = next k n (below k n (omega (arith, low)))

one_more : (marks : List ℕ) (i : ℕ) → ((k d : ℕ) → k < i → k < length marks → kind_of (get_or marks k d) ≢ 10) → kind_of (get_or marks i 0) ≢ 10 → (k d : ℕ) → (k < i) ⊎ (k ≡ i) → k < length marks → kind_of (get_or marks k d) ≢ 10
one_more marks i before here k d (inl low) within = before k d low within
one_more marks i before here k d (inr same) within = λ is. here (ap (λ (j : ℕ). kind_of (get_or marks j 0)) (sym same) ∙ ap kind_of (sym (get_or_default_zero marks k d within)) ∙ is)

pub marks-init : goal.marks-init
marks-init c = λ none k d low within. absurd (omega (arith, low))

pub marks-preserved : goal.marks-preserved
marks-preserved c = λ none k d low within. let p = c.or_block-found.ensures none in one_more c.args.marks.now c.marks.mark-index (c.marks.invariant p.0) p.1 k d (below k c.marks.mark-index low) within

pub returns : goal.returns
returns c = λ none k d within. c.marks.invariant none k d (let past = c.marks-test.false in omega (arith, past, within)) within
