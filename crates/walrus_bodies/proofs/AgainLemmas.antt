-- Reading operators again: what was read and what is left are the whole.
use Rattle.std.proofs.Common.{◌≡◌, ℕ, suc, ◌-◌, true, List, [], ◌∷◌, ◌++◌, length, map, ap, ◌∙◌, sym, append_assoc, append-nil}
use Rattle.std.specs.Prelude.{Some}
use Rattle.wasm_forms.specs.Grammar.{at}
use Rattle.wasm_text.specs.Operators as wire
use Rattle.wasm_text.specs.Forms.{operator}
use Rattle.walrus_base.specs.Operators.{Op}
use Rattle.walrus_code.specs.declared.location.InstrLocId.{InstrLocId}
use Rattle.walrus_bodies.specs.Texts.{texts_at, are_operators, places_at}
use Rattle.walrus_bodies.specs.Placed.{placed_op, placed_ops}
use Rattle.walrus_bodies.specs.Text.{at_place}
use Rattle.walrus_bodies.proofs.TextLemmas.{first_taken, none_texts, first_place, no_places}

-- the first of what is left comes behind what was done
moved_over : {X : Type 0} (done new left rest whole : List X) (x : X) → new ≡ done ++ x ∷ [] → left ≡ x ∷ rest → done ++ left ≡ whole → new ++ rest ≡ whole
moved_over done new left rest whole x is parts so_far = ap (λ xs. xs ++ rest) is ∙ append_assoc done (x ∷ []) rest ∙ ap (λ xs. done ++ xs) (sym parts) ∙ so_far

none_left : {X : Type 0} (done left whole : List X) → left ≡ [] → done ++ left ≡ whole → done ≡ whole
none_left done left whole none so_far = sym (append-nil done) ∙ ap (λ xs. done ++ xs) (sym none) ∙ so_far

module _ (left n : ℕ) (rest : List ℕ) (x : wire.Op × List ℕ) (more : left ≡ suc n) (read : at operator rest ≡ Some x) where
  pub whole_next : are_operators left rest ≡ true → are_operators n x.1 ≡ true
  whole_next w = (first_taken left n rest x more read w).0

  pub body_next : (first : ℕ) (done new whole : List Op) (o : Op) → are_operators left rest ≡ true → new ≡ done ++ o ∷ [] → o ≡ placed_op first x.0 → done ++ placed_ops first (texts_at left rest) ≡ whole → new ++ placed_ops first (texts_at n x.1) ≡ whole
  body_next first done new whole o w is placed so_far =
      moved_over done new (placed_ops first (texts_at left rest)) (placed_ops first (texts_at n x.1)) whole o is
      (ap (placed_ops first) (first_taken left n rest x more read w).1 ∙ ap (λ y. y ∷ placed_ops first (texts_at n x.1)) (sym placed)) so_far

  pub located_next : (end : ℕ) (done new whole : List InstrLocId) (loc : InstrLocId) → new ≡ done ++ loc ∷ [] → loc ≡ at_place (end - length rest) → done ++ map at_place (places_at end left rest) ≡ whole → new ++ map at_place (places_at end n x.1) ≡ whole
  located_next end done new whole loc is here so_far =
      moved_over done new (map at_place (places_at end left rest)) (map at_place (places_at end n x.1)) whole loc is
      (ap (map at_place) (first_place end left n rest x more read) ∙ ap (λ y. y ∷ map at_place (places_at end n x.1)) (sym here)) so_far

pub body_done : (first left : ℕ) (rest : List ℕ) (done whole : List Op) → left ≡ 0 → done ++ placed_ops first (texts_at left rest) ≡ whole → done ≡ whole
body_done first left rest done whole none so_far = none_left done (placed_ops first (texts_at left rest)) whole (ap (λ k. placed_ops first (texts_at k rest)) none ∙ ap (placed_ops first) (none_texts rest)) so_far

pub located_done : (end left : ℕ) (rest : List ℕ) (done whole : List InstrLocId) → left ≡ 0 → done ++ map at_place (places_at end left rest) ≡ whole → done ≡ whole
located_done end left rest done whole none so_far = none_left done (map at_place (places_at end left rest)) whole (ap (λ k. map at_place (places_at end k rest)) none ∙ ap (map at_place) (no_places end rest)) so_far
