-- The lowest local of each type.
use Rattle.std.proofs.Common.{◌≡◌, ℕ, ◌≤◌, min, ◌⊎◌, ⊎_elim, inl, inr, Bool, true, false, cond, List, [], ◌∷◌, ◌++◌, map, Option, Some, None, refl, sym, ap, ◌∙◌, subst, arith, ltb, ltb-true}
use Rattle.std.proofs.lemmas.Bool.{ltb-false}
use Rattle.std.specs.Prelude.{Contains}
use Rattle.std.proofs.lemmas.List.Elements.{All-push, All-weaker, Contains-append_left, Contains-push}
use Rattle.walrus_base.specs.Types.{ValType}
use Rattle.walrus_base.specs.Value.{val_type}
use Rattle.walrus_base.specs.declared.value.ValType.{ValType as DeclaredValType}
use Rattle.walrus_base.specs.contracts.value.ValTypePartialEq.TheImpl as equality
use Rattle.walrus_functions.specs.Declaring.{AreLowest, typed, lower}
use Rattle.walrus_base.proofs.Turns.{map_snoc}
use Rattle.walrus_base.proofs.FunctionSame.{val_same}
use Rattle.walrus_functions.proofs.ValueLemmas.{equal_itself}
use Rattle.wasm_forms.proofs.Bind.{some_same}

lower-le : (x : ℕ) (o : Option ℕ) → lower x o ≤ x
lower-le x None = omega arith
lower-le x (Some y) = omega arith

abbrev entry : ℕ → ValType ℕ → ℕ × ValType ℕ
entry x v = (x, v)

min_one : (a b n : ℕ) → min a b ≡ n → (n ≡ a) ⊎ (n ≡ b)
min_one a b n h = go (ltb a b) refl
  where
    go : (t : Bool) → ltb a b ≡ t → (n ≡ a) ⊎ (n ≡ b)
    go true e = let l = ltb-true a b e in inl (omega (arith, l, h))
    go false e = let l = ltb-false a b e in inr (omega (arith, l, h))

module _ (found : List (ℕ × DeclaredValType)) (x : ℕ) (t : DeclaredValType) (old new : DeclaredValType → Option ℕ) (is : (v : DeclaredValType) → new v ≡ cond ((equality.ghosts).eq t v) (Some (lower x (old t))) (old v)) (h : AreLowest found old)
    (alike : (v w : DeclaredValType) → val_type v ≡ val_type w → old v ≡ old w) where
  changed : (v : DeclaredValType) → (equality.ghosts).eq t v ≡ true → new v ≡ Some (lower x (old t))
  changed v e = is v ∙ ap (λ (b : Bool). cond b (Some (lower x (old t))) (old v)) e

  kept : (v : DeclaredValType) → (equality.ghosts).eq t v ≡ false → new v ≡ old v
  kept v e = is v ∙ ap (λ (b : Bool). cond b (Some (lower x (old t))) (old v)) e

  abbrev Low : ℕ × DeclaredValType → Type 0
  Low e = (n : ℕ) × ((new e.1 ≡ Some n) × (n ≤ e.0))

  low_again : (y : ℕ) (v : DeclaredValType) (n : ℕ) → old v ≡ Some n → n ≤ y → (b : Bool) → (equality.ghosts).eq t v ≡ b → (m : ℕ) × ((new v ≡ Some m) × (m ≤ y))
  low_again y v n at low true e =
      let there : old t ≡ Some n = alike t v ((val_same t v).0 e) ∙ at in
      (min x n, (changed v e ∙ ap (λ (o : Option ℕ). Some (lower x o)) there, omega (arith, low)))
  low_again y v n at low false e = (n, (kept v e ∙ at, low))

  there_now : (v : DeclaredValType) (n : ℕ) (o : Option ℕ) → old t ≡ o → lower x o ≡ n → val_type t ≡ val_type v → Contains (map typed found ++ (x, val_type t) ∷ []) (n, val_type v)
  there_now v n None at is same = subst (λ (e : ℕ × ValType ℕ). Contains (map typed found ++ (x, val_type t) ∷ []) e) (ap (λ (k : ℕ). entry k (val_type t)) is ∙ ap (λ (w : ValType ℕ). entry n w) same) (Contains-push (map typed found) (x, val_type t))
  there_now v n (Some m) at is same = ⊎_elim
      (λ (e : n ≡ x). subst (λ (e : ℕ × ValType ℕ). Contains (map typed found ++ (x, val_type t) ∷ []) e) (ap (λ (k : ℕ). entry k (val_type t)) (sym e) ∙ ap (λ (w : ValType ℕ). entry n w) same) (Contains-push (map typed found) (x, val_type t)))
      (λ (e : n ≡ m). Contains-append_left (map typed found) ((x, val_type t) ∷ []) (n, val_type v) (h.there v n (alike v t (sym same) ∙ at ∙ ap (λ (k : ℕ). Some k) (sym e))))
      (min_one x m n is)

  there_again : (v : DeclaredValType) (n : ℕ) → new v ≡ Some n → (b : Bool) → (equality.ghosts).eq t v ≡ b → Contains (map typed found ++ (x, val_type t) ∷ []) (n, val_type v)
  there_again v n at true e = there_now v n (old t) refl (some_same _ _ (sym (changed v e) ∙ at)) ((val_same t v).0 e)
  there_again v n at false e = Contains-append_left (map typed found) ((x, val_type t) ∷ []) (n, val_type v) (h.there v n (sym (kept v e) ∙ at))

  -- one more local
  pub lowest-more : AreLowest (found ++ (x, t) ∷ []) new
  lowest-more = record {
    low = All-push Low found (x, t) (All-weaker (λ (e : ℕ × DeclaredValType). (n : ℕ) × ((old e.1 ≡ Some n) × (n ≤ e.0))) Low (λ e k. low_again e.0 e.1 k.0 k.1.0 k.1.1 ((equality.ghosts).eq t e.1) refl) found h.low) (lower x (old t), (changed t (equal_itself t), lower-le x (old t)));
    there = λ v n at. subst (λ (es : List (ℕ × ValType ℕ)). Contains es (n, val_type v)) (sym (map_snoc typed found (x, t))) (there_again v n at ((equality.ghosts).eq t v) refl);
  }
