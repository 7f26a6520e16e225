-- What is known of the locals that are declared, each with its type.
use Rattle.std.proofs.Common.{◌≡◌, ℕ, Bool, true, false, List, Some, refl, sym, ◌∙◌}
use Rattle.std.specs.Prelude.{Contains, Option, nat_eq}
use Rattle.std.specs.List.{list_any}
use Rattle.std.proofs.lemmas.Bool.{eqb-true}
use Rattle.std.proofs.lemmas.Cmp.{nat_eq_equiv}
use Rattle.std.proofs.lemmas.List.Elements.{All-contains}
use Rattle.std.proofs.lemmas.Map.Views.{Contains-from_any, list_any-from_Contains}
use Rattle.walrus_base.specs.Arena.{item_at}
use Rattle.walrus_base.specs.Types.{ValType}
use Rattle.walrus_functions.specs.DeclaredLocals.{IsDeclared}
use Rattle.walrus_functions.specs.Declaring.{AreTyped}

module _ (slots : List (Option (ValType ℕ))) (used parameters : List ℕ) (is_parameter : ℕ → Bool) (are : (x : ℕ) → is_parameter x ≡ list_any (nat_eq x) parameters)
    (found : List (ℕ × ValType ℕ)) (all : AreTyped slots used is_parameter found) where
  abbrev Sound : ℕ × ValType ℕ → Type 0
  Sound e = Contains used e.0 × (is_parameter e.0 ≡ false) × (item_at slots e.0 ≡ Some e.1)

  pub has_type : (x : ℕ) (v : ValType ℕ) → Contains found (x, v) → item_at slots x ≡ Some v
  has_type x v here = (All-contains Sound found (x, v) all.sound here).2

  pub is_declared : (x : ℕ) (v : ValType ℕ) → Contains found (x, v) → IsDeclared slots used parameters x
  is_declared x v here =
      let parts = All-contains Sound found (x, v) all.sound here in
      record {
        is_used = parts.0;
        no_parameter = λ among. let wrong : false ≡ true = sym parts.1 ∙ are x ∙ list_any-from_Contains nat_eq_equiv x parameters among in absurd cc;
        ty = v;
        typed = parts.2;
      }

  free : (x : ℕ) → (Contains parameters x → ⊥) → is_parameter x ≡ false
  free x none = go (is_parameter x) refl
    where
      go : (b : Bool) → is_parameter x ≡ b → is_parameter x ≡ false
      go false e = e
      go true e = absurd (none (Contains-from_any (λ a b same. eqb-true a b same) x parameters (sym (are x) ∙ e)))

  pub entry_of : (x : ℕ) (v : ValType ℕ) → IsDeclared slots used parameters x → item_at slots x ≡ Some v → Contains found (x, v)
  entry_of x v d t = all.complete x v d.is_used (free x d.no_parameter) t
