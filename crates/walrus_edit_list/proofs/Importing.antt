-- What an import names, found by its id.
use Rattle.std.proofs.Common.{◌≡◌, ℕ, ap, sym, ◌∙◌}
use Rattle.std.specs.Prelude.{Option, option_map}
use Rattle.walrus_base.specs.Id.{place}
use Rattle.walrus_base.specs.Operators.{Types}
use Rattle.walrus_base.specs.Types.{ValType}
use Rattle.walrus_base.specs.Value.{val_type}
use Rattle.walrus_base.specs.declared.id.Id.{Id}
use Rattle.walrus_base.specs.declared.keys.TypeKey.{TypeKey}
use Rattle.walrus_base.specs.declared.value.ValType.{ValType as HeldType}
use Rattle.walrus_code.specs.Names.{Lookup, named_val}
use Rattle.walrus_items.specs.declared.error.Error.{Error}
use Rattle.walrus_edit_list.specs.Refuses.{Refuses}
use Rattle.walrus_edit_list.proofs.Refusing.{refuses_so}

module _ (found now : Lookup) (same : found ≡ now) where
  pub type_found : (n : ℕ) (o : Option (Id TypeKey)) → option_map place o ≡ found Types n → now Types n ≡ option_map place o
  type_found n o is = sym (is ∙ ap (λ (f : Lookup). f Types n) same)

  pub value_found : (v : ValType ℕ) (o : Option HeldType) → option_map val_type o ≡ named_val found v → named_val now v ≡ option_map val_type o
  value_found v o is = sym (is ∙ ap (λ (f : Lookup). named_val f v) same)

-- where ids aren't told, an import isn't taken
pub too_many : (P L : Type 0) (e : Error) → Refuses ⊥ L e → Refuses P L e
too_many P L e h = refuses_so {A = ⊥} {B = P} {C = L} {D = L} e (λ none. absurd none) (λ large. large) h
