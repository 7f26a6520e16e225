-- Why a part of an edit is refused, the edit is.
use Rattle.std.proofs.Common.{◌≡◌, ap, ◌∙◌}
use Rattle.std.specs.Prelude.{Option, Some, None}
use Rattle.wasm_forms.specs.Reading.{◌>>=◌}
use Rattle.walrus_items.specs.declared.error.Error.{Error}
use Rattle.walrus_items.specs.declared.error.Error.TheVariants as errors
use Rattle.walrus_edit_list.specs.Refuses.{Refuses}

-- where each cause is one of another, the refusal is
pub refuses_so : {A B C D : Type 0} (e : Error) → (A → B) → (C → D) → Refuses A C e → Refuses B D e
refuses_so (errors.Memory x) f g h = tt
refuses_so errors.DeadItem f g h = f h
refuses_so errors.TooLarge f g h = g h
refuses_so (errors.InvalidWasm kind) f g h = absurd h
refuses_so errors.NoIndex f g h = absurd h
refuses_so errors.TwoIndices f g h = absurd h
refuses_so errors.NotWritable f g h = absurd h
refuses_so errors.NotFound f g h = absurd h
refuses_so errors.SeveralMemories f g h = absurd h
refuses_so errors.NoMemory f g h = absurd h
refuses_so errors.SeveralFunctionTables f g h = absurd h
refuses_so errors.NotExported f g h = absurd h
refuses_so errors.NotImported f g h = absurd h
refuses_so errors.NotReplaceable f g h = absurd h
refuses_so (errors.Caller text) f g h = absurd h

-- where ids are too many, nothing else is looked at
pub large_stays : (dead large : Type 0) (e : Error) → Refuses ⊥ large e → Refuses dead large e
large_stays dead large e h = refuses_so {A = ⊥} {B = dead} {C = large} {D = large} e (λ none. absurd none) (λ x. x) h

module _ {Y Z : Type 0} (k : Y → Option Z) (e : Error) where
  -- nothing is found in front
  pub refuses_first : (o : Option Y) → Refuses (o ≡ None) ⊥ e → Refuses ((o >>= k) ≡ None) ⊥ e
  refuses_first o h = refuses_so e (λ none. ap (λ (x : Option Y). x >>= k) none) (λ x. x) h

  -- nothing is found behind what was found in front
  pub refuses_behind : (o : Option Y) (y : Y) → o ≡ Some y → Refuses (k y ≡ None) ⊥ e → Refuses ((o >>= k) ≡ None) ⊥ e
  refuses_behind o y is h = refuses_so e (λ none. ap (λ (x : Option Y). x >>= k) is ∙ none) (λ x. x) h
