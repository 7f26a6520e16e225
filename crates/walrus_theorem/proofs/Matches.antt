-- In a module that nothing keeps from being written, imports and items name each other.
use Rattle.std.proofs.Common.{◌≡◌, inl, inr, ℕ, Some, None, refl, sym, ap, ◌∙◌, subst}
use Rattle.std.specs.Prelude.{◌≢◌, true, false, Option, nat_eq, ◌⊎◌}
use Rattle.std.proofs.lemmas.Bool.Decides.{eqb_tells}
use Rattle.walrus_base.specs.Operators.{Types, Functions, Tables, Memories, Tags, Globals, Elements, DataSegments, Item}
use Rattle.walrus_model.specs.Abstract.{Abstract, Import}
use Rattle.walrus_model.specs.Imported.{code}
use Rattle.walrus_model.specs.Live.{IsLive}
use Rattle.walrus_model.specs.WellMade.{ImportsMatch, import_of}
use Rattle.walrus_model.proofs.ImportedZip.{one_code}
use Rattle.walrus_base.proofs.Standing.{some_inj}
use Rattle.walrus_theorem.specs.Refused.{HasDead, DeadImport, NoKind, HasKind, HasTwoIndices, LocalImported, ImportedTwice, LacksIndex, NotBrought}
use Rattle.walrus_theorem.specs.RefusedLaws.{OkMatches}
use Rattle.walrus_model.proofs.Living.{living as live_stable}

-- ---- whether two items are one

is_one_by : (x y : Item) → ((nat_eq (code x.0) (code y.0) ≡ true) × (code x.0 ≡ code y.0)) ⊎ ((nat_eq (code x.0) (code y.0) ≡ false) × (code x.0 ≢ code y.0))
    → ((nat_eq x.1 y.1 ≡ true) × (x.1 ≡ y.1)) ⊎ ((nat_eq x.1 y.1 ≡ false) × (x.1 ≢ y.1)) → (x ≡ y) ⊎ (x ≡ y → ⊥)
is_one_by x y (inl space) (inl number) = inl (subst (λ s. x ≡ (s, y.1)) (one_code x.0 y.0 space.1) (ap (λ i. (x.0, i)) number.1))
is_one_by x y (inl space) (inr number) = inr (λ e. number.1 (ap (λ (z : Item). z.1) e))
is_one_by x y (inr space) number = inr (λ e. space.1 (ap (λ (z : Item). code z.0) e))

is_one : (x y : Item) → (x ≡ y) ⊎ (x ≡ y → ⊥)
is_one x y = is_one_by x y (eqb_tells (code x.0) (code y.0)) (eqb_tells x.1 y.1)

module _ (v : Abstract) (there : HasDead v → ⊥) where
  pub imports_live : (i : ℕ) (x : Import) → v.imports i ≡ Some x → IsLive v x.item
  imports_live i x at = live_stable v x.item (λ dead. there (DeadImport i x at dead))

  kinds_there : (x : Item) → HasKind v x
  kinds_there (Functions, i) = λ f at un. there (NoKind i f at un)
  kinds_there (Types, i) = tt
  kinds_there (Tables, i) = tt
  kinds_there (Memories, i) = tt
  kinds_there (Tags, i) = tt
  kinds_there (Globals, i) = tt
  kinds_there (Elements, i) = tt
  kinds_there (DataSegments, i) = tt

  -- an import names an item that no import is said to bring
  pub local_imported : (i : ℕ) (x : Import) → v.imports i ≡ Some x → import_of v x.item ≡ None → HasTwoIndices v
  local_imported i x at none = LocalImported i x at (imports_live i x at) (kinds_there x.item) none

  -- an import names an item that another one is said to bring, and does
  pub imported_twice : (i j : ℕ) (x y : Import) → v.imports i ≡ Some x → v.imports j ≡ Some y → i ≢ j → x.item ≡ y.item → HasTwoIndices v
  imported_twice i j x y at other differ same = ImportedTwice i j x y at other (imports_live i x at) differ same

module _ (v : Abstract) (there : HasDead v → ⊥) (one : HasTwoIndices v → ⊥) (indices : LacksIndex v → ⊥) where
  -- the import that an item is said to be brought by names it
  named_by : (x : Item) (i : ℕ) → import_of v x ≡ Some i → (o : Option Import) → v.imports i ≡ o → (y : Import) × (v.imports i ≡ Some y) × (y.item ≡ x)
  named_by x i says None at = absurd (indices (NotBrought x i says (λ y there_is same. let no : None ≡ Some y = sym at ∙ there_is in cc)))
  named_by x i says (Some y) at = by (is_one y.item x)
    where
      by : (y.item ≡ x) ⊎ (y.item ≡ x → ⊥) → (z : Import) × (v.imports i ≡ Some z) × (z.item ≡ x)
      by (inl same) = (y, at, same)
      by (inr differ) = absurd (indices (NotBrought x i says (λ z there_is same. differ (ap (λ (w : Import). w.item) (some_inj y z (sym at ∙ there_is)) ∙ same))))

  -- the item that an import names is said to be brought by it
  says_so : (i : ℕ) (y : Import) → v.imports i ≡ Some y → (o : Option ℕ) → import_of v y.item ≡ o → import_of v y.item ≡ Some i
  says_so i y at None says = absurd (one (local_imported v there i y at says))
  says_so i y at (Some j) says = by (eqb_tells i j)
    where
      by : ((nat_eq i j ≡ true) × (i ≡ j)) ⊎ ((nat_eq i j ≡ false) × (i ≢ j)) → import_of v y.item ≡ Some i
      by (inl same) = says ∙ ap Some (sym same.1)
      by (inr differ) =
          let other = named_by y.item j says (v.imports j) refl in
          absurd (one (imported_twice v there i j y other.0 at other.1 differ.1 (sym other.2)))

  pub matches : ImportsMatch v
  matches = record { items = λ x i says. named_by x i says (v.imports i) refl; imports = λ i y at. says_so i y at (import_of v y.item) refl }

pub ok_matches : OkMatches
ok_matches c v none = matches v none.all_there none.one_index none.indices
