-- What is said of each body stays said where functions are written, and come.
use Rattle.std.proofs.Common.{◌≡◌, ◌≢◌, ℕ, List, [], ◌∷◌, ◌++◌, length, refl, sym, ap, ◌∙◌, subst, ⊎_elim}
use Rattle.std.specs.Prelude.{Option, Some, None, IsSome, option_map, slice_set}
use Rattle.std.proofs.lemmas.Bool.{cases_eq}
use Rattle.walrus_base.specs.Arena.{item_at}
use Rattle.walrus_base.specs.Id.{place}
use Rattle.walrus_base.specs.declared.locals.ModuleLocals.{ModuleLocals}
use Rattle.walrus_contents.specs.View.{body, function}
use Rattle.walrus_items.specs.Function.{function_type}
use Rattle.walrus_items.specs.Functions.{FunctionValue}
use Rattle.walrus_items.specs.LocalFunction.{LocalFunction}
use Rattle.walrus_items.specs.declared.function_kind.FunctionKind.{FunctionKind}
use Rattle.walrus_items.specs.declared.function_kind.FunctionKind.TheVariants as kinds
use Rattle.walrus_items.specs.declared.function_kind.ImportedFunction.{ImportedFunction}
use Rattle.walrus_model.specs.Abstract as abstract
use Rattle.walrus_reading.proofs.EditedSlots.{comes_behind, set_elsewhere, set_here, stays_before}

some_is : {A : Type 0} (a b : A) → Some a ≡ Some b → a ≡ b
some_is a b same = cc

none_is : {A : Type 0} (a : A) → None ≡ Some a → ⊥
none_is a same = absurd (cc)

module _ (P : ℕ → abstract.Body → Type 0) (all : ModuleLocals) where
  -- of the body of what stands there, if it has one, this is said
  abbrev pub Said : Option FunctionValue → Type 0
  Said slot = (f : abstract.Function) (b : abstract.Body) → option_map (function all) slot ≡ Some f → f.kind ≡ abstract.LocalFunction b → P f.ty b

  abbrev pub AllSaid : List (Option FunctionValue) → Type 0
  AllSaid slots = (i : ℕ) → Said (item_at slots i)

  of_kind : (g : FunctionValue) (k : FunctionKind) → g.kind ≡ k → ((l : LocalFunction) → k ≡ kinds.Local l → P (place (function_type l)) (body all l)) → (f : abstract.Function) (b : abstract.Body) → function all g ≡ f → f.kind ≡ abstract.LocalFunction b → P f.ty b
  of_kind g (kinds.Import m) is says f b made has = let no : abstract.ImportedFunction (place m.«import») ≡ abstract.LocalFunction b = cc in absurd cc
  of_kind g (kinds.Uninitialized t) is says f b made has = let no : abstract.Uninitialised ≡ abstract.LocalFunction b = cc in absurd cc
  of_kind g (kinds.Local l) is says f b made has =
      let own : f ≡ record { ty = place (function_type l); kind = abstract.LocalFunction (body all l) } = sym made ∙ ap (λ (x : FunctionKind). function all (record g { kind = x })) is in
      let kind : abstract.LocalFunction (body all l) ≡ abstract.LocalFunction b = sym (ap (λ (x : abstract.Function). x.kind) own) ∙ has in
      let the : body all l ≡ b = cc in
      subst (λ (x : abstract.Body). P f.ty x) the (subst (λ (t : ℕ). P t (body all l)) (sym (ap (λ (x : abstract.Function). x.ty) own)) (says l refl))

  -- it is said of what has a body, and there is nothing to say of what has none
  pub said_of : (g : FunctionValue) → ((l : LocalFunction) → g.kind ≡ kinds.Local l → P (place (function_type l)) (body all l)) → Said (Some g)
  said_of g says f b made has = of_kind g g.kind refl (λ l is. says l is) f b (some_is (function all g) f made) has

  pub said_none : Said None
  said_none f b made has = absurd (none_is f made)

  -- of a body it is said
  pub said_body : (g : FunctionValue) (l : LocalFunction) → g.kind ≡ kinds.Local l → Said (Some g) → P (place (function_type l)) (body all l)
  said_body g l is said = said (record { ty = place (function_type l); kind = abstract.LocalFunction (body all l) }) (body all l) (ap (λ (x : FunctionKind). Some (function all (record g { kind = x }))) is) refl

module _ (P Q : ℕ → abstract.Body → Type 0) (old new : ModuleLocals) (carried : (t : ℕ) (l : LocalFunction) → P t (body old l) → Q t (body new l)) where
  slot_kept : (slot : Option FunctionValue) → Said P old slot → Said Q new slot
  slot_kept None said = said_none Q new
  slot_kept (Some g) said = said_of Q new g (λ l is. carried (place (function_type l)) l (said_body P old g l is said))

  -- no function is written
  pub all_kept : (slots : List (Option FunctionValue)) → AllSaid P old slots → AllSaid Q new slots
  all_kept slots was i = slot_kept (item_at slots i) (was i)

  -- one is written, of which it is said then
  pub set_kept : (slots : List (Option FunctionValue)) (id : ℕ) (g : FunctionValue) → IsSome (item_at slots id) → Said Q new (Some g) → AllSaid P old slots → AllSaid Q new (slice_set slots id (Some g))
  set_kept slots id g live says was i = ⊎_elim
      (λ (is : i ≡ id). subst (λ (k : ℕ). Said Q new (item_at (slice_set slots id (Some g)) k)) (sym is) (subst (Said Q new) (sym (set_here slots id (Some g) live)) says))
      (λ (differs : i ≢ id). subst (Said Q new) (sym (set_elsewhere slots id i (Some g) differs)) (slot_kept (item_at slots i) (was i)))
      (cases_eq i id)

  -- one comes, of which it is said
  pub added_kept : (slots : List (Option FunctionValue)) (g : FunctionValue) → Said Q new (Some g) → AllSaid P old slots → AllSaid Q new (slots ++ Some g ∷ [])
  added_kept slots g says was i = ⊎_elim
      (λ (is : i ≡ length slots). subst (Said Q new) (sym (comes_behind slots g i is)) says)
      (λ (differs : i ≢ length slots). subst (Said Q new) (sym (stays_before slots g (length slots) refl i differs)) (slot_kept (item_at slots i) (was i)))
      (cases_eq i (length slots))
