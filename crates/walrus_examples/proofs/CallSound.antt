-- What counting adds is sound: a type, an imported function of it, and a call of that in front of a body.
use Rattle.std.proofs.Common.{◌≡◌, ℕ, List, [], ◌∷◌, sym, ◌∙◌, subst, inl, inr, ⊎_elim, arith}
use Rattle.std.specs.Prelude.{Option, Some, Contains, ◌⊎◌}
use Rattle.walrus.specs.Base.Types.{Func, comp_heaps}
use Rattle.walrus.specs.Base.Operators.{Types, Functions, Item, function_item, type_item}
use Rattle.walrus.specs.Model.Abstract.{Abstract, Body, Function, ImportedFunction, LocalFunction, TypeDef}
use Rattle.walrus.specs.Model.Config.{Config}
use Rattle.walrus.specs.Model.Live.{IsLive}
use Rattle.walrus.specs.Model.Refers.{Refers, body_names, function_names, named_by, type_names, written_in}
use Rattle.walrus.specs.Model.Rules.{IsFunctionType}
use Rattle.walrus.specs.Model.WellMade.{heaps_by, kind_heaps}
use Rattle.walrus.proofs.Base.Lists.{Contains-head, Contains-none, Contains-tail, Contains-uncons}
use Rattle.walrus.specs.Theorem.Chain.{alone}
use Rattle.walrus.specs.Theorem.EditLaws.{AddsLive, LeadsToLive}
use Rattle.walrus.specs.Theorem.Sound.{FunctionHolds, IsSound, TypeHolds}
use Rattle.walrus.specs.Theorem.WellMade.{IsWellFormed}
use Rattle.walrus.proofs.Theorem.EditKept.{some_is, some_there}
use Rattle.walrus_examples.proofs.CallBody.{with_call}

only_one : (x y : Item) → Contains (x ∷ []) y → y ≡ x
only_one x y has = ⊎_elim (λ (is : x ≡ y). sym is) (λ none. absurd (Contains-none y none)) (Contains-uncons x y [] has)

module _ (c : Config) (m : Abstract) (p : ℕ) where
  pub type_sound : m.types p ≡ Some (alone p (Func [] [])) → IsSound c m (Types, p)
  type_sound at = record {
    names = λ y has. subst (λ (x : Item). IsLive m x) (sym (only_one (type_item p) y (subst (λ (o : Option TypeDef). Contains (named_by type_names o) y) at has))) (some_there (m.types p) at);
    heaps = λ h has. absurd (Contains-none h (subst (λ (o : Option TypeDef). Contains (heaps_by (λ (t : TypeDef). comp_heaps t.sub.comp) o) h) at has));
    consts = λ ops has. absurd (Contains-none ops has);
    const_heaps = λ ops h has. absurd (Contains-none ops has);
    holds = λ t is. subst (λ (x : TypeDef). TypeHolds p x) (some_is (sym at ∙ is)) (record { one_supertype = omega arith; supertypes = λ u has. absurd (Contains-none u has); others = λ u has. absurd (Contains-none u has) });
  }

  module _ (n a : ℕ) (at : m.functions n ≡ Some (record { ty = p; kind = ImportedFunction a })) where
    named : (y : Item) → Contains (written_in m (Functions, n)) y → y ≡ type_item p
    named y has = only_one (type_item p) y (subst (λ (o : Option Function). Contains (named_by function_names o) y) at has)

    pub imported_sound : IsFunctionType m p → IsSound c m (Functions, n)
    imported_sound type = record {
      names = λ y has. subst (λ (x : Item). IsLive m x) (sym (named y has)) (some_there (m.types p) type.1);
      heaps = λ h has. absurd (Contains-none h (subst (λ (o : Option Function). Contains (heaps_by (λ (f : Function). kind_heaps f.kind) o) h) at has));
      consts = λ ops has. absurd (Contains-none ops has);
      const_heaps = λ ops h has. absurd (Contains-none ops has);
      holds = λ f is. subst (λ (g : Function). FunctionHolds c m g) (some_is (sym at ∙ is)) (record { typed = type; kind = tt });
    }

    pub imported_refers : m.handler_types n ≡ [] → (y : Item) → Refers m (Functions, n) y → y ≡ type_item p
    imported_refers none y (inl has) = named y has
    imported_refers none y (inr (t, has, is)) = absurd (Contains-none t (subst (λ (ts : List ℕ). Contains ts t) none has))

module _ (c : Config) (v w : Abstract) (i n ty : ℕ) (b : Body) (was : v.functions i ≡ Some (record { ty = ty; kind = LocalFunction b })) (is : w.functions i ≡ Some (record { ty = ty; kind = LocalFunction (with_call n b) })) where
  -- what is named was named, or is what is called
  named_was : (y : Item) → Contains (written_in w (Functions, i)) y → Contains (written_in v (Functions, i)) y ⊎ (y ≡ function_item n)
  named_was y has = subst (λ (o : Option Function). Contains (named_by function_names o) y ⊎ (y ≡ function_item n)) (sym was)
      (⊎_elim
      (λ (e : type_item ty ≡ y). inl (subst (λ (z : Item). Contains (type_item ty ∷ body_names b) z) e (Contains-head (type_item ty) (body_names b))))
      (λ later. ⊎_elim (λ (e : function_item n ≡ y). inr (sym e)) (λ old. inl (Contains-tail (type_item ty) y (body_names b) old)) (Contains-uncons (function_item n) y (body_names b) later))
      (Contains-uncons (type_item ty) y (function_item n ∷ body_names b) (subst (λ (o : Option Function). Contains (named_by function_names o) y) is has)))

  pub call_sound : IsSound c v (Functions, i) → ((y : Item) → IsLive v y → IsLive w y) → IsLive w (function_item n) → IsWellFormed c w ty (with_call n b) → IsSound c w (Functions, i)
  call_sound sound on live formed = record {
    names = λ y has. ⊎_elim (λ old. on y (sound.names y old)) (λ (e : y ≡ function_item n). subst (λ (z : Item). IsLive w z) (sym e) live) (named_was y has);
    heaps = λ h has. sound.heaps h (subst (λ (o : Option Function). Contains (heaps_by (λ (f : Function). kind_heaps f.kind) o) h) (sym was) (subst (λ (o : Option Function). Contains (heaps_by (λ (f : Function). kind_heaps f.kind) o) h) is has));
    consts = λ ops has. absurd (Contains-none ops has);
    const_heaps = λ ops h has. absurd (Contains-none ops has);
    holds = λ f at. let old = (sound.holds (record { ty = ty; kind = LocalFunction b }) was).kind in
        subst (λ (g : Function). FunctionHolds c w g) (some_is (sym is ∙ at)) (record { typed = formed.function_type; kind = record { well = formed; typed = old.typed; few = old.few } });
  }

  pub call_leads : w.handler_types i ≡ v.handler_types i → LeadsToLive w (function_item n) → AddsLive v w (Functions, i)
  call_leads handlers leads y (inl has) = ⊎_elim (λ old. inl (inl old)) (λ (e : y ≡ function_item n). inr (subst (LeadsToLive w) (sym e) leads)) (named_was y has)
  call_leads handlers leads y (inr (t, has, same)) = inl (inr (t, subst (λ (ts : List ℕ). Contains ts t) handlers has, same))
