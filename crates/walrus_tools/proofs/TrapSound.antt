-- A function that traps is sound, and leads to its type alone.
use Rattle.std.proofs.Common.{◌≡◌, ◌≢◌, ℕ, List, [], ◌∷◌, ◌++◌, map, refl, sym, ap, ◌∙◌, subst, inl, inr, ⊎_elim, arith}
use Rattle.std.specs.Prelude.{Some, None, Contains, AllPairs, slice_get}
use Rattle.walrus.specs.Modules.Body.{BodyReads, context}
use Rattle.walrus.specs.Modules.FunctionTypes.{is_function_def}
use Rattle.walrus.specs.Base.Types.{HeapType}
use Rattle.walrus.specs.Base.Operators.{Functions, Item, Op, type_item}
use Rattle.walrus.specs.Model.Abstract.{Abstract, Body, Function, LocalFunction}
use Rattle.walrus.specs.Model.BlockHandlers.{params_of}
use Rattle.walrus.specs.Model.Config.{Config}
use Rattle.walrus.specs.Model.Live.{IsLive}
use Rattle.walrus.specs.Model.Refers.{IsUsed, Refers, body_names, function_names, named_by, used_locals, written_in}
use Rattle.walrus.specs.Model.Rules.{IsFunctionType}
use Rattle.walrus.specs.Model.WellMade.{body_heaps, heaps_by, kind_heaps}
use Rattle.walrus.proofs.Base.Lists.{Contains-head, Contains-none, Contains-uncons}
use Rattle.walrus.specs.Theorem.EditLaws.{LeadsToLive}
use Rattle.walrus.specs.Theorem.Features.{features_of}
use Rattle.walrus.specs.Theorem.Sound.{DeclaresFew, FunctionHolds, IsSound}
use Rattle.walrus.proofs.Theorem.EditKept.{some_is, some_there}
use Rattle.walrus.proofs.Theorem.EditLeads.{leads_to_type}
use Rattle.walrus.specs.Theorem.WellMade.{IsWellMade}
use Rattle.walrus_tools.proofs.TrapBody.{trap_reads}
use Rattle.walrus_tools.specs.Trap.{trap_ops}

module _ (m : Abstract) (j ty : ℕ) (t : Body) (at : m.functions j ≡ Some (record { ty = ty; kind = LocalFunction t })) (traps : t.operators ≡ trap_ops) where
  unused : (l : ℕ) → IsUsed t l → ⊥
  unused l used = Contains-none l (subst (λ (ops : List Op). Contains (used_locals (record t { operators = ops })) l) traps used)

  few : DeclaresFew t
  few [] apart are = omega arith
  few (l ∷ ls) apart are = absurd (unused l (are l (Contains-head l ls)).0)

  named : (y : Item) → Contains (written_in m (Functions, j)) y → y ≡ type_item ty
  named y has = ⊎_elim (λ (is : type_item ty ≡ y). sym is) (λ none. absurd (Contains-none y none)) (Contains-uncons (type_item ty) y []
      (subst (λ (ns : List Item). Contains ns y) (ap (named_by function_names) at ∙ ap (λ (ops : List Op). type_item ty ∷ body_names (record t { operators = ops })) traps) has))

  pub trap_refers : m.handler_types j ≡ [] → (y : Item) → Refers m (Functions, j) y → y ≡ type_item ty
  trap_refers none y (inl has) = named y has
  trap_refers none y (inr (n, has, is)) = absurd (Contains-none n (subst (λ (ns : List ℕ). Contains ns n) none has))

  pub trap_sound : (c : Config) → IsFunctionType m ty → AllPairs (λ (x : ℕ) (y : ℕ). x ≢ y) t.parameters → map t.local_type t.parameters ≡ map Some (params_of (m.types ty)) → IsSound c m (Functions, j)
  trap_sound c type distinct typed = record {
    names = λ y has. subst (λ (x : Item). IsLive m x) (sym (named y has)) (some_there (m.types ty) type.1);
    heaps = λ h has. absurd (Contains-none h (subst (λ (hs : List (HeapType ℕ)). Contains hs h) (ap (heaps_by (λ (f : Function). kind_heaps f.kind)) at ∙ ap (λ (ops : List Op). body_heaps (record t { operators = ops })) traps) has));
    consts = λ ops has. absurd (Contains-none ops has);
    const_heaps = λ ops h has. absurd (Contains-none ops has);
    holds = λ f is. subst (λ (g : Function). FunctionHolds c m g) (some_is (sym at ∙ is)) (record {
      typed = type;
      kind = record {
        well = record {
          function_type = type;
          distinct = distinct;
          typed = typed;
          names = λ x i. None;
          further = [];
          types = [];
          further_typed = refl;
          text = 0x00 ∷ 0x00 ∷ 0x0B ∷ [];
          read = subst (λ (ops : List Op). BodyReads (context (λ x i. None) (λ k. is_function_def (m.types k)) (features_of c)) (slice_get (t.parameters ++ [])) (0x00 ∷ 0x00 ∷ 0x0B ∷ []) [] ops) (sym traps)
              (trap_reads c (λ x i. None) (λ k. is_function_def (m.types k)) (slice_get (t.parameters ++ [])));
        };
        typed = λ l used. absurd (unused l used);
        few = few;
      };
    });
  }

  pub trap_leads : (c : Config) → IsWellMade c m → m.handler_types j ≡ [] → LeadsToLive m (Functions, j)
  trap_leads c made none =
      let type = made.rules.function_types.functions j (record { ty = ty; kind = LocalFunction t }) at in
      leads_to_type c m made (Functions, j) ty (some_there (m.functions j) at) (some_there (m.types ty) type.1) (trap_refers none)
