-- The bodies of a module in memory count the locals that they declare, where each local that they use is there.
use Rattle.std.proofs.Common.{◌≡◌, ℕ, ◌<◌, List, [], ◌∷◌, length, sym, ap, ◌∙◌, subst, arith}
use Rattle.std.specs.Prelude.{Option, Some, None, IsSome, Contains, filter, option_map}
use Rattle.std.specs.List.{range_with_len}
use Rattle.std.proofs.lemmas.List.{length-map}
use Rattle.walrus_base.specs.Arena.{item_at}
use Rattle.walrus_base.specs.Locals.{locals, local_type}
use Rattle.walrus_base.specs.Value.{val_type}
use Rattle.walrus_base.specs.declared.locals.ModuleLocals.{ModuleLocals}
use Rattle.walrus_model.specs.EmittedBody.{types_of as local_types}
use Rattle.walrus_model.specs.Abstract.{Body}
use Rattle.walrus_model.specs.Names.{body_of_function, body_of_kind}
use Rattle.walrus_model.specs.Refers.{IsUsed}
use Rattle.walrus_base.proofs.Lists.{Contains-none}
use Rattle.walrus_base.proofs.Standing.{some_inj}
use Rattle.walrus_items.specs.Functions.{FunctionValue, functions}
use Rattle.walrus_items.specs.declared.function_kind.FunctionKind.TheVariants as kinds
use Rattle.walrus_items.specs.declared.function_kind.FunctionKind.{FunctionKind}
use Rattle.walrus_contents.specs.View.{body, function, is_declared, kind_of}
use Rattle.walrus_theorem.specs.WellMade.{IsCounted}
use Rattle.walrus_reading.proofs.Carrying.{item_within}
use Rattle.walrus_reading.proofs.DeclaredLocals.{counts}
use Rattle.walrus_module.specs.Laws.{AbsentIsUncounted, HeldAreCounted}

-- ---- a body whose used locals are there counts them

-- each local that it uses is there
abbrev TypesUsed : Body → Type 0
TypesUsed b = (x : ℕ) → IsUsed b x → IsSome (b.local_type x)

none_is : {P : Type 0} (b : Body) → ◌≡◌ {A = Option Body} None (Some b) → P
none_is b same = absurd (cc)

module _ (all : ModuleLocals) where
  of_kind : (k : FunctionKind) (b : Body) → body_of_kind (kind_of all k) ≡ Some b → TypesUsed b → IsCounted b
  of_kind (kinds.Local f) b is typed =
      let same : body all f ≡ b = some_inj (body all f) b is in
      let there : TypesUsed (body all f) = subst (λ (d : Body). TypesUsed d) (sym same) typed in
      subst (λ (d : Body). IsCounted d) same
      (counts f all
      (λ x used.
      let below : x < length (local_types (locals all)) = item_within (local_types (locals all)) x (there x used) in
      omega (arith, below, length-map (locals all) (option_map (λ l. val_type (local_type l))))))
  of_kind (kinds.Import i) b is typed = none_is b is
  of_kind (kinds.Uninitialized ty) b is typed = none_is b is

  of_slot : (slot : Option FunctionValue) (b : Body) → body_of_function (option_map (function all) slot) ≡ Some b → TypesUsed b → IsCounted b
  of_slot None b is typed = none_is b is
  of_slot (Some f) b is typed = of_kind f.kind b is typed

-- ---- where there are no locals, none is counted

none_in : (xs : List ℕ) (x : ℕ) → length xs ≡ 0 → Contains xs x → ⊥
none_in [] x e at = Contains-none x at
none_in (y ∷ xs) x e at = absurd (omega (arith, e))

pub absent_uncounted : AbsentIsUncounted
absent_uncounted all f x none declared counted =
    let nothing : (body all f).declared ≡ 0 = ap (λ slots. length (filter (is_declared f) (range_with_len 0 (length slots)))) none in
    none_in counted.locals x (sym counted.count ∙ nothing) ((counted.are x).1 declared)

-- ---- the bodies of a module

pub held_counted : HeldAreCounted
held_counted m typed f b is = of_slot m.locals (item_at (functions m.funcs) f) b is (λ x used. typed f b x is used)
