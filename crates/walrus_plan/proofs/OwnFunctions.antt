-- The functions with a body, in the order of their sizes, are the functions that no import brings, in the order of the plan.
use Rattle.std.proofs.Common.{◌≡◌, ◌⊎◌, ℕ, ◌<◌, List, refl, sym, ap, ◌∙◌, subst, Some, None}
use Rattle.std.specs.Prelude.{Option, IsSome, Contains, option_map}
use Rattle.walrus_base.specs.Arena.{item_at}
use Rattle.walrus_base.specs.Operators.{Functions}
use Rattle.walrus_items.specs.Function.{size_of}
use Rattle.walrus_items.specs.LocalFunction.{LocalFunction}
use Rattle.walrus_items.specs.Functions.{FunctionValue, functions}
use Rattle.walrus_items.specs.declared.function_kind.FunctionKind.{FunctionKind}
use Rattle.walrus_items.specs.declared.function_kind.FunctionKind.TheVariants as kind
use Rattle.walrus_contents.specs.View.{body, function, kind_of, parts_view}
use Rattle.walrus_contents.specs.declared.parts.Parts.{Parts}
use Rattle.walrus_model.specs.Abstract as abstract
use Rattle.walrus_model.specs.Abstract.{Abstract, Function, Uninitialised, LocalFunction as OfBody}
use Rattle.walrus_model.specs.Dead.{HasDead, NoKind}
use Rattle.walrus_model.specs.Order.{ByImport, FunctionsByImport}
use Rattle.walrus_model.specs.Same.{BothAnd}
use Rattle.walrus_model.specs.WellMade.{import_in, import_of, kind_import}
use Rattle.walrus_base.proofs.Standing.{some_inj, some_of}
use Rattle.walrus_plan.specs.Sizes.{IsOrder}
use Rattle.walrus_plan.proofs.BySize.{bodies_in, body_at, body_there, ordered_by_size, own_body, pairs_by_size}
use Rattle.walrus_plan.proofs.BroughtBy.{kind_origin}
use Rattle.walrus_model.proofs.OrderByImport.{ListsOwn}
use Rattle.walrus_code.proofs.Somes.{none_some}

module _ (p : Parts) where
  abbrev V : Abstract
  V = parts_view p

  abbrev slots : List (Option FunctionValue)
  slots = functions p.funcs.now

  -- the kind of what is seen at a place
  abbrev kind_at : Option FunctionValue → Option abstract.FunctionKind
  kind_at o = option_map (λ (g : Function). g.kind) (option_map (function p.locals.now) o)

  kind_by : (k : FunctionKind) (f : LocalFunction) → own_body k ≡ Some f → kind_of p.locals.now k ≡ OfBody (body p.locals.now f)
  kind_by (kind.Local g) f e = ap (λ (h : LocalFunction). OfBody (body p.locals.now h)) (some_inj g f e)
  kind_by (kind.Import i) f e = absurd (none_some f e)
  kind_by (kind.Uninitialized ty) f e = absurd (none_some f e)

  body_kind : (o : Option FunctionValue) (f : LocalFunction) → body_at o ≡ Some f → kind_at o ≡ Some (OfBody (body p.locals.now f))
  body_kind (Some v) f e = ap (λ (k : abstract.FunctionKind). Some k) (kind_by v.kind f e)
  body_kind None f e = absurd (none_some f e)

  -- a function that no import brings has a body, where each has one or an import
  own_kind : (k : FunctionKind) → (kind_of p.locals.now k ≡ Uninitialised → ⊥) → kind_import (kind_of p.locals.now k) ≡ None → IsSome (own_body k)
  own_kind (kind.Local g) there none = refl
  own_kind (kind.Import i) there none = absurd (none_some _ (sym none))
  own_kind (kind.Uninitialized ty) there none = absurd (there refl)

  body_lives : (HasDead V → ⊥) → (i : ℕ) (o : Option FunctionValue) → item_at slots i ≡ o → IsSome (option_map (function p.locals.now) o) → import_in (λ (f : Function). kind_import f.kind) (option_map (function p.locals.now) o) ≡ None → IsSome (body_at o)
  body_lives there i (Some v) at live none = own_kind v.kind (λ un. there (NoKind i (function p.locals.now v) (ap (option_map (function p.locals.now)) at) un)) none
  body_lives there i None at live none = live

  value_there : (o : Option FunctionValue) → IsSome (body_at o) → IsSome (option_map (function p.locals.now) o)
  value_there (Some v) h = refl
  value_there None h = h

  -- an imported one comes first
  imports_first : (i j q : ℕ) (o : Option Function) (u : Option abstract.FunctionKind) (b : abstract.Body) → import_in (λ (f : Function). kind_import f.kind) o ≡ Some q → u ≡ Some (OfBody b) → BothAnd (FunctionsByImport i j) (option_map (λ (f : Function). f.kind) o) u
  imports_first i j q (Some f) u b first own = rw (own, kind_origin f.kind q first) tt
  imports_first i j q None u b first own = absurd (none_some q first)

  module _ (order : List ℕ) (h : IsOrder slots order) where
    -- of two with a body the larger one does
    larger_first : (i j : ℕ) (f g : LocalFunction) → item_at (bodies_in slots) i ≡ Some f → item_at (bodies_in slots) j ≡ Some g
        → (size_of g < size_of f) ⊎ ((size_of f ≡ size_of g) × (i < j)) → ByImport V Functions i j
    larger_first i j f g at to larger =
        let first = body_kind (item_at slots i) f (sym (body_there slots i) ∙ at) in
        let second = body_kind (item_at slots j) g (sym (body_there slots j) ∙ to) in
        rw (first, second) larger

    body_here : (i : ℕ) → Contains order i → (f : LocalFunction) × (body_at (item_at slots i) ≡ Some f)
    body_here i at = some_of (body_at (item_at slots i)) (subst (λ (o : Option LocalFunction). IsSome o) (body_there slots i) ((ordered_by_size slots order h).chosen i at))

    behind : (i j q : ℕ) → import_of V (Functions, i) ≡ Some q → Contains order j → ByImport V Functions i j
    behind i j q first at =
        let f = body_here j at in
        imports_first i j q (V.functions i) (kind_at (item_at slots j)) (body p.locals.now f.0) first (body_kind (item_at slots j) f.0 f.1)

    pub functions_listed : (HasDead V → ⊥) → ListsOwn V Functions order
    functions_listed there = record {
      there = λ i at. let f = body_here i at in value_there (item_at slots i) (subst (λ (o : Option LocalFunction). IsSome o) (sym f.1) refl);
      all = λ i live none. (ordered_by_size slots order h).all i (subst (λ (o : Option LocalFunction). IsSome o) (sym (body_there slots i)) (body_lives there i (item_at slots i) refl live none));
      sorted = pairs_by_size slots order h (ByImport V Functions) larger_first;
      behind = behind;
    }
