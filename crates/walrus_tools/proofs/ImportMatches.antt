-- In a well-made module an import of a function and that function name each other.
use Rattle.std.proofs.Common.{◌≡◌, ℕ, Bool, true, false, cond, List, [], ◌∷◌, Option, Some, None, find, option_map, refl, sym, ap, ◌∙◌, subst, inl, inr}
use Rattle.std.specs.Prelude.{Contains, ◌⊎◌}
use Rattle.walrus.specs.Base.Arena.{item_at}
use Rattle.walrus.specs.Base.Id.{place}
use Rattle.walrus.specs.Base.ModuleTypes.{type_slots}
use Rattle.walrus.specs.Base.Operators.{Functions, Item, function_item}
use Rattle.walrus.specs.Base.TypeDef.{TypeDef}
use Rattle.walrus.specs.Base.ModuleLocals.{ModuleLocals}
use Rattle.walrus.specs.Model.Abstract as abstract
use Rattle.walrus.specs.Model.Config.{Config}
use Rattle.walrus.specs.Model.WellMade.{import_in, kind_import, import_of as import_of_item}
use Rattle.walrus.specs.Items.FunctionKinds.{kind_type}
use Rattle.walrus.specs.Items.Kinds.{imported}
use Rattle.walrus.specs.Items.FunctionKind.{FunctionKind}
use Rattle.walrus.specs.Items.FunctionKind.TheVariants.{Import, Local, Uninitialized}
use Rattle.walrus.specs.Items.ImportedFunction.{ImportedFunction}
use Rattle.walrus.specs.Items.Functions.{FunctionValue, functions}
use Rattle.walrus.specs.Items.Imports.{ImportValue, imports}
use Rattle.walrus.specs.Contents.View.{contents_view, function, import_of, kind_of}
use Rattle.walrus.specs.Contents.Contents.{Contents}
use Rattle.walrus.specs.Theorem.WellMade.{IsWellMade}
use Rattle.walrus.proofs.Base.Lists.{Contains-none, Contains-uncons}
use Rattle.walrus_tools.proofs.StubTurn.{Theirs}
use Rattle.walrus.proofs.Theorem.EditKept.{none_isnt, some_is}
use Rattle.walrus_tools.specs.Stub.{import_place}
use Rattle.walrus.proofs.Base.ShapesKept.{made_of}

-- a search that finds nothing passes over nothing
pub finds : {X : Type 0} (p : X → Bool) (xs : List X) (x : X) → Contains xs x → p x ≡ true → find p xs ≡ None → ⊥
finds p [] x at passes none = Contains-none x at
finds {X = X} p (y ∷ ys) x at passes none = by (p y) refl none (Contains-uncons y x ys at) (finds p ys x) where
  by : (b : Bool) → p y ≡ b → cond b (Some y) (find p ys) ≡ None → (y ≡ x) ⊎ Contains ys x → (Contains ys x → p x ≡ true → find p ys ≡ None → ⊥) → ⊥
  by true is h some rest = none_isnt (sym h)
  by false is h (inl here) rest = let no_such : false ≡ true = sym is ∙ ap p here ∙ passes in cc
  by false is h (inr there) rest = rest there passes h

-- function j stands there with this import, and its type does
pub record IsBroughtBy (m : Contents) (j n : ℕ) : Type 0 where
  pub f : FunctionValue
  pub by : ImportedFunction
  pub there : item_at (functions m.funcs) j ≡ Some f
  pub kind : f.kind ≡ Import by
  pub at_place : place by.«import» ≡ n
  pub def : TypeDef
  pub typed : item_at (type_slots m.types) (place by.ty) ≡ Some def

module _ (c : Config) (m : Contents) (made : IsWellMade c (contents_view m)) where
  by_kind : (k : FunctionKind) (p : ℕ) (locals : ModuleLocals) → import_place k ≡ Some p → kind_import (kind_of locals k) ≡ Some p
  by_kind (Import i) p locals e = e
  by_kind (Local l) p locals e = absurd (none_isnt e)
  by_kind (Uninitialized ty) p locals e = absurd (none_isnt e)

  pub theirs : Theirs (functions m.funcs) (imports m.imports)
  theirs j p f at by =
      let e = made.imports.items (Functions, j) p (ap (λ o. import_in (λ (g : abstract.Function). kind_import g.kind) (option_map (function m.locals) o)) at ∙ by_kind f.kind p m.locals by) in
      let x = made_of import_of (item_at (imports m.imports) p) e.0 e.1 in
      (x.0, x.1, ap (λ (y : abstract.Import). y.item) x.2 ∙ e.2)

  module _ (n j : ℕ) (x : ImportValue) (at : item_at (imports m.imports) n ≡ Some x) (is : imported x.kind ≡ function_item j) where
    named : import_in (λ (g : abstract.Function). kind_import g.kind) (option_map (function m.locals) (item_at (functions m.funcs) j)) ≡ Some n
    named = subst (λ (i : Item). import_of_item (contents_view m) i ≡ Some n) is (made.imports.imports n (import_of x) (ap (option_map import_of) at))

    with_kind : (f : FunctionValue) → item_at (functions m.funcs) j ≡ Some f → (k : FunctionKind) → f.kind ≡ k → kind_import (kind_of m.locals k) ≡ Some n → IsBroughtBy m j n
    with_kind f there (Import i) kind e =
        let typed = made.rules.function_types.functions j (function m.locals f) (ap (option_map (function m.locals)) there) in
        record { f = f; by = i; there = there; kind = kind; at_place = some_is e; def = typed.0; typed = subst (λ (k : FunctionKind). item_at (type_slots m.types) (place (kind_type k)) ≡ Some typed.0) kind typed.1 }
    with_kind f there (Local l) kind e = absurd (none_isnt e)
    with_kind f there (Uninitialized ty) kind e = absurd (none_isnt e)

    with_slot : (o : Option FunctionValue) → item_at (functions m.funcs) j ≡ o → import_in (λ (g : abstract.Function). kind_import g.kind) (option_map (function m.locals) o) ≡ Some n → IsBroughtBy m j n
    with_slot None there e = absurd (none_isnt e)
    with_slot (Some f) there e = with_kind f there f.kind refl e

    pub brought_by : IsBroughtBy m j n
    brought_by = with_slot (item_at (functions m.funcs) j) refl named
