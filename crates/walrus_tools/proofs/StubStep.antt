-- A whole module in which an imported function traps is whole.
use Rattle.std.proofs.Common.{◌≡◌, ℕ, Option, Some, IsSome, [], map, option_map, refl, sym, ap, ◌∙◌, subst, inl}
use Rattle.std.specs.Prelude.{Contains}
use Rattle.walrus.specs.Base.Arena.{item_at}
use Rattle.walrus.specs.Base.Id.{place}
use Rattle.walrus.specs.Base.IdValue.{Id}
use Rattle.walrus.specs.Base.FunctionKey.{FunctionKey}
use Rattle.walrus.specs.Base.ModuleTypes.{type_slots}
use Rattle.walrus.specs.Base.Operators.{Functions, Item, type_item}
use Rattle.walrus.specs.Base.TypeDef.{TypeDef}
use Rattle.walrus.specs.Model.Abstract as abstract
use Rattle.walrus.specs.Model.BlockHandlers.{params_of}
use Rattle.walrus.specs.Model.Config.{Config}
use Rattle.walrus.specs.Model.Refers.{function_names, named_by}
use Rattle.walrus.specs.Model.Rules.{IsFunctionType}
use Rattle.walrus.proofs.Base.Lists.{Contains-head}
use Rattle.walrus.specs.Contents.View.{body, function, handlers_at}
use Rattle.walrus.specs.Items.Function.{body_of}
use Rattle.walrus.specs.Items.Functions.{FunctionValue, functions}
use Rattle.walrus.specs.Items.Imports.{imports}
use Rattle.walrus.specs.Items.FunctionKinds.{kind_type}
use Rattle.walrus.specs.Items.FunctionKind.{FunctionKind}
use Rattle.walrus.specs.Items.FunctionKind.TheVariants.{Import}
use Rattle.walrus.specs.Items.ImportedFunction.{ImportedFunction}
use Rattle.walrus.specs.Theorem.EditLaws.{AddsLive, StaysWhole}
use Rattle.walrus.specs.Theorem.Edits.{MakesLocal}
use Rattle.walrus.proofs.Theorem.EditKept.{some_is}
use Rattle.walrus.proofs.Theorem.EditFunctions.{made_local}
use Rattle.walrus.specs.Modules.Replaced.{IsMadeLocal, with_body}
use Rattle.walrus.specs.Modules.View.{contents_of, held_view}
use Rattle.walrus.specs.Modules.Module.{Module}
use Rattle.walrus.proofs.Modules.CountedBodies.{held_counted}
use Rattle.walrus.proofs.Modules.EditedReplaced.{imported_local, imported_takes}
use Rattle.walrus.proofs.Modules.EditedSlots.{set_here}
use Rattle.walrus_tools.proofs.TrapSound.{trap_refers, trap_sound}
use Rattle.walrus.specs.Edits.{IsWhole}
use Rattle.walrus_tools.specs.StubAnswers.{PutsTrap}
use Rattle.walrus_tools.specs.Trap.{trap_ops}

module _ {S : Type 0} (c : Config) (old new : Module S) (whole : IsWhole c old) (fid id : Id FunctionKey) (f : FunctionValue) (i : ImportedFunction) (def : TypeDef) (there : item_at (functions old.funcs) (place fid) ≡ Some f) (kind : f.kind ≡ Import i)
    (typed : item_at (type_slots old.types) (place i.ty) ≡ Some def) (live : IsSome (item_at (imports old.imports) (place i.«import»))) (made : IsMadeLocal PutsTrap fid (place i.«import») f i.ty def old new id) (traps : body_of made.function ≡ trap_ops) where
  abbrev j : ℕ
  j = place fid

  edit : MakesLocal j (place i.«import») (body new.locals made.function) (held_view old) (held_view new)
  edit = imported_local PutsTrap fid id old new f i def there kind made live []

  same_types : (held_view new).types ≡ (held_view old).types
  same_types = ap (λ (x : abstract.Abstract). x.types) edit.others

  type : IsFunctionType (held_view new) edit.ty
  type = let was = whole.made.rules.function_types.functions j _ edit.functions.was in (was.0, ap (λ (ts : ℕ → Option TypeDef). ts edit.ty) same_types ∙ was.1, was.2)

  ty_is : edit.ty ≡ place i.ty
  ty_is = ap (λ (g : abstract.Function). g.ty) (some_is (sym edit.functions.was ∙ ap (option_map (function old.locals)) there)) ∙ ap (λ (k : FunctionKind). place (kind_type k)) kind

  no_handlers : (held_view new).handler_types j ≡ []
  no_handlers = ap (λ xs. handlers_at (item_at xs j)) made.funcs ∙ ap handlers_at (set_here (functions old.funcs) j (Some (with_body made.function f)) (subst (λ (o : Option FunctionValue). IsSome o) (sym there) refl)) ∙ made.is_new.handlers

  stays : StaysWhole c (held_view old) (held_view new) (AddsLive (held_view old) (held_view new) (Functions, j))
  stays =
      let takes = imported_takes PutsTrap fid id old new f i def there kind made in
      made_local c (held_view old) (held_view new) j (place i.«import») (body new.locals made.function) edit whole.made
      (trap_sound (held_view new) j edit.ty (body new.locals made.function) edit.functions.is traps c type takes.distinct
      (takes.typed ∙ ap (λ (o : Option TypeDef). map Some (params_of o)) (sym (ap (λ (ts : ℕ → Option TypeDef). ts edit.ty) same_types ∙ ap (λ (n : ℕ). item_at (type_slots old.types) n) ty_is ∙ typed))))
      (held_counted (contents_of new))

  -- its type is all that it leads to, and was written in it before
  pub stub_whole : IsWhole c new
  stub_whole = record {
    made = stays.made;
    reached = stays.reached
        (λ y r. inl (inl (subst (λ (x : Item). Contains (named_by function_names ((held_view old).functions j)) x) (sym (trap_refers (held_view new) j edit.ty (body new.locals made.function) edit.functions.is traps no_handlers y r))
        (subst (λ (o : Option abstract.Function). Contains (named_by function_names o) (type_item edit.ty)) (sym edit.functions.was) (Contains-head (type_item edit.ty) [])))))
        whole.reached;
  }
