-- What replacing a function makes of the abstract module.
use Rattle.std.proofs.Common.{◌≡◌, ◌≢◌, ℕ, List, [], ◌∷◌, ◌++◌, length, map, Option, Some, None, IsSome, Result, Ok, Err, option_map, refl, sym, ap, ◌∙◌, subst}
use Rattle.std.specs.Prelude.{AllPairs}
use Rattle.walrus_base.specs.Arena.{item_at}
use Rattle.walrus_base.specs.Id.{place}
use Rattle.walrus_base.specs.declared.id.Id.{Id}
use Rattle.walrus_base.specs.declared.keys.FunctionKey.{FunctionKey}
use Rattle.walrus_base.specs.declared.keys.TypeKey.{TypeKey}
use Rattle.walrus_base.specs.Locals.{locals}
use Rattle.walrus_base.specs.ModuleTypes.{type_slots}
use Rattle.walrus_base.specs.Operators.{Functions, Item, function_item}
use Rattle.walrus_base.specs.TypeDef.{TypeDef}
use Rattle.walrus_model.specs.Abstract as abstract
use Rattle.walrus_model.specs.BodyRead.{new_locals}
use Rattle.walrus_model.specs.EmittedBody.{types_of}
use Rattle.walrus_model.specs.WellMade.{ImportsMatch, import_in, import_of as import_of_item, kind_import}
use Rattle.walrus_base.proofs.Standing.{some_inj}
use Rattle.walrus_contents.specs.View.{body, export_of, function, import_of, kind_of}
use Rattle.walrus_contents.specs.declared.parts.Contents.{Contents}
use Rattle.walrus_items.specs.Exports.{ExportValue, exports, exports_item}
use Rattle.walrus_items.specs.Function.{function_type}
use Rattle.walrus_items.specs.Functions.{FunctionValue, functions}
use Rattle.walrus_items.specs.Imports.{ImportValue, imported_function, imports, imports_item}
use Rattle.walrus_items.specs.LocalFunction.{LocalFunction}
use Rattle.walrus_items.specs.Searches.{first}
use Rattle.walrus_base.proofs.SearchFound.{found-item, found-passes}
use Rattle.walrus_items.specs.Kinds.{exported, imported}
use Rattle.walrus_items.specs.declared.error.Error.{Error}
use Rattle.walrus_items.specs.declared.function_kind.FunctionKind.{FunctionKind}
use Rattle.walrus_items.specs.declared.function_kind.FunctionKind.TheVariants.{Import, Local, Uninitialized}
use Rattle.walrus_items.specs.declared.function_kind.ImportedFunction.{ImportedFunction}
use Rattle.walrus_items.specs.declared.kinds.ImportKind.{ImportKind}
use Rattle.walrus_items.specs.declared.kinds.ImportKind.TheVariants as kinds
use Rattle.walrus_items.proofs.ItemLemmas.{is_item-same}
use Rattle.walrus_theorem.specs.Edits.{GainsItem, MakesLocal, SwapsExport}
use Rattle.walrus_module.specs.Edits.{Edits, ExportIsRedirected, ExportedReplaced, ImportReplaced, ImportedIsLocal, ImportedReplaced, Redirects, TakesTypes, seen}
use Rattle.walrus_module.specs.Replaced.{Builds, IsMadeLocal, IsReplaced, MakesBroughtLocal, MakesFoundLocal, MakesImportedLocal, MakesKindLocal, MakesLocal as MakesTypedLocal, MakesSlotLocal, ReplacesFound, ReplacesKind, naming}
use Rattle.walrus_module.specs.View.{contents_of, held_view}
use Rattle.walrus_module.specs.declared.module.Module.{Module}
use Rattle.walrus_module.proofs.EditedExports.{export_set}
use Rattle.walrus_module.proofs.EditedFunctions.{function_added, made_local}
use Rattle.walrus_reading.proofs.EditedLocals.{new_apart, new_typed}

refused : {P : Type 0} {X : Type 0} (x : X) (e : Error) → ◌≡◌ {A = Result X Error} (Ok x) (Err e) → P
refused x e same = absurd cc

-- ---- an imported function

module _ {S : Type 0} (post : Builds) (fid id : Id FunctionKey) (old new : Module S) (f : FunctionValue) (i : ImportedFunction) (def : TypeDef) (there : item_at (functions old.funcs) (place fid) ≡ Some f) (kind : f.kind ≡ Import i)
    (made : IsMadeLocal post fid (place i.«import») f i.ty def old new id) where
  pub imported_local : IsSome (item_at (imports old.imports) (place i.«import»)) → Edits (MakesLocal (place fid) (place i.«import») (body new.locals made.function)) (contents_of old) (contents_of new)
  imported_local live = subst (Edits (MakesLocal (place fid) (place i.«import») (body new.locals made.function)) (contents_of old)) (sym (ap contents_of made.others))
      (made_local (contents_of old) new.funcs new.imports new.locals (place fid) f i made.function (new_locals made.args made.parameters.types, made.parameters.added.added) there kind made.funcs live made.gone made.is_new.typed)

  pub imported_takes : TakesTypes (Some def) (body new.locals made.function)
  imported_takes = record {
    distinct = subst (λ (ps : List ℕ). AllPairs (λ (x : ℕ) (y : ℕ). x ≢ y) ps) made.is_new.takes (new_apart (locals old.locals) (locals new.locals) made.args made.parameters.types made.parameters.added);
    typed = ap (map (item_at (types_of (locals new.locals)))) (sym made.is_new.takes) ∙ new_typed (locals old.locals) (locals new.locals) made.args made.parameters.types made.parameters.added ∙ ap (map Some) made.parameters.taken;
  }

-- ---- an exported function

module _ {S : Type 0} (post : Builds) (old new : Module S) (id : Id FunctionKey) (e : ℕ × ExportValue) (local : LocalFunction) (there : item_at (exports old.exports) e.0 ≡ Some e.1) (r : IsReplaced post e local old new id) where
  -- what is held once the function came
  abbrev pub with_new : Contents
  with_new = record (contents_of old) { funcs = new.funcs }

  abbrev comes : Id TypeKey → abstract.Function
  comes ty = record { ty = place ty; kind = abstract.LocalFunction (body old.locals r.function) }

  pub gained : Edits (GainsItem Functions (place id) (comes (function_type local))) (contents_of old) with_new
  gained ss =
      subst (λ (n : ℕ). GainsItem Functions n (comes (function_type local)) (seen ss (contents_of old)) (seen ss with_new)) (sym r.is_next)
      (subst (λ (ty : Id TypeKey). GainsItem Functions (length (functions old.funcs)) (comes ty) (seen ss (contents_of old)) (seen ss with_new)) r.is_new.typed
      (function_added (contents_of old) with_new r.function None refl (r.funcs ∙ ap (λ (n : ℕ). functions old.funcs ++ Some (record { id = n; kind = Local r.function; name = None }) ∷ []) r.is_next) ss))

  pub turned : Edits (SwapsExport (export_of e.1) (export_of (naming id e.1))) with_new (contents_of new)
  turned = subst (Edits (SwapsExport (export_of e.1) (export_of (naming id e.1))) with_new) (sym (ap contents_of r.others))
      (export_set with_new (record with_new { exports = new.exports }) e.0 e.1 (naming id e.1) refl there r.exported)

  pub redirected : Redirects (place id) (comes (function_type local)) (export_of e.1) (contents_of old) (contents_of new)
  redirected = record { middle = with_new; gains = gained; swaps = turned }

-- ---- as the calls say it

module _ {S : Type 0} (post : Builds) (old : Module S) (fid id : Id FunctionKey) (new : Module S) where
  module _ (match : ImportsMatch (held_view old)) (n : ℕ) (x : ImportValue) (stands : item_at (imports old.imports) n ≡ Some x) (brings : imported x.kind ≡ function_item (place fid)) where
    its_import : import_in (λ (g : abstract.Function). kind_import g.kind) (option_map (function old.locals) (item_at (functions old.funcs) (place fid))) ≡ Some n
    its_import = subst (λ (x : Item). import_of_item (held_view old) x ≡ Some n) brings (match.imports n (import_of x) (ap (option_map import_of) stands))

    module _ (f : FunctionValue) (there : item_at (functions old.funcs) (place fid) ≡ Some f) (i : ImportedFunction) (kind : f.kind ≡ Import i) where
      own : n ≡ place i.«import»
      own = some_inj n (place i.«import»)
          (sym its_import
          ∙ ap (λ (o : Option FunctionValue). import_in (λ (g : abstract.Function). kind_import g.kind) (option_map (function old.locals) o)) there
          ∙ ap (λ (k : FunctionKind). kind_import (kind_of old.locals k)) kind)

      made_so : (def : TypeDef) → item_at (type_slots old.types) (place i.ty) ≡ Some def → IsMadeLocal post fid n f i.ty def old new id → ImportedIsLocal post fid old new
      made_so def typed was =
          let made : IsMadeLocal post fid (place i.«import») f i.ty def old new fid =
          subst (λ (x : Id FunctionKey). IsMadeLocal post fid (place i.«import») f i.ty def old new x) was.same (subst (λ (n : ℕ). IsMadeLocal post fid n f i.ty def old new id) own was) in
          record {
            function = f;
            there = there;
            imported = i;
            kind = kind;
            def = def;
            typed = typed;
            made = made;
            edits = imported_local post fid fid old new f i def there kind made (subst (λ (n : ℕ). IsSome (item_at (imports old.imports) n)) own (subst (λ (o : Option ImportValue). IsSome o) (sym stands) refl));
            takes = imported_takes post fid fid old new f i def there kind made;
          }

      by_type : (o : Option TypeDef) → item_at (type_slots old.types) (place i.ty) ≡ o → MakesTypedLocal post fid n f i.ty o old new (Ok id) → ImportedIsLocal post fid old new
      by_type None typed h = refused id _ h.0
      by_type (Some def) typed h = made_so def typed h

    by_kind : (f : FunctionValue) → item_at (functions old.funcs) (place fid) ≡ Some f → (k : FunctionKind) → f.kind ≡ k → MakesKindLocal post fid n f k old new (Ok id) → ImportedIsLocal post fid old new
    by_kind f there (Import i) kind h = by_type f there i kind (item_at (type_slots old.types) (place i.ty)) refl h
    by_kind f there (Local l) kind h = refused id _ h.0
    by_kind f there (Uninitialized ty) kind h = refused id _ h.0

    by_slot : (o : Option FunctionValue) → item_at (functions old.funcs) (place fid) ≡ o → MakesSlotLocal post fid n o old new (Ok id) → ImportedIsLocal post fid old new
    by_slot None there h = refused id _ h.0
    by_slot (Some f) there h = by_kind f there f.kind refl h

  by_import : ImportsMatch (held_view old) → (o : Option (ℕ × ImportValue)) → first (imports_item (function_item (place fid))) (imports old.imports) ≡ o → MakesFoundLocal post fid o (item_at (functions old.funcs) (place fid)) old new (Ok id)
      → ImportedIsLocal post fid old new
  by_import match None found h = refused id _ h.0
  by_import match (Some e) found h =
      by_slot match e.0 e.1 (found-item (λ (d : ℕ × ImportValue). imports_item (function_item (place fid)) d.1) (imports old.imports) e found)
      (is_item-same (imported e.1.kind) (function_item (place fid)) (found-passes (λ (d : ℕ × ImportValue). imports_item (function_item (place fid)) d.1) (imports old.imports) e found))
      (item_at (functions old.funcs) (place fid)) refl h

  module _ (e : ℕ × ExportValue) (found : first (exports_item (function_item (place fid))) (exports old.exports) ≡ Some e) where
    shown : item_at (exports old.exports) e.0 ≡ Some e.1
    shown = found-item (λ (d : ℕ × ExportValue). exports_item (function_item (place fid)) d.1) (exports old.exports) e found

    by_body : (f : FunctionValue) → item_at (functions old.funcs) (place fid) ≡ Some f → (k : FunctionKind) → f.kind ≡ k → ReplacesKind post e k old new (Ok id) → ExportIsRedirected post fid old new id
    by_body f there (Local l) kind r = record {
      found = e;
      export = shown;
      names = is_item-same (exported e.1.item) (function_item (place fid)) (found-passes (λ (d : ℕ × ExportValue). exports_item (function_item (place fid)) d.1) (exports old.exports) e found);
      function = f;
      there = there;
      local = l;
      kind = kind;
      replaced = r;
      edits = redirected post old new id e l shown r;
    }
    by_body f there (Import i) kind h = refused id _ h.0
    by_body f there (Uninitialized ty) kind h = refused id _ h.0

    by_place : (o : Option FunctionValue) → item_at (functions old.funcs) (place fid) ≡ o → ReplacesFound post (Some e) o old new (Ok id) → ExportIsRedirected post fid old new id
    by_place None there h = refused id _ h.0
    by_place (Some f) there h = by_body f there f.kind refl h

  by_export : (o : Option (ℕ × ExportValue)) → first (exports_item (function_item (place fid))) (exports old.exports) ≡ o → ReplacesFound post o (item_at (functions old.funcs) (place fid)) old new (Ok id) → ExportIsRedirected post fid old new id
  by_export None found h = refused id _ h.0
  by_export (Some e) found h = by_place e found (item_at (functions old.funcs) (place fid)) refl h

pub imported_replaced : {S : Type 0} (post : Builds) (old : Module S) → ImportedReplaced post old
imported_replaced post old fid id new match h = by_import post old fid id new match (first (imports_item (function_item (place fid))) (imports old.imports)) refl h

pub exported_replaced : {S : Type 0} (post : Builds) (old : Module S) → ExportedReplaced post old
exported_replaced post old fid id new h = by_export post old fid id new (first (exports_item (function_item (place fid))) (exports old.exports)) refl h

-- ---- the function of an import

pub of_kind : (k : ImportKind) (fid : Id FunctionKey) → imported_function k ≡ Some fid → imported k ≡ function_item (place fid)
of_kind (kinds.Function f) fid e = ap (λ (i : Id FunctionKey). function_item (place i)) (some_inj f fid e)
of_kind (kinds.Table t) fid e = absurd cc
of_kind (kinds.Memory t) fid e = absurd cc
of_kind (kinds.Global t) fid e = absurd cc
of_kind (kinds.Tag t) fid e = absurd cc

module _ {S : Type 0} (post : Builds) (old new : Module S) (id : Id FunctionKey) where
  -- what is answered is the function's own id
  same_typed : (fid : Id FunctionKey) (n : ℕ) (f : FunctionValue) (ty : Id TypeKey) (o : Option TypeDef) → MakesTypedLocal post fid n f ty o old new (Ok id) → fid ≡ id
  same_typed fid n f ty None h = refused id _ h.0
  same_typed fid n f ty (Some def) made = sym made.same

  same_kind : (fid : Id FunctionKey) (n : ℕ) (f : FunctionValue) (k : FunctionKind) → MakesKindLocal post fid n f k old new (Ok id) → fid ≡ id
  same_kind fid n f (Import i) h = same_typed fid n f i.ty (item_at (type_slots old.types) (place i.ty)) h
  same_kind fid n f (Local l) h = refused id _ h.0
  same_kind fid n f (Uninitialized ty) h = refused id _ h.0

  same_slot : (fid : Id FunctionKey) (n : ℕ) (o : Option FunctionValue) → MakesSlotLocal post fid n o old new (Ok id) → fid ≡ id
  same_slot fid n None h = refused id _ h.0
  same_slot fid n (Some f) h = same_kind fid n f f.kind h

  module _ (match : ImportsMatch (held_view old)) (n : ℕ) where
    by_function : (x : ImportValue) → item_at (imports old.imports) n ≡ Some x → (o : Option (Id FunctionKey)) → imported_function x.kind ≡ o → MakesBroughtLocal post n o old new (Ok id) → ImportedIsLocal post id old new
    by_function x stands None is h = refused id _ h.0
    by_function x stands (Some fid) is h = subst (λ (i : Id FunctionKey). ImportedIsLocal post i old new) (same_slot fid n (item_at (functions old.funcs) (place fid)) h)
        (by_slot post old fid id new match n x stands (of_kind x.kind fid is) (item_at (functions old.funcs) (place fid)) refl h)

    pub brought_by : (o : Option ImportValue) → item_at (imports old.imports) n ≡ o → MakesImportedLocal post n o old new (Ok id) → ImportedIsLocal post id old new
    brought_by None stands h = refused id _ h.0
    brought_by (Some x) stands h = by_function x stands (imported_function x.kind) refl h

pub import_replaced : {S : Type 0} (post : Builds) (old : Module S) → ImportReplaced post old
import_replaced post old at fid new match h = brought_by post old new fid match (place at) (item_at (imports old.imports) (place at)) refl h
