-- What an edit of functions and imports makes of the abstract module.
use Rattle.std.proofs.Common.{◌≡◌, ◌≢◌, ℕ, List, [], ◌∷◌, ◌++◌, append-nil, length, Option, Some, None, IsSome, option_map, slice_set, refl, sym, ap, ◌∙◌, subst, inl, inr, ⊎_elim}
use Rattle.std.specs.Prelude.{Bool, true, Contains, ◌⊎◌}
use Rattle.walrus_base.specs.Arena.{item_at}
use Rattle.walrus_base.specs.Id.{place}
use Rattle.walrus_base.specs.declared.id.Id.{Id}
use Rattle.walrus_base.specs.declared.keys.TypeKey.{TypeKey}
use Rattle.walrus_base.specs.Locals.{locals}
use Rattle.walrus_base.specs.Operators.{Types, Functions, Tables, Memories, Tags, Globals, Elements, DataSegments, Item, function_item}
use Rattle.walrus_base.specs.declared.locals.ModuleLocals.{ModuleLocals}
use Rattle.walrus_model.specs.Abstract as abstract
use Rattle.walrus_model.specs.ReadFunction.{StaysInFront}
use Rattle.walrus_model.specs.Refers.{KeepsToo}
use Rattle.walrus_model.specs.WellMade.{import_in, kind_import}
use Rattle.walrus_contents.specs.View.{body, function, handlers_at, import_of}
use Rattle.walrus_contents.specs.declared.parts.Contents.{Contents}
use Rattle.walrus_items.specs.Function.{function_type}
use Rattle.walrus_items.specs.Functions.{FunctionValue, ModuleFunctions, functions}
use Rattle.walrus_items.specs.Imports.{ImportValue, ModuleImports, imports}
use Rattle.walrus_items.specs.LocalFunction.{LocalFunction}
use Rattle.walrus_items.specs.Kinds.{imported}
use Rattle.walrus_items.specs.declared.function_kind.FunctionKind.{FunctionKind}
use Rattle.walrus_items.specs.declared.function_kind.FunctionKind.TheVariants.{Import, Local}
use Rattle.walrus_items.specs.declared.function_kind.ImportedFunction.{ImportedFunction}
use Rattle.walrus_items.specs.declared.kinds.ImportKind.TheVariants as kinds
use Rattle.walrus_theorem.specs.Edits.{GainsImported, GainsItem, KeepsFunction, MakesImported, MakesLocal, RenamesImport, SetsFunction, SwapsBodies, SwapsBody}
use Rattle.walrus_module.specs.Edits.{BodiesSet, BodySet, Edits, FunctionAdded, FunctionImported, FunctionMadeImported, ImportSet, seen}
use Rattle.walrus_module.specs.Meaning.{Meaning}
use Rattle.walrus_module.specs.Replaced.{with_body}
use Rattle.walrus_theorem.proofs.EditedKeeps.{keeps_functions}
use Rattle.walrus_reading.proofs.EditedLocals.{keeps_function}
use Rattle.walrus_reading.proofs.EditedSlots.{comes_behind, comes_seen, set_elsewhere, set_here, sets_seen, stays_before}

-- what stands at a place is there
stands : {A : Type 0} {o : Option A} {x : A} → o ≡ Some x → IsSome o
stands at = subst (λ (o : Option _). IsSome o) (sym at) refl

-- ---- imports

pub import_set : ImportSet
import_set old new i was now only there kind are = subst (Edits (RenamesImport i (import_of was) (import_of now)) old) (sym only) (λ ss. record {
  imports = sets_seen import_of (imports old.imports) (imports new.imports) i (Some was) (Some now) there (stands there) are;
  brings = ap imported kind;
  others = refl;
})

-- ---- functions that come

-- the handlers of the others stay, where one came
came_alone : (old new : List (Option FunctionValue)) (f : FunctionValue) (n : ℕ) → n ≡ length old → new ≡ old ++ Some f ∷ [] → (i : ℕ) → i ≢ n → handlers_at (item_at new i) ≡ handlers_at (item_at old i)
came_alone old new f n last are i differs = ap (λ xs. handlers_at (item_at xs i)) are ∙ ap handlers_at (stays_before old f n last i differs)

pub function_imported : FunctionImported
function_imported old new ids from name ty only is =
    let f : FunctionValue = record { id = place ids.0; kind = Import (record { ty = ty; «import» = ids.1 }); name = None } in
    let x : ImportValue = record { id = place ids.1; module_name = from; name = name; kind = kinds.Function ids.0 } in
    subst (Edits (GainsImported Functions (place ids.0) (place ids.1) (function old.locals f) (import_of x)) old) (sym only) (λ ss. record {
      item = comes_seen (function old.locals) (functions old.funcs) (functions new.funcs) f (place ids.0) is.item_id is.items;
      imports = comes_seen import_of (imports old.imports) (imports new.imports) x (place ids.1) is.import_id is.imports;
      brings = refl;
      brought = ap (λ xs. import_in (λ (g : abstract.Function). kind_import g.kind) (option_map (function old.locals) (item_at xs (place ids.0)))) is.items
          ∙ ap (λ (o : Option FunctionValue). import_in (λ (g : abstract.Function). kind_import g.kind) (option_map (function old.locals) o)) (comes_behind (functions old.funcs) f (place ids.0) is.item_id);
      keeps = keeps_functions (seen ss old) (seen ss (record old { funcs = new.funcs; imports = new.imports })) refl refl (place ids.0) (came_alone (functions old.funcs) (functions new.funcs) f (place ids.0) is.item_id is.items);
      others = refl;
    })

pub function_added : FunctionAdded
function_added old new l name only are =
    let n : ℕ = length (functions old.funcs) in
    let f : FunctionValue = record { id = n; kind = Local l; name = name } in
    subst (Edits (GainsItem Functions n (function old.locals f)) old) (sym only) (λ ss. record {
      item = comes_seen (function old.locals) (functions old.funcs) (functions new.funcs) f n refl are;
      own = ap (λ xs. import_in (λ (g : abstract.Function). kind_import g.kind) (option_map (function old.locals) (item_at xs n))) are
          ∙ ap (λ (o : Option FunctionValue). import_in (λ (g : abstract.Function). kind_import g.kind) (option_map (function old.locals) o)) (comes_behind (functions old.funcs) f n refl);
      keeps = keeps_functions (seen ss old) (seen ss (record old { funcs = new.funcs })) refl refl n (came_alone (functions old.funcs) (functions new.funcs) f n refl are);
      others = refl;
    })

-- ---- functions of which the kind is written

module _ (old : Contents) (funcs : ModuleFunctions) (all : ModuleLocals) (j : ℕ) (f g : FunctionValue) (grown : StaysInFront (locals old.locals) (locals all)) (there : item_at (functions old.funcs) j ≡ Some f)
    (set : functions funcs ≡ slice_set (functions old.funcs) j (Some g)) where
  pub set_function : SetsFunction j (Some (function old.locals f)) (Some (function all g)) (λ i. option_map (function old.locals) (item_at (functions old.funcs) i)) (λ i. option_map (function all) (item_at (functions funcs) i))
  set_function = record {
    was = ap (option_map (function old.locals)) there;
    is = ap (λ xs. option_map (function all) (item_at xs j)) set ∙ ap (option_map (function all)) (set_here (functions old.funcs) j (Some g) (stands there));
    others = λ i differs.
        subst (λ (o : Option FunctionValue). KeepsFunction (option_map (function old.locals) (item_at (functions old.funcs) i)) (option_map (function all) o))
        (sym (ap (λ xs. item_at xs i) set ∙ set_elsewhere (functions old.funcs) j i (Some g) differs))
        (keeps_function old.locals all grown (item_at (functions old.funcs) i));
  }

  pub set_alone : (i : ℕ) → i ≢ j → handlers_at (item_at (functions funcs) i) ≡ handlers_at (item_at (functions old.funcs) i)
  set_alone i differs = ap (λ xs. handlers_at (item_at xs i)) set ∙ ap handlers_at (set_elsewhere (functions old.funcs) j i (Some g) differs)

-- a function of this kind
of_kind : (all : ModuleLocals) (f : FunctionValue) (k : FunctionKind) → f.kind ≡ k → ◌≡◌ {A = Option abstract.Function} (Some (function all f)) (Some (function all (record f { kind = k })))
of_kind all f k is = ap (λ (l : FunctionKind). Some (function all (record f { kind = l }))) is

-- one that is imported is given a body, its import is taken away, and locals may come
module _ (old : Contents) (funcs : ModuleFunctions) (imps : ModuleImports) (all : ModuleLocals) (j : ℕ) (f : FunctionValue) (i : ImportedFunction) (local : LocalFunction) (grown : StaysInFront (locals old.locals) (locals all))
    (there : item_at (functions old.funcs) j ≡ Some f) (kind : f.kind ≡ Import i) (set : functions funcs ≡ slice_set (functions old.funcs) j (Some (with_body local f)))
    (live : IsSome (item_at (imports old.imports) (place i.«import»))) (gone : imports imps ≡ slice_set (imports old.imports) (place i.«import») None) (typed : function_type local ≡ i.ty) where
  pub made_local : Edits (MakesLocal j (place i.«import») (body all local)) old (record old { funcs = funcs; imports = imps; locals = all })
  made_local ss =
      let sets = set_function old funcs all j f (with_body local f) grown there set in
      record {
        ty = place i.ty;
        functions = record {
          was = sets.was ∙ of_kind old.locals f (Import i) kind;
          is = sets.is ∙ ap (λ (t : Id TypeKey). Some (record { ty = place t; kind = abstract.LocalFunction (body all local) })) typed;
          others = sets.others;
        };
        gone = ap (λ xs. option_map import_of (item_at xs (place i.«import»))) gone ∙ ap (option_map import_of) (set_here (imports old.imports) (place i.«import») None live);
        imports = λ k differs. ap (λ xs. option_map import_of (item_at xs k)) gone ∙ ap (option_map import_of) (set_elsewhere (imports old.imports) (place i.«import») k None differs);
        keeps = keeps_functions (seen ss old) (seen ss (record old { funcs = funcs; imports = imps; locals = all })) refl refl j (set_alone old funcs all j f (with_body local f) grown there set);
        others = refl;
      }

pub function_made_imported : FunctionMadeImported
function_made_imported old new j f l by i only there kind brings last added set =
    let g : FunctionValue = record f { kind = Import (record { ty = function_type l; «import» = by }) } in
    let same : StaysInFront (locals old.locals) (locals old.locals) = ([], sym (append-nil (locals old.locals))) in
    subst (Edits (MakesImported j (place by) (body old.locals l) (import_of i)) old) (sym only) (λ ss.
    let sets = set_function old new.funcs old.locals j f g same there set in
    record {
      ty = place (function_type l);
      functions = record { was = sets.was ∙ of_kind old.locals f (Local l) kind; is = sets.is; others = sets.others };
      imports = comes_seen import_of (imports old.imports) (imports new.imports) i (place by) last added;
      brings = brings;
      keeps = keeps_functions (seen ss old) (seen ss (record old { funcs = new.funcs; imports = new.imports })) refl refl j (set_alone old new.funcs old.locals j f g same there set);
      others = refl;
    })

-- ---- functions with other bodies

module _ (chosen : ℕ → Bool) (old : Contents) (funcs : ModuleFunctions) (all : ModuleLocals) (grown : StaysInFront (locals old.locals) (locals all))
    (each : (i : ℕ) → (item_at (functions funcs) i ≡ item_at (functions old.funcs) i) ⊎ ((chosen i ≡ true) × BodySet (item_at (functions old.funcs) i) (item_at (functions funcs) i))) where
  swapped : (i : ℕ) → BodySet (item_at (functions old.funcs) i) (item_at (functions funcs) i) → SwapsBody (option_map (function old.locals) (item_at (functions old.funcs) i)) (option_map (function all) (item_at (functions funcs) i))
  swapped i s = record {
    ty = place (function_type s.old);
    old = body old.locals s.old;
    new = body all s.new;
    was = ap (option_map (function old.locals)) s.was ∙ of_kind old.locals s.function (Local s.old) s.had;
    is = ap (option_map (function all)) s.is ∙ ap (λ (t : Id TypeKey). Some (record { ty = place t; kind = abstract.LocalFunction (body all s.new) })) s.typed;
  }

  abbrev after : Contents
  after = record old { funcs = funcs; locals = all }

  kept : (ss : List Meaning) (x y : Item) → KeepsToo (seen ss after) x y → KeepsToo (seen ss old) x y ⊎ ((i : ℕ) × (chosen i ≡ true) × (x ≡ function_item i))
  kept ss (Functions, i) y (t, has, is) = ⊎_elim
      (λ (same : item_at (functions funcs) i ≡ item_at (functions old.funcs) i). inl (t, subst (λ (o : Option FunctionValue). Contains (handlers_at o) t) same has, is))
      (λ (k : (chosen i ≡ true) × BodySet (item_at (functions old.funcs) i) (item_at (functions funcs) i)). inr (i, k.0, refl))
      (each i)
  kept ss (Types, i) y h = inl h
  kept ss (Tables, i) y h = inl h
  kept ss (Memories, i) y h = inl h
  kept ss (Tags, i) y h = inl h
  kept ss (Globals, i) y h = inl h
  kept ss (Elements, i) y h = inl h
  kept ss (DataSegments, i) y h = inl h

  pub bodies_written : Edits (SwapsBodies chosen) old after
  bodies_written ss = record {
    functions = λ i. ⊎_elim
        (λ (same : item_at (functions funcs) i ≡ item_at (functions old.funcs) i).
        inl (subst (λ (o : Option FunctionValue). KeepsFunction (option_map (function old.locals) (item_at (functions old.funcs) i)) (option_map (function all) o)) (sym same) (keeps_function old.locals all grown (item_at (functions old.funcs) i))))
        (λ (k : (chosen i ≡ true) × BodySet (item_at (functions old.funcs) i) (item_at (functions funcs) i)). inr (k.0, swapped i k.1))
        (each i);
    keeps = kept ss;
    others = refl;
  }

pub bodies_set : BodiesSet
bodies_set chosen old new only grown each = subst (Edits (SwapsBodies chosen) old) (sym only) (bodies_written chosen old new.funcs new.locals grown each)
