-- What a closure does may be said in other words, where these follow.
use Rattle.std.proofs.Common.{ℕ, List, Option, Some, None, Result, Ok, Err, inl, inr}
use Rattle.std.specs.Borrow.{Bor, MutBor}
use Rattle.std.specs.Global.{Vec}
use Rattle.walrus.specs.Base.Arena.{item_at}
use Rattle.walrus.specs.Base.Id.{place}
use Rattle.walrus.specs.Base.IdValue.{Id}
use Rattle.walrus.specs.Base.FunctionKey.{FunctionKey}
use Rattle.walrus.specs.Base.ImportKey.{ImportKey}
use Rattle.walrus.specs.Base.LocalKey.{LocalKey}
use Rattle.walrus.specs.Base.TypeKey.{TypeKey}
use Rattle.walrus.specs.Base.ModuleTypes.{type_slots}
use Rattle.walrus.specs.Base.Operators.{function_item}
use Rattle.walrus.specs.Base.TypeDef.{TypeDef}
use Rattle.walrus.specs.Items.Function.{function_type}
use Rattle.walrus.specs.Items.LocalFunction.{LocalFunction}
use Rattle.walrus.specs.Ir.InstrSeqBuilder.{InstrSeqBuilder}
use Rattle.walrus.specs.Items.Error.{Error}
use Rattle.walrus.specs.Items.FunctionKind.{FunctionKind}
use Rattle.walrus.specs.Items.FunctionKind.TheVariants.{Import, Local, Uninitialized}
use Rattle.walrus.specs.Items.Exports.{ExportValue, exports, exports_item}
use Rattle.walrus.specs.Items.Functions.{FunctionValue, functions}
use Rattle.walrus.specs.Items.Imports.{ImportValue, imported_function, imports}
use Rattle.walrus.specs.Items.Searches.{first}
use Rattle.walrus.specs.Modules.Replaced.{Builds, IsBuilt, IsNew, MakesBroughtLocal, MakesImportedLocal, MakesKindLocal, MakesLocal, MakesSlotLocal, ReplacesExported, ReplacesFound, ReplacesImport, ReplacesKind}
use Rattle.walrus.specs.Modules.Module.{Module}

module _ (P Q : Builds) (weaker : (shown : MutBor InstrSeqBuilder) (given : Bor (Vec (Id LocalKey))) (answer : Result (Unit {0}) Error) (left : MutBor InstrSeqBuilder) → P shown given answer left → Q shown given answer left) where
  built_by : (args : List (Id LocalKey)) (answer : Result (Unit {0}) Error) (builder : InstrSeqBuilder) → IsBuilt P args answer builder → IsBuilt Q args answer builder
  built_by args answer builder b = record { shown = b.shown; given = b.given; left = b.left; empty = b.empty; arguments = b.arguments; called = weaker b.shown b.given answer b.left b.called; leaves = b.leaves }

  pub new_by : (ty : Id TypeKey) (args : List (Id LocalKey)) (function : LocalFunction) → IsNew P ty args function → IsNew Q ty args function
  new_by ty args function n = record { builder = n.builder; called = built_by args (Ok tt) n.builder n.called; typed = n.typed; takes = n.takes; body = n.body; places = n.places; handlers = n.handlers; unnamed = n.unnamed }

  module _ {S : Type 0} (fid : Id FunctionKey) (old new : Module S) where
    by_def : (i : ℕ) (f : FunctionValue) (ty : Id TypeKey) (def : Option TypeDef) (result : Result (Id FunctionKey) Error) → MakesLocal P fid i f ty def old new result → MakesLocal Q fid i f ty def old new result
    by_def i f ty None result h = h
    by_def i f ty (Some def) (Ok id) m = record { same = m.same; args = m.args; parameters = m.parameters; function = m.function; is_new = new_by ty m.args m.function m.is_new; funcs = m.funcs; gone = m.gone; others = m.others }
    by_def i f ty (Some def) (Err e) (inl memory, only) = (inl memory, only)
    by_def i f ty (Some def) (Err e) (inr (args, parameters, (builder, called)), only) = (inr (args, parameters, (builder, built_by args (Err e) builder called)), only)

    by_kind : (i : ℕ) (f : FunctionValue) (k : FunctionKind) (result : Result (Id FunctionKey) Error) → MakesKindLocal P fid i f k old new result → MakesKindLocal Q fid i f k old new result
    by_kind i f (Import imported) result h = by_def i f imported.ty (item_at (type_slots old.types) (place imported.ty)) result h
    by_kind i f (Local l) result h = h
    by_kind i f (Uninitialized ty) result h = h

    by_slot : (i : ℕ) (slot : Option FunctionValue) (result : Result (Id FunctionKey) Error) → MakesSlotLocal P fid i slot old new result → MakesSlotLocal Q fid i slot old new result
    by_slot i None result h = h
    by_slot i (Some f) result h = by_kind i f f.kind result h

    by_kind_exported : (e : ℕ × ExportValue) (k : FunctionKind) (result : Result (Id FunctionKey) Error) → ReplacesKind P e k old new result → ReplacesKind Q e k old new result
    by_kind_exported e (Local l) (Ok id) r = record { is_next = r.is_next; args = r.args; parameters = r.parameters; function = r.function; is_new = new_by (function_type l) r.args r.function r.is_new; funcs = r.funcs; exported = r.exported; others = r.others }
    by_kind_exported e (Local l) (Err x) (inl memory, same) = (inl memory, same)
    by_kind_exported e (Local l) (Err x) (inr (args, parameters, (builder, called)), same) = (inr (args, parameters, (builder, built_by args (Err x) builder called)), same)
    by_kind_exported e (Import i) result h = h
    by_kind_exported e (Uninitialized ty) result h = h

    by_found_exported : (o : Option (ℕ × ExportValue)) (slot : Option FunctionValue) (result : Result (Id FunctionKey) Error) → ReplacesFound P o slot old new result → ReplacesFound Q o slot old new result
    by_found_exported None slot result h = h
    by_found_exported (Some e) None result h = h
    by_found_exported (Some e) (Some f) result h = by_kind_exported e f.kind result h

    pub exported_by : (result : Result (Id FunctionKey) Error) → ReplacesExported P fid old new result → ReplacesExported Q fid old new result
    exported_by result h = by_found_exported (first (exports_item (function_item (place fid))) (exports old.exports)) (item_at (functions old.funcs) (place fid)) result h

  -- of the function that an import brings
  module _ {S : Type 0} (old new : Module S) where
    by_function : (i : ℕ) (o : Option (Id FunctionKey)) (result : Result (Id FunctionKey) Error) → MakesBroughtLocal P i o old new result → MakesBroughtLocal Q i o old new result
    by_function i None result h = h
    by_function i (Some fid) result h = by_slot fid old new i (item_at (functions old.funcs) (place fid)) result h

    by_place : (i : ℕ) (o : Option ImportValue) (result : Result (Id FunctionKey) Error) → MakesImportedLocal P i o old new result → MakesImportedLocal Q i o old new result
    by_place i None result h = h
    by_place i (Some x) result h = by_function i (imported_function x.kind) result h

    pub import_by : (at : Id ImportKey) (result : Result (Id FunctionKey) Error) → ReplacesImport P at old new result → ReplacesImport Q at old new result
    import_by at result h = by_place (place at) (item_at (imports old.imports) (place at)) result h

-- the same, with what is known of the call first
pub import_in : {S : Type 0} (P Q : Builds) (at : Id ImportKey) (old new : Module S) (result : Result (Id FunctionKey) Error) → ReplacesImport P at old new result
    → ((shown : MutBor InstrSeqBuilder) (given : Bor (Vec (Id LocalKey))) (answer : Result (Unit {0}) Error) (left : MutBor InstrSeqBuilder) → P shown given answer left → Q shown given answer left)
    → ReplacesImport Q at old new result
import_in P Q at old new result h weaker = import_by P Q weaker old new at result h

pub exported_in : {S : Type 0} (P Q : Builds) (fid : Id FunctionKey) (old new : Module S) (result : Result (Id FunctionKey) Error) → ReplacesExported P fid old new result
    → ((shown : MutBor InstrSeqBuilder) (given : Bor (Vec (Id LocalKey))) (answer : Result (Unit {0}) Error) (left : MutBor InstrSeqBuilder) → P shown given answer left → Q shown given answer left)
    → ReplacesExported Q fid old new result
exported_in P Q fid old new result h weaker = exported_by P Q weaker fid old new result h
