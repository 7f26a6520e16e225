-- A whole module of which an export names a function that traps is whole.
use Rattle.std.proofs.Common.{◌≡◌, ◌≢◌, ℕ, List, [], map, Some, None, option_map, refl, sym, ap, ◌∙◌, subst}
use Rattle.std.specs.Prelude.{AllPairs}
use Rattle.walrus.specs.Base.Arena.{item_at}
use Rattle.walrus.specs.Base.Id.{place}
use Rattle.walrus.specs.Base.IdValue.{Id}
use Rattle.walrus.specs.Base.FunctionKey.{FunctionKey}
use Rattle.walrus.specs.Base.Operators.{Functions}
use Rattle.walrus.specs.Model.Abstract as abstract
use Rattle.walrus.specs.Model.Config.{Config}
use Rattle.walrus.specs.Model.Roots.{IsRoot}
use Rattle.walrus.specs.Contents.View.{body, contents_view, export_of, function, handlers_at}
use Rattle.walrus.specs.Items.Exports.{ExportValue, exports}
use Rattle.walrus.specs.Items.Function.{args_of, body_of, function_type}
use Rattle.walrus.specs.Items.Functions.{FunctionValue, functions}
use Rattle.walrus.specs.Items.LocalFunction.{LocalFunction}
use Rattle.walrus.specs.Items.FunctionKind.{FunctionKind}
use Rattle.walrus.specs.Items.FunctionKind.TheVariants.{Local}
use Rattle.walrus.specs.Theorem.EditLaws.{LeadsToLive, StaysWhole}
use Rattle.walrus.specs.Theorem.Edits.{GainsItem, SwapsExport}
use Rattle.walrus.specs.Theorem.WellMade.{IsWellFormed}
use Rattle.walrus.proofs.Theorem.EditKept.{some_there}
use Rattle.walrus.proofs.Theorem.EditItems.{item_gained}
use Rattle.walrus.proofs.Theorem.EditTops.{export_turned}
use Rattle.walrus.specs.Modules.Replaced.{IsReplaced, naming}
use Rattle.walrus.specs.Modules.View.{held_view}
use Rattle.walrus.specs.Modules.Module.{Module}
use Rattle.walrus.proofs.Modules.CountedBodies.{held_counted}
use Rattle.walrus.proofs.Modules.EditedReplaced.{gained, turned, with_new}
use Rattle.walrus.proofs.Modules.EditedSlots.{comes_behind}
use Rattle.walrus_tools.proofs.TrapSound.{trap_leads, trap_sound}
use Rattle.walrus.specs.Edits.{IsWhole}
use Rattle.walrus_tools.specs.StubAnswers.{PutsTrap}
use Rattle.walrus_tools.specs.Trap.{trap_ops}

module _ {S : Type 0} (c : Config) (old new : Module S) (whole : IsWhole c old) (id : Id FunctionKey) (e : ℕ × ExportValue) (stands : item_at (exports old.exports) e.0 ≡ Some e.1) (k : ℕ) (f : FunctionValue) (there : item_at (functions old.funcs) k ≡ Some f) (l : LocalFunction) (kind : f.kind ≡ Local l)
    (r : IsReplaced PutsTrap e l old new id) (traps : body_of r.function ≡ trap_ops) where
  abbrev trap : abstract.Body
  trap = body old.locals r.function

  abbrev t : ℕ
  t = place (function_type l)

  abbrev mid : abstract.Abstract
  mid = contents_view (with_new PutsTrap old new id e l stands r)

  gains : GainsItem Functions (place id) (record { ty = t; kind = abstract.LocalFunction trap }) (held_view old) mid
  gains = gained PutsTrap old new id e l stands r []

  turns : SwapsExport (export_of e.1) (export_of (naming id e.1)) mid (held_view new)
  turns = turned PutsTrap old new id e l stands r []

  was : (held_view old).functions k ≡ Some (record { ty = t; kind = abstract.LocalFunction (body old.locals l) })
  was = ap (option_map (function old.locals)) there ∙ ap (λ (x : FunctionKind). Some (function old.locals (record { id = f.id; kind = x; name = f.name }))) kind

  well : IsWellFormed c (held_view old) t (body old.locals l)
  well = whole.made.bodies k (record { ty = t; kind = abstract.LocalFunction (body old.locals l) }) (body old.locals l) was refl

  same : args_of r.function ≡ args_of l
  same = sym r.is_new.takes ∙ r.parameters

  first : StaysWhole c (held_view old) mid (IsRoot mid (Functions, place id) → LeadsToLive mid (Functions, place id))
  first = item_gained c (held_view old) mid Functions (place id) (record { ty = t; kind = abstract.LocalFunction trap }) gains whole.made
      (trap_sound mid (place id) t trap gains.item.is traps c (whole.made.rules.function_types.functions k _ was) (subst (λ (ps : List ℕ). AllPairs (λ (x : ℕ) (y : ℕ). x ≢ y) ps) (sym same) well.distinct) (ap (map trap.local_type) same ∙ well.typed))
      (held_counted (with_new PutsTrap old new id e l stands r))

  no_handlers : mid.handler_types (place id) ≡ []
  no_handlers = ap (λ xs. handlers_at (item_at xs (place id))) r.funcs ∙ ap handlers_at (comes_behind (functions old.funcs) (record { id = place id; kind = Local r.function; name = None }) (place id) r.is_next) ∙ r.is_new.handlers

  second : StaysWhole c mid (held_view new) (LeadsToLive (held_view new) (Functions, place id))
  second = export_turned c mid (held_view new) (export_of e.1) (export_of (naming id e.1)) turns refl first.made (some_there (mid.functions (place id)) gains.item.is)

  pub snip_whole : IsWhole c new
  snip_whole = record {
    made = second.made;
    reached = second.reached
        (trap_leads (held_view new) (place id) t trap (ap (λ (x : abstract.Abstract). x.functions (place id)) turns.others ∙ gains.item.is) traps c second.made (ap (λ (x : abstract.Abstract). x.handler_types (place id)) turns.others ∙ no_handlers))
        (first.reached (λ root. trap_leads mid (place id) t trap gains.item.is traps c first.made no_handlers) whole.reached);
  }
