-- One call that makes an imported function trap, in a whole module.
use Rattle.std.proofs.Common.{◌≡◌, ℕ, ◌+◌, ◌≤◌, Bool, true, false, List, [], ◌∷◌, ◌++◌, Option, Some, None, IsSome, Result, Ok, Err, MatchResult, refl, sym, ap, ◌∙◌, subst, inl, inr, append_assoc, append-nil}
use Rattle.std.specs.Prelude.{nat_lt, ◌&&◌, is_some, bytes_eq, slice_set, if◌then◌else◌}
use Rattle.walrus.specs.Base.Arena.{item_at}
use Rattle.walrus.specs.Base.Id.{place}
use Rattle.walrus.specs.Base.IdValue.{Id}
use Rattle.walrus.specs.Base.FunctionKey.{FunctionKey}
use Rattle.walrus.specs.Base.ImportKey.{ImportKey}
use Rattle.walrus.specs.Base.LocalKey.{LocalKey}
use Rattle.walrus.specs.Base.TypeKey.{TypeKey}
use Rattle.walrus.specs.Base.Locals.{locals}
use Rattle.walrus.specs.Base.Operators.{Op}
use Rattle.walrus.specs.Base.TypeDef.{TypeDef}
use Rattle.walrus.specs.Items.Function.{body_of}
use Rattle.walrus.specs.Items.LocalFunction.{LocalFunction}
use Rattle.walrus.specs.Ir.Instructions.{end_op, unreachable_op}
use Rattle.walrus.specs.Ir.Sequence.{built}
use Rattle.walrus.specs.Model.BodyRead.{new_locals}
use Rattle.walrus.specs.Model.Config.{Config}
use Rattle.walrus.specs.Model.ReadFunction.{StaysInFront}
use Rattle.walrus.specs.Items.Errors.{out_of_memory}
use Rattle.walrus.specs.Items.Error.{Error}
use Rattle.walrus.specs.Items.FunctionKind.{FunctionKind}
use Rattle.walrus.specs.Items.Functions.{FunctionValue, functions}
use Rattle.walrus.specs.Items.Imports.{ImportValue, imported_function, imports}
use Rattle.walrus.proofs.Base.Standing.{some_of}
use Rattle.walrus.specs.Modules.Replaced.{IsMadeLocal, IsNew, MakesBroughtLocal, MakesImportedLocal, MakesKindLocal, MakesLocal, MakesSlotLocal, OnlyLocals, RefusesLocal, ReplacesImport}
use Rattle.walrus.specs.Modules.View.{contents_of}
use Rattle.walrus.specs.Modules.Module.{Module}
use Rattle.walrus.proofs.Modules.EditedReplaced.{of_kind}
use Rattle.walrus_tools.proofs.ImportMatches.{IsBroughtBy, brought_by, theirs}
use Rattle.walrus_tools.proofs.Places.{all_below, none_below, not_yet, now_hit, passes_over, same_below}
use Rattle.walrus_tools.proofs.StubStep.{stub_whole}
use Rattle.walrus_tools.proofs.StubTurn.{stubs_more, stubs_none}
use Rattle.walrus.proofs.Theorem.EditKept.{none_isnt, some_there}
use Rattle.walrus.specs.Edits.{IsWhole}
use Rattle.walrus_tools.specs.Stub.{BringsFunction, comes_from, function_from}
use Rattle.walrus_tools.specs.StubAnswers.{PutsTrap, Stubs, StubsAt, StubsHeld, StubsSome}
use Rattle.walrus_tools.specs.Trap.{trap_ops}

-- ---- what the closure left

pub traps : (ty : Id TypeKey) (args : List (Id LocalKey)) (function : LocalFunction) → IsNew PutsTrap ty args function → body_of function ≡ trap_ops
traps ty args function new =
    let called = new.called in
    let put : built new.builder ≡ unreachable_op ∷ [] =
    ap built (sym called.leaves) ∙ called.called ∙ ap (λ (ops : List Op). ops ++ unreachable_op ∷ []) called.empty in
    new.body ∙ ap (λ (ops : List Op). ops ++ end_op ∷ []) put

-- ---- the import that is hit

module _ {S : Type 0} (c : Config) (hits : ℕ → Bool) (n : ℕ) (begun old new : Module S) (begun_whole : IsWhole c begun) (some : StubsSome c hits n begun old) where
  -- the import at this place is as it was
  pub untouched : item_at (imports old.imports) n ≡ item_at (imports begun.imports) n
  untouched = some.stubs.items.gone n ∙ ap (λ (b : Bool). if b then None else item_at (imports begun.imports) n) (not_yet hits n)

  pub passes : hits n ≡ false → StubsSome c hits (n + 1) begun old
  passes miss = record { stubs = subst (λ (C : ℕ → Bool). StubsAt C begun old) (passes_over hits n miss) some.stubs; whole = some.whole }

  module _ (hit : hits n ≡ true) (b : BringsFunction (item_at (imports old.imports) n)) where
    abbrev id : Id FunctionKey
    id = b.id

    abbrev by : IsBroughtBy (contents_of old) (place id) n
    by = brought_by c (contents_of old) some.whole.made n (place id) b.value b.there (of_kind b.value.kind id b.function)

    abbrev a : ℕ
    a = place (by.by).«import»

    module _ (result_id : Id FunctionKey) (local : IsMadeLocal PutsTrap id a by.f (by.by).ty by.def old new result_id) where
      live : IsSome (item_at (imports old.imports) a)
      live = subst (λ k. IsSome (item_at (imports old.imports) k)) (sym by.at_place) (some_there (item_at (imports old.imports) n) b.there)

      whole : IsWhole c new
      whole = stub_whole c old new some.whole id result_id by.f by.by by.def by.there by.kind by.typed live local (traps (by.by).ty local.args local.function local.is_new)

      grown : StaysInFront (locals begun.locals) (locals new.locals)
      grown =
          let before = some.stubs.locals in (
            before.0 ++ new_locals local.args local.parameters.types,
            local.parameters.added.added ∙ ap (λ xs. xs ++ new_locals local.args local.parameters.types) before.1 ∙ append_assoc (locals begun.locals) before.0 (new_locals local.args local.parameters.types),
          )

      made_some : StubsSome c hits (n + 1) begun new
      made_some = record {
        stubs = record {
          items = stubs_more (λ p. nat_lt p n && hits p) (λ p. nat_lt p (n + 1) && hits p) (functions begun.funcs) (functions old.funcs) (functions new.funcs) (imports begun.imports) (imports old.imports) (imports new.imports) n (place id) by.f by.by local.function
              some.stubs.items (theirs c (contents_of begun) begun_whole.made) (not_yet hits n) (now_hit hits n hit) (same_below hits n) by.there by.kind by.at_place local.is_new.typed (traps (by.by).ty local.args local.function local.is_new) local.is_new.handlers local.funcs (some_there (item_at (imports old.imports) n) b.there)
              (subst (λ k. imports new.imports ≡ slice_set (imports old.imports) k None) by.at_place local.gone);
          locals = grown;
          others = local.others ∙ ap (λ (m : Module S). record m { funcs = new.funcs; imports = new.imports; locals = new.locals }) some.stubs.others;
        };
        whole = whole;
      }

    refuses : (e : Error) → RefusesLocal PutsTrap by.def old new e → e ≡ out_of_memory
    refuses e (inl memory) = memory
    refuses e (inr (args, parameters, (builder, built_so))) = built_so.called

    answers : (result : Result (Id FunctionKey) Error) → MatchResult result (IsMadeLocal PutsTrap id n by.f (by.by).ty by.def old new) (λ e. RefusesLocal PutsTrap by.def old new e × OnlyLocals old new)
        → MatchResult result (λ done. StubsSome c hits (n + 1) begun new) (λ e. e ≡ out_of_memory)
    answers (Ok r) local = made_some r (subst (λ k. IsMadeLocal PutsTrap id k by.f (by.by).ty by.def old new r) (sym by.at_place) local)
    answers (Err e) refused = refuses e refused.0

    pub stubs_next : (at : Id ImportKey) → place at ≡ n → (result : Result (Id FunctionKey) Error) → ReplacesImport PutsTrap at old new result
        → MatchResult result (λ done. StubsSome c hits (n + 1) begun new) (λ e. e ≡ out_of_memory)
    stubs_next at at_n result replaced =
        answers result
        (subst (λ (o : Option TypeDef). MakesLocal PutsTrap id n by.f (by.by).ty o old new result) by.typed
        (subst (λ (k : FunctionKind). MakesKindLocal PutsTrap id n by.f k old new result) by.kind
        (subst (λ (o : Option FunctionValue). MakesSlotLocal PutsTrap id n o old new result) by.there
        (subst (λ (o : Option (Id FunctionKey)). MakesBroughtLocal PutsTrap n o old new result) b.function
        (subst (λ (o : Option ImportValue). MakesImportedLocal PutsTrap n o old new result) b.there
        (subst (λ (k : ℕ). MakesImportedLocal PutsTrap k (item_at (imports old.imports) k) old new result) at_n replaced))))))

module _ {S : Type 0} (c : Config) (hits : ℕ → Bool) (old : Module S) (whole : IsWhole c old) where
  -- nothing is done at first
  pub begins : StubsSome c hits 0 old old
  begins = record {
    stubs = subst (λ (C : ℕ → Bool). StubsAt C old old) (none_below hits)
        (record { items = stubs_none (functions old.funcs) (imports old.imports); locals = ([], sym (append-nil (locals old.locals))); others = refl });
    whole = whole;
  }

  -- behind the last place all is done
  pub ends : (n : ℕ) (new : Module S) → ((p : ℕ) → n ≤ p → hits p ≡ false) → StubsSome c hits n old new → StubsAt hits old new × IsWhole c new
  ends n new past some = (subst (λ (C : ℕ → Bool). StubsAt C old new) (all_below hits n past) some.stubs, some.whole)

-- ---- the imports from a module

brings : (from : List ℕ) (o : Option ImportValue) (f : Id FunctionKey) → function_from from o ≡ Some f → BringsFunction o
brings from None f e = absurd (none_isnt e)
brings from (Some x) f e = record { value = x; there = refl; id = f; function = by (bytes_eq x.module_name from) e } where
  by : (b : Bool) → (if b then imported_function x.kind else None) ≡ Some f → imported_function x.kind ≡ Some f
  by true e = e
  by false e = absurd (none_isnt e)

module _ {S : Type 0} (c : Config) (from : List ℕ) (n : ℕ) (begun old new : Module S) (begun_whole : IsWhole c begun) (some : StubsSome c (comes_from from (imports begun.imports)) n begun old) where
  abbrev C : ℕ → Bool
  C = comes_from from (imports begun.imports)

  -- the import at this place is as it was
  same : comes_from from (imports old.imports) n ≡ C n
  same = ap (λ (o : Option ImportValue). is_some (function_from from o)) (untouched c C n begun old old begun_whole some)

  pub passes_from : comes_from from (imports old.imports) n ≡ false → StubsSome c C (n + 1) begun old
  passes_from none = passes c C n begun old old begun_whole some (sym same ∙ none)

  pub next_from : comes_from from (imports old.imports) n ≡ true → (at : Id ImportKey) → place at ≡ n → (result : Result (Id FunctionKey) Error) → ReplacesImport PutsTrap at old new result
      → MatchResult result (λ done. StubsSome c C (n + 1) begun new) (λ e. e ≡ out_of_memory)
  next_from comes at at_n result replaced =
      let its = some_of (function_from from (item_at (imports old.imports) n)) comes in
      stubs_next c C n begun old new begun_whole some (sym same ∙ comes) (brings from (item_at (imports old.imports) n) its.0 its.1) at at_n result replaced

pub stubs_held : {S : Type 0} (from : List ℕ) (old new : Module S) → Stubs from old new → StubsHeld from (contents_of old) (contents_of new)
stubs_held from old new stubs = record { items = stubs.items; locals = stubs.locals; others = ap contents_of stubs.others }
