-- A whole module of which functions trap is whole, and one whose text is refused says why.
use Rattle.std.proofs.Common.{◌≡◌, ◌≢◌, ℕ, Bool, true, false, List, [], map, Option, Some, None, IsSome, option_map, append-nil, refl, sym, ap, ◌∙◌, subst, inl, inr, Result, Ok, Err, MatchResult}
use Rattle.std.specs.Prelude.{AllPairs, Contains, ◌⊎◌}
use Rattle.walrus.specs.Base.Arena.{item_at}
use Rattle.walrus.specs.Base.Id.{place}
use Rattle.walrus.specs.Base.Locals.{locals}
use Rattle.walrus.specs.Base.Operators.{Functions, Item, type_item}
use Rattle.walrus.specs.Base.Marks.{is_marked}
use Rattle.walrus.specs.Base.IdValue.{Id}
use Rattle.walrus.specs.Base.FunctionKey.{FunctionKey}
use Rattle.walrus.specs.Base.TypeKey.{TypeKey}
use Rattle.walrus.specs.Base.MarksValue.{Marks}
use Rattle.walrus.proofs.Base.Lists.{Contains-head}
use Rattle.walrus.proofs.Base.Standing.{some_of}
use Rattle.walrus.specs.Model.Abstract as abstract
use Rattle.walrus.specs.Model.Config.{Config}
use Rattle.walrus.specs.Model.Refers.{function_names, named_by}
use Rattle.walrus.specs.Contents.View.{body, contents_view, function, handlers_at, kind_of}
use Rattle.walrus.specs.Contents.Contents.{Contents}
use Rattle.walrus.specs.Items.Errors.{out_of_memory}
use Rattle.walrus.specs.Items.Exports.{ExportValue, exports}
use Rattle.walrus.specs.Items.Function.{function_type}
use Rattle.walrus.specs.Items.Functions.{FunctionValue, functions}
use Rattle.walrus.specs.Items.Error.{Error}
use Rattle.walrus.specs.Items.Error.TheVariants as error
use Rattle.walrus.specs.Items.FunctionKind.{FunctionKind}
use Rattle.walrus.specs.Items.FunctionKind.TheVariants.{Import, Local, Uninitialized}
use Rattle.walrus.specs.Theorem.EditLaws.{AddsLive, IsWholeModule}
use Rattle.walrus.specs.Theorem.Edits.{SwapsBodies}
use Rattle.walrus.specs.Theorem.Sound.{IsSound}
use Rattle.walrus.specs.Theorem.WellMade.{IsWellFormed}
use Rattle.walrus.proofs.Theorem.EditFunctions.{bodies_swapped}
use Rattle.walrus.specs.Modules.Edits.{BodySet}
use Rattle.walrus.specs.Modules.View.{contents_of, held_view}
use Rattle.walrus.specs.Modules.Module.{Module}
use Rattle.walrus.proofs.Modules.CountedBodies.{held_counted}
use Rattle.walrus.proofs.Modules.EditedFunctions.{bodies_written}
use Rattle.walrus.specs.Edits.{IsWhole}
use Rattle.walrus_tools.specs.MarkSteps.{AreMarks, RefusesMarks}
use Rattle.walrus_tools.specs.FunctionMeaning.{AreMeant, Means, MeansBodiless, MeansImported, by_index, by_name, by_star, has_body}
use Rattle.walrus_tools.specs.TrapEdit.{HitTrap, MeantTrap, RefusesMeant, SnipsMeant, Trapped, TrapsAll, TrapsMeant}
use Rattle.walrus_tools.proofs.MeantThere.{meant_there}
use Rattle.walrus_tools.proofs.TrapSound.{trap_refers, trap_sound}
use Rattle.walrus_tools.proofs.TrapTurn.{meant_trap}

untrue : false ≡ true → ⊥
untrue h = cc

-- a function of this kind
of_kind : {S : Type 0} (old : Module S) (f : FunctionValue) (k : FunctionKind) → f.kind ≡ k → ◌≡◌ {A = Option abstract.Function} (Some (function old.locals f)) (Some (function old.locals (record f { kind = k })))
of_kind old f k is = ap (λ (l : FunctionKind). Some (function old.locals (record f { kind = l }))) is

-- whether a function traps
abbrev tells : {A B : Type 0} → A ⊎ B → Bool
tells (inl traps) = true
tells (inr stays) = false

-- ---- what is left is whole

module _ {S : Type 0} (c : Config) (old new : Module S) (whole : IsWhole c old) (IsMeant : ℕ → Type 0) (traps : MeantTrap IsMeant (functions old.funcs) (functions new.funcs)) where
  abbrev pub after : Contents
  after = record (contents_of old) { funcs = new.funcs }

  abbrev w : abstract.Abstract
  w = contents_view after

  abbrev was : ℕ → Option FunctionValue
  was i = item_at (functions old.funcs) i

  abbrev is : ℕ → Option FunctionValue
  is i = item_at (functions new.funcs) i

  abbrev Turn : ℕ → Type 0
  Turn i = (IsMeant i × Trapped (was i) (is i)) ⊎ ((IsMeant i → ⊥) × (is i ≡ was i))

  swaps : SwapsBodies (λ i. tells (traps i)) (held_view old) w
  swaps = bodies_written (λ i. tells (traps i)) (contents_of old) new.funcs old.locals ([], sym (append-nil (locals old.locals))) (λ i. by i (traps i)) [] where
    by : (i : ℕ) (d : Turn i) → (is i ≡ was i) ⊎ ((tells d ≡ true) × BodySet (was i) (is i))
    by i (inl (meant, t)) = inr (refl, record { function = t.function; old = t.body; was = t.was; had = t.had; new = t.trap; is = t.is; typed = t.same.typed })
    by i (inr (not, same)) = inl same

  module _ (i : ℕ) (t : Trapped (was i) (is i)) where
    abbrev ty : ℕ
    ty = place (function_type t.body)

    abbrev b : abstract.Body
    b = body old.locals t.trap

    stood : (held_view old).functions i ≡ Some (record { ty = ty; kind = abstract.LocalFunction (body old.locals t.body) })
    stood = ap (option_map (function old.locals)) t.was ∙ of_kind old t.function (Local t.body) t.had

    stands : w.functions i ≡ Some (record { ty = ty; kind = abstract.LocalFunction b })
    stands = ap (option_map (function old.locals)) t.is ∙ ap (λ (k : Id TypeKey). Some (record { ty = place k; kind = abstract.LocalFunction b })) t.same.typed

    well : IsWellFormed c (held_view old) ty (body old.locals t.body)
    well = whole.made.bodies i (record { ty = ty; kind = abstract.LocalFunction (body old.locals t.body) }) (body old.locals t.body) stood refl

    trapped_sound : IsSound c w (Functions, i)
    trapped_sound = trap_sound w i ty b stands t.same.traps c (whole.made.rules.function_types.functions i _ stood)
        (subst (λ (ps : List ℕ). AllPairs (λ (x : ℕ) (y : ℕ). x ≢ y) ps) (sym t.same.takes) well.distinct) (ap (map b.local_type) t.same.takes ∙ well.typed)

    no_handlers : w.handler_types i ≡ []
    no_handlers = ap handlers_at t.is ∙ t.same.no_handlers

    -- its type is all that it leads to, and was written in it before
    trapped_leads : AddsLive (held_view old) w (Functions, i)
    trapped_leads y r = inl (inl (subst (λ (x : Item). Contains (named_by function_names ((held_view old).functions i)) x) (sym (trap_refers w i ty b stands t.same.traps no_handlers y r))
        (subst (λ (o : Option abstract.Function). Contains (named_by function_names o) (type_item ty)) (sym stood) (Contains-head (type_item ty) _))))

  sound : (i : ℕ) (d : Turn i) → tells d ≡ true → IsSound c w (Functions, i)
  sound i (inl (meant, t)) h = trapped_sound i t
  sound i (inr (not, same)) h = absurd (untrue h)

  leads : (i : ℕ) (d : Turn i) → tells d ≡ true → AddsLive (held_view old) w (Functions, i)
  leads i (inl (meant, t)) h = trapped_leads i t
  leads i (inr (not, same)) h = absurd (untrue h)

  after_whole : IsWholeModule c w
  after_whole =
      let s = bodies_swapped c (held_view old) w (λ i. tells (traps i)) swaps whole.made (λ i. sound i (traps i)) (held_counted after) in
      record { made = s.made; reached = s.reached (λ i. leads i (traps i)) whole.reached }

  pub traps_whole : new ≡ record old { funcs = new.funcs } → IsWhole c new
  traps_whole others =
      let same : IsWholeModule c (held_view new) = subst (λ (m : Contents). IsWholeModule c (contents_view m)) (sym (ap contents_of others)) after_whole in
      record { made = same.made; reached = same.reached }

-- ---- what is refused

module _ {S : Type 0} (c : Config) (old : Module S) (whole : IsWhole c old) where
  abbrev fs : List (Option FunctionValue)
  fs = functions old.funcs

  abbrev es : List (Option ExportValue)
  es = exports old.exports

  means_there : (text : List ℕ) (p : ℕ) → Means fs es text p → IsSome (item_at fs p)
  means_there text p (by_index says live) = live
  means_there text p (by_name none plain called) = meant_there c (contents_of old) whole.made text p called
  means_there text p (by_star none star has fits) = some_there (item_at fs p) has where
    some_there : (o : Option FunctionValue) → has_body o ≡ true → IsSome o
    some_there None h = absurd (untrue h)
    some_there (Some f) h = refl

  is_imported : (text : List ℕ) → MeansBodiless fs es text → MeansImported fs es text
  is_imported text (p, means, without) = by (some_of (item_at fs p) (means_there text p means)) where
    by_kind : (f : FunctionValue) → item_at fs p ≡ Some f → (k : FunctionKind) → f.kind ≡ k → MeansImported fs es text
    by_kind f there (Local l) kind = absurd (untrue (sym without ∙ ap has_body there ∙ ap (λ (k : FunctionKind). has_body (Some (record f { kind = k }))) kind))
    by_kind f there (Import i) kind = record { place = p; is = means; function = f; there = there; imported = i; kind = kind }
    by_kind f there (Uninitialized t) kind =
        absurd (whole.made.writable.initialised p (function old.locals f) (ap (option_map (function old.locals)) there) (ap (λ (k : FunctionKind). kind_of old.locals k) kind))

    by : (f : FunctionValue) × (item_at fs p ≡ Some f) → MeansImported fs es text
    by (f, there) = by_kind f there f.kind refl

  pub meant_refused : (all : List (List ℕ)) (e : Error) → RefusesMarks fs es all e → RefusesMeant all (contents_of old) e
  meant_refused all (error.Memory m) h = tt
  meant_refused all error.NotFound h = h
  meant_refused all error.NotReplaceable h = record { before = h.before; text = h.text; after = h.after; are = h.are; pass = h.pass; cause = is_imported h.text h.cause }
  meant_refused all _ h = absurd h

-- ---- the call

pub traps_all : {S : Type 0} (all : List (List ℕ)) (old new : Module S) (marks : Marks FunctionKey) → AreMarks (functions old.funcs) (exports old.exports) all marks → new ≡ record old { funcs = new.funcs } → (result : Result (Unit {0}) Error)
    → MatchResult result (λ done. HitTrap (is_marked marks) (functions old.funcs) (functions new.funcs)) (λ e. e ≡ out_of_memory) → TrapsAll all old new result
traps_all all old new marks are others (Ok done) hit = λ c whole.
    let t = meant_trap (functions old.funcs) (functions new.funcs) (exports old.exports) all marks are hit in
    (record { traps = t; mean = are.pass; others = others }, traps_whole c old new whole (AreMeant (functions old.funcs) (exports old.exports) all) t others)
traps_all all old new marks are others (Err e) is = λ c whole. subst (RefusesMeant all (contents_of old)) (sym is) tt

pub snips_meant : {S : Type 0} (all : List (List ℕ)) (old new : Module S) → TrapsMeant all old new → SnipsMeant all (contents_of old) (contents_of new)
snips_meant all old new t = record { traps = t.traps; mean = t.mean; others = ap contents_of t.others }
