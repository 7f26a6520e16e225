-- One function traps, what is used then is told, and its body is put back: what goes with it, and that all else is as it was.
use mathlib.Core.Path.{fun_ext}
use Rattle.std.proofs.Common.{◌≡◌, ◌≢◌, ◌==◌, ℕ, Bool, true, false, not, ◌&&◌, ◌||◌, List, [], ◌∷◌, zero, suc, Option, Some, None, option_map, slice_set, refl, sym, ap, ◌∙◌, subst, inl, inr, ⊎_elim}
use Rattle.std.specs.Prelude.{◌<◌, ◌≤◌, ◌↔◌, IsSome, is_some}
use Rattle.std.proofs.lemmas.Bool.{cases_lt, eqb-true, eq-eqb}
use Rattle.std.proofs.lemmas.List.{get_or_past, set-get_or}
use Rattle.walrus.specs.Base.Arena.{IsLive as IsLiveAt, item_at}
use Rattle.walrus.specs.Base.Id.{place}
use Rattle.walrus.specs.Base.IdSet.{has_id}
use Rattle.walrus.specs.Base.Marks.{is_marked, mark_places}
use Rattle.walrus.specs.Base.Operators.{Types, Functions, Tables, Memories, Tags, Globals, Elements, DataSegments, Item, function_item}
use Rattle.walrus.specs.Base.IdValue.{Id}
use Rattle.walrus.specs.Base.FunctionKey.{FunctionKey}
use Rattle.walrus.specs.Base.TypeKey.{TypeKey}
use Rattle.walrus.specs.Base.MarksValue.{Marks}
use Rattle.walrus.proofs.Base.Lookups.{still_some}
use Rattle.walrus.proofs.Base.Standing.{some_inj, was_some}
use Rattle.walrus.specs.Contents.View.{body, contents_view, function, functions_of, handlers_at, name_at, named_of}
use Rattle.walrus.specs.Contents.Contents.{Contents}
use Rattle.walrus.specs.Items.Function.{function_type}
use Rattle.walrus.specs.Items.Functions.{FunctionValue, ModuleFunctions, functions}
use Rattle.walrus.specs.Items.LocalFunction.{LocalFunction}
use Rattle.walrus.specs.Items.CustomSection.{Ghosts}
use Rattle.walrus.specs.Items.FunctionKind.{FunctionKind}
use Rattle.walrus.specs.Items.FunctionKind.TheVariants.{Local}
use Rattle.walrus.specs.Model.Abstract as abstract
use Rattle.walrus.specs.Model.Abstract.{Abstract, Name, Subject, TheModule, AnItem, ALocal}
use Rattle.walrus.specs.Model.Kept.{Kept}
use Rattle.walrus.specs.Model.Reached.{Reached}
use Rattle.walrus.proofs.Model.PipelineCollected.{left_is_kept, reached_out as left_reached}
use Rattle.walrus.specs.Modules.View.{contents_of, held_view, locations_of, view}
use Rattle.walrus.specs.Modules.SectionEntry.{SectionEntry}
use Rattle.walrus.specs.Modules.Module.{Module}
use Rattle.walrus.proofs.Modules.EditedSlots.{set_elsewhere, set_here}
use Rattle.walrus.specs.Modules.Parts.{local_in}
use Rattle.walrus.specs.Modules.Transform.{locations_in}
use Rattle.walrus.specs.Collected.{Collects}
use Rattle.walrus.specs.Marked.{ReachesUnsound}
use Rattle.walrus.specs.Used.{FindsUsed}
use Rattle.walrus.specs.declared.passes.used.Used.{Used}
use Rattle.walrus.proofs.ReportLemmas.{counted_below}
use Rattle.walrus_tools.specs.Alone.{GoesWith, IsAlone, trapped_at}
use Rattle.walrus_tools.specs.AloneSteps.{HasBodyAgain, HoldsSame, MarksGoers, Trades, alone_in, goes_at}
use Rattle.walrus_tools.proofs.CallersEnds.{kept_sound}
use Rattle.walrus_tools.proofs.TrapReached.{TrapsAt, function_reached, live_before, live_still, reached_down, reached_in, reached_out, sound_still, trapped_from, trapped_to, with_functions}

untrue : false ≡ true → ⊥
untrue h = cc

both : (a b : Bool) → (a && b) ≡ true → (a ≡ true) × (b ≡ true)
both true true h = (refl, refl)
both true false h = absurd (untrue h)
both false b h = absurd (untrue h)

-- only places are marked
marked_within : {K : Type 0} (marks : Marks K) (i : ℕ) → is_marked marks i ≡ true → i < mark_places marks
marked_within marks i h = ⊎_elim
    (λ (lt : i < mark_places marks). lt)
    (λ (le : mark_places marks ≤ i). absurd (untrue (sym (get_or_past marks.marks.items i false le) ∙ h)))
    (cases_lt i (mark_places marks))

-- ---- the body put back

set_twice : {A : Type 0} (xs : List A) (i : ℕ) (a b : A) → slice_set (slice_set xs i a) i b ≡ slice_set xs i b
set_twice [] i a b = refl
set_twice (x ∷ xs) zero a b = refl
set_twice (x ∷ xs) (suc i) a b = ap (λ (ys : List _). x ∷ ys) (set_twice xs i a b)

module _ {S : Type 0} (f : ℕ) (body_was : LocalFunction) (a b : Module S) (t : Trades f body_was a b) where
  abbrev trapped : FunctionValue
  trapped = record (t.function) { kind = Local t.trap }

  there : IsSome (item_at (functions a.funcs) f)
  there = subst (λ (o : Option FunctionValue). IsSome o) (sym t.was) refl

  is_trapped : item_at (functions b.funcs) f ≡ Some trapped
  is_trapped = ap (λ (fs : List (Option FunctionValue)). item_at fs f) t.is ∙ set_here (functions a.funcs) f (Some trapped) there

  others_same : (i : ℕ) → i ≢ f → item_at (functions b.funcs) i ≡ item_at (functions a.funcs) i
  others_same i differs = ap (λ (fs : List (Option FunctionValue)). item_at fs i) t.is ∙ set_elsewhere (functions a.funcs) f i (Some trapped) differs

  pub trapped_live : IsLiveAt (functions b.funcs) f
  trapped_live = subst (λ (o : Option FunctionValue). IsSome o) (sym is_trapped) refl

  pub back_again : (c : Module S) → HasBodyAgain f body_was b c → HoldsSame a c
  back_again c h =
      let same : h.function ≡ trapped = some_inj h.function trapped (sym h.was ∙ is_trapped) in
      let back : record (h.function) { kind = Local body_was } ≡ t.function =
      ap (λ (g : FunctionValue). record g { kind = Local body_was }) same ∙ ap (λ (k : FunctionKind). record (t.function) { kind = k }) (sym t.had) in
      record {
        same = h.is ∙ ap (λ (g : FunctionValue). slice_set (functions b.funcs) f (Some g)) back
            ∙ ap (λ (fs : List (Option FunctionValue)). slice_set fs f (Some t.function)) t.is
            ∙ set_twice (functions a.funcs) f (Some trapped) (Some t.function)
            ∙ ap (λ (o : Option FunctionValue). slice_set (functions a.funcs) f o) (sym t.was)
            ∙ set-get_or (functions a.funcs) f None;
        others = h.others ∙ ap (λ (m : Module S). record m { funcs = c.funcs }) t.others;
      }

-- ---- what holds the same is seen the same

-- the module of these contents, but with these functions
abbrev seen_with : Contents → List (Option FunctionValue) → (Subject → List Name) → Abstract
seen_with c fs names = record (contents_view c) { functions = λ i. option_map (function c.locals) (item_at fs i); handler_types = λ i. handlers_at (item_at fs i); named = names }

module _ (c : Contents) (funcs : ModuleFunctions) (same : functions funcs ≡ functions c.funcs) where
  named_same : (s : Subject) → named_of (record c { funcs = funcs }) s ≡ named_of c s
  named_same TheModule = refl
  named_same (AnItem (Types, i)) = refl
  named_same (AnItem (Functions, i)) = ap (λ (fs : List (Option FunctionValue)). name_at (λ (f : FunctionValue). f.name) (item_at fs i)) same
  named_same (AnItem (Tables, i)) = refl
  named_same (AnItem (Memories, i)) = refl
  named_same (AnItem (Tags, i)) = refl
  named_same (AnItem (Globals, i)) = refl
  named_same (AnItem (Elements, i)) = refl
  named_same (AnItem (DataSegments, i)) = refl
  named_same (ALocal f x) = refl

  contents_same : contents_view (record c { funcs = funcs }) ≡ contents_view c
  contents_same =
      ap (λ (fs : List (Option FunctionValue)). seen_with c fs (named_of (record c { funcs = funcs }))) same
      ∙ ap (λ (names : Subject → List Name). seen_with c (functions c.funcs) names) (fun_ext named_same)

module _ {S : Type 0} (a c : Module S) (h : HoldsSame a c) where
  pub same_held : held_view c ≡ held_view a
  same_held = ap held_view h.others ∙ contents_same (contents_of a) c.funcs h.same

  pub same_locations : locations_of c ≡ locations_of a
  same_locations = (let seen : List (Option FunctionValue) → ℕ → List ℕ = λ fs number. locations_in (local_in fs number) in ap seen h.same)

module _ {V : Type 0} {O : V → Type 0} (G : (v : V) → Ghosts (O v)) where
  pub same_view : (a c : Module (SectionEntry V O)) → HoldsSame a c → view G c ≡ view G a
  same_view a c h =
      ap (λ (m : Module (SectionEntry V O)). view G m) h.others
      ∙ ap (λ (v : Abstract). record v { customs = (view G a).customs; section_roots = (view G a).section_roots }) (contents_same (contents_of a) c.funcs h.same)

  -- ---- the trap in what gc left

  module _ (edited left trapped : Module (SectionEntry V O)) (collects : Collects G edited left) (f : ℕ) (body_was : LocalFunction) (t : Trades f body_was left trapped) where
    abbrev v : Abstract
    v = view G edited

    abbrev l : Abstract
    l = view G left

    abbrev now : Contents
    now = record (contents_of left) { funcs = trapped.funcs }

    abbrev m : Abstract
    m = with_functions l (functions_of left.locals trapped.funcs) (λ i. handlers_at (item_at (functions trapped.funcs) i)) (named_of now)

    seen : view G trapped ≡ m
    seen = ap (λ (n : Module (SectionEntry V O)). view G n) t.others

    -- a function of this kind
    of_kind : (g : FunctionValue) (k : FunctionKind) → g.kind ≡ k → ◌≡◌ {A = Option abstract.Function} (Some (function left.locals g)) (Some (function left.locals (record g { kind = k })))
    of_kind g k is = ap (λ (j : FunctionKind). Some (function left.locals (record g { kind = j }))) is

    abbrev is_now : item_at (functions trapped.funcs) f ≡ Some (record (t.function) { kind = Local t.trap })
    is_now = is_trapped f body_was left trapped t

    traps : TrapsAt f l (functions_of left.locals trapped.funcs) (λ i. handlers_at (item_at (functions trapped.funcs) i))
    traps = record {
      ty = place (function_type body_was);
      was = body left.locals body_was;
      had = ap (option_map (function left.locals)) t.was ∙ of_kind t.function (Local body_was) t.had;
      trap = body left.locals t.trap;
      is = ap (option_map (function left.locals)) is_now
          ∙ ap (λ (k : Id TypeKey). Some (record { ty = place k; kind = abstract.LocalFunction (body left.locals t.trap) })) t.traps.typed;
      traps = t.traps.traps;
      none = ap handlers_at is_now ∙ t.traps.no_handlers;
      others = λ i differs. ap (option_map (function left.locals)) (others_same f body_was left trapped t i differs);
      handlers_stay = λ i differs. ap handlers_at (others_same f body_was left trapped t i differs);
    }

    -- what is reached then was reached
    before : (x : Item) → Reached m x → Reached v x
    before x h = left_reached v l collects.collected x (reached_down f l x (trapped_from f l _ _ (named_of now) traps x h))

    -- and is sound, so that a search is refused for want of memory alone
    pub never_dead : ReachesUnsound (view G trapped) → ⊥
    never_dead unsound =
        let dead = subst (λ (w : Abstract). ReachesUnsound w) seen unsound in
        dead.2 (sound_still f l _ _ (named_of now) traps dead.0 (kept_sound G edited left collects dead.0 (inl (before dead.0 dead.1))))

    -- ---- what goes

    -- a function stays in the trapped module if and only if it would stay where the edited one trapped
    stays_too : (i : ℕ) → Kept m (function_item i) → Kept (trapped_at f v) (function_item i)
    stays_too i k = inl (reached_out f v l collects.collected (function_item i) (trapped_from f l _ _ (named_of now) traps (function_item i) (function_reached m i k)))

    stays_so : (i : ℕ) → Kept (trapped_at f v) (function_item i) → Kept m (function_item i)
    stays_so i k = inl (trapped_to f l _ _ (named_of now) traps (function_item i) (reached_in f v l collects.collected (function_item i) (function_reached (trapped_at f v) i k)))

    abbrev slot : ℕ → Option FunctionValue
    slot i = item_at (functions trapped.funcs) i

    stays_there : (i : ℕ) → Kept v (function_item i) → IsSome (slot i)
    stays_there i k = was_some (function left.locals) (slot i) (live_still f l _ _ (named_of now) traps (function_item i) (kept_sound G edited left collects (function_item i) k).live)

    there_stays : (i : ℕ) → IsSome (slot i) → Kept v (function_item i)
    there_stays i h = left_is_kept v l collects.collected (function_item i) (live_before f l _ _ (named_of now) traps i (still_some (function left.locals) (slot i) h))

    module _ (used : Used) (found : FindsUsed G trapped used) where
      kept_now : (i : ℕ) → (has_id used.funcs i ≡ true) ↔ Kept m (function_item i)
      kept_now i = (
        λ h. subst (λ (w : Abstract). Kept w (function_item i)) seen ((found.kept (function_item i)).0 h),
        λ k. (found.kept (function_item i)).1 (subst (λ (w : Abstract). Kept w (function_item i)) (sym seen) k),
      )

      abbrev goes : ℕ → Bool
      goes i = goes_at (functions trapped.funcs) (has_id used.funcs) f i

      goes_with : (i : ℕ) → (same used_so : Bool) → (i == f) ≡ same → has_id used.funcs i ≡ used_so → (is_some (slot i) && (same || not used_so)) ≡ true → GoesWith v f i
      goes_with i true used_so is so h = (there_stays i (both (is_some (slot i)) true h).0, inr (eqb-true i f is))
      goes_with i false true is so h = absurd (untrue (both (is_some (slot i)) false h).1)
      goes_with i false false is so h = (there_stays i (both (is_some (slot i)) true h).0, inl (λ k. untrue (sym so ∙ (kept_now i).1 (stays_so i k))))

      with_goes : (i : ℕ) → GoesWith v f i → (same used_so : Bool) → (i == f) ≡ same → has_id used.funcs i ≡ used_so → (is_some (slot i) && (same || not used_so)) ≡ true
      with_goes i g true used_so is so = ap (λ (b : Bool). b && true) (stays_there i g.0)
      with_goes i g false false is so = ap (λ (b : Bool). b && true) (stays_there i g.0)
      with_goes i g false true is so = absurd (⊎_elim
          (λ (not_kept : Kept (trapped_at f v) (function_item i) → ⊥). not_kept (stays_too i ((kept_now i).0 so)))
          (λ (at : i ≡ f). untrue (sym is ∙ eq-eqb i f at))
          g.1)

      -- such are those that are marked
      pub alone_told : (marks : Marks FunctionKey) → MarksGoers (functions trapped.funcs) (has_id used.funcs) f marks → (bodies : List (ℕ × (ℕ × ℕ))) → IsAlone v f bodies (alone_in marks bodies)
      alone_told marks are bodies = record {
        functions = counted_below (is_marked marks) (mark_places marks) (GoesWith v f) to (λ i g. (back i g, within i (back i g)));
        goes = is_marked marks;
        are = λ i. (to i, back i);
        bytes = refl;
      }
        where
          to : (i : ℕ) → is_marked marks i ≡ true → GoesWith v f i
          to i h = goes_with i (i == f) (has_id used.funcs i) refl refl (sym (are i) ∙ h)

          back : (i : ℕ) → GoesWith v f i → is_marked marks i ≡ true
          back i g = are i ∙ with_goes i g (i == f) (has_id used.funcs i) refl refl

          within : (i : ℕ) → is_marked marks i ≡ true → i < mark_places marks
          within i h = marked_within marks i h
