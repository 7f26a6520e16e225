-- Without gc all that was read comes out.
use Rattle.std.proofs.Common.{◌≡◌, ℕ, ◌+◌, ◌<◌, ◌≤◌, List, [], ◌∷◌, length, refl, sym, ap, ◌∙◌, subst, arith, inl, inr, ⊎_elim, ◌⊎◌, length-append}
use Rattle.std.proofs.lemmas.Bool.{cases_lt}
use Rattle.std.proofs.lemmas.Option.{slice_get_within}
use Rattle.std.specs.Prelude.{Option, Some, None, IsSome, is_some, Contains, slice_get}
use Rattle.std.specs.List.{range_with_len}
use Rattle.walrus_base.specs.Types.{CompType}
use Rattle.walrus_base.specs.Operators.{Types, Functions, Tables, Memories, Tags, Globals, Elements, DataSegments, Item}
use Rattle.walrus_model.specs.Abstract.{Abstract, TypeDef, Import, Body}
use Rattle.walrus_model.specs.Config.{Config}
use Rattle.walrus_model.specs.Live.{IsLive}
use Rattle.walrus_model.specs.Names.{body_of}
use Rattle.walrus_model.specs.Out.{OutOf}
use Rattle.walrus_model.specs.Renaming.{renamed_import}
use Rattle.walrus_model.specs.Rules.{Holds}
use Rattle.walrus_theorem.specs.Chain.{alone, IsLoneTypeAt, TypeIsFoundOrAdded, Found, Added, AreFoundOrAdded, NoMore, AndThen, handlers_by, AddsHandlers, NoFunction, AndThose, ParsedAs, Leaves}
use Rattle.walrus_theorem.specs.Pinned.{IsWrittenAs}
use Rattle.walrus_theorem.specs.Whole.{PlainComesOut}
use Rattle.walrus_base.proofs.Lists.{Contains-head, Contains-tail, Contains-none}
use Rattle.walrus_model.proofs.PipelineSame.{import_stays}
use Rattle.walrus_model.proofs.Reach.{taken}
use Rattle.walrus_model.proofs.SettleDeclared.{body_there}
use Rattle.walrus_theorem.proofs.SegmentStep.{carried_itself}
use Rattle.walrus_theorem.proofs.StepHandlers.{Below, AllBelow, one_placed, many_placed, all_placed}
use Rattle.walrus_theorem.proofs.StepLeaves.{Between, between}
use Rattle.walrus_theorem.proofs.StepOut.{LeavesOnly, IsHandlerPlace, AreChosen, out_of}
use Rattle.walrus_theorem.proofs.StepParsed.{in_place, carried_parsed, initialised, live_forth, live_back, by_below, places_of}
use Rattle.walrus_model.proofs.StepPlain.{IsPlain}
use Rattle.walrus_theorem.proofs.StepRead.{read_is_plain}
use Rattle.walrus_base.proofs.Lookups.{there as slice_there}
use Rattle.walrus_base.proofs.Standing.{some_of}

-- ---- each type that parsing adds is one that a handler needs

module _ (n : ℕ) where
  new_one : (comp : CompType ℕ) (old new : List TypeDef) (p : ℕ) → TypeIsFoundOrAdded comp old new p → Below n comp → n ≤ length old → (t : ℕ) (x : TypeDef) → length old ≤ t → slice_get new t ≡ Some x → p ≡ t
  new_one comp old new p (Found stands first same) below long t x le at =
      let low : t < length old = slice_get_within old t x (subst (λ (l : List TypeDef). slice_get l t ≡ Some x) same at) in
      absurd (omega (arith, le, low))
  new_one comp old new p (Added none place made) below long t x le at =
      let low : t < length new = slice_get_within new t x at in
      let size : length new ≡ length old + 1 = ap length made ∙ length-append old (alone p comp ∷ []) in
      omega (arith, place, le, low, size)

  new_many : (comps : List (CompType ℕ)) (old new : List TypeDef) (places : List ℕ) → AreFoundOrAdded comps old new places → AllBelow n comps → n ≤ length old → (t : ℕ) (x : TypeDef) → length old ≤ t → slice_get new t ≡ Some x → (comp : CompType ℕ) × Contains comps comp × Contains places t × IsLoneTypeAt comp new t
  new_many _ _ _ _ (NoMore types) below long t x le at = let low : t < length types = slice_get_within types t x at in absurd (omega (arith, le, low))
  new_many _ first last _ (AndThen comp comps old middle new p ps one rest) below long t x le at =
      let a = one_placed n comp old middle p one (below comp (Contains-head comp comps)) long in
      let b = many_placed n comps middle new ps rest (λ d has. below d (Contains-tail comp d comps has)) a.long in
      ⊎_elim
      (λ (low : t < length middle).
      let y = some_of (slice_get middle t) (slice_there middle t low) in
      let is : p ≡ t = new_one comp old middle p one (below comp (Contains-head comp comps)) long t y.0 le y.1 in
      let s : IsLoneTypeAt comp middle t = subst (IsLoneTypeAt comp middle) is a.stands in
      (comp, Contains-head comp comps, subst (Contains (p ∷ ps)) is (Contains-head p ps), (b.extends t (alone t comp) s.0, s.1)))
      (λ (past : length middle ≤ t).
      let found = new_many comps middle new ps rest (λ d has. below d (Contains-tail comp d comps has)) a.long t x past at in
      (found.0, Contains-tail comp found.0 comps found.1, Contains-tail p t ps found.2, found.3))
      (cases_lt t (length middle))

module _ (m : Abstract) (places : ℕ → List ℕ) (n : ℕ) (below : (f : ℕ) → AllBelow n (handlers_by m (body_of m f))) where
  pub new_for : (fs : List ℕ) (old new : List TypeDef) → AddsHandlers m places fs old new → n ≤ length old → (t : ℕ) (x : TypeDef) → length old ≤ t → slice_get new t ≡ Some x → (f : ℕ) × Contains (places f) t × (comp : CompType ℕ) × Contains (handlers_by m (body_of m f)) comp × IsLoneTypeAt comp new t
  new_for _ _ _ (NoFunction types) long t x le at = let low : t < length types = slice_get_within types t x at in absurd (omega (arith, le, low))
  new_for _ first last (AndThose f fs old middle new one rest) long t x le at =
      let a = many_placed n (handlers_by m (body_of m f)) old middle (places f) one (below f) long in
      let b = all_placed m places n below fs middle new rest a.long in
      ⊎_elim
      (λ (low : t < length middle).
      let y = some_of (slice_get middle t) (slice_there middle t low) in
      let s = new_many n (handlers_by m (body_of m f)) old middle (places f) one (below f) long t y.0 le y.1 in
      (f, s.2, s.0, s.1, (b.extends t (alone t s.0) s.3.0, s.3.1)))
      (λ (past : length middle ≤ t). new_for fs middle new rest a.long t x past at)
      (cases_lt t (length middle))

-- ---- all that is there is chosen, and stays

module _ (c : Config) (m v : Abstract) (p : ParsedAs c m v) (plain : IsPlain m) (holds : Holds m) where
  needed_by : (f : ℕ) (t : ℕ) (o : Option Body) → body_of m f ≡ o → (comp : CompType ℕ) → Contains (handlers_by m o) comp → IsLoneTypeAt comp p.all_types t → IsHandlerPlace c m v p (IsLive m) (Types, t)
  needed_by f t None at comp has stands = absurd (Contains-none comp has)
  needed_by f t (Some b) at comp has stands = record { comp = comp; place = t; needed = (f, b, ap is_some (body_there (m.functions f) b at).1, at, has); is = refl; stands = stands }

  type_either : (t : ℕ) → IsLive v (Types, t) → IsLive m (Types, t) ⊎ IsHandlerPlace c m v p (IsLive m) (Types, t)
  type_either t live = ⊎_elim
      (λ (low : t < length p.types). inl (subst IsSome (sym (p.types_read t)) (slice_there p.types t low)))
      (λ (past : length p.types ≤ t).
      let x = some_of (v.types t) live in
      let le : length p.types ≤ length p.types = omega arith in
      let found = new_for m v.handler_types (length p.types) (λ f. by_below c m v p plain holds f (body_of m f) refl) (range_with_len 0 p.functions) p.types p.all_types p.handlers le t x.0 past (sym (p.types_made t) ∙ x.1) in
      inr (needed_by found.0 t (body_of m found.0) refl found.2 found.3 found.4))
      (cases_lt t (length p.types))

  either : (x : Item) → IsLive v x → IsLive m x ⊎ IsHandlerPlace c m v p (IsLive m) x
  either (Types, t) live = type_either t live
  either (Functions, i) live = inl (live_back c m v p (Functions, i) (λ e. absurd (cc)) live)
  either (Tables, i) live = inl (live_back c m v p (Tables, i) (λ e. absurd (cc)) live)
  either (Memories, i) live = inl (live_back c m v p (Memories, i) (λ e. absurd (cc)) live)
  either (Tags, i) live = inl (live_back c m v p (Tags, i) (λ e. absurd (cc)) live)
  either (Globals, i) live = inl (live_back c m v p (Globals, i) (λ e. absurd (cc)) live)
  either (Elements, i) live = inl (live_back c m v p (Elements, i) (λ e. absurd (cc)) live)
  either (DataSegments, i) live = inl (live_back c m v p (DataSegments, i) (λ e. absurd (cc)) live)

  places_live : (f t : ℕ) → IsLive m (Functions, f) → Contains (v.handler_types f) t → IsLive v (Types, t)
  places_live f t live at = let found = (places_of c m v p plain holds f live).back t at in ap is_some (p.types_made t ∙ found.2.0)

  pub live_chosen : AreChosen c m v p (IsLive m) (IsLive v)
  live_chosen = record { there = λ x k. k; stays = λ x k. live_forth c m v p x k; places = places_live; either = either }

  -- what an import of v brings is there
  pub import_there : (i : ℕ) (x : Import) → v.imports i ≡ Some x → IsLive v x.item
  import_there i x at = ⊎_elim
      (λ found.
      let old = found.1 in
      let was = taken (λ x y. y ≡ renamed_import (in_place c m v p) x) (m.imports found.0) (v.imports found.0) x ((carried_parsed c m v p).imports.same found.0 old) (ap v.imports found.2 ∙ at) in
      let both : Some was.0 ≡ Some old.0 = sym was.1 ∙ old.1 in
      let same : was.0 ≡ old.0 = cc in
      let is : x ≡ old.0 = was.2 ∙ import_stays (in_place c m v p) (λ s i. refl) (λ i. refl) was.0 ∙ same in
      live_forth c m v p x.item (subst (λ (y : Import). IsLive m y.item) (sym is) old.2))
      (λ none. absurd none)
      ((carried_parsed c m v p).imports.onto i (ap is_some at))

  pub live_left : LeavesOnly (IsLive v) v v
  live_left = record {
    carried = carried_itself v (initialised c m v p) import_there;
    left = λ x h. h;
    types = λ i k. refl;
    functions = λ i k. refl;
    tables = λ i k. refl;
    memories = λ i k. refl;
    tags = λ i k. refl;
    globals = λ i k. refl;
    elements = λ i k. refl;
    exports = refl;
    customs = refl;
    producers = refl;
    named = λ y h. refl;
  }

  live_comes_out : (u n : Abstract) → Leaves v u → IsWrittenAs c u n → OutOf (IsLive m) c m n
  live_comes_out u n leaves written =
      let b = between v u leaves in
      out_of c m v v n u.elements leaves.functions p plain holds (IsLive m) (IsLive v) live_chosen live_left leaves.undeclared
      (subst (λ x. Between v x leaves.functions) b.same b)
      (subst (λ x. IsWrittenAs c x n) b.same written).written

pub plain_comes_out : PlainComesOut
plain_comes_out c bytes m v u n reads holds parsed leaves written = live_comes_out c m v parsed (read_is_plain c bytes m reads) holds u n leaves written
