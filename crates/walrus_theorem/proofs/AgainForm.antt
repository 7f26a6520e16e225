-- What was written is in the form in which modules are written; and with gc all of it is kept.
use Rattle.std.proofs.Common.{◌≡◌, ℕ, ◌<◌, List, [], ◌∷◌, Bool, false, true, refl, sym, ap, ◌∙◌, subst, inl, inr, ⊎_elim, ◌⊎◌}
use Rattle.std.specs.Prelude.{Option, Some, None, IsSome, is_some, Contains, option_map}
use Rattle.walrus_base.specs.Operators.{Types, Functions, Tables, Memories, Tags, Globals, Elements, DataSegments, Item}
use Rattle.walrus_model.specs.Abstract.{Abstract, Subject, TheModule, AnItem, ALocal, FunctionKind}
use Rattle.walrus_model.specs.Config.{Config}
use Rattle.walrus_model.specs.Declared.{HasDeclaredSegment, NothingUndeclared}
use Rattle.walrus_model.specs.Kept.{Kept}
use Rattle.walrus_model.specs.Live.{IsLive}
use Rattle.walrus_model.specs.Names.{name_of, MayBeNamed, AreNamed, WritesNames}
use Rattle.walrus_model.specs.Order.{FunctionsByImport, ByImport}
use Rattle.walrus_model.specs.Out.{OutOf, Out}
use Rattle.walrus_model.specs.Producers.{produced, if_written}
use Rattle.walrus_model.specs.Refers.{used_locals}
use Rattle.walrus_model.specs.Renaming.{unchanged, renamed}
use Rattle.walrus_model.specs.Rules.{Holds}
use Rattle.walrus_model.specs.Same.{BothAnd}
use Rattle.walrus_theorem.specs.Chain.{BringsTo}
use Rattle.walrus_theorem.specs.Headline.{ReadsModule}
use Rattle.walrus_theorem.specs.Pinned.{IsWrittenAs}
use Rattle.walrus_theorem.specs.SettledForm.{IsForHandlers, AllIsKept, IsWrittenForm, IsSettledForm}
use Rattle.walrus_base.proofs.Lists.{Contains-map}
use Rattle.walrus_model.proofs.Follow.{used_follow}
use Rattle.walrus_model.proofs.Steps.{live_under}
use Rattle.walrus_theorem.proofs.AgainRan.{Ran, ran_by}
use Rattle.walrus_theorem.proofs.AgainTypes.{f, old_type, handlers_found, place_stays}
use Rattle.walrus_theorem.proofs.AgainOrder.{functions_rise}
use Rattle.walrus_model.proofs.SettleDeclared.{body_pair_on, nothing_undeclared}
use Rattle.walrus_model.proofs.SettleNames.{item_named, module_named, local_named}
use Rattle.walrus_theorem.proofs.SettleReach.{SetsAre, live_kept, image_kept}
use Rattle.walrus_model.proofs.AgainSame.{producers_again}
use Rattle.walrus_theorem.proofs.StepOut.{out_of}
use Rattle.walrus_theorem.proofs.StepParsed.{IsPlace, kept_either}
use Rattle.walrus_theorem.proofs.StepRead.{read_is_plain}

both_live : {X : Type 0} (S : FunctionKind → FunctionKind → Type 0) (kind : X → FunctionKind) (a b : Option X) → BothAnd S (option_map kind a) (option_map kind b) → IsSome a × IsSome b
both_live S kind (Some x) (Some y) h = (refl, refl)
both_live S kind (Some x) None h = absurd h
both_live S kind None b h = absurd h

module _ (K J : Item → Type 0) (c : Config) (m v n : Abstract) (ran : Ran K J c m v n) where
  abbrev pub out : OutOf K c m n
  out = out_of c m v ran.w n ran.elements ran.fs ran.p ran.plain ran.holds K J ran.chosen ran.l ran.undeclared ran.b ran.o

  abbrev o : OutOf K c m n
  o = out

  -- ---- order

  in_order : (i j : ℕ) → ByImport n Functions i j → i < j
  in_order i j h =
      let live = both_live (FunctionsByImport i j) (λ x. x.kind) (n.functions i) (n.functions j) h in
      functions_rise K J c m v n ran i j live.0 live.1 h

  -- ---- names

  abbrev Named : Type 0
  Named = AreNamed (name_of c m) K o.renaming m n

  Here : Item → Type 0
  Here y = (x : Item) × IsLive n x × (y ≡ renamed unchanged x)

  here : (y : Item) → (x : Item) × K x × (y ≡ renamed o.renaming x) → Here y
  unfolding Here
  here y (x, k, is) = (y, subst (IsLive n) (sym is) (live_under K _ o.renaming m n o.carried x.0 x.1 k), refl)

  may_be : (y : Subject) → MayBeNamed K o.renaming m y → MayBeNamed (IsLive n) unchanged n y
  unfolding Here
  may_be TheModule may = tt
  may_be (AnItem (Types, i)) may = tt
  may_be (AnItem (Functions, i)) may = here (Functions, i) may
  may_be (AnItem (Tables, i)) may = here (Tables, i) may
  may_be (AnItem (Memories, i)) may = here (Memories, i) may
  may_be (AnItem (Tags, i)) may = here (Tags, i) may
  may_be (AnItem (Globals, i)) may = here (Globals, i) may
  may_be (AnItem (Elements, i)) may = here (Elements, i) may
  may_be (AnItem (DataSegments, i)) may = here (DataSegments, i) may
  may_be (ALocal h y) (i, b, x, k, at, used, is_h, is_y) =
      let pair = body_pair_on o.renaming i (m.functions i) (n.functions (o.renaming.numbers Functions i)) (o.carried.functions.same i k) b at in (
        o.renaming.numbers Functions i,
        pair.0,
        o.renaming.locals i x,
        live_under K _ o.renaming m n o.carried Functions i k,
        pair.1,
        subst (λ l. Contains l (o.renaming.locals i x)) (sym (used_follow o.renaming i b pair.0 pair.2)) (Contains-map (o.renaming.locals i) x (used_locals b) used),
        is_h,
        is_y,
      )

  named_again : Named → AreNamed (name_of c n) (IsLive n) unchanged n n
  named_again named = record {
    module_name = sym (module_named K c m n o named c.synthetic_names);
    items = λ x live nt. sym (item_named K c m n o named x);
    locals = λ h b x live at used. sym (local_named K c m n o named c.synthetic_names refl h x b at used);
    only = λ y is. may_be y (named.only y is);
  }

  names_by : (t : Bool) → WritesNames t (name_of c m) K o.renaming m n → WritesNames t (name_of c n) (IsLive n) unchanged n n
  names_by true h = named_again h
  names_by false h = h

  -- ---- what ref.func names

  segment_by : (fs : List ℕ) (j : ℕ) → o.segment ≡ Some j → HasDeclaredSegment K o.renaming m n fs o.segment → IsLive n (Elements, j)
  segment_by [] j at none = let no : None ≡ Some j = sym none ∙ at in absurd (cc)
  segment_by (f ∷ fs) j at (k, is, there) =
      let both : Some k ≡ Some j = sym is ∙ at in
      let same : k ≡ j = cc in
      subst (λ q. IsLive n (Elements, q)) same (ap is_some there.is)

  nothing : NothingUndeclared n
  nothing h u = nothing_undeclared K c m n o (IsLive n) (λ x k. live_under K _ o.renaming m n o.carried x.0 x.1 k) (λ j at. segment_by o.declares.functions j at o.declares.declared) h u

  pub in_form : IsWrittenForm c n
  in_form = record {
    handlers = handlers_found K J c m v n ran;
    order = in_order;
    names = names_by c.writes_names o.names;
    producers = o.producers ∙ sym (producers_again c.writes_producers m.producers) ∙ ap (λ l. if_written c.writes_producers (produced l)) (sym o.producers);
    declared = nothing;
  }

-- ---- with gc all is kept

module _ (c : Config) (m v n : Abstract) (ran : Ran (Kept m) (Kept v) c m v n) (sets_m : SetsAre m) (sets_n : SetsAre n) where
  abbrev kept_out : Out c m n
  kept_out = out (Kept m) (Kept v) c m v n ran

  image : (x : Item) → Kept m x → Kept n (renamed kept_out.renaming x)
  image x k = image_kept c m n kept_out ran.plain ran.holds sets_m ran.plain_n sets_n x k

  no_type_kept : (x : Item) → (x.0 ≡ Types → ⊥) → IsLive n x → Kept n x
  no_type_kept x other live = live_kept c m n kept_out ran.plain ran.holds sets_m ran.plain_n sets_n x other live

  place_kept : (t : ℕ) → IsPlace c m v ran.p ran.plain ran.holds (Types, t) → IsForHandlers n (Types, f (Kept m) (Kept v) c m v n ran t)
  place_kept t h =
      let is : h.place ≡ t = sym (ap (λ (y : Item). y.1) h.is) in
      place_stays (Kept m) (Kept v) c m v n ran h.function h.body (inl h.reached) h.at (image (Functions, h.function) (inl h.reached)) t (subst (Contains (v.handler_types h.function)) is h.listed)

  type_kept : (t : ℕ) → Kept v (Types, t) → Kept n (Types, f (Kept m) (Kept v) c m v n ran t) ⊎ IsForHandlers n (Types, f (Kept m) (Kept v) c m v n ran t)
  type_kept t k = ⊎_elim
      (λ h. inl (image (Types, t) h))
      (λ place. inr (place_kept t place))
      (kept_either c m v ran.p ran.plain ran.holds (Types, t) k)

  all_kept : AllIsKept n
  all_kept (Types, j) h =
      let old = old_type (Kept m) (Kept v) c m v n ran j h in
      subst (λ q. Kept n (Types, q) ⊎ IsForHandlers n (Types, q)) old.2 (type_kept old.0 (ran.l.left (Types, old.0) old.1))
  all_kept (Functions, j) h = inl (no_type_kept (Functions, j) (λ e. absurd (cc)) h)
  all_kept (Tables, j) h = inl (no_type_kept (Tables, j) (λ e. absurd (cc)) h)
  all_kept (Memories, j) h = inl (no_type_kept (Memories, j) (λ e. absurd (cc)) h)
  all_kept (Tags, j) h = inl (no_type_kept (Tags, j) (λ e. absurd (cc)) h)
  all_kept (Globals, j) h = inl (no_type_kept (Globals, j) (λ e. absurd (cc)) h)
  all_kept (Elements, j) h = inl (no_type_kept (Elements, j) (λ e. absurd (cc)) h)
  all_kept (DataSegments, j) h = inl (no_type_kept (DataSegments, j) (λ e. absurd (cc)) h)

-- ---- what comes out of the steps

sets_read : (c : Config) (bytes : List ℕ) (m : Abstract) → ReadsModule c bytes m → SetsAre m
sets_read c bytes m read = subst SetsAre (sym read.is) (record { tables = λ t e. refl; memories = λ i d. refl })

pub settled_by : (c : Config) (bytes : List ℕ) (m u n : Abstract) (output : List ℕ) → ReadsModule c bytes m → Holds m → BringsTo c m u → IsWrittenAs c u n → ReadsModule c output n → IsSettledForm c n
settled_by c bytes m u n output reads holds brings written read =
    let v : Abstract = brings.module_parsed in
    let ran : Ran (Kept m) (Kept v) c m v n = ran_by c bytes m u n reads holds brings written (read_is_plain c output n read) in
    record { kept = all_kept c m v n ran (sets_read c bytes m reads) (sets_read c output n read); form = in_form (Kept m) (Kept v) c m v n ran }
