-- Why an item stays that a text means, and what refers to it, of what was parsed, edited, collected and written: what the whole way comes to, and each
-- refusal.
use Rattle.std.proofs.Common.{◌≡◌, ℕ, ◌<◌, ◌≤◌, ◌^◌, Bool, true, false, length, arith, List, [], ◌∷◌, Option, Some, None, map, refl, sym, ap, ◌∙◌, subst, inl, inr}
use Rattle.std.specs.Global.{Vec}
use Rattle.std.specs.Prelude.{IsSome, Result, Ok, Err, option_map}
use Rattle.walrus.specs.Base.Arena.{item_at}
use Rattle.walrus.specs.Base.Operators.{Item}
use Rattle.walrus.specs.Base.FunctionKey.{FunctionKey}
use Rattle.walrus.specs.Base.ModuleLocals.{ModuleLocals}
use Rattle.walrus.specs.Base.MarksValue.{Marks}
use Rattle.walrus.specs.Code.Transform.{Transform}
use Rattle.walrus.specs.Model.Abstract.{Abstract, Custom}
use Rattle.walrus.specs.Model.Config.{Config}
use Rattle.walrus.specs.Model.Names.{body_of_function, body_of_kind}
use Rattle.walrus.specs.Model.Pipeline.{Collected}
use Rattle.walrus.specs.Model.Reached.{Reached}
use Rattle.walrus.specs.Model.Roots.{IsRoot, exported, start, data_segment, element_segment, asked_for}
use Rattle.walrus.specs.Items.Exports.{exports}
use Rattle.walrus.specs.Items.Functions.{FunctionValue, functions}
use Rattle.walrus.specs.Items.CustomSection.{Ghosts}
use Rattle.walrus.specs.Items.Error.{Error}
use Rattle.walrus.specs.Items.ErrorKind.{ErrorKind}
use Rattle.walrus.specs.Items.Error.TheVariants as error
use Rattle.walrus.specs.Items.FunctionKind.{FunctionKind}
use Rattle.walrus.specs.Items.FunctionKind.TheVariants.{Import, Local, Uninitialized}
use Rattle.walrus.specs.Items.Transform.{transform_of}
use Rattle.walrus.specs.Items.CodeTransform.{CodeTransform}
use Rattle.walrus.specs.Items.RawCustomSection.{RawCustomSection}
use Rattle.walrus.specs.Contents.There.{IsRefusal}
use Rattle.walrus.specs.Contents.View.{contents_view, function, kind_of}
use Rattle.walrus.specs.Contents.Contents.{Contents}
use Rattle.walrus.specs.Modules.Asked.{OneMayRefuse}
use Rattle.walrus.specs.Theorem.Chain.{Leaves}
use Rattle.walrus.specs.Modules.Customs.{sections}
use Rattle.walrus.specs.Modules.Emission.{EmitsTransform}
use Rattle.walrus.specs.Modules.Flags.{Flags, config_of}
use Rattle.walrus.specs.Modules.Parsed.{IsParsed, RefusesBytes}
use Rattle.walrus.specs.Modules.Raws.{raw_sections}
use Rattle.walrus.specs.Modules.Settings.{settings}
use Rattle.walrus.specs.Modules.View.{contents_of, held_view, meanings, view}
use Rattle.walrus.specs.Modules.ModuleCustomSections.{ModuleCustomSections}
use Rattle.walrus.specs.Modules.SectionEntry.{SectionEntry}
use Rattle.walrus.specs.Modules.Module.{Module}
use Rattle.walrus.proofs.Modules.KeptRaw.{none_refuses}
use Rattle.walrus.proofs.Modules.RawStays.{all_raw}
use Rattle.walrus.specs.Model.Transform.{TrueOf}
use Rattle.walrus.specs.Modules.Transform.{CountStandsAt, IsTransformOf, imported_functions}
use Rattle.walrus.specs.Collected.{Collects}
use Rattle.walrus.specs.Marked.{ReachesUnsound}
use Rattle.walrus.specs.Used.{RefusesSearch}
use Rattle.walrus.specs.Why.{Explains}
use Rattle.walrus_tools.specs.Alone.{bytes_of}
use Rattle.walrus_tools.specs.AloneSteps.{HoldsSame, alone_in}
use Rattle.walrus_tools.specs.Callers.{AreCallers, HasUnsound}
use Rattle.walrus_sections.specs.Choice.{Choice}
use Rattle.walrus_tools.specs.ChosenModule.{KeepsChosen, KeepsIn, RefusesChosen}
use Rattle.walrus.specs.Edits.{AnswersEdited, IsWhole, with_customs}
use Rattle.walrus.specs.Ends.{LeftOf}
use Rattle.walrus_tools.specs.FunctionMeaning.{has_body, is_local}
use Rattle.walrus_tools.specs.ItemMeaning.{FindsItem, MeansIn, MeansItem}
use Rattle.walrus_tools.specs.LinkSteps.{AreRising}
use Rattle.walrus_tools.specs.Links.{IsRootBy, LinkTold, TellsRoot, link_of}
use Rattle.walrus_tools.specs.Measures.{IsMeasured}
use Rattle.walrus_tools.specs.ReasonAnswers.{AnswersCallers, AnswersWhy, AreAsked, IsAsked, IsReasoned, RefusesText, TellsAlone}
use Rattle.walrus_tools.specs.ReasonSteps.{RefusesGoers, TellsGoers}
use Rattle.walrus_tools.specs.RootSteps.{FindsChainRoot}
use Rattle.walrus_tools.specs.declared.goers.Alone.{Alone}
use Rattle.walrus_tools.specs.declared.roots.Root.{Root}
use Rattle.walrus_tools.specs.declared.roots.Root.TheVariants as roots
use Rattle.walrus_tools.proofs.AloneEnds.{alone_told, back_again, never_dead, same_view}
use Rattle.walrus_tools.proofs.BodiesFit.{bodies_fit}
use Rattle.walrus_tools.proofs.CallersEnds.{callers_seen, left_sound}
use Rattle.walrus_tools.proofs.ChosenEnds.{chosen_held, chosen_whole}
use Rattle.walrus.proofs.EditEnds.{edit_refused, memory_refused, parsed_whole, plain_edited}
use Rattle.walrus_tools.proofs.MeasuredEnds.{emission_lacks, measured, search_lacks}
use Rattle.walrus_tools.proofs.RootLemmas.{root_by}
use Rattle.walrus_tools.proofs.TrapReached.{function_reached}

untrue : false ≡ true → ⊥
untrue h = cc

-- ---- what custom sections don't change

module _ (customs : List Custom) (m : Contents) where
  same_root : (root : Root) (x : Item) → IsRootBy (contents_view m) root x → IsRootBy (with_customs customs m) root x
  same_root roots.Exported x h = h
  same_root roots.Start x h = h
  same_root roots.Active x h = h
  same_root roots.Declared x h = h

  -- what is a root of the one is one of the other
  held_root : (x : Item) → IsRoot (with_customs customs m) x → IsRoot (contents_view m) x
  held_root x (exported e at is) = exported e at is
  held_root x (start f at is) = start f at is
  held_root x (data_segment i d at root is) = data_segment i d at root is
  held_root x (element_segment i e at root is) = element_segment i e at root is
  held_root x (asked_for at) = asked_for at

  -- what was found of the first item of a chain is told of it
  pub root_told : (x : Item) (chain : Option (List Item)) (root : Option Root) → Explains (with_customs customs m) x chain → FindsChainRoot (contents_view m) chain root → TellsRoot (with_customs customs m) chain root
  root_told x None root found is = is
  root_told x (Some []) root found is = absurd (let no_such : [] ≡ found.first ∷ found.others = found.is in cc)
  root_told x (Some (y ∷ ys)) None found lacks =
      let same : y ≡ found.first = heads y ys found.first found.others found.is in
      absurd (root_by (contents_view m) y refl lacks (held_root y (subst (IsRoot (with_customs customs m)) (sym same) found.rooted)))
    where
      heads : (a : Item) (rest : List Item) (b : Item) (others : List Item) → a ∷ rest ≡ b ∷ others → a ≡ b
      heads a rest b others h = cc
  root_told x (Some (y ∷ ys)) (Some root) found is = same_root root y is

-- a module holds the same as itself
pub same_module : {S : Type 0} (m : Module S) → HoldsSame m m
same_module m = record { same = refl; others = refl }

-- ---- functions with bodies

local_kind : (locals : ModuleLocals) (k : FunctionKind) → is_local k ≡ false → IsSome (body_of_kind (kind_of locals k)) → ⊥
local_kind locals (Local l) none h = untrue (sym none)
local_kind locals (Import i) none h = untrue h
local_kind locals (Uninitialized ty) none h = untrue h

no_body : (locals : ModuleLocals) (o : Option FunctionValue) → has_body o ≡ false → IsSome (body_of_function (option_map (function locals) o)) → ⊥
no_body locals None none h = untrue h
no_body locals (Some f) none h = local_kind locals f.kind none h

module _ {V : Type 0} {O : V → Type 0} (G : (v : V) → Ghosts (O v)) where
  -- the module that is left where goers were looked for is as it was before
  pub goers_stay : (x : Item) (stays back : Module (SectionEntry V O)) (marks : Option (Marks FunctionKey)) → TellsGoers G x stays back (Ok marks) → HoldsSame stays back
  goers_stay x stays back None h = h.0
  goers_stay x stays back (Some marks) h = back_again h.0 h.2.body stays h.2.trapped h.2.trades back h.2.back

  module _ (edited stays : Module (SectionEntry V O)) (ran : Collects G edited stays) where
    -- what goes with the item is told
    pub alone_so : (back : Module (SectionEntry V O)) (x : Item) (transform : Transform) (marks : Option (Marks FunctionKey)) → TellsGoers G x stays back (Ok marks)
        → TellsAlone (view G edited) transform x (option_map (λ (m : Marks FunctionKey). alone_in m transform.function_ranges) marks)
    alone_so back x transform None h = λ f reached.
        let kept : item_at (functions stays.funcs) f ≡ item_at (functions edited.funcs) f = ran.items.functions.kept f (inl (subst (λ (y : Item). Reached (view G edited) y) reached.is reached.reached)) in
        no_body edited.locals (item_at (functions edited.funcs) f) (ap has_body (sym kept) ∙ h.1 f reached.is) reached.local
    alone_so back x transform (Some marks) (f, is, g) =
        let was = ran.items.functions.left f (g.trades).function (g.trades).was in (
          f,
          record {
            is = is;
            local = subst (λ (o : Option FunctionValue). IsSome (body_of_function (option_map (function edited.locals) o))) (sym was.1)
                (subst (λ (k : FunctionKind). IsSome (body_of_kind (kind_of edited.locals k))) (sym (g.trades).had) refl);
            reached = subst (λ (y : Item). Reached (view G edited) y) (sym is) (function_reached (view G edited) f was.0);
          },
          alone_told G edited stays g.trapped ran f g.body g.trades g.used g.finds marks g.goers transform.function_ranges,
        )

-- what refers to an item, of a module that is seen otherwise
same_callers : (v w u : Abstract) (same : v ≡ w) (left : LeftOf v u) (y : Item) (callers : List Item) → AreCallers left.module_collected y callers
    → AreCallers (subst (λ (x : Abstract). LeftOf x u) same left).module_collected y callers
same_callers v w u same left y callers referring = (subst (λ (x : Abstract). (l : LeftOf x u) × AreCallers l.module_collected y callers) same (left, referring)).1

-- ---- where bodies stand

module _ (c : Config) (keeps : Bool) (locations : ℕ → List ℕ) (v : Abstract) (output : Vec ℕ) (x : Transform) (told : IsTransformOf c keeps locations v output.items x) where
  -- they are told by rising id
  pub rising : AreRising x.function_ranges
  rising = by told.holds where
    by : TrueOf (imported_functions told.raw) told.offsets CountStandsAt keeps x output.items told.raw told.written.written.renaming v → AreRising x.function_ranges
    by (inl some) = some.2.rising
    by (inr none) = subst (λ (y : Transform). AreRising y.function_ranges) (sym none.1) (λ i j d lt below. absurd (omega (arith, below)))

  -- and have so few bytes that they can be counted
  pub counted : bytes_of x.function_ranges < 2 ^ 64
  counted =
      let fit : bytes_of x.function_ranges ≤ length output.items = bodies_fit c keeps locations v output.items x told in
      let long : output.len ≡ length output.items = output.ok.0 in
      let room : output.len ≤ output.cap = output.ok.1 in
      let small : output.cap < 2 ^ 63 = output.small in
      omega (arith, fit, long, room, small)

-- ---- from bytes

module _ (c : Config) (bytes : List ℕ) (choices : List Choice) (text : List ℕ) where
  -- what is answered where no module is written
  abbrev Refused : Error → Type 0
  Refused e = AnswersEdited (KeepsChosen choices) (RefusesText choices text) c bytes (Err e)

  -- bytes that aren't parsed
  pub bytes_lack : (e : Error) → RefusesBytes c bytes e → Refused e
  bytes_lack (error.Memory m) h = tt
  bytes_lack (error.InvalidWasm k) h = h
  bytes_lack _ h = absurd h

  pub why_refused : (e : Error) → Refused e → AnswersWhy c bytes choices text (Err e)
  why_refused (error.Memory m) h = tt
  why_refused (error.InvalidWasm k) h = h
  why_refused error.TooLarge h = inl h
  why_refused _ h = h

  pub callers_refused : (e : Error) → Refused e → AnswersCallers c bytes choices text (Err e)
  callers_refused (error.Memory m) h = tt
  callers_refused (error.InvalidWasm k) h = h
  callers_refused error.TooLarge h = inl h
  callers_refused _ h = h

module _ {V : Type 0} {O : V → Type 0} (G : (v : V) → Ghosts (O v)) (choices : List Choice) (text : List ℕ) (g : Flags) (plain : g.preserve_code_transform ≡ false) (bytes : List ℕ)
    (read : Module (SectionEntry V O)) (parsed : IsParsed (config_of g) bytes (view G read)) where
  abbrev c : Config
  c = config_of g

  abbrev Edits : Contents → Contents → Type 0
  Edits = KeepsChosen choices

  abbrev Refuses : Contents → Error → Type 0
  Refuses = RefusesText choices text

  -- what is answered where no module is written
  abbrev Lacks : Error → Type 0
  Lacks e = AnswersEdited Edits Refuses c bytes (Err e)

  valid : (k : ErrorKind) → Refuses (contents_of read) (error.InvalidWasm k) → ⊥
  valid k (inl h) = h
  valid k (inr h) = h.2

  small : Refuses (contents_of read) error.TooLarge → ⊥
  small (inl h) = h
  small (inr h) = h.2

  -- a choice fits no export
  pub choice_lacks : (e : Error) → RefusesChosen choices (contents_of read) e → Lacks e
  choice_lacks e h = edit_refused G Edits Refuses c bytes read parsed valid small e (inl h)

  module _ (edited : Module (SectionEntry V O)) (kept : KeepsIn choices read edited) where
    -- the text means nothing
    pub text_lacks : (e : Error) → FindsItem (functions edited.funcs) (exports edited.exports) text (Err e) → Lacks e
    text_lacks error.NotFound h = edit_refused G Edits Refuses c bytes read parsed valid small error.NotFound (inr (contents_of edited, chosen_held choices read edited kept, h))
    text_lacks _ h = absurd h

    pub whole : IsWhole c edited
    whole = chosen_whole choices read edited kept c (parsed_whole G Edits Refuses c bytes read parsed)

    pub edits : Edits (contents_of read) (contents_of edited)
    edits = chosen_held choices read edited kept

    pub own : edited.customs ≡ read.customs
    own = ap (λ (m : Module (SectionEntry V O)). m.customs) kept.others

    -- the search for a chain, or that of gc, refuses
    pub search_stops : (raws : List RawCustomSection) → sections read.customs ≡ raw_sections raws → settings read ≡ g → (e : Error)
        → RefusesSearch (ReachesUnsound (view G edited)) (OneMayRefuse (meanings G edited)) e → Lacks e
    search_stops raws are configured e h = search_lacks G Edits Refuses g plain bytes read parsed edited edits own whole raws are (ap settings kept.others ∙ configured) e h

    module _ (raws : List RawCustomSection) (are : sections read.customs ≡ raw_sections raws) (stays : Module (SectionEntry V O)) (ran : Collects G edited stays) where
      raw_still : sections stays.customs ≡ raw_sections raws
      raw_still = ap sections (ran.others.customs ∙ own) ∙ are

      -- the search where the item traps refuses, for want of memory alone
      pub goers_lack : (x : Item) (e : Error) → RefusesGoers G x stays e → Lacks e
      goers_lack x e (inl memory) = memory_refused Edits Refuses c bytes e memory
      goers_lack x e (inr (f, body, trapped, trades, refused)) = by e refused where
        by : (e : Error) → RefusesSearch (ReachesUnsound (view G trapped)) (OneMayRefuse (meanings G trapped)) e → Lacks e
        by (error.Memory m) h = tt
        by error.DeadItem h = absurd (never_dead G edited stays trapped ran f body trades h)
        by (error.Caller words) h = absurd (none_refuses G trapped raws (ap sections (ap (λ (m : Module (SectionEntry V O)). m.customs) (trades.others)) ∙ raw_still) h)
        by _ h = absurd h

      -- the walk over what is left refuses, for want of memory alone
      pub callers_lack : (e : Error) → IsRefusal (HasUnsound (held_view stays)) e → Lacks e
      callers_lack (error.Memory m) h = tt
      callers_lack error.DeadItem h = absurd (left_sound G edited stays ran h)
      callers_lack _ h = absurd h

      module _ (configured : settings read ≡ g) (back : Module (SectionEntry V O)) (again : HoldsSame stays back) (left : Module (SectionEntry V O)) where
        pub set_so : settings edited ≡ g
        set_so = ap settings kept.others ∙ configured

        pub collected : Collected (view G edited) (view G back)
        collected = subst (λ (v : Abstract). Collected (view G edited) v) (sym (same_view G stays back again)) ran.collected

        pub same_customs : back.customs ≡ edited.customs
        same_customs = ap (λ (m : Module (SectionEntry V O)). m.customs) again.others ∙ ran.others.customs

        pub set_back : settings back ≡ settings edited
        set_back = ap settings again.others ∙ ran.others.settings

        module _ (answer : Result (Vec ℕ × CodeTransform) Error) (emits : EmitsTransform G back left true answer) where
          pub stay : left.customs ≡ back.customs
          stay = (emits.emits).raw (all_raw back.customs raws (ap sections (same_customs ∙ own) ∙ are))

        -- emission refuses
        pub way_lacks : (e : Error) → EmitsTransform G back left true (Err e) → Lacks e
        way_lacks e h =
            emission_lacks G Edits Refuses g plain bytes read parsed edited edits own whole raws are set_so back collected same_customs left (stay (Err e) h) (settings back) set_back e
            (h.emits).left (h.emits).well_made

        -- the whole way
        abbrev pub way_measured : (output : Vec ℕ) (transform : CodeTransform) → EmitsTransform G back left true (Ok (output, transform)) → IsMeasured Edits c bytes (view G left) (transform_of transform)
        way_measured output transform h =
            measured G Edits Refuses g plain bytes read parsed edited edits own whole raws are set_so back collected same_customs left (stay (Ok (output, transform)) h)
            (h.emits).left (settings back) (set_back ∙ set_so) output transform (h.emits).well_made (h.transform (inr refl))

        -- what refers to an item of what is left refers to it in the module that was collected
        pub callers_left : (output : Vec ℕ) (transform : CodeTransform) (h : EmitsTransform G back left true (Ok (output, transform))) (y : Item) (callers : List Item) → AreCallers (held_view back) y callers
            → AreCallers (way_measured output transform h).comes.left.module_collected y callers
        callers_left output transform h y callers referring =
            same_callers (view G edited) (with_customs (view G read).customs (contents_of edited)) (view G left) (plain_edited G Edits Refuses c bytes read parsed edited edits own whole)
            (record {
              module_collected = view G back;
              collected = collected;
              left = subst (λ (cs : ModuleCustomSections (SectionEntry V O)). Leaves (view G back) (view G (record left { customs = cs }))) (sym (stay (Ok (output, transform)) h)) (h.emits).left;
            }) y callers (callers_seen G back y callers referring)

    module _ (u : Abstract) (transform : Transform) (m : IsMeasured Edits c bytes u transform) (held : m.comes.module_edited ≡ contents_of edited) (same : m.comes.customs ≡ (view G read).customs)
        (x : Item) (means : MeansItem (functions edited.funcs) (exports edited.exports) text x) where
      -- the item is meant
      abbrev pub asked : IsAsked c bytes choices text x
      asked = record {
        module_left = u;
        transform = transform;
        measured = m;
        means = subst (λ (h : Contents). MeansIn h text x) (sym held) means;
      }

      now : view G edited ≡ with_customs m.comes.customs m.comes.module_edited
      now = plain_edited G Edits Refuses c bytes read parsed edited edits own whole
          ∙ ap (λ (cs : List Custom). with_customs cs (contents_of edited)) (sym same) ∙ ap (λ (h : Contents). with_customs m.comes.customs h) (sym held)

      -- what is told of it
      pub why_told : (chain : Option (List Item)) → Explains (view G edited) x chain → (links : Option (List LinkTold)) → links ≡ option_map (map (link_of u transform.function_ranges)) chain
          → (root : Option Root) → FindsChainRoot (held_view edited) chain root → (alone : Option Alone) → TellsAlone (view G edited) transform x alone
          → IsReasoned c bytes choices text (record { item = x; links = links; root = root; alone = alone })
      why_told chain explains links are root found alone goes =
          let explained = subst (λ (v : Abstract). Explains v x chain) now explains in
          record {
            asked = asked;
            chain = chain;
            explains = explained;
            links = are;
            root = root_told m.comes.customs m.comes.module_edited x chain root explained (subst (λ (h : Contents). FindsChainRoot (contents_view h) chain root) (sym held) found);
            alone = subst (λ (v : Abstract). TellsAlone v transform x alone) now goes;
          }

      -- what is told of what refers to it
      pub callers_told : (callers : List Item) → AreCallers m.comes.left.module_collected x callers → (links : List LinkTold) → links ≡ map (link_of u transform.function_ranges) callers → AreAsked c bytes choices text links
      callers_told callers refer links are = record { item = x; asked = asked; callers = callers; refer = refer; are = are }
