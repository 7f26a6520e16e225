-- What was parsed, where the first section of a name gives way to one that keeps what it lists, collected and written: what the whole way comes to.
use Rattle.std.proofs.Common.{◌≡◌, ℕ, true, false, List, [], ◌∷◌, ◌++◌, map, flat_map, filter, length, ◌+◌, refl, sym, ap, ap₂, ◌∙◌, subst, ⊎_elim, arith}
use Rattle.std.specs.Prelude.{Contains, Option, Some, None, option_and_then, codes, Result, Ok, Err, ◌≢◌}
use Rattle.std.specs.Global.{Vec}
use Rattle.std.specs.String.{string_bytes}
use Rattle.std.proofs.lemmas.List.{map-append}
use Rattle.walrus.specs.Base.Arena.{item_at, items}
use Rattle.walrus.specs.Base.Operators.{Functions, Item, function_item}
use Rattle.walrus.specs.Model.Abstract.{Abstract, Custom}
use Rattle.walrus.specs.Model.Config.{Config}
use Rattle.walrus.specs.Model.Live.{IsLive}
use Rattle.walrus.specs.Model.Pipeline.{ReachedIsLive}
use Rattle.walrus.proofs.Base.Lists.{Contains-append_1, Contains-append_2, Contains-head, Contains-none, Contains-tail, Contains-uncons}
use Rattle.walrus.proofs.Model.PipelineOps.{from_map}
use Rattle.walrus.proofs.Base.Standing.{was_some}
use Rattle.walrus.specs.Theorem.WellMade.{IsWellMade}
use Rattle.walrus.proofs.Theorem.SameItems.{with_own}
use Rattle.walrus.proofs.Theorem.StepHandlers.{Contains-split}
use Rattle.walrus.proofs.Theorem.StepParsed.{live_v}
use Rattle.walrus.proofs.Theorem.StepRead.{read_is_plain}
use Rattle.walrus.proofs.Theorem.WritableParsed.{parsed_is_well}
use Rattle.walrus.specs.Items.CustomSection.{Ghosts}
use Rattle.walrus.specs.Items.Error.{Error}
use Rattle.walrus.specs.Items.Error.TheVariants as error
use Rattle.walrus.specs.Items.RawCustomSection.{RawCustomSection}
use Rattle.walrus.specs.Items.Functions.{FunctionValue, functions}
use Rattle.walrus.specs.Contents.View.{function}
use Rattle.walrus.proofs.Base.Lookups.{still_some}
use Rattle.walrus.specs.Modules.Asked.{OneMayRefuse}
use Rattle.walrus.specs.Modules.Customs.{sections}
use Rattle.walrus.specs.Modules.Entry.{raw_of}
use Rattle.walrus.specs.Modules.Flags.{config_of}
use Rattle.walrus.specs.Modules.Meaning.{Meaning, meaning, raw_meaning}
use Rattle.walrus.specs.Modules.Parsed.{IsParsed}
use Rattle.walrus.specs.Modules.Raws.{first_raw, raw_sections, without_first}
use Rattle.walrus.specs.Modules.Settings.{settings}
use Rattle.walrus.specs.Modules.View.{can_be_kept, custom_of, held_view, kept_by, meanings, view}
use Rattle.walrus.specs.Modules.ModuleCustomSections.{ModuleCustomSections}
use Rattle.walrus.specs.Modules.SectionEntry.{SectionEntry}
use Rattle.walrus.specs.Modules.SectionEntry.TheVariants.{Raw}
use Rattle.walrus.specs.Modules.Module.{Module}
use Rattle.walrus.proofs.Modules.KeptRaw.{none_refuses, raw_means}
use Rattle.walrus.proofs.Modules.FirstRaw.{FoundRaw, IsFirstRaw, found, gone_at, mean_left}
use Rattle.walrus_examples.proofs.ListedReached.{listed_made, reached_there}
use Rattle.walrus_examples.proofs.ListedWritten.{lists_again}
use Rattle.walrus.specs.Ends.{Finishes, LeavesWritten, LeftOf}
use Rattle.walrus.specs.Ready.{IsReady}
use Rattle.walrus_examples.specs.ListSteps.{FindsListed, IsThere}
use Rattle.walrus.specs.Listed.{found_bytes}
use Rattle.walrus_examples.specs.ListSection.{AsksToKeep, HasFirst, HasNone, KeepsListed, Lists, ListsFunctions, listing}
use Rattle.walrus_examples.specs.ListAnswers.{AnswersKeepListed, MayListAgain}
use Rattle.walrus_examples.specs.Metadata.{section_of}

-- ---- what sections mean

-- the section that keeps functions
abbrev pub listed_meaning : (name functions : List ℕ) → Meaning
listed_meaning name functions = record {
  name = name;
  state = [];
  roots = map function_item functions;
  may_refuse = false;
  contents = λ indices. flat_map (λ (f : ℕ). found_bytes (indices Functions f)) functions;
  state_after = λ _. [];
}

abbrev customs_of : List RawCustomSection → List Custom
customs_of raws = map custom_of (map raw_meaning raws)

names_apart : (name : List ℕ) (raws : List RawCustomSection) → ((r : RawCustomSection) → Contains raws r → string_bytes r.name ≢ name) → HasNone name (customs_of raws)
names_apart name [] others s at = absurd (Contains-none s at)
names_apart name (r ∷ raws) others s at = ⊎_elim
    (λ (same : custom_of (raw_meaning r) ≡ s). subst (λ (x : Custom). x.name ≢ name) same (others r (Contains-head r raws)))
    (λ behind. names_apart name raws (λ q in_q. others q (Contains-tail r q raws in_q)) s behind)
    (Contains-uncons (custom_of (raw_meaning r)) s (customs_of raws) at)

never_raw : (raws : List RawCustomSection) (s : Meaning) → Contains (map raw_meaning raws) s → s.may_refuse ≡ false
never_raw raws s at = let r = from_map raw_meaning s raws at in subst (λ (m : Meaning). m.may_refuse ≡ false) r.2 refl

asks_behind : (raws : List RawCustomSection) (ms : List Meaning) → flat_map (λ (s : Meaning). s.roots) (map raw_meaning raws ++ ms) ≡ flat_map (λ (s : Meaning). s.roots) ms
asks_behind [] ms = refl
asks_behind (r ∷ raws) ms = asks_behind raws ms

functions_kept : (fs : List ℕ) → filter (λ (x : Item). can_be_kept x.0) (map function_item fs ++ []) ≡ map function_item fs
functions_kept [] = refl
functions_kept (f ∷ fs) = ap (λ (l : List Item). function_item f ∷ l) (functions_kept fs)

keeps_functions : (before after : List RawCustomSection) (name fs : List ℕ) → kept_by (map raw_meaning before ++ map raw_meaning after ++ listed_meaning name fs ∷ []) ≡ map function_item fs
keeps_functions before after name fs =
    ap (λ (ms : List Meaning). kept_by (ms ++ listed_meaning name fs ∷ [])) (sym (map-append raw_meaning before after))
    ∙ ap (λ (rs : List Item). filter (λ (x : Item). can_be_kept x.0) rs) (asks_behind (before ++ after) (listed_meaning name fs ∷ []))
    ∙ functions_kept fs

module _ {V : Type 0} {O : V → Type 0} (G : (v : V) → Ghosts (O v)) (c : Config) (bytes name : List ℕ) (read : Module (SectionEntry V O)) (parsed : IsParsed c bytes (view G read)) (raws : List RawCustomSection) (are : sections read.customs ≡ raw_sections raws) where
  read_well : IsWellMade c (view G read)
  read_well = parsed_is_well c bytes parsed.module_read (view G read) parsed.reads parsed.holds parsed.parsed

  read_live : ReachedIsLive (view G read)
  read_live = live_v c parsed.module_read (view G read) parsed.parsed (read_is_plain c bytes parsed.module_read parsed.reads) parsed.holds

  read_means : meanings G read ≡ map raw_meaning raws
  read_means = ap (λ ss. map (meaning G) (items ss)) are ∙ raw_means G raws

  read_customs : (view G read).customs ≡ customs_of raws
  read_customs = ap (map custom_of) read_means

  abbrev slots : List (Option (SectionEntry V O))
  slots = raw_sections raws

  -- ---- what the way comes to, of any module that comes of this one

  by_result : (edited : Module (SectionEntry V O)) (listed : Option (List ℕ)) → KeepsListed name (view G read) (view G edited) listed
      → ((output : List ℕ) (h : LeavesWritten (LeftOf (view G edited)) c output) → MayListAgain c name (view G edited) output h listed)
      → (result : Result (Vec ℕ) Error) → Finishes (LeftOf (view G edited)) c result → AnswersKeepListed c bytes name result
  by_result edited listed asks again (Ok output) h = record { module_parsed = view G read; parsed = parsed; listed = listed; module_asking = view G edited; asks = asks; finished = h; again = again output.items h }
  by_result edited listed asks again (Err (error.Memory e)) h = tt
  by_result edited listed asks again (Err error.TooLarge) h = record { module_parsed = view G read; parsed = parsed; listed = listed; module_asking = view G edited; asks = asks; too_large = h }
  by_result edited listed asks again (Err _) h = absurd h

  module _ (is : config_of (settings read) ≡ c) (still : (settings read).preserve_code_transform ≡ false) (removed : ModuleCustomSections (SectionEntry V O)) (gone : sections removed ≡ without_first (first_raw name (sections read.customs)) (sections read.customs)) where
    -- ---- there is no section of the name

    none_named : (o : Option (ℕ × SectionEntry V O)) → FoundRaw name 0 raws o → None ≡ option_and_then (λ e. raw_of e.1) o
        → (without_first o slots ≡ slots) × ((r : RawCustomSection) → Contains raws r → string_bytes r.name ≢ name)
    none_named None others none = (refl, others)
    none_named (Some e) one none =
        let no_such : None ≡ Some one.section = none ∙ ap (λ (x : ℕ × SectionEntry V O). raw_of x.1) one.is in absurd (cc)

    module _ (none : None ≡ option_and_then (λ e. raw_of e.1) (first_raw name (sections read.customs))) where
      abbrev passed : Module (SectionEntry V O)
      passed = record read { customs = removed }

      lacks : (without_first (first_raw name slots) slots ≡ slots) × ((r : RawCustomSection) → Contains raws r → string_bytes r.name ≢ name)
      lacks = none_named (first_raw name slots) (found V O name raws) (none ∙ ap (λ ss. option_and_then (λ (e : ℕ × SectionEntry V O). raw_of e.1) (first_raw name ss)) are)

      same_sections : sections removed ≡ slots
      same_sections = gone ∙ ap (λ ss. without_first (first_raw name ss) ss) are ∙ lacks.0

      same_view : view G passed ≡ view G read
      same_view = ap (λ ss. with_own (held_view read) (map custom_of (map (meaning G) (items ss))) (kept_by (map (meaning G) (items ss)))) (same_sections ∙ sym are)

      pub passed_ready : IsReady G passed
      passed_ready = record {
        made = subst (λ (d : Config). IsWellMade d (view G passed)) (sym is) (subst (λ (v : Abstract). IsWellMade c v) (sym same_view) read_well);
        reached = subst ReachedIsLive (sym same_view) read_live;
        quiet = none_refuses G passed raws same_sections;
        still = still;
      }

      pub passed_answers : (result : Result (Vec ℕ) Error) → Finishes (LeftOf (view G passed)) (config_of (settings passed)) result → AnswersKeepListed c bytes name result
      passed_answers result h =
          by_result passed None (subst (λ (cs : List Custom). HasNone name cs) (sym read_customs) (names_apart name raws lacks.1), same_view) (λ output finished. tt) result
          (subst (λ (d : Config). Finishes (LeftOf (view G passed)) d result) is h)

    -- ---- there is one

    record IsGone (s : RawCustomSection) (o : Option (ℕ × SectionEntry V O)) : Type 0 where
      before : List RawCustomSection
      after : List RawCustomSection
      first : IsFirstRaw name raws before s after
      left : without_first o slots ≡ raw_sections before ++ None ∷ raw_sections after

    one_gone : (s : RawCustomSection) (o : Option (ℕ × SectionEntry V O)) → FoundRaw name 0 raws o → Some s ≡ option_and_then (λ e. raw_of e.1) o → IsGone s o
    one_gone s None others one = absurd (cc)
    one_gone s (Some e) at one =
        let same : Some s ≡ Some at.section = one ∙ ap (λ (x : ℕ × SectionEntry V O). raw_of x.1) at.is in
        let is_s : s ≡ at.section = cc in
        record {
          before = at.before;
          after = at.after;
          first = subst (λ (x : RawCustomSection). IsFirstRaw name raws at.before x at.after) (sym is_s) at.first;
          left =
              ap (λ (x : ℕ × SectionEntry V O). without_first (Some x) slots) at.is
              ∙ ap (λ (n : ℕ). without_first (Some (n, Raw at.section)) slots) (let zero_more : 0 + length at.before ≡ length at.before = omega arith in zero_more)
              ∙ ap (λ (rs : List RawCustomSection). without_first (Some (length at.before, Raw at.section)) (raw_sections rs)) at.first.are
              ∙ gone_at at.before at.section at.after;
        }

    module _ (s : RawCustomSection) (one : Some s ≡ option_and_then (λ e. raw_of e.1) (first_raw name (sections read.customs))) where
      g : IsGone s (first_raw name slots)
      g = one_gone s (first_raw name slots) (found V O name raws) (one ∙ ap (λ ss. option_and_then (λ (e : ℕ × SectionEntry V O). raw_of e.1) (first_raw name ss)) are)

      parted : customs_of (g.before ++ s ∷ g.after) ≡ customs_of g.before ++ custom_of (raw_meaning s) ∷ customs_of g.after
      parted = ap (map custom_of) (map-append raw_meaning g.before (s ∷ g.after)) ∙ map-append custom_of (map raw_meaning g.before) (map raw_meaning (s ∷ g.after))

      first : HasFirst name (view G read).customs (customs_of g.before) s.data_.items (customs_of g.after)
      first = record {
        stand = read_customs ∙ ap customs_of g.first.are ∙ parted ∙ ap (λ (n : List ℕ). customs_of g.before ++ section_of n s.data_.items ∷ customs_of g.after) g.first.named;
        others = names_apart name g.before g.first.others;
      }

      -- ---- which functions it lists

      abbrev theirs : List (Option FunctionValue)
      theirs = functions read.funcs

      lists_in : (fs : List ℕ) → Lists (IsThere theirs) s.data_.items fs → ListsFunctions (view G read) s.data_.items fs
      lists_in fs lists = record { spelled = lists.spelled; there = λ f at. let both = lists.there f at in (both.0, still_some (function read.locals) (item_at theirs f) both.1) }

      lists_back : (fs : List ℕ) → ListsFunctions (view G read) s.data_.items fs → Lists (IsThere theirs) s.data_.items fs
      lists_back fs lists = record { spelled = lists.spelled; there = λ f at. let both = lists.there f at in (both.0, was_some (function read.locals) (item_at theirs f) both.1) }

      pub list_refused : (e : Error) → FindsListed theirs s.data_.items (Err e) → AnswersKeepListed c bytes name (Err e)
      list_refused (error.Memory memory) h = tt
      list_refused error.NotFound h =
          (view G read, parsed, record { before = customs_of g.before; bytes = s.data_.items; after = customs_of g.after; first = first; none = λ fs lists. h fs (lists_back fs lists) })
      list_refused _ h = absurd h

      -- ---- the section that keeps them

      module _ (fs : List ℕ) (lists : Lists (IsThere theirs) s.data_.items fs) (entry : SectionEntry V O) (means : meaning G entry ≡ listed_meaning (string_bytes s.name) fs) (added : ModuleCustomSections (SectionEntry V O)) (adds : sections added ≡ sections removed ++ Some entry ∷ []) where
        abbrev edited : Module (SectionEntry V O)
        edited = record read { customs = added }

        abbrev others : List Custom
        others = customs_of g.before ++ customs_of g.after

        edited_sections : sections added ≡ raw_sections g.before ++ None ∷ raw_sections g.after ++ Some entry ∷ []
        edited_sections = adds ∙ ap (λ ss. ss ++ Some entry ∷ []) (gone ∙ ap (λ ss. without_first (first_raw name ss) ss) are ∙ g.left)

        edited_means : meanings G edited ≡ map raw_meaning g.before ++ map raw_meaning g.after ++ listed_meaning name fs ∷ []
        edited_means =
            ap (λ ss. map (meaning G) (items ss)) edited_sections ∙ mean_left G entry g.before g.after
            ∙ ap (λ (m : Meaning). map raw_meaning g.before ++ map raw_meaning g.after ++ m ∷ []) (means ∙ ap (λ (n : List ℕ). listed_meaning n fs) g.first.named)

        customs_joined : map custom_of (map raw_meaning g.before ++ map raw_meaning g.after ++ listed_meaning name fs ∷ []) ≡ others ++ listing name fs ∷ []
        customs_joined =
            map-append custom_of (map raw_meaning g.before ++ map raw_meaning g.after) (listed_meaning name fs ∷ [])
            ∙ ap (λ (cs : List Custom). cs ++ listing name fs ∷ []) (map-append custom_of (map raw_meaning g.before) (map raw_meaning g.after))

        becomes : view G edited ≡ with_own (view G read) (others ++ listing name fs ∷ []) (map function_item fs)
        becomes =
            ap (λ (ms : List Meaning). with_own (held_view read) (map custom_of ms) (kept_by ms)) edited_means
            ∙ ap₂ (λ (cs : List Custom) (rs : List Item). with_own (held_view read) cs rs) customs_joined (keeps_functions g.before g.after name fs)

        asks : AsksToKeep name (view G read) (view G edited) fs
        asks = record { before = customs_of g.before; bytes = s.data_.items; after = customs_of g.after; first = first; lists = lists_in fs lists; becomes = becomes }

        -- ---- the module is ready

        abbrev IsFree : Custom → Type 0
        IsFree x = (x.name ≢ codes "name") × (x.name ≢ codes "producers")

        was_free : (x : Custom) → Contains (customs_of g.before ++ section_of name s.data_.items ∷ customs_of g.after) x → IsFree x
        was_free x at = read_well.customs x (subst (λ (cs : List Custom). Contains cs x) (sym first.stand) at)

        own_free : IsFree (section_of name s.data_.items)
        own_free = was_free (section_of name s.data_.items) (Contains-append_2 (section_of name s.data_.items) (customs_of g.before) (section_of name s.data_.items ∷ customs_of g.after) (Contains-head (section_of name s.data_.items) (customs_of g.after)))

        others_free : (x : Custom) → Contains others x → IsFree x
        others_free x at = ⊎_elim
            (λ in_before. was_free x (Contains-append_1 x (customs_of g.before) (section_of name s.data_.items ∷ customs_of g.after) in_before))
            (λ in_after. was_free x (Contains-append_2 x (customs_of g.before) (section_of name s.data_.items ∷ customs_of g.after) (Contains-tail (section_of name s.data_.items) x (customs_of g.after) in_after)))
            (Contains-split x (customs_of g.before) (customs_of g.after) at)

        all_free : (x : Custom) → Contains (others ++ listing name fs ∷ []) x → IsFree x
        all_free x at = ⊎_elim
            (λ before. others_free x before)
            (λ last. ⊎_elim (λ (same : listing name fs ≡ x). subst IsFree same own_free) (λ none. absurd (Contains-none x none)) (Contains-uncons (listing name fs) x [] last))
            (Contains-split x others (listing name fs ∷ []) at)

        roots_there : (x : Item) → Contains (map function_item fs) x → IsLive (view G read) x
        roots_there x at = let f = from_map function_item x fs at in subst (λ (y : Item). IsLive (view G read) y) f.2 ((lists_in fs lists).there f.0 f.1).1

        edited_live : ReachedIsLive (view G edited)
        edited_live = subst ReachedIsLive (sym becomes) (reached_there c bytes (view G read) parsed read_well (others ++ listing name fs ∷ []) (map function_item fs) roots_there all_free)

        never : OneMayRefuse (meanings G edited) → ⊥
        never one =
            let among : OneMayRefuse (map raw_meaning g.before ++ map raw_meaning g.after ++ listed_meaning name fs ∷ []) = subst OneMayRefuse edited_means one in
            let refuses_not : among.0.may_refuse ≡ false = ⊎_elim
            (λ raw. ⊎_elim (never_raw g.before among.0) (never_raw g.after among.0) (Contains-split among.0 (map raw_meaning g.before) (map raw_meaning g.after) raw))
            (λ last. ⊎_elim (λ (same : listed_meaning name fs ≡ among.0). subst (λ (m : Meaning). m.may_refuse ≡ false) same refl) (λ none. absurd (Contains-none among.0 none)) (Contains-uncons (listed_meaning name fs) among.0 [] last))
            (Contains-split among.0 (map raw_meaning g.before ++ map raw_meaning g.after) (listed_meaning name fs ∷ []) among.1) in
            let no_such : false ≡ true = sym refuses_not ∙ among.2 in cc

        pub edited_ready : IsReady G edited
        edited_ready = record {
          made = subst (λ (d : Config). IsWellMade d (view G edited)) (sym is)
              (subst (λ (v : Abstract). IsWellMade c v) (sym becomes) (listed_made c bytes (view G read) parsed read_well (others ++ listing name fs ∷ []) (map function_item fs) roots_there all_free));
          reached = edited_live;
          quiet = never;
          still = still;
        }

        pub edited_answers : (result : Result (Vec ℕ) Error) → Finishes (LeftOf (view G edited)) (config_of (settings edited)) result → AnswersKeepListed c bytes name result
        edited_answers result h =
            by_result edited (Some fs) asks
            (λ output finished. lists_again c name (view G edited) edited_live fs (ap (λ (v : Abstract). v.section_roots) becomes)
            (subst (λ (v : Abstract). Contains v.customs (listing name fs)) (sym becomes) (Contains-append_2 (listing name fs) others (listing name fs ∷ []) (Contains-head (listing name fs) [])))
            output finished) result
            (subst (λ (d : Config). Finishes (LeftOf (view G edited)) d result) is h)
