-- What was parsed, given a section of places, then written or refused: what the whole way comes to.
use Rattle.std.proofs.Common.{◌≡◌, ℕ, Bool, true, false, not, ◌||◌, List, [], ◌∷◌, ◌++◌, append-nil, map, Some, refl, sym, ap, ap₂, ◌∙◌, subst, inl, inr, ⊎_elim}
use Rattle.std.specs.Prelude.{Result, Ok, Err, ◌⊎◌}
use Rattle.std.specs.Global.{Vec}
use Rattle.std.proofs.lemmas.List.{map-append}
use Rattle.walrus.specs.Base.Arena.{items}
use Rattle.walrus.specs.Code.Transform.{Transform}
use Rattle.walrus.specs.Base.Operators.{Item}
use Rattle.walrus.specs.Model.Abstract.{Abstract, Custom}
use Rattle.walrus.specs.Model.Config.{Config}
use Rattle.walrus.specs.Model.Sections.{is_apart}
use Rattle.walrus.proofs.Base.Lists.{Contains-none, Contains-uncons}
use Rattle.walrus.proofs.Model.PipelineOps.{from_map}
use Rattle.walrus.specs.Theorem.Chain.{Leaves}
use Rattle.walrus.specs.Theorem.Edits.{GainsCustom}
use Rattle.walrus.specs.Theorem.Refused.{IsSayable, PassesLimits}
use Rattle.walrus.specs.Theorem.Sound.{IsFreeName}
use Rattle.walrus.specs.Theorem.WellMade.{IsWellMade}
use Rattle.walrus.proofs.Theorem.EditTops.{custom_gained}
use Rattle.walrus.proofs.Theorem.SameItems.{with_own}
use Rattle.walrus.proofs.Theorem.StepHandlers.{Contains-split}
use Rattle.walrus.proofs.Theorem.WellStays.{leaves_well}
use Rattle.walrus.proofs.Theorem.WritableParsed.{parsed_is_well}
use Rattle.walrus.specs.Items.Functions.{ModuleFunctions}
use Rattle.walrus.specs.Items.CustomSection.{Ghosts}
use Rattle.walrus.specs.Items.Error.{Error}
use Rattle.walrus.specs.Items.Error.TheVariants as error
use Rattle.walrus.specs.Items.RawCustomSection.{RawCustomSection}
use Rattle.walrus.specs.Modules.Transform.{IsTransformOf}
use Rattle.walrus.specs.Modules.Answered.{IsWellWritten, WritesUnless}
use Rattle.walrus.specs.Modules.Asked.{OneAskedMayRefuse, is_dylink_name, is_in_turn}
use Rattle.walrus.specs.Modules.Customs.{sections}
use Rattle.walrus.specs.Modules.Emitted.{told as answer}
use Rattle.walrus.specs.Modules.Flags.{Flags, config_of}
use Rattle.walrus.specs.Modules.Following.{EachComes, Follows, LeavesCustoms, MayFollow, OneMayRefuseThen}
use Rattle.walrus.specs.Modules.Left.{ChangesElements, LeavesBy, but_customs}
use Rattle.walrus.specs.Modules.Located.{IsPlace}
use Rattle.walrus.specs.Modules.Meaning.{Meaning, meaning, raw_meaning}
use Rattle.walrus.specs.Modules.Parsed.{AreLocated, IsParsed}
use Rattle.walrus.specs.Modules.Raws.{raw_sections}
use Rattle.walrus.specs.Modules.View.{custom_of, held_view, kept_by, locations_of, meant, view}
use Rattle.walrus.specs.Modules.ModuleCustomSections.{ModuleCustomSections}
use Rattle.walrus.specs.Modules.SectionEntry.{SectionEntry}
use Rattle.walrus.specs.Modules.Module.{Module}
use Rattle.walrus.proofs.Modules.EditedCustoms.{custom_added}
use Rattle.walrus.proofs.Modules.EditedSlots.{items_added}
use Rattle.walrus.proofs.Modules.KeptRaw.{raw_means}
use Rattle.walrus.proofs.Modules.OwnSections.{leaves_on}
use Rattle.walrus.specs.Places.{pairs_state, moved_by, last_place}
use Rattle.walrus.specs.PlacesLaws.{state_bytes}
use Rattle.walrus.proofs.StateLemmas.{writes_by_state}
use Rattle.walrus.proofs.FreeNames.{no_debug, own_name}
use Rattle.walrus_examples.proofs.MetadataEnds.{section_stands}
use Rattle.walrus_examples.proofs.PlacedSlots.{Behind, SaysPlaces, TypeSaysPlaces, as_custom, behind, it_says, of_its_kind}
use Rattle.walrus.specs.Ends.{LeavesWritten}
use Rattle.walrus_examples.specs.Metadata.{GainsSection, with_section}
use Rattle.walrus_examples.specs.PlacesSection.{CarriesPlaces, IsWithPlaces, carried, given}
use Rattle.walrus.proofs.Modules.FollowedSlots.{by_turn as state_of}
use Rattle.walrus.proofs.Modules.WrittenSections.{one_name as name_of}

-- ---- the name

in_second_turn : (name : List ℕ) → is_apart name ≡ false → is_dylink_name name ≡ false → is_in_turn false name ≡ true
in_second_turn name free own = ap₂ (λ (a b : Bool). not (a || b)) own (no_debug name free)

may_name : (x : Transform) (s t : Meaning) → MayFollow x s t → t.name ≡ s.name
may_name x s t (inl h) = name_of x s t (is_in_turn false s.name) h
may_name x s t (inr h) = ap (λ (m : Meaning). m.name) h

-- ---- raw sections and one that says places

never_refuses : (raws : List RawCustomSection) (m : Meaning) → m.may_refuse ≡ false → OneAskedMayRefuse (map raw_meaning raws ++ m ∷ []) → ⊥
never_refuses raws m quiet one =
    let refuses_not : one.0.may_refuse ≡ false = ⊎_elim
    (λ raw. let r = from_map raw_meaning one.0 raws raw in subst (λ (s : Meaning). s.may_refuse ≡ false) r.2 refl)
    (λ last. ⊎_elim (λ (same : m ≡ one.0). subst (λ (s : Meaning). s.may_refuse ≡ false) same quiet) (λ none. absurd (Contains-none one.0 none)) (Contains-uncons m one.0 [] last))
    (Contains-split one.0 (map raw_meaning raws) (m ∷ []) one.1) in
    absurd (let no_such : false ≡ true = sym refuses_not ∙ one.3 in cc)

module _ {V : Type 0} {O : V → Type 0} (G : (v : V) → Ghosts (O v)) (c : Config) (bytes name : List ℕ) (free : is_apart name ≡ false) (own : is_dylink_name name ≡ false)
    (read : Module (SectionEntry V O)) (parsed : IsParsed c bytes (view G read)) (raws : List RawCustomSection) (are : sections read.customs ≡ raw_sections raws) where
  abbrev pub holding : ModuleCustomSections (SectionEntry V O) → Module (SectionEntry V O)
  holding customs = record read { customs = customs }

  -- ---- what was read, with such a section behind the others

  module _ (k : ModuleCustomSections (SectionEntry V O)) (entry : SectionEntry V O) (stand : sections k ≡ raw_sections raws ++ Some entry ∷ []) (says : SaysPlaces (meaning G entry)) (named : (meaning G entry).name ≡ name) where
    gain : GainsCustom (custom_of (meaning G entry)) (kept_by (meaning G entry ∷ [])) (view G read) (view G (holding k))
    gain = custom_added G read (holding k) entry refl (stand ∙ ap (λ xs. xs ++ Some entry ∷ []) (sym are))

    abbrev payload : List ℕ
    payload = state_bytes (meaning G entry).state

    no_roots : kept_by (meaning G entry ∷ []) ≡ []
    no_roots = ap (λ (rs : List Item). kept_by (record (meaning G entry) { roots = rs } ∷ [])) says.keeps_none

    pub holds : view G (holding k) ≡ with_section name payload (view G read)
    holds =
        gain.others
        ∙ ap₂ (λ (cs : List Custom) (rs : List Item). with_own (held_view read) cs rs) (gain.customs ∙ ap (λ (s : Custom). (view G read).customs ++ s ∷ []) (as_custom (meaning G entry) name says named))
        (gain.roots_left ∙ ap (λ (rs : List Item). (view G read).section_roots ++ rs) no_roots ∙ append-nil (view G read).section_roots)

    pub well : IsWellMade c (view G (holding k))
    well = (custom_gained c (view G read) (view G (holding k)) (custom_of (meaning G entry)) (kept_by (meaning G entry ∷ [])) gain (parsed_is_well c bytes parsed.module_read (view G read) parsed.reads parsed.holds parsed.parsed) (subst IsFreeName (sym named) (own_name name free))).made

    pub never : OneAskedMayRefuse (meant G k) → ⊥
    never one = never_refuses raws (meaning G entry) says.quiet
        (subst OneAskedMayRefuse (ap (λ ss. map (meaning G) (items ss)) stand ∙ ap (map (meaning G)) (items_added (raw_sections raws) entry) ∙ map-append (meaning G) (items (raw_sections raws)) (entry ∷ []) ∙ ap (λ (ms : List Meaning). ms ++ meaning G entry ∷ []) (raw_means G raws)) one)

    -- what is left of it is well made, and has the section
    module _ (u : Abstract) (leaves : Leaves (view G (holding k)) u) where
      pub left : Leaves (with_section name payload (view G read)) u
      left = subst (λ (v : Abstract). Leaves v u) holds leaves

      pub sayable : IsSayable u
      sayable = (leaves_well c (view G (holding k)) u well leaves).0.customs

  -- ---- what emission answers of it

  module _ (k : ModuleCustomSections (SectionEntry V O)) (entry : SectionEntry V O) (adds : sections k ≡ sections read.customs ++ Some entry ∷ []) (typed : TypeSaysPlaces G entry) (named : (meaning G entry).name ≡ name)
      (pairs : List (ℕ × ℕ)) (after : (x : Transform) → (meaning G entry).state_after x ≡ pairs_state (map (moved_by (last_place x.instruction_map)) (given pairs)))
      (located : AreLocated IsPlace bytes read.funcs) (left_module : Module (SectionEntry V O)) (others : ChangesElements (holding k) (but_customs (holding k) left_module)) where
    stood : sections k ≡ raw_sections raws ++ Some entry ∷ []
    stood = adds ∙ ap (λ xs. xs ++ Some entry ∷ []) are

    -- the sections as they are left
    abbrev now : ModuleCustomSections (SectionEntry V O)
    now = left_module.customs

    followed : (R : Meaning → Meaning → Type 0) → EachComes G R (sections k) (sections now) → Behind G R raws entry (sections now)
    followed R each = let as_raw = subst (λ ss. EachComes G R ss (sections now)) stood each in behind G R raws entry (sections now) as_raw.places as_raw.comes

    -- the module as it is left is what the declared segment leaves of what was read with these
    leaves_now : Leaves (view G (holding k)) (view G (but_customs (holding k) left_module)) → Leaves (view G (holding now)) (view G left_module)
    leaves_now leaves = leaves_on (view G (holding k)) (view G (but_customs (holding k) left_module)) (view G (holding now)).customs (view G (holding now)).section_roots leaves

    same_funcs : left_module.funcs ≡ read.funcs
    same_funcs = ap (λ (m : Module (SectionEntry V O)). m.funcs) others

    -- it is written
    module _ (x : Transform) (b : Behind G (Follows x) raws entry (sections now)) (output : List ℕ) (leaves : Leaves (view G (holding k)) (view G (but_customs (holding k) left_module))) (written : IsWellWritten c (view G left_module) output)
        (told : IsSayable (view G left_module) → IsTransformOf c true (locations_of left_module) (view G left_module) output x) where
      says : SaysPlaces (meaning G b.entry)
      says = it_says G b.entry (of_its_kind G entry b.entry typed b.kind)

      named_now : (meaning G b.entry).name ≡ name
      named_now = name_of x (meaning G entry) (meaning G b.entry) (is_in_turn false (meaning G entry).name) b.comes ∙ named

      turn : is_in_turn false (meaning G entry).name ≡ true
      turn = ap (is_in_turn false) named ∙ in_second_turn name free own

      payload_is : state_bytes (meaning G b.entry).state ≡ carried x pairs
      payload_is =
          ap state_bytes (state_of x (meaning G entry) (meaning G b.entry) (is_in_turn false (meaning G entry).name) turn b.comes ∙ after x)
          ∙ sym (writes_by_state (map (moved_by (last_place x.instruction_map)) (given pairs)))

      leaves_so : Leaves (view G (holding now)) (view G left_module)
      leaves_so = leaves_now leaves

      abbrev gains : LeavesWritten (GainsSection c bytes name (carried x pairs)) c output
      gains = record {
        module_left = view G left_module;
        left = record {
          module_parsed = view G read;
          parsed = parsed;
          left = subst (λ (p : List ℕ). Leaves (with_section name p (view G read)) (view G left_module)) payload_is (left now b.entry b.are says named_now (view G left_module) leaves_so);
        };
        written = written;
      }

      placed : IsWithPlaces c bytes name pairs output
      placed = record {
        funcs = read.funcs;
        located = located;
        transform = x;
        gains = gains;
        told = subst (λ (funcs : ModuleFunctions). IsTransformOf c true (λ number. locations_of (record left_module { funcs = funcs }) number) (view G left_module) output x) same_funcs (told (sayable now b.entry b.are says named_now (view G left_module) leaves_so));
        stands = section_stands c bytes name (carried x pairs) free output gains;
      }

    -- one of its type and name stands behind the raw ones, whether it followed or not
    record Last : Type 0 where
      last : SectionEntry V O
      stands_last : sections now ≡ raw_sections raws ++ Some last ∷ []
      says_last : SaysPlaces (meaning G last)
      named_last : (meaning G last).name ≡ name

    last_of : (Told : Transform → Type 0) → (now ≡ k) ⊎ ((x : Transform) × (Told x × EachComes G (MayFollow x) (sections k) (sections now))) → Last
    last_of Told (inl same) = record { last = entry; stands_last = ap sections same ∙ stood; says_last = it_says G entry typed; named_last = named }
    last_of Told (inr (x, (is, each))) =
        let b = followed (MayFollow x) each in
        record {
          last = b.entry;
          stands_last = b.are;
          says_last = it_says G b.entry (of_its_kind G entry b.entry typed b.kind);
          named_last = may_name x (meaning G entry) (meaning G b.entry) b.comes ∙ named;
        }

    quiet_then : Last → OneMayRefuseThen G k now → ⊥
    quiet_then l h = ⊎_elim (never k entry stood (it_says G entry typed) named) (never now l.last l.stands_last l.says_last l.named_last) h

    module _ (Told : Transform → Type 0) where
      abbrev Leaves_customs : Result (Vec ℕ) Error → Type 0
      Leaves_customs result =
          LeavesCustoms G true (λ (r : Vec ℕ) (x : Transform). IsSayable (view G left_module) → IsTransformOf c true (locations_of left_module) (view G left_module) r.items x) Told k now result

      by_result : (result : Result (Vec ℕ) Error) → LeavesBy (view G (holding k)) (view G (but_customs (holding k) left_module)) (answer result) → Leaves_customs result
          → WritesUnless (PassesLimits c (view G left_module)) (OneMayRefuseThen G k now) (λ (b : Vec ℕ). IsWellWritten c (view G left_module) b.items) (answer result) → CarriesPlaces c bytes name pairs result
      by_result (Ok out) leaves (x, (is, each)) h = placed x (followed (Follows x) each) out.items leaves h is
      by_result (Err (error.Memory e)) leaves customs h = tt
      by_result (Err error.TooLarge) leaves customs h =
          let l = last_of Told customs in
          let stays : Leaves (with_section name (payload now l.last l.stands_last l.says_last l.named_last) (view G read)) (view G left_module) =
          left now l.last l.stands_last l.says_last l.named_last (view G left_module) (leaves_now leaves) in
          (state_bytes (meaning G l.last).state, record { module_left = view G left_module; left = record { module_parsed = view G read; parsed = parsed; left = stays }; too_large = h })
      by_result (Err (error.Caller text)) leaves customs h = absurd (quiet_then (last_of Told customs) h)
      by_result (Err _) leaves customs h = absurd h

    -- as emission says it of the flags that the module has
    pub answers : (f : Flags) (Told : Transform → Type 0) → config_of f ≡ c → f.preserve_code_transform ≡ true → (result : Result (Vec ℕ) Error)
        → LeavesBy (view G (holding k)) (view G (but_customs (holding k) left_module)) (answer result)
        → LeavesCustoms G f.preserve_code_transform (λ (r : Vec ℕ) (x : Transform). IsSayable (view G left_module) → IsTransformOf (config_of f) true (locations_of left_module) (view G left_module) r.items x) Told k now result
        → (IsWellMade (config_of f) (view G (holding k)) → WritesUnless (PassesLimits (config_of f) (view G left_module)) (OneMayRefuseThen G k now) (λ (b : Vec ℕ). IsWellWritten (config_of f) (view G left_module) b.items) (answer result))
        → CarriesPlaces c bytes name pairs result
    answers f Told is on result leaves customs writes =
        by_result Told result leaves
        (subst (λ (b : Bool). LeavesCustoms G b (λ (r : Vec ℕ) (x : Transform). IsSayable (view G left_module) → IsTransformOf c true (locations_of left_module) (view G left_module) r.items x) Told k now result) on
        (subst (λ (d : Config). LeavesCustoms G f.preserve_code_transform (λ (r : Vec ℕ) (x : Transform). IsSayable (view G left_module) → IsTransformOf d true (locations_of left_module) (view G left_module) r.items x) Told k now result) is customs))
        (subst (λ (d : Config). IsWellMade d (view G (holding k)) → WritesUnless (PassesLimits d (view G left_module)) (OneMayRefuseThen G k now) (λ (b : Vec ℕ). IsWellWritten d (view G left_module) b.items) (answer result)) is writes
        (well k entry stood (it_says G entry typed) named))
