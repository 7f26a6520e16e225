-- What was parsed, given a raw section more, then written or refused: what the whole way comes to.
use Rattle.std.proofs.Common.{◌≡◌, ℕ, false, List, [], ◌∷◌, ◌++◌, append-nil, Some, refl, sym, ap, ap₂, ◌∙◌, subst}
use Rattle.std.specs.Prelude.{Contains, Result, Ok, Err}
use Rattle.std.specs.Global.{Vec}
use Rattle.std.specs.String.{string_bytes}
use Rattle.std.proofs.lemmas.List.{map-append}
use Rattle.walrus.specs.Model.Abstract.{Abstract, Custom}
use Rattle.walrus.specs.Model.Config.{Config}
use Rattle.walrus.specs.Model.Sections.{is_apart}
use Rattle.walrus.proofs.Base.Lists.{Contains-append_2, Contains-head}
use Rattle.walrus.specs.Theorem.Chain.{Leaves}
use Rattle.walrus.specs.Theorem.Edits.{GainsCustom}
use Rattle.walrus.specs.Theorem.Refused.{PassesLimits}
use Rattle.walrus.specs.Theorem.Sound.{IsFreeName}
use Rattle.walrus.specs.Theorem.WellMade.{IsWellMade}
use Rattle.walrus.proofs.Theorem.EditTops.{custom_gained}
use Rattle.walrus.proofs.Theorem.SameItems.{with_own}
use Rattle.walrus.proofs.Theorem.StepLeaves.{between}
use Rattle.walrus.proofs.Theorem.WritableParsed.{parsed_is_well}
use Rattle.walrus.specs.Items.CustomSection.{Ghosts}
use Rattle.walrus.specs.Items.Error.{Error}
use Rattle.walrus.specs.Items.Error.TheVariants as error
use Rattle.walrus.specs.Items.RawCustomSection.{RawCustomSection}
use Rattle.walrus.specs.Modules.Answered.{IsWellWritten, WritesUnless}
use Rattle.walrus.specs.Modules.Asked.{OneAskedMayRefuse}
use Rattle.walrus.specs.Modules.Customs.{sections}
use Rattle.walrus.specs.Modules.Emitted.{told}
use Rattle.walrus.specs.Modules.Flags.{Flags, config_of}
use Rattle.walrus.specs.Modules.Following.{AreRaw, OneMayRefuseThen}
use Rattle.walrus.specs.Modules.Left.{LeavesBy, but_customs}
use Rattle.walrus.specs.Modules.Parsed.{IsParsed}
use Rattle.walrus.specs.Modules.Raws.{raw_sections}
use Rattle.walrus.specs.Modules.View.{held_view, meanings, view}
use Rattle.walrus.specs.Modules.ModuleCustomSections.{ModuleCustomSections}
use Rattle.walrus.specs.Modules.SectionEntry.{SectionEntry}
use Rattle.walrus.specs.Modules.SectionEntry.TheVariants.{Raw}
use Rattle.walrus.specs.Modules.Module.{Module}
use Rattle.walrus.proofs.Modules.EditedCustoms.{custom_added}
use Rattle.walrus.proofs.Modules.KeptRaw.{none_asked_refuses}
use Rattle.walrus.proofs.Modules.RawStays.{all_raw}
use Rattle.walrus.proofs.FinishLemmas.{emitted}
use Rattle.walrus.proofs.FreeNames.{no_debug, own_name}
use Rattle.walrus_examples.proofs.SectionsWritten.{is_written}
use Rattle.walrus.specs.Ends.{Finishes, LeavesWritten}
use Rattle.walrus_examples.specs.Metadata.{CarriesMetadata, GainsSection, section_of, with_section}

-- what is left of a module with such a section has it, and so has what is written
module _ (c : Config) (bytes name payload : List ℕ) (free : is_apart name ≡ false) where
  has_section : (u : Abstract) → GainsSection c bytes name payload u → Contains u.customs (section_of name payload)
  has_section u g =
      let same : u.customs ≡ g.module_parsed.customs ++ section_of name payload ∷ [] = ap (λ (x : Abstract). x.customs) (between (with_section name payload g.module_parsed) u g.left).same in
      subst (λ (cs : List Custom). Contains cs (section_of name payload)) (sym same)
      (Contains-append_2 (section_of name payload) g.module_parsed.customs (section_of name payload ∷ []) (Contains-head (section_of name payload) []))

  pub section_stands : (output : List ℕ) (h : LeavesWritten (GainsSection c bytes name payload) c output) → Contains h.written.module_written.customs (section_of name payload)
  section_stands output h =
      let w = h.written.written.written in
      subst (λ (cs : List Custom). Contains cs (section_of name payload)) (sym w.customs) (is_written w.indices h.module_left.customs name payload (has_section h.module_left h.left) (no_debug name free))

-- ---- the module with the section

module _ {V : Type 0} {O : V → Type 0} (G : (v : V) → Ghosts (O v)) (m : Module (SectionEntry V O)) (k : ModuleCustomSections (SectionEntry V O)) (raws : List RawCustomSection) (s : RawCustomSection)
    (are : sections m.customs ≡ raw_sections raws) (adds : sections k ≡ sections m.customs ++ Some (Raw s) ∷ []) where
  abbrev gained : Module (SectionEntry V O)
  gained = record m { customs = k }

  are_more : sections gained.customs ≡ raw_sections (raws ++ s ∷ [])
  are_more = adds ∙ ap (λ xs. xs ++ Some (Raw s) ∷ []) are ∙ sym (map-append (λ (r : RawCustomSection). Some (Raw r)) raws (s ∷ []))

  gain : GainsCustom (section_of (string_bytes s.name) s.data_.items) [] (view G m) (view G gained)
  gain = custom_added G m gained (Raw s) refl adds

  -- the module with it is what was read with the section behind
  same_view : view G gained ≡ with_section (string_bytes s.name) s.data_.items (view G m)
  same_view =
      gain.others
      ∙ ap (λ (cs : List Custom). with_own (held_view m) cs (view G gained).section_roots) gain.customs
      ∙ ap (with_own (held_view m) ((view G m).customs ++ section_of (string_bytes s.name) s.data_.items ∷ [])) (gain.roots_left ∙ append-nil (view G m).section_roots)

  module _ (c : Config) (bytes name payload : List ℕ) (free : is_apart name ≡ false) (named : string_bytes s.name ≡ name) (holds : s.data_.items ≡ payload) (parsed : IsParsed c bytes (view G m)) where
    gained_is : view G gained ≡ with_section name payload (view G m)
    gained_is = same_view ∙ ap₂ (λ (n p : List ℕ). with_section n p (view G m)) named holds

    gained_well : IsWellMade c (view G gained)
    gained_well = (custom_gained c (view G m) (view G gained) (section_of (string_bytes s.name) s.data_.items) [] gain (parsed_is_well c bytes parsed.module_read (view G m) parsed.reads parsed.holds parsed.parsed) (subst IsFreeName (sym named) (own_name name free))).made

    never : OneAskedMayRefuse (meanings G gained) → ⊥
    never = none_asked_refuses G gained (raws ++ s ∷ []) are_more

    gains : (u : Abstract) → Leaves (view G gained) u → GainsSection c bytes name payload u
    gains u left = record { module_parsed = view G m; parsed = parsed; left = subst (λ (v : Abstract). Leaves v u) gained_is left }

    carries : (result : Result (Vec ℕ) Error) → Finishes (GainsSection c bytes name payload) c result → CarriesMetadata c bytes name payload result
    carries (Ok x) h = record { gains = h; stands = section_stands c bytes name payload free x.items h; free = free }
    carries (Err (error.Memory e)) h = tt
    carries (Err error.TooLarge) h = h
    carries (Err _) h = absurd h

    -- what emission says of the module is what the way comes to
    pub answered_whole : (left : Module (SectionEntry V O)) → (AreRaw (sections k) → left.customs ≡ k) → (f : Flags) → config_of f ≡ c → (result : Result (Vec ℕ) Error) → LeavesBy (view G gained) (view G (but_customs gained left)) (told result)
        → (IsWellMade (config_of f) (view G gained) → WritesUnless (PassesLimits (config_of f) (view G left)) (OneMayRefuseThen G k left.customs) (λ (b : Vec ℕ). IsWellWritten (config_of f) (view G left) b.items) (told result))
        → CarriesMetadata c bytes name payload result
    answered_whole left raw f is result leaves writes =
        carries result (emitted G (GainsSection c bytes name payload) gained left (raw (all_raw k (raws ++ s ∷ []) are_more)) never gains c gained_well f is result leaves writes)
