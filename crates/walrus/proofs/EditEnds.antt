-- What was parsed, edited, collected, then written or refused: what the whole way comes to.
use Rattle.std.proofs.Common.{◌≡◌, ℕ, List, [], false, refl, sym, ap, ◌∙◌, subst}
use Rattle.std.specs.Prelude.{Contains, map, Result, Err, ⊤}
use Rattle.std.specs.Global.{Vec}
use Rattle.walrus_base.specs.Arena.{items}
use Rattle.walrus_base.specs.Operators.{Item}
use Rattle.walrus_model.specs.Abstract.{Abstract, Custom}
use Rattle.walrus_model.specs.Config.{Config}
use Rattle.walrus_model.specs.Pipeline.{ReachedIsLive}
use Rattle.walrus_base.proofs.Lists.{Contains-none}
use Rattle.walrus_theorem.specs.EditLaws.{StaysWhole}
use Rattle.walrus_theorem.specs.WellMade.{IsWellMade}
use Rattle.walrus_theorem.proofs.EditTops.{customs_stay}
use Rattle.walrus_theorem.proofs.SameItems.{with_own}
use Rattle.walrus_theorem.proofs.StepParsed.{live_v}
use Rattle.walrus_theorem.proofs.StepRead.{read_is_plain}
use Rattle.walrus_theorem.proofs.WritableParsed.{parsed_is_well}
use Rattle.walrus_items.specs.Errors.{out_of_memory}
use Rattle.walrus_items.specs.declared.custom.CustomSection.{Ghosts}
use Rattle.walrus_items.specs.declared.error.Error.{Error}
use Rattle.walrus_items.specs.declared.error.ErrorKind.{ErrorKind}
use Rattle.walrus_items.specs.declared.error.Error.TheVariants as error
use Rattle.walrus_items.specs.declared.raw_section.RawCustomSection.{RawCustomSection}
use Rattle.walrus_contents.specs.declared.parts.Contents.{Contents}
use Rattle.walrus_module.specs.Customs.{sections}
use Rattle.walrus_module.specs.Flags.{Flags, config_of}
use Rattle.walrus_module.specs.Meaning.{meaning}
use Rattle.walrus_module.specs.Parsed.{IsParsed}
use Rattle.walrus_module.specs.Raws.{raw_sections}
use Rattle.walrus_module.specs.Settings.{settings}
use Rattle.walrus_module.specs.View.{contents_of, custom_of, held_view, kept_by, view}
use Rattle.walrus_module.specs.declared.customs.ModuleCustomSections.{ModuleCustomSections}
use Rattle.walrus_module.specs.declared.entry.SectionEntry.{SectionEntry}
use Rattle.walrus_module.specs.declared.module.Module.{Module}
use Rattle.walrus_module.proofs.KeptRaw.{none_refuses}
use Rattle.walrus.specs.Edits.{AnswersEdited, EditsTo, IsWhole, RefusesEdit, with_customs}
use Rattle.walrus.specs.Ends.{Finishes, LeftOf}
use Rattle.walrus.specs.Ready.{FinishesReady, IsReady}
use Rattle.walrus.proofs.FinishLemmas.{answered}

-- where memory ran out nothing is asked
pub memory_refused : (Edits : Contents → Contents → Type 0) (Refuses : Contents → Error → Type 0) (c : Config) (bytes : List ℕ) (e : Error) → e ≡ out_of_memory → AnswersEdited Edits Refuses c bytes (Err e)
memory_refused Edits Refuses c bytes e is = subst (λ (x : Error). AnswersEdited Edits Refuses c bytes (Err x)) (sym is) tt

module _ {V : Type 0} {O : V → Type 0} (G : (v : V) → Ghosts (O v)) (Edits : Contents → Contents → Type 0) (Refuses : Contents → Error → Type 0) (c : Config) (bytes : List ℕ) where
  -- ---- what was parsed is whole, and stays so

  module _ (read : Module (SectionEntry V O)) (parsed : IsParsed c bytes (view G read)) where
    read_well : IsWellMade c (view G read)
    read_well = parsed_is_well c bytes parsed.module_read (view G read) parsed.reads parsed.holds parsed.parsed

    aside : StaysWhole c (view G read) (held_view read) ⊤
    aside = customs_stay c (view G read) (held_view read) read_well refl (λ s at. absurd (Contains-none s at)) (λ x at asked. absurd (Contains-none x at))

    pub parsed_whole : IsWhole c read
    parsed_whole = record {
      made = aside.made;
      reached = aside.reached tt (live_v c parsed.module_read (view G read) parsed.parsed (read_is_plain c bytes parsed.module_read parsed.reads) parsed.holds);
    }

    pub plain_read : view G read ≡ with_customs (view G read).customs (contents_of read)
    plain_read = ap (λ (rs : List Item). with_own (held_view read) (view G read).customs rs) parsed.parsed.section_roots

    -- the edit is refused: not as bytes are, and not for its size
    pub edit_refused : ((k : ErrorKind) → Refuses (contents_of read) (error.InvalidWasm k) → ⊥) → (Refuses (contents_of read) error.TooLarge → ⊥) → (e : Error) → Refuses (contents_of read) e → AnswersEdited Edits Refuses c bytes (Err e)
    edit_refused valid small (error.Memory m) h = tt
    edit_refused valid small (error.InvalidWasm k) h = absurd (valid k h)
    edit_refused valid small error.TooLarge h = absurd (small h)
    edit_refused valid small e h = record { customs = (view G read).customs; module_parsed = contents_of read; parsed = subst (λ (v : Abstract). IsParsed c bytes v) plain_read parsed; refuses = h }

    module _ (edited : Module (SectionEntry V O)) (edits : Edits (contents_of read) (contents_of edited)) (own : edited.customs ≡ read.customs) (whole : IsWhole c edited) where
      same_customs : (view G edited).customs ≡ (view G read).customs
      same_customs = ap (λ (cs : ModuleCustomSections (SectionEntry V O)). map custom_of (map (meaning G) (items (sections cs)))) own

      same_roots : (view G edited).section_roots ≡ []
      same_roots = ap (λ (cs : ModuleCustomSections (SectionEntry V O)). kept_by (map (meaning G) (items (sections cs)))) own ∙ parsed.parsed.section_roots

      pub plain_edited : view G edited ≡ with_customs (view G read).customs (contents_of edited)
      plain_edited = ap (λ (rs : List Item). with_own (held_view edited) (view G edited).customs rs) same_roots ∙ ap (λ (cs : List Custom). with_customs cs (contents_of edited)) same_customs

      back : StaysWhole c (held_view edited) (view G edited) ⊤
      back = customs_stay c (held_view edited) (view G edited) whole.made refl
          (λ s at. read_well.customs s (subst (λ (cs : List Custom). Contains cs s) same_customs at))
          (λ x at asked. absurd (Contains-none x (subst (λ (xs : List Item). Contains xs x) same_roots at)))

      pub edited_well : IsWellMade c (view G edited)
      edited_well = back.made

      pub edited_live : ReachedIsLive (view G edited)
      edited_live = back.reached tt whole.reached

      -- what is left of it is what the edit comes to
      abbrev pub edited_to : (u : Abstract) → LeftOf (view G edited) u → EditsTo Edits c bytes u
      edited_to u left = record {
        customs = (view G read).customs;
        module_parsed = contents_of read;
        parsed = subst (λ (v : Abstract). IsParsed c bytes v) plain_read parsed;
        module_edited = contents_of edited;
        edits = edits;
        made = subst (λ (v : Abstract). IsWellMade c v) plain_edited edited_well;
        left = subst (λ (v : Abstract). LeftOf v u) plain_edited left;
      }

      module _ (raws : List RawCustomSection) (are : sections read.customs ≡ raw_sections raws) where
        still_raw : sections edited.customs ≡ raw_sections raws
        still_raw = ap (λ (cs : ModuleCustomSections (SectionEntry V O)). sections cs) own ∙ are

        -- what gc and emission come to, of a module that is ready for them
        module _ (f : Flags) (same : settings edited ≡ f) (is : config_of f ≡ c) (plain : f.preserve_code_transform ≡ false) where
          pub ready : IsReady G edited
          ready = record {
            made = subst (λ (d : Config). IsWellMade d (view G edited)) (sym (ap config_of same ∙ is)) edited_well;
            reached = edited_live;
            quiet = none_refuses G edited raws still_raw;
            still = ap (λ (g : Flags). g.preserve_code_transform) same ∙ plain;
          }

          pub edit_finishes : (result : Result (Vec ℕ) Error) → FinishesReady G edited result → AnswersEdited Edits Refuses c bytes result
          edit_finishes result finishes =
              answered (LeftOf (view G edited)) (EditsTo Edits c bytes) c bytes (RefusesEdit Refuses c bytes) edited_to result
              (subst (λ (d : Config). Finishes (LeftOf (view G edited)) d result) (ap config_of same ∙ is) (finishes ready))
