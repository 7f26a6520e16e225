-- Parts that name nothing dead and leave nothing undeclared: what they are written as, and how that fits.
use Rattle.std.proofs.Common.{◌≡◌, ℕ, List, [], map, refl, sym, ap, subst}
use Rattle.std.specs.Prelude.{All, IfOk, Result, Ok, Err}
use Rattle.std.specs.Str.{IsUtf8}
use Rattle.wasm_frames.specs.Record as wire
use Rattle.wasm_frames.specs.Frames.{gathered}
use Rattle.walrus_base.specs.Operators.{Item}
use Rattle.walrus_code.specs.Names.{Lookup}
use Rattle.walrus_model.specs.Abstract.{Abstract, Custom}
use Rattle.walrus_model.specs.Customs.{written_customs}
use Rattle.walrus_model.specs.Sections.{custom_of}
use Rattle.walrus_theorem.specs.Text.{sections_of}
use Rattle.walrus_contents.specs.View.{parts_view}
use Rattle.walrus_contents.specs.declared.parts.Parts.{Parts}
use Rattle.walrus_model.specs.Config.{Config}
use Rattle.walrus_model.specs.Dead.{HasDead}
use Rattle.walrus_model.specs.Declared.{NothingUndeclared}
use Rattle.walrus_items.specs.declared.error.Error.{Error}
use Rattle.walrus_theorem.specs.Refused.{IsSayable, PassesLimits, Unfit, WritesUnfit}
use Rattle.walrus_theorem.proofs.FitsLimits.{fits_no_limit}
use Rattle.walrus_writing.specs.declared.write.Choices.{Choices}
use Rattle.walrus_writing.specs.Emitted.{IsEmitted, IsWrittenWith}
use Rattle.walrus_writing.specs.Records.{DoesNotFit, Spells, customs_written, names_written}
use Rattle.walrus_writing.specs.Customs.{Task, task}
use Rattle.walrus_writing.proofs.Emitted.{choices_of, chosen_so, emitted, say_so, spelling, text_said, unfit_of, written}
use Rattle.walrus_writing.proofs.NoCauseAll.{none_unspelled}
use Rattle.walrus_writing.proofs.OwnCustoms.{CustomText, only_made, only_so, sayable_by}
use Rattle.walrus_writing.proofs.Placed.{fits_without, text_fits}
use Rattle.walrus_theorem.proofs.SameItems.{dead_back, limits_back, unspelled_back, with_own}
use Rattle.walrus_writing.proofs.WithCustoms.{module_with, text_with}
use Rattle.walrus_writing.proofs.WrittenLemmas.{written_as_said}

module _ (c : Config) (p : Parts) (lives : HasDead (parts_view p) → ⊥) (declared : NothingUndeclared (parts_view p)) (own : List Custom) (roots : List Item) (names : Lookup) (sections : List wire.Custom) (asked : map custom_of sections ≡ written_customs (λ x. names x.0 x.1) own) (texts : All (λ (x : wire.Custom). IsUtf8 x.name) sections) where
  abbrev V : Abstract
  V = parts_view p

  abbrev W : Abstract
  W = with_own V own roots

  all_there : HasDead W → ⊥
  all_there dead = lives (dead_back V own roots dead)

  -- what doesn't fit passes a limit
  pub unfit : (choices : Choices) → IsWrittenWith c choices → DoesNotFit p (task choices names sections) → IsSayable W → PassesLimits c W
  unfit choices with d sayable = Unfit all_there (unfit_of c p (task choices names sections) with declared own roots asked texts d sayable)

  module _ (with : IsWrittenWith c (choices_of c)) (bytes : List ℕ) (s : Spells p (task (choices_of c) names sections) bytes) where
    abbrev job : Task
    job = task (choices_of c) names sections

    -- what a module of indices can say passes none
    said : IsSayable W → PassesLimits c W → ⊥
    said sayable =
        let e : CustomText = text_said c p job with declared own roots asked texts s.records sayable in
        let say = say_so c p job with declared own roots asked texts s.records sayable in
        fits_no_limit c W (module_with s.records e) (text_with s.records e) all_there
        (λ cause. none_unspelled c p s.records (unspelled_back V own roots c cause))
        (written c p job with declared own roots asked texts s.records s.names_are sayable) (spelling p job s.records e say) (text_fits s.records job (names_written s.records (choices_of c)) e say s.fit)

    abbrev plain_job : Task
    plain_job = task (choices_of c) names []

    -- and without custom sections of its own it passes none
    alone : PassesLimits c V → ⊥
    alone =
        let e : CustomText = only_made p (choices_of c) (names_written s.records (choices_of c)) in
        let say = only_so p (choices_of c) (names_written s.records (choices_of c)) in
        fits_no_limit c V (module_with s.records e) (text_with s.records e) lives (none_unspelled c p s.records)
        (written_as_said c plain_job with p declared s.records e say [] [] refl) (spelling p plain_job s.records e say)
        (text_fits s.records plain_job (names_written s.records (choices_of c)) e say (fits_without s.records sections (customs_written plain_job s.records) s.fit))

    sayable_of : WritesUnfit c W → IsSayable W
    sayable_of u =
        sayable_by u.written.written.indices W u.module_out.customs (gathered (sections_of u.unfit.text)).customs u.written.written.customs (ap (λ (m : Abstract). m.customs) u.unfit.spells.says)

    small_with : PassesLimits c W → ⊥
    small_with passes = alone (limits_back V own roots c (λ live writes. absurd (said (sayable_of writes) (Unfit live writes))) passes)

  exact : (choices : Choices) → IsWrittenWith c choices → IsWrittenWith c (choices_of c)
  exact choices with = record { features_are = refl; names_are = refl; producers_are = refl }

  -- what is spelled passes none
  pub small : (choices : Choices) → IsWrittenWith c choices → (bytes : List ℕ) → Spells p (task choices names sections) bytes → PassesLimits c W → ⊥
  small choices with =
      subst (λ (x : Choices). (bytes : List ℕ) → Spells p (task x names sections) bytes → PassesLimits c W → ⊥) (sym (chosen_so c choices with)) (small_with (exact choices with))

  -- what is written is what emission promises
  pub emitted_ok : (choices : Choices) → IsWrittenWith c choices → {X : Type 0} (view : X → List ℕ) (result : Result X Error) → IfOk result (λ x. Spells p (task choices names sections) (view x)) → IfOk result (λ x. IsEmitted c W (view x))
  emitted_ok choices with view (Ok x) s = emitted c p (task choices names sections) with declared own roots asked texts (view x) s
  emitted_ok choices with view (Err e) s = tt
