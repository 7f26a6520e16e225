-- Chosen exports, of a module in memory and from bytes to bytes.
use Rattle.std.proofs.Common.{◌≡◌, ℕ, true, false, List, Option, Some, None, refl, sym, ap, subst}
use Rattle.std.specs.Prelude.{is_some, Ok, Err}
use Rattle.walrus.specs.Model.Abstract.{Abstract}
use Rattle.walrus.specs.Model.Config.{Config}
use Rattle.walrus.proofs.Model.Looked.{got_contains}
use Rattle.walrus.specs.Items.Exports.{ExportValue, exports}
use Rattle.walrus.specs.Items.CustomSection.{Ghosts}
use Rattle.walrus.specs.Items.Error.{Error}
use Rattle.walrus.specs.Items.Error.TheVariants as error
use Rattle.walrus.specs.Modules.Parsed.{IsParsed, RefusesBytes}
use Rattle.walrus.specs.Modules.View.{contents_of, held_view, view}
use Rattle.walrus.specs.Modules.SectionEntry.{SectionEntry}
use Rattle.walrus.specs.Modules.Module.{Module}
use Rattle.walrus_sections.specs.Choice.{Choice}
use Rattle.walrus_sections.specs.ExportChoice.{EachFits, IsChosen, OneFitsNone, TellsUnfit}
use Rattle.walrus_tools.specs.ChosenModule.{AnswersChosen, AnswersUnfit, KeepsChosen, KeepsExports, KeepsIn, RefusesChosen}
use Rattle.walrus.specs.Edits.{IsWhole}
use Rattle.walrus_tools.specs.KeptExports.{KeepsNamed, export_names}
use Rattle.walrus_sections.specs.NameLists.{IsChooser, IsPicked}
use Rattle.walrus_sections.specs.declared.chooser.Chooser.{Chooser}
use Rattle.walrus_sections.proofs.Choosers.{picked}
use Rattle.walrus.proofs.EditEnds.{plain_read}
use Rattle.walrus_tools.proofs.KeptWhole.{kept_whole}
use Rattle.std.proofs.lemmas.Bool.{false≢true as untrue}
use Rattle.walrus_tools.proofs.NamedExports.{keeps_alike}

-- ---- whether each choice fits

module _ (all : List (List ℕ)) (choices : List Choice) where
  pub one_unfit : (found : Option ℕ) → TellsUnfit all choices found → is_some found ≡ true → OneFitsNone all choices
  one_unfit None tells some = absurd (untrue some)
  one_unfit (Some number) first some = (first.choice, got_contains choices number first.choice first.there, first.unfit)

  pub each_fit : (found : Option ℕ) → TellsUnfit all choices found → is_some found ≡ false → EachFits all choices
  each_fit None tells none = tells
  each_fit (Some number) first none = absurd (untrue (sym none))

-- ---- of a module in memory

pub keeps_chosen : (choices : List Choice) (chooser : Chooser) (old new : List (Option ExportValue)) → IsChooser choices chooser → EachFits (export_names old) choices → KeepsNamed (IsPicked chooser) old new → KeepsExports choices old new
keeps_chosen choices chooser old new is fit keeps = record { fit = fit; stay = keeps_alike (IsPicked chooser) (IsChosen choices) (picked choices chooser is) old new keeps }

module _ {S : Type 0} (choices : List Choice) (old new : Module S) (kept : KeepsIn choices old new) where
  pub chosen_held : KeepsChosen choices (contents_of old) (contents_of new)
  chosen_held = record { keeps = kept.keeps; others = ap contents_of kept.others }

  abbrev after : Module S
  after = record old { exports = new.exports }

  -- what was whole is whole
  pub chosen_whole : (c : Config) → IsWhole c old → IsWhole c new
  chosen_whole c whole =
      let stays = kept_whole (IsChosen choices) c (held_view old) (held_view after) refl (exports old.exports) (exports new.exports) refl refl (kept.keeps).stay whole.made in
      subst (IsWhole c) (sym kept.others) (record { made = stays.made; reached = stays.reached tt whole.reached })

-- ---- from bytes to bytes

-- bytes that aren't parsed
pub bytes_refused : (c : Config) (bytes : List ℕ) (choices : List Choice) (e : Error) → RefusesBytes c bytes e → AnswersChosen c bytes choices (Err e)
bytes_refused c bytes choices (error.Memory m) h = tt
bytes_refused c bytes choices (error.InvalidWasm kind) h = h
bytes_refused c bytes choices _ h = absurd h

-- what is told of the exports of what was parsed
pub unfit_told : {V : Type 0} {O : V → Type 0} (G : (v : V) → Ghosts (O v)) (c : Config) (bytes : List ℕ) (choices : List Choice) (read : Module (SectionEntry V O)) → IsParsed c bytes (view G read) → (found : Option ℕ)
    → TellsUnfit (export_names (exports read.exports)) choices found → AnswersUnfit c bytes choices (Ok found)
unfit_told G c bytes choices read parsed found tells = record {
  customs = (view G read).customs;
  module_parsed = contents_of read;
  parsed = subst (λ (v : Abstract). IsParsed c bytes v) (plain_read G (KeepsChosen choices) (RefusesChosen choices) c bytes read parsed) parsed;
  tells = tells;
}
