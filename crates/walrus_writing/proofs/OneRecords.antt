-- Bytes that parts are written as, with some records of these, are those of any other records of them: what a module in memory is written as
-- is one module, and has one text.
use Rattle.std.proofs.Common.{◌≡◌, ℕ, List, map, sym, ap, ◌∙◌, subst}
use Rattle.std.specs.Prelude.{All}
use Rattle.std.specs.Str.{IsUtf8}
use Rattle.std.proofs.lemmas.List.Elements.{All-nil}
use Rattle.wasm_frames.specs.Record as wire
use Rattle.wasm_entries.specs.Spelling.{DataStands, ElementStands, ExportStands, GlobalStands, ImportStands, IsIndex, TableStands}
use Rattle.wasm_entries.specs.TypeSpelling.{GroupStands, LimitsStand}
use Rattle.wasm_writer.specs.Spelling.{SectionFits, SectionStands}
use Rattle.wasm_wire.specs.ModuleSpelling.{EachSection, ModuleFits, ModuleStands, module_bytes}
use Rattle.walrus_contents.specs.View.{parts_view}
use Rattle.walrus_contents.specs.declared.parts.Parts.{Parts}
use Rattle.walrus_base.specs.Operators.{Item}
use Rattle.walrus_model.specs.Abstract.{Abstract, Custom}
use Rattle.walrus_model.specs.Config.{Config}
use Rattle.walrus_model.specs.Customs.{written_customs}
use Rattle.walrus_model.specs.Dead.{HasDead}
use Rattle.walrus_model.specs.Declared.{NothingUndeclared}
use Rattle.walrus_model.specs.Sections.{custom_of}
use Rattle.walrus_theorem.specs.Examples.{empty_text}
use Rattle.walrus_theorem.specs.Pinned.{IsWrittenAs}
use Rattle.walrus_theorem.specs.Refused.{IsSayable}
use Rattle.walrus_theorem.specs.Spelling.{IsSpelledAs, IsSpelling, written_as}
use Rattle.walrus_theorem.specs.Text.{Text, sections_of}
use Rattle.walrus_theorem.proofs.BytesOnce.{living_keeps, one_module}
use Rattle.walrus_theorem.proofs.OneSections.{laid}
use Rattle.walrus_theorem.proofs.OneSpelling.{spelled_once}
use Rattle.walrus_theorem.proofs.SameItems.{dead_back, with_own}
use Rattle.walrus_writing.specs.Customs.{Task}
use Rattle.walrus_writing.specs.Emitted.{IsWrittenWith}
use Rattle.walrus_writing.specs.Records.{Records, Spells, customs_written, module_of, names_written}
use Rattle.walrus_writing.proofs.Emitted.{say_so, spelling, text_said, written}
use Rattle.walrus_writing.proofs.OwnCustoms.{CustomText}
use Rattle.walrus_writing.proofs.Placed.{bytes_text, fits_text, module_same, text_fits}
use Rattle.walrus_writing.proofs.Sections.{each_section}
use Rattle.walrus_writing.proofs.TextStands.{sections_stand}
use Rattle.walrus_writing.proofs.WithCustoms.{module_with, text_with}

-- sections that list nothing stand
none_stand : EachSection SectionStands (laid empty_text)
none_stand = record {
  types = All-nil GroupStands;
  imports = All-nil ImportStands;
  functions = All-nil IsIndex;
  tables = All-nil TableStands;
  memories = All-nil LimitsStand;
  tags = All-nil IsIndex;
  globals = All-nil GlobalStands;
  exports = All-nil ExportStands;
  start = tt;
  elements = All-nil ElementStands;
  data_count = tt;
  bodies = tt;
  data_segments = All-nil DataStands;
  customs = All-nil _;
}

module _ (c : Config) (p : Parts) (job : Task) (with : IsWrittenWith c job.choices) (lives : HasDead (parts_view p) → ⊥) (declared : NothingUndeclared (parts_view p)) (own : List Custom) (roots : List Item)
    (asked : map custom_of job.sections ≡ written_customs (λ x. job.names x.0 x.1) own) (texts : All (λ (x : wire.Custom). IsUtf8 x.name) job.sections) (sayable : IsSayable (with_own (parts_view p) own roots)) where
  abbrev W : Abstract
  W = with_own (parts_view p) own roots

  abbrev Recorded : Type 0
  Recorded = Records p job.choices.features

  abbrev said : Recorded → CustomText
  said r = text_said c p job with declared own roots asked texts r sayable

  abbrev pub text_by : Recorded → Text
  text_by r = text_with r (said r)

  abbrev pub module_by : Recorded → Abstract
  module_by r = module_with r (said r)

  pub spelled_by : (r : Recorded) → IsSpelling (module_by r) (text_by r)
  spelled_by r = spelling p job r (said r) (say_so c p job with declared own roots asked texts r sayable)

  abbrev pub written_by : (r : Recorded) → r.names ≡ job.names → IsWrittenAs c W (module_by r)
  written_by r same = written c p job with declared own roots asked texts r same sayable

  -- all records say one text
  one_text : (r s : Recorded) → r.names ≡ job.names → s.names ≡ job.names → text_by s ≡ text_by r
  one_text r s first second =
      let one : module_by r ≡ module_by s = one_module c W (module_by r) (module_by s) (text_by r) (text_by s) (living_keeps W (λ dead. lives (dead_back (parts_view p) own roots dead))) (written_by r first) (written_by s second) (spelled_by r) (spelled_by s) in
      spelled_once (module_by r) (text_by r) (text_by s) (spelled_by r) (subst (λ (n : Abstract). IsSpelling n (text_by s)) (sym one) (spelled_by s))

  abbrev pub whole : Recorded → wire.Module
  whole r = module_of r (customs_written job r)

  bytes_by : (r : Recorded) → module_bytes (whole r) ≡ written_as (text_by r)
  bytes_by r = bytes_text r job (names_written r job.choices) (said r) (say_so c p job with declared own roots asked texts r sayable)

  module _ (bytes : List ℕ) (s : Spells p job bytes) (r : Recorded) (same : r.names ≡ job.names) where
    pub bytes_one : bytes ≡ module_bytes (whole r)
    bytes_one = s.are ∙ bytes_by s.records ∙ ap written_as (one_text r s.records same s.names_are) ∙ sym (bytes_by r)

    pub fits_one : ModuleFits (whole r)
    fits_one =
        fits_text r job (names_written r job.choices) (said r) (say_so c p job with declared own roots asked texts r sayable)
        (subst (λ (t : Text). All SectionFits (sections_of t)) (one_text r s.records same s.names_are)
        (text_fits s.records job (names_written s.records job.choices) (said s.records) (say_so c p job with declared own roots asked texts s.records sayable) s.fit))

    pub spelled_one : IsSpelledAs (module_by r) bytes
    spelled_one = record { text = text_by r; spells = spelled_by r; written = bytes_one ∙ bytes_by r }

  pub stands_one : (r : Recorded) → ModuleStands (whole r)
  stands_one r =
      let say = say_so c p job with declared own roots asked texts r sayable in
      subst ModuleStands (sym (module_same r job (names_written r job.choices) (said r) say))
      (each_section (text_by r) job.sections say.split say.dylinks say.others SectionStands none_stand
      (sections_stand r job.choices (names_written r job.choices) job.sections (said r) say))
