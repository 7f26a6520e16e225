-- The steps at work on custom sections: that of dynamic linking stays in front, another one behind.
use Rattle.std.proofs.Common.{◌≡◌, true, false, List, [], ◌∷◌, refl, sym, ◌∙◌, subst, arith}
use Rattle.std.specs.Prelude.{All, codes}
use Rattle.std.proofs.lemmas.List.Elements.{All-nil, All-cons}
use Rattle.wasm_forms.specs.Spelling.{number_bytes, groups}
use Rattle.wasm_frames.specs.Record as frames
use Rattle.wasm_frames.specs.Frames.{Section, CustomSection, gathered}
use Rattle.wasm_writer.specs.Spelling.{SectionStands, SectionFits}
use Rattle.walrus_base.specs.Operators.{Types}
use Rattle.walrus_model.specs.Abstract.{Abstract, Custom}
use Rattle.walrus_model.specs.Config.{Config}
use Rattle.walrus_model.specs.Live.{IsLive}
use Rattle.walrus_model.specs.Names.{own_name, WritesNames}
use Rattle.walrus_model.specs.Producers.{produced, if_written}
use Rattle.walrus_model.specs.Renaming.{unchanged}
use Rattle.walrus_model.specs.Sections.{custom_of}
use Rattle.walrus_theorem.specs.Examples.{no_values, empty_body}
use Rattle.walrus_theorem.specs.Headline.{ReadsModule, ComesTo}
use Rattle.walrus_theorem.specs.Pinned.{IsWrittenAs}
use Rattle.walrus_theorem.specs.Spelling.{BodyStands, IsSpelledAs, is_dylink, is_other}
use Rattle.walrus_theorem.specs.Text.{said, sections_of, said_by}
use Rattle.walrus_theorem.specs.SettledLaw.{IsSettled}
use Rattle.walrus_theorem.specs.WorkedSections.{ComesToAlone, linking, another, customs_text, customs_bytes}
use Rattle.walrus_theorem.proofs.BodiesBack.{bodies_hold}
use Rattle.walrus_theorem.proofs.Runs.{comes_to}
use Rattle.walrus_theorem.proofs.SpelledReads.{nested_reads}
use Rattle.walrus_theorem.proofs.WorkedEmpty.{empty_function, in_memory, empty_uses, empty_needs_no_count, empty_nests, empty_holds, empty_brings, empty_written}
use Rattle.walrus_theorem.proofs.WorkedParts.{runs, said_unnamed, no_name, is_text, all_one, IsFilled, not_empty, body_stands, type_section, function_section, export_section, code_section, empty_stand, empty_fit}
use Rattle.walrus_theorem.proofs.SettleAll.{runs_settle}

abbrev customs : List Custom
customs = custom_of linking ∷ custom_of another ∷ []

abbrev the_module : Abstract
the_module = empty_function customs [] (λ y. [])

customs_say : said_by customs_text ≡ the_module
customs_say = said_unnamed (gathered (sections_of customs_text)) (said empty_body ∷ []) []

linking_fits : SectionFits (CustomSection linking)
unfolding number_bytes groups
linking_fits = (omega arith, omega arith)

another_fits : SectionFits (CustomSection another)
unfolding number_bytes groups
another_fits = (omega arith, omega arith)

on_all : (P : Section → Type 0) → P (CustomSection linking) → All P (type_section ∷ function_section ∷ export_section ∷ code_section ∷ CustomSection another ∷ []) → All P (sections_of customs_text)
on_all P front rest = All-cons P (CustomSection linking) (type_section ∷ function_section ∷ export_section ∷ code_section ∷ CustomSection another ∷ []) front rest

fits : All SectionFits (sections_of customs_text)
fits = on_all SectionFits linking_fits (empty_fit (CustomSection another ∷ []) (all_one SectionFits (CustomSection another) another_fits))

spelled : IsSpelledAs the_module customs_bytes
unfolding number_bytes groups
spelled = record {
  text = customs_text;
  spells = record {
    says = sym customs_say;
    stand = on_all SectionStands (is_text (codes "dylink.0") refl) (empty_stand (CustomSection another ∷ []) (all_one SectionStands (CustomSection another) (is_text (codes "x") refl)));
    filled = all_one IsFilled no_values not_empty;
    bodies = all_one BodyStands empty_body body_stands;
    used = empty_uses customs [] (λ y. []);
    as_many_bodies = refl;
    elements = All-nil _;
    data_count = empty_needs_no_count customs [] (λ y. []);
    names = record {
      module_name = tt;
      items = λ space. ((λ i j d less at. absurd (omega arith)), All-nil _);
      functions = λ i j d less at. absurd (omega arith);
      locals = All-nil _;
      are_there = All-nil _;
    };
    producers = All-nil _;
    dylinks = all_one (λ (s : frames.Custom). is_dylink s ≡ true) linking refl;
    others = all_one (λ (s : frames.Custom). is_other s ≡ true) another refl;
  };
  written = refl;
}

module _ (c : Config) where
  is_read : ReadsModule c customs_bytes the_module
  unfolding spelled
  is_read = nested_reads c the_module customs_bytes spelled fits (empty_nests customs [] (λ y. []) c) (bodies_hold the_module (empty_holds customs [] (λ y. [])))

  abbrev kept : Abstract
  kept = in_memory c customs [] (λ y. [])

  is_written : c.writes_names ≡ false → c.writes_producers ≡ false → IsWrittenAs c kept the_module
  is_written no_names no_producers = empty_written c customs [] (λ y. []) customs [] (λ y. [])
      (subst (λ b. WritesNames b (own_name kept) (IsLive kept) unchanged kept the_module) (sym no_names) (λ y. refl))
      (λ writes. absurd (let no_such : false ≡ true = sym no_names ∙ writes in cc))
      (subst (λ b. [] ≡ if_written b (produced [])) (sym no_producers) refl)
      refl

  comes : c.writes_names ≡ false → c.writes_producers ≡ false → ComesTo c customs_bytes customs_bytes
  unfolding spelled
  comes no_names no_producers = comes_to c customs_bytes customs_bytes the_module kept the_module is_read (empty_holds customs [] (λ y. []))
      (empty_brings c customs [] (λ y. []) (λ i past. no_name c the_module (Types, i) refl refl)) (is_written no_names no_producers) spelled fits

pub customs_run : (c : Config) → c.writes_names ≡ false → c.writes_producers ≡ false → ComesToAlone c customs_bytes customs_bytes
customs_run c no_names no_producers = runs c customs_bytes customs_bytes (comes c no_names no_producers)

-- a run on these bytes writes them, so that they are settled in themselves
pub customs_settled : (c : Config) → c.writes_names ≡ false → c.writes_producers ≡ false → IsSettled c customs_bytes customs_bytes
customs_settled c no_names no_producers =
    let comes_out = comes c no_names no_producers in
    runs_settle c customs_bytes customs_bytes customs_bytes comes_out comes_out
