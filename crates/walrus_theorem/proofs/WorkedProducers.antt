-- The steps at work where producers are written: this program stands among them.
use Rattle.std.proofs.Common.{◌≡◌, true, false, List, [], ◌∷◌, refl, sym, ◌∙◌, subst, arith}
use Rattle.std.specs.Prelude.{All, codes}
use Rattle.std.proofs.lemmas.List.Elements.{All-nil}
use Rattle.wasm_forms.specs.Spelling.{number_bytes, groups, vector_bytes}
use Rattle.wasm_frames.specs.Frames.{Section, gathered}
use Rattle.wasm_writer.specs.Spelling.{SectionStands, SectionFits}
use Rattle.walrus_base.specs.Operators.{Types}
use Rattle.walrus_model.specs.Abstract.{Abstract, ProducerField}
use Rattle.walrus_model.specs.Config.{Config}
use Rattle.walrus_model.specs.Live.{IsLive}
use Rattle.walrus_model.specs.Names.{own_name, WritesNames}
use Rattle.walrus_model.specs.Producers.{produced, walrus, if_written}
use Rattle.walrus_model.specs.Renaming.{unchanged}
use Rattle.walrus_theorem.specs.Examples.{no_values, one_text, one_function_bytes, empty_body}
use Rattle.walrus_theorem.specs.Headline.{ReadsModule, ComesTo}
use Rattle.walrus_theorem.specs.Pinned.{IsWrittenAs}
use Rattle.walrus_theorem.specs.Spelling.{BodyStands, IsSpelledAs, FieldIsText, ValueIsText}
use Rattle.walrus_theorem.specs.Text.{custom, field_bytes, said, sections_of, said_by}
use Rattle.walrus_theorem.specs.WorkedSections.{ComesToAlone, produced_text, produced_bytes}
use Rattle.walrus_theorem.proofs.BodiesBack.{bodies_hold}
use Rattle.walrus_theorem.proofs.Runs.{comes_to}
use Rattle.walrus_theorem.proofs.SpelledReads.{nested_reads}
use Rattle.walrus_theorem.proofs.WorkedEmpty.{empty_function, in_memory, empty_uses, empty_needs_no_count, empty_nests, empty_holds, empty_brings, empty_written}
use Rattle.walrus_theorem.proofs.WorkedParts.{runs, said_unnamed, no_name, is_text, all_one, IsFilled, not_empty, body_stands, empty_stand, empty_fit}

abbrev fields : List ProducerField
fields = record { name = codes "processed-by"; values = walrus ∷ [] } ∷ []

abbrev module_read : Abstract
module_read = empty_function [] [] (λ y. [])

abbrev module_written : Abstract
module_written = empty_function [] fields (λ y. [])

one_says : said_by one_text ≡ module_read
one_says = said_unnamed (gathered (sections_of one_text)) (said empty_body ∷ []) []

produced_says : said_by produced_text ≡ module_written
produced_says = said_unnamed (gathered (sections_of produced_text)) (said empty_body ∷ []) fields

abbrev producers_section : Section
producers_section = custom (codes "producers") (vector_bytes field_bytes fields)

fields_stand : All FieldIsText fields
fields_stand = all_one FieldIsText (record { name = codes "processed-by"; values = walrus ∷ [] }) (is_text (codes "processed-by") refl, all_one ValueIsText walrus (is_text (codes "walrus") refl, is_text (codes "0.28.0") refl))

read_spelled : IsSpelledAs module_read one_function_bytes
unfolding number_bytes groups
read_spelled = record {
  text = one_text;
  spells = record {
    says = sym one_says;
    stand = empty_stand [] (All-nil _);
    filled = all_one IsFilled no_values not_empty;
    bodies = all_one BodyStands empty_body body_stands;
    used = empty_uses [] [] (λ y. []);
    as_many_bodies = refl;
    elements = All-nil _;
    data_count = empty_needs_no_count [] [] (λ y. []);
    names = record {
      module_name = tt;
      items = λ space. ((λ i j d less at. absurd (omega arith)), All-nil _);
      functions = λ i j d less at. absurd (omega arith);
      locals = All-nil _;
      are_there = All-nil _;
    };
    producers = All-nil _;
    dylinks = All-nil _;
    others = All-nil _;
  };
  written = refl;
}

read_fits : All SectionFits (sections_of one_text)
read_fits = empty_fit [] (All-nil _)

producers_fit : SectionFits producers_section
unfolding number_bytes groups
producers_fit = (omega arith, omega arith)

written_fits : All SectionFits (sections_of produced_text)
written_fits = empty_fit (producers_section ∷ []) (all_one SectionFits producers_section producers_fit)

written_spelled : IsSpelledAs module_written produced_bytes
unfolding number_bytes groups
written_spelled = record {
  text = produced_text;
  spells = record {
    says = sym produced_says;
    stand = empty_stand (producers_section ∷ []) (all_one SectionStands producers_section (is_text (codes "producers") refl));
    filled = all_one IsFilled no_values not_empty;
    bodies = all_one BodyStands empty_body body_stands;
    used = empty_uses [] fields (λ y. []);
    as_many_bodies = refl;
    elements = All-nil _;
    data_count = empty_needs_no_count [] fields (λ y. []);
    names = record {
      module_name = tt;
      items = λ space. ((λ i j d less at. absurd (omega arith)), All-nil _);
      functions = λ i j d less at. absurd (omega arith);
      locals = All-nil _;
      are_there = All-nil _;
    };
    producers = fields_stand;
    dylinks = All-nil _;
    others = All-nil _;
  };
  written = refl;
}

module _ (c : Config) where
  is_read : ReadsModule c one_function_bytes module_read
  unfolding read_spelled
  is_read = nested_reads c module_read one_function_bytes read_spelled read_fits (empty_nests [] [] (λ y. []) c) (bodies_hold module_read (empty_holds [] [] (λ y. [])))

  is_written : c.writes_names ≡ false → c.writes_producers ≡ true → IsWrittenAs c (in_memory c [] [] (λ y. [])) module_written
  is_written no_names producers = empty_written c [] [] (λ y. []) [] fields (λ y. [])
      (subst (λ b. WritesNames b (own_name (in_memory c [] [] (λ y. []))) (IsLive (in_memory c [] [] (λ y. []))) unchanged (in_memory c [] [] (λ y. [])) module_written) (sym no_names) (λ y. refl))
      (λ writes. absurd (let no_such : false ≡ true = sym no_names ∙ writes in cc))
      (subst (λ b. fields ≡ if_written b (produced [])) (sym producers) refl)
      refl

  comes : c.writes_names ≡ false → c.writes_producers ≡ true → ComesTo c one_function_bytes produced_bytes
  unfolding written_spelled
  comes no_names producers = comes_to c one_function_bytes produced_bytes module_read (in_memory c [] [] (λ y. [])) module_written is_read (empty_holds [] [] (λ y. []))
      (empty_brings c [] [] (λ y. []) (λ i past. no_name c module_read (Types, i) refl refl)) (is_written no_names producers) written_spelled written_fits

pub producers_run : (c : Config) → c.writes_names ≡ false → c.writes_producers ≡ true → ComesToAlone c one_function_bytes produced_bytes
producers_run c no_names producers = runs c one_function_bytes produced_bytes (comes c no_names producers)
