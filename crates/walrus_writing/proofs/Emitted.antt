-- What the spelling of a module's records is: the one spelling of what the module is written as.
use Rattle.std.proofs.Common.{ap, ◌≡◌, ℕ, Bool, List, length, map, sym, ap₂, subst, ◌∙◌}
use Rattle.std.specs.Prelude.{All}
use Rattle.std.specs.Str.{IsUtf8}
use Rattle.walrus_bodies.specs.declared.features.Features.{Features}
use Rattle.walrus_contents.specs.View.{parts_view}
use Rattle.walrus_contents.specs.declared.parts.Parts.{Parts}
use Rattle.wasm_frames.specs.Record as wire
use Rattle.walrus_base.specs.Operators.{Item}
use Rattle.walrus_code.specs.Names.{Lookup}
use Rattle.walrus_model.specs.Abstract.{Abstract, Custom, ProducerField}
use Rattle.walrus_model.specs.Customs.{written_customs}
use Rattle.walrus_model.specs.Sections.{custom_of}
use Rattle.walrus_model.specs.Config.{Config}
use Rattle.walrus_model.specs.Declared.{NothingUndeclared}
use Rattle.walrus_theorem.specs.Features.{features_of}
use Rattle.walrus_theorem.specs.Pinned.{IsWrittenAs}
use Rattle.walrus_theorem.specs.Refused.{IsSayable, WritesUnfit}
use Rattle.walrus_theorem.specs.Spelling.{FieldIsText, IsSpelling, IsSpelledAs}
use Rattle.walrus_theorem.proofs.OneSpelling.{as_told}
use Rattle.walrus_theorem.proofs.WrittenReads.{written_reads}
use Rattle.walrus_writing.specs.Customs.{Task}
use Rattle.walrus_writing.specs.declared.write.Choices.{Choices}
use Rattle.walrus_writing.specs.Emitted.{IsWrittenWith, IsEmitted}
use Rattle.walrus_writing.specs.Records.{Records, Spells, DoesNotFit, names_written}
use Rattle.walrus_writing.proofs.NamesStand.{written_stand}
use Rattle.walrus_writing.proofs.CarriedOver as carried
use Rattle.walrus_theorem.proofs.CountCarried.{count_carried}
use Rattle.walrus_writing.proofs.OwnCustoms.{CustomText, Say, said_of, says_so}
use Rattle.walrus_writing.proofs.Placed.{bytes_text, fits_text, text_fits}
use Rattle.walrus_writing.proofs.ProducersSpelled.{chosen_text}
use Rattle.walrus_theorem.proofs.SameItems.{with_own}
use Rattle.walrus_writing.proofs.TextStands.{all_bodies_stand, as_many_texts, sections_stand}
use Rattle.walrus_writing.proofs.TypesEntered.{as_many_functions}
use Rattle.walrus_writing.proofs.WithCustoms.{carried_with, flags_with, module_with, text_with}
use Rattle.walrus_writing.proofs.WrittenAs.{renaming_of}
use Rattle.walrus_writing.proofs.WrittenLemmas.{renaming_said, written_as_said}

-- ---- the choices

abbrev choose : Features → Bool → Bool → Choices
choose features names producers = record { features = features; names = names; producers = producers }

-- those that a configuration makes
abbrev pub choices_of : Config → Choices
choices_of c = choose (features_of c) c.writes_names c.writes_producers

pub chosen_so : (c : Config) (choices : Choices) → IsWrittenWith c choices → choices ≡ choices_of c
chosen_so c choices with =
    ap₂ (λ (features : Features) (names : Bool). choose features names choices.producers) with.features_are with.names_are
    ∙ ap (choose (features_of c) c.writes_names) with.producers_are

-- ---- the text

module _ (p : Parts) (job : Task) (r : Records p job.choices.features) (e : CustomText) (say : Say p job.choices (names_written r job.choices) job.sections e) where
  -- the text is the one spelling of what it says
  pub spelling : IsSpelling (module_with r e) (text_with r e)
  spelling = record {
    says = sym (as_told (text_with r e));
    stand = sections_stand r job.choices (names_written r job.choices) job.sections e say;
    filled = r.none_empty;
    bodies = all_bodies_stand r;
    used = carried.used r;
    as_many_bodies = as_many_texts r ∙ sym (as_many_functions r);
    elements = flags_with r e;
    data_count = count_carried (renaming_of r) (parts_view p) (module_with r e) (carried_with r e) (length r.data_segments) r.data_count r.counted;
    names = written_stand r job.choices e say.names_are;
    producers = subst (λ (l : List ProducerField). All FieldIsText l) (sym say.producers_are) (chosen_text job.choices.producers p.producers.now.fields);
    dylinks = say.dylinks;
    others = say.others;
  }

-- ---- what emission promises, where ref.func names only what is declared: no segment is added that would declare it

module _ (c : Config) (p : Parts) (job : Task) (with : IsWrittenWith c job.choices) (declared : NothingUndeclared (parts_view p)) (own : List Custom) (roots : List Item) (asked : map custom_of job.sections ≡ written_customs (λ x. job.names x.0 x.1) own) (texts : All (λ (x : wire.Custom). IsUtf8 x.name) job.sections) where
  abbrev W : Abstract
  W = with_own (parts_view p) own roots

  asked_by : (r : Records p job.choices.features) → r.names ≡ job.names → map custom_of job.sections ≡ written_customs (λ x. r.names x.0 x.1) own
  asked_by r same = subst (λ (names : Lookup). map custom_of job.sections ≡ written_customs (λ x. names x.0 x.1) own) (sym same) asked

  -- what its custom sections say, where a module of indices can say it
  abbrev pub text_said : Records p job.choices.features → IsSayable W → CustomText
  text_said r sayable = said_of p job.choices (names_written r job.choices) W (λ x. job.names x.0 x.1) job.sections asked texts sayable

  pub say_so : (r : Records p job.choices.features) (sayable : IsSayable W) → Say p job.choices (names_written r job.choices) job.sections (text_said r sayable)
  say_so r sayable = says_so p job.choices (names_written r job.choices) W (λ x. job.names x.0 x.1) job.sections asked texts sayable

  pub written : (r : Records p job.choices.features) → r.names ≡ job.names → (sayable : IsSayable W) → IsWrittenAs c W (module_with r (text_said r sayable))
  written r same sayable = written_as_said c job with p declared r (text_said r sayable) (say_so r sayable) own roots (asked_by r same)

  pub renaming_written : (r : Records p job.choices.features) (same : r.names ≡ job.names) (sayable : IsSayable W) → (written r same sayable).written.renaming ≡ renaming_of r
  unfolding written
  renaming_written r same sayable = renaming_said c job with p declared r (text_said r sayable) (say_so r sayable) own roots (asked_by r same)

  -- what is spelled is what the module is written as
  pub emitted : (bytes : List ℕ) → Spells p job bytes → IsEmitted c W bytes
  emitted bytes s sayable =
      let e : CustomText = text_said s.records sayable in
      let n : Abstract = module_with s.records e in
      let so : IsWrittenAs c W n = written s.records s.names_are sayable in
      let spelled : IsSpelledAs n bytes = record { text = text_with s.records e; spells = spelling p job s.records e (say_so s.records sayable); written = s.are ∙ bytes_text s.records job (names_written s.records job.choices) e (say_so s.records sayable) } in
      let fit = text_fits s.records job (names_written s.records job.choices) e (say_so s.records sayable) s.fit in
      record {
        module_written = n;
        written = so;
        spelled = spelled;
        reads = λ made nothing. (written_reads c W n bytes made nothing so spelled fit).0;
        holds = λ made nothing. (written_reads c W n bytes made nothing so spelled fit).1;
      }

  -- what doesn't fit is written as what doesn't
  pub unfit_of : DoesNotFit p job → IsSayable W → WritesUnfit c W
  unfit_of d sayable = record {
    module_out = module_with d.records (text_said d.records sayable);
    written = written d.records d.names_are sayable;
    unfit = record {
      text = text_with d.records (text_said d.records sayable);
      spells = spelling p job d.records (text_said d.records sayable) (say_so d.records sayable);
      unfit = λ fit. d.too_large (fits_text d.records job (names_written d.records job.choices) (text_said d.records sayable) (say_so d.records sayable) fit);
    };
  }
