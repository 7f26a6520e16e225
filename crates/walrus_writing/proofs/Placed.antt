-- The module of records with their custom sections is that of a text, where one says these: it fits where the text does, and has its bytes.
use Rattle.wasm_entries.specs.Record as entries
use Rattle.std.proofs.Common.{◌≡◌, ℕ, List, ◌++◌, map, sym, ap, ap₂, subst, ◌∙◌, None}
use Rattle.std.specs.Prelude.{All, Option}
use Rattle.std.proofs.lemmas.List.Elements.{All-nil}
use Rattle.wasm_frames.specs.Record as wire
use Rattle.wasm_frames.specs.Frames.{CustomSection}
use Rattle.wasm_frames.specs.Spelling.{body_bytes}
use Rattle.wasm_forms.specs.Spelling.{number_bytes}
use Rattle.wasm_forms.specs.Writing.{FitsLength}
use Rattle.wasm_entries.specs.Spelling as spelling
use Rattle.wasm_entries.specs.TypeSpelling.{GroupFits, group_bytes, LimitsFit, limits_bytes}
use Rattle.wasm_payloads.specs.Lent.{NamesFit}
use Rattle.wasm_payloads.specs.Spelling.{ProducersFit}
use Rattle.wasm_writer.specs.Spelling.{SectionFits, tag_bytes}
use Rattle.wasm_writer.proofs.Listed.{fits_none}
use Rattle.wasm_wire.specs.ModuleSpelling.{EachSection, ModuleFits, module_bytes}
use Rattle.walrus_bodies.specs.declared.features.Features.{Features}
use Rattle.walrus_contents.specs.declared.parts.Parts.{Parts}
use Rattle.walrus_model.specs.Abstract.{ProducerField}
use Rattle.walrus_theorem.specs.Examples.{empty_text}
use Rattle.walrus_theorem.specs.Spelling.{written_as}
use Rattle.walrus_theorem.specs.Text.{NameText, Text, raw_field, sections_of}
use Rattle.walrus_groups.proofs.OneList.{All-back}
use Rattle.walrus_theorem.proofs.OneSections.{laid, later, later_none}
use Rattle.walrus_base.specs.Operators.{Functions}
use Rattle.walrus_writing.specs.Customs.{Task, chosen_producers, sections_made}
use Rattle.walrus_writing.specs.Parts.{unplaced}
use Rattle.walrus_writing.specs.Records.{Records, module_of, sections_with, text_of}
use Rattle.walrus_writing.proofs.OwnCustoms.{CustomText, Say, with_customs}
use Rattle.walrus_writing.proofs.NamesSpelled.{made_fit, made_of, sections_same}
use Rattle.walrus_writing.proofs.Sections.{all_sections, bytes_same, each_section, placed}
use Rattle.walrus_writing.proofs.TextStands.{bodies_same}

abbrev Fits : wire.Custom → Type 0
Fits c = SectionFits (CustomSection c)

-- what is written fits with its names and its producers
pub written_fit : (own : List wire.Custom) (names : NameText) (fields : List ProducerField) (m : wire.Module) → m.customs ≡ own ++ sections_made names fields → ModuleFits m → NamesFit names × ProducersFit (map raw_field fields)
written_fit own names fields m is fit =
    let all : All Fits (own ++ made_of names fields) = subst (λ (l : List wire.Custom). All Fits l) (is ∙ ap (λ (l : List wire.Custom). own ++ l) (sections_same names fields)) fit.customs in
    made_fit names fields (All-back Fits own (made_of names fields) all)

-- sections that list nothing fit
none_fit : EachSection SectionFits (laid empty_text)
none_fit = record {
  types = fits_none GroupFits group_bytes;
  imports = fits_none spelling.ImportFits spelling.import_bytes;
  functions = (let none = fits_none (λ (n : ℕ). Unit {0}) number_bytes in (none.0.0, none.1));
  tables = fits_none spelling.TableFits spelling.table_bytes;
  memories = fits_none LimitsFit limits_bytes;
  tags = (let none = fits_none (λ (n : ℕ). Unit {0}) tag_bytes in (none.0.0, none.1));
  globals = (let none = fits_none (λ (g : entries.Global). Unit {0}) spelling.global_bytes in (none.0.0, none.1));
  exports = fits_none spelling.ExportFits spelling.export_bytes;
  start = tt;
  elements = fits_none spelling.ElementFits spelling.element_bytes;
  data_count = tt;
  bodies = fits_none (λ (b : wire.Body). FitsLength b.bytes) body_bytes;
  data_segments = fits_none spelling.DataFits spelling.data_bytes;
  customs = All-nil _;
}

module _ {p : Parts} {features : Features} (r : Records p features) where
  abbrev module_by : Option ℕ → Option ℕ → List wire.Body → List wire.Custom → wire.Module
  module_by start count all customs = sections_with r.types r.imports r.functions r.tables r.memories r.tags r.globals r.exports start r.elements count all r.data_segments customs

  -- it fits with fewer custom sections
  pub fits_without : (sections behind : List wire.Custom) → ModuleFits (module_of r (sections ++ behind)) → ModuleFits (module_of r behind)
  fits_without sections behind fit = record {
    types = fit.types;
    imports = fit.imports;
    functions = fit.functions;
    tables = fit.tables;
    memories = fit.memories;
    tags = fit.tags;
    globals = fit.globals;
    exports = fit.exports;
    start = fit.start;
    elements = fit.elements;
    data_count = fit.data_count;
    bodies = fit.bodies;
    data_segments = fit.data_segments;
    customs = All-back Fits sections behind fit.customs;
  }

  module _ (job : Task) (names : NameText) (e : CustomText) (say : Say p job.choices names job.sections e) where
    abbrev whole : Text
    whole = with_customs (text_of r) e

    abbrev behind : List wire.Custom
    behind = job.sections ++ made_of e.names e.producers

    -- all that is written
    abbrev customs : List wire.Custom
    customs = job.sections ++ sections_made names (chosen_producers p job.choices)

    behind_is : customs ≡ behind
    behind_is = ap (λ (l : List wire.Custom). job.sections ++ l) (sections_same names (chosen_producers p job.choices) ∙ ap₂ made_of (sym say.names_are) (sym say.producers_are))

    pub module_same : module_of r customs ≡ placed whole behind
    module_same =
        ap (module_by r.start r.data_count (map unplaced r.bodies)) behind_is
        ∙ ap (λ (o : Option ℕ). module_by o r.data_count (map unplaced r.bodies) behind) (sym (later_none r.start))
        ∙ ap (λ (o : Option ℕ). module_by (later r.start None) o (map unplaced r.bodies) behind) (sym (later_none r.data_count))
        ∙ ap (λ (all : List wire.Body). module_by (later r.start None) (later r.data_count None) all behind) (sym (bodies_same p r.names features (r.own Functions) r.bodies r.bodies_are))

    pub text_fits : ModuleFits (module_of r customs) → All SectionFits (sections_of whole)
    text_fits fit = all_sections whole job.sections say.split say.dylinks say.others SectionFits (subst ModuleFits module_same fit)

    pub fits_text : All SectionFits (sections_of whole) → ModuleFits (module_of r customs)
    fits_text fit = subst ModuleFits (sym module_same) (each_section whole job.sections say.split say.dylinks say.others SectionFits none_fit fit)

    pub bytes_text : module_bytes (module_of r customs) ≡ written_as whole
    bytes_text = ap module_bytes module_same ∙ bytes_same whole job.sections say.split say.dylinks say.others
