-- The text of records with custom sections, and the module that it says: it differs from what the records say in what these say alone.
use Rattle.wasm_entries.specs.Record as entries
use Rattle.std.specs.Prelude.{All, None, Some}
use Rattle.std.proofs.lemmas.List.Elements.{All-weaker}
use Rattle.walrus_bodies.specs.declared.features.Features.{Features}
use Rattle.walrus_contents.specs.View.{parts_view}
use Rattle.walrus_contents.specs.declared.parts.Parts.{Parts}
use Rattle.walrus_model.specs.Abstract.{Abstract}
use Rattle.walrus_model.specs.Carried.{Carried}
use Rattle.walrus_model.specs.Live.{IsLive}
use Rattle.walrus_model.specs.Out.{IsTheSegment}
use Rattle.walrus_theorem.specs.Spelling.{IsChosen}
use Rattle.walrus_theorem.specs.Text.{Text}
use Rattle.walrus_theorem.proofs.OneSpelling.{told}
use Rattle.walrus_writing.specs.Records.{Records, text_of}
use Rattle.walrus_writing.proofs.CarriedOver.{carried_over}
use Rattle.walrus_writing.proofs.ChosenFlags.{flags_chosen}
use Rattle.walrus_writing.proofs.OwnCustoms.{CustomText, with_customs}
use Rattle.walrus_writing.proofs.WrittenAs.{module_said, renaming_of}

module _ {p : Parts} {features : Features} (r : Records p features) (e : CustomText) where
  abbrev pub text_with : Text
  text_with = with_customs (text_of r) e

  abbrev pub module_with : Abstract
  module_with = told text_with

  pub carried_with : Carried (IsLive (parts_view p)) (IsTheSegment None) (renaming_of r) (parts_view p) module_with
  carried_with = let k = carried_over r in record {
    types = k.types;
    imports = k.imports;
    functions = k.functions;
    tables = k.tables;
    memories = k.memories;
    tags = k.tags;
    globals = k.globals;
    elements = k.elements;
    data_segments = k.data_segments;
    imports_apart = k.imports_apart;
    apart = k.apart;
    exports = k.exports;
    start = k.start;
  }

  mode_with : (m : entries.ElementMode) (items : entries.Items) → IsChosen (module_said r) m items → IsChosen module_with m items
  mode_with (entries.ActiveElements None offset) items h = h
  mode_with (entries.ActiveElements (Some index) offset) items h = h
  mode_with entries.PassiveElements items h = h
  mode_with entries.DeclaredElements items h = h

  pub flags_with : All (λ (x : entries.Element). IsChosen module_with x.mode x.items) r.elements
  flags_with = All-weaker (λ (x : entries.Element). IsChosen (module_said r) x.mode x.items) (λ (x : entries.Element). IsChosen module_with x.mode x.items) (λ x. mode_with x.mode x.items) r.elements (flags_chosen r)
