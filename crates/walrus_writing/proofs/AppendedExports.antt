-- The exports whose entries were appended, and those that are still to come.
use Rattle.std.proofs.Common.{◌≡◌, List, [], ◌∷◌, ◌++◌, map, append-nil, sym, ap, ◌∙◌, Some}
use Rattle.std.specs.Prelude.{All, Option}
use Rattle.std.specs.Str.{IsUtf8}
use Rattle.std.proofs.lemmas.List.Elements.{All-nil, All-push}
use Rattle.wasm_entries.specs.Record.{Export, export_entry}
use Rattle.wasm_entries.specs.declared.record.RawExport.{RawExport}
use Rattle.walrus_base.proofs.ZipTurns.{list_turn}
use Rattle.walrus_code.specs.Names.{Lookup}
use Rattle.walrus_contents.specs.View.{export_of}
use Rattle.walrus_items.specs.Exports.{ExportValue}
use Rattle.walrus_writing.specs.BySection.{AreExports}
use Rattle.walrus_writing.specs.Parts.{export_with_index}

module _ (names : Lookup) (all : List ExportValue) where
  abbrev pub made : RawExport → Option Export
  made e = Some (export_entry e)

  abbrev pub wanted : ExportValue → Option Export
  wanted v = export_with_index names (export_of v)

  -- their names are text, and those that are left complete them
  abbrev pub ExportsWritten : List RawExport → List ExportValue → Type 0
  ExportsWritten raw left = All (λ e. IsUtf8 e.name.now) raw × (map made raw ++ map wanted left ≡ map wanted all)

  pub exports_begin : (left : List ExportValue) → left ≡ all → ExportsWritten [] left
  exports_begin left same = (All-nil (λ (e : RawExport). IsUtf8 e.name.now), ap (map wanted) same)

  pub exports_more : (raw : List RawExport) (one : RawExport) (v : ExportValue) (left after : List ExportValue) → left ≡ v ∷ after → ExportsWritten raw left → (made one ≡ wanted v) × IsUtf8 one.name.now → ExportsWritten (raw ++ one ∷ []) after
  exports_more raw one v left after step w said = (All-push (λ (e : RawExport). IsUtf8 e.name.now) raw one w.0 said.1, list_turn made wanted raw one left after v (map wanted all) w.1 step said.0)

  pub exports_done : (raw : List RawExport) (left : List ExportValue) → left ≡ [] → ExportsWritten raw left → AreExports names all raw
  exports_done raw left none w = (sym (append-nil (map made raw)) ∙ ap (λ (l : List ExportValue). map made raw ++ map wanted l) (sym none) ∙ w.1, w.0)
