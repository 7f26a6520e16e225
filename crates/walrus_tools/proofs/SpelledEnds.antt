-- Lists of chosen roots as bytes: what each comes to, and each refusal.
use Rattle.std.proofs.Common.{◌≡◌, ℕ, List, flat_map, map, inl, inr, subst, sym}
use Rattle.std.specs.Prelude.{◌⊎◌, IfErr, IfOk, OnOk, Result, Err}
use Rattle.std.specs.Global.{Vec}
use Rattle.walrus.specs.Model.Config.{Config}
use Rattle.walrus.specs.Items.Error.{Error}
use Rattle.walrus_sections.specs.Choice.{Choice}
use Rattle.walrus_tools.specs.ChosenModule.{KeepsChosen, RefusesChosen}
use Rattle.walrus_tools.specs.DroppedList.{AnswersDropped, AnswersDroppedList, IsDropped}
use Rattle.walrus.specs.Edits.{EditsTo, RefusesEdit}
use Rattle.walrus.specs.Ends.{LeavesLarge}
use Rattle.walrus_tools.specs.ExportList.{AnswersExportList, AnswersExports, AreExports, IsLongExport, exported_bytes, exported_seen}
use Rattle.walrus_tools.specs.FunctionList.{AnswersFunctions, AnswersListed, IsListed, IsLong, listed_bytes, listed_seen}
use Rattle.walrus_tools.specs.ImportList.{AnswersImportList, AnswersImports, AreImports, IsLongImport, imported_bytes, imported_seen}
use Rattle.walrus_sections.specs.Numbers.{RefusesIf}
use Rattle.walrus_tools.specs.Spelled.{AreLong, AreSpelled, HasLong, NoneLong}
use Rattle.walrus_tools.specs.declared.tool.exports.Exported.{Exported}
use Rattle.walrus_tools.specs.declared.tool.imports.Imported.{Imported}
use Rattle.walrus_tools.specs.declared.tool.list.Listed.{Listed}
use Rattle.walrus_tools.proofs.Spellings.{passed_on, spelled_told}

module _ (c : Config) (bytes : List ℕ) (choices : List Choice) where
  -- what stays
  pub functions_refused : (e : Error) → AnswersListed c bytes choices (Err e) → AnswersFunctions c bytes choices (Err e)
  functions_refused =
      passed_on (Vec Listed) (Vec ℕ) c bytes (λ (list : Vec Listed). IsListed c bytes choices (map listed_seen list.items)) (λ (list : Vec ℕ). AreSpelled IsLong (IsListed c bytes choices) listed_bytes list.items)
      (LeavesLarge (EditsTo (KeepsChosen choices) c bytes) c) (LeavesLarge (EditsTo (KeepsChosen choices) c bytes) c ⊎ AreLong IsLong (IsListed c bytes choices)) (λ h. inl h) (RefusesEdit (RefusesChosen choices) c bytes)

  pub functions_spelled : (told old : List Listed) → told ≡ old → IsListed c bytes choices (map listed_seen old) → (result : Result (Vec ℕ) Error) → IfOk result (λ (list : Vec ℕ). list.items ≡ flat_map listed_bytes (map listed_seen told))
      → OnOk result (NoneLong IsLong (map listed_seen told)) → IfErr result (RefusesIf (HasLong IsLong (map listed_seen told))) → AnswersFunctions c bytes choices result
  functions_spelled told old same listed =
      spelled_told IsLong (IsListed c bytes choices) listed_bytes c bytes (LeavesLarge (EditsTo (KeepsChosen choices) c bytes) c ⊎ AreLong IsLong (IsListed c bytes choices)) inr (RefusesEdit (RefusesChosen choices) c bytes) (map listed_seen told)
      (subst (λ (all : List Listed). IsListed c bytes choices (map listed_seen all)) (sym same) listed)

  -- what goes
  pub dropped_refused : (e : Error) → AnswersDropped c bytes choices (Err e) → AnswersDroppedList c bytes choices (Err e)
  dropped_refused =
      passed_on (Vec Listed) (Vec ℕ) c bytes (λ (list : Vec Listed). IsDropped c bytes choices (map listed_seen list.items)) (λ (list : Vec ℕ). AreSpelled IsLong (IsDropped c bytes choices) listed_bytes list.items)
      ⊥ (AreLong IsLong (IsDropped c bytes choices)) (λ h. absurd h) (RefusesEdit (RefusesChosen choices) c bytes)

  pub dropped_spelled : (told old : List Listed) → told ≡ old → IsDropped c bytes choices (map listed_seen old) → (result : Result (Vec ℕ) Error) → IfOk result (λ (list : Vec ℕ). list.items ≡ flat_map listed_bytes (map listed_seen told))
      → OnOk result (NoneLong IsLong (map listed_seen told)) → IfErr result (RefusesIf (HasLong IsLong (map listed_seen told))) → AnswersDroppedList c bytes choices result
  dropped_spelled told old same listed =
      spelled_told IsLong (IsDropped c bytes choices) listed_bytes c bytes (AreLong IsLong (IsDropped c bytes choices)) (λ h. h) (RefusesEdit (RefusesChosen choices) c bytes) (map listed_seen told)
      (subst (λ (all : List Listed). IsDropped c bytes choices (map listed_seen all)) (sym same) listed)

  -- exports
  pub exports_refused : (e : Error) → AnswersExports c bytes choices (Err e) → AnswersExportList c bytes choices (Err e)
  exports_refused =
      passed_on (Vec Exported) (Vec ℕ) c bytes (λ (list : Vec Exported). AreExports c bytes choices (map exported_seen list.items)) (λ (list : Vec ℕ). AreSpelled IsLongExport (AreExports c bytes choices) exported_bytes list.items)
      ⊥ (AreLong IsLongExport (AreExports c bytes choices)) (λ h. absurd h) (RefusesEdit (RefusesChosen choices) c bytes)

  pub exports_spelled : (told old : List Exported) → told ≡ old → AreExports c bytes choices (map exported_seen old) → (result : Result (Vec ℕ) Error) → IfOk result (λ (list : Vec ℕ). list.items ≡ flat_map exported_bytes (map exported_seen told))
      → OnOk result (NoneLong IsLongExport (map exported_seen told)) → IfErr result (RefusesIf (HasLong IsLongExport (map exported_seen told))) → AnswersExportList c bytes choices result
  exports_spelled told old same listed =
      spelled_told IsLongExport (AreExports c bytes choices) exported_bytes c bytes (AreLong IsLongExport (AreExports c bytes choices)) (λ h. h) (RefusesEdit (RefusesChosen choices) c bytes) (map exported_seen told)
      (subst (λ (all : List Exported). AreExports c bytes choices (map exported_seen all)) (sym same) listed)

  -- imports
  pub imports_refused : (e : Error) → AnswersImports c bytes choices (Err e) → AnswersImportList c bytes choices (Err e)
  imports_refused =
      passed_on (Vec Imported) (Vec ℕ) c bytes (λ (list : Vec Imported). AreImports c bytes choices (map imported_seen list.items)) (λ (list : Vec ℕ). AreSpelled IsLongImport (AreImports c bytes choices) imported_bytes list.items)
      ⊥ (AreLong IsLongImport (AreImports c bytes choices)) (λ h. absurd h) (RefusesEdit (RefusesChosen choices) c bytes)

  pub imports_spelled : (told old : List Imported) → told ≡ old → AreImports c bytes choices (map imported_seen old) → (result : Result (Vec ℕ) Error) → IfOk result (λ (list : Vec ℕ). list.items ≡ flat_map imported_bytes (map imported_seen told))
      → OnOk result (NoneLong IsLongImport (map imported_seen told)) → IfErr result (RefusesIf (HasLong IsLongImport (map imported_seen told))) → AnswersImportList c bytes choices result
  imports_spelled told old same listed =
      spelled_told IsLongImport (AreImports c bytes choices) imported_bytes c bytes (AreLong IsLongImport (AreImports c bytes choices)) (λ h. h) (RefusesEdit (RefusesChosen choices) c bytes) (map imported_seen told)
      (subst (λ (all : List Imported). AreImports c bytes choices (map imported_seen all)) (sym same) listed)
