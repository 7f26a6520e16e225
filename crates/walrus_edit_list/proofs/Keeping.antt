-- From edit to edit bodies stay well formed, and the names of custom sections free.
use Rattle.std.proofs.Common.{ℕ, List, [], ◌∷◌, sym, ap, subst}
use Rattle.std.specs.Prelude.{Contains, Option, Some, None}
use Rattle.wasm_frames.specs.Frames as frames
use Rattle.wasm_frames.specs.Frames.{Section}
use Rattle.wasm_frames.specs.Record.{Custom}
use Rattle.walrus_base.specs.Arena.{items}
use Rattle.walrus_contents.specs.View.{contents_view}
use Rattle.walrus_contents.specs.declared.parts.Contents.{Contents}
use Rattle.walrus_model.specs.Config.{Config}
use Rattle.walrus_theorem.specs.Features.{features_of}
use Rattle.walrus_theorem.specs.Sound.{IsFreeName}
use Rattle.walrus_edit_list.specs.Applies.{EditsBy, EditsKeepFine}
use Rattle.walrus_edit_list.specs.Edits as edits
use Rattle.walrus_edit_list.specs.Edits.{Said, Setting}
use Rattle.walrus_edit_list.specs.Fine.{IsFine}
use Rattle.walrus_edit_list.specs.Formed.{AreFormed}
use Rattle.walrus_edit_list.specs.Held.{Held}
use Rattle.walrus_edit_list.specs.Makes.{ACustom, AddsSection, AnElement, AnExport, Deleted, DeletesItem, InContents, InCustoms, Makes, SetsItem, SomeData, deleted}
use Rattle.walrus_edit_list.proofs.FineFronts.{fronts_formed}
use Rattle.walrus_edit_list.proofs.FineFunctions.{adds_function_fine, adds_types_fine, brings_formed, sets_function_fine}
use Rattle.walrus_edit_list.proofs.FineItems.{adds_custom_fine, adds_exports_fine, adds_imports_fine, adds_producer_fine, clears_producers_fine, deletes_custom_fine, deletes_export_fine, deletes_start_fine, gives_name_fine, sets_custom_fine, sets_export_fine, sets_import_fine, sets_start_fine}
use Rattle.walrus_edit_list.proofs.FineSegments.{data_added, data_deleted, data_set, element_deleted, elements_added, global_set, globals_added, memory_set}

module _ (c : Config) where
  -- contents changed so that bodies stay well formed, and custom sections stay
  contents_fine : (Changes : Contents → Contents → Type 0) → ((a b : Contents) → Changes a b → AreFormed c (contents_view a) → AreFormed c (contents_view b)) → (old new : Held) → InContents Changes old new → IsFine c old → IsFine c new
  contents_fine Changes keeps old new made fine = record {
    formed = keeps old.contents new.contents made.0 fine.formed;
    free = λ s has. fine.free s (subst (λ (xs : List (Option Custom)). Contains (items xs) s) (ap (λ (h : Held). h.customs) made.1) has);
  }

  abbrev Free : List (Option Custom) → Type 0
  Free all = (s : Custom) → Contains (items all) s → IsFreeName s.name

  -- custom sections changed so that their names stay free, and contents stay
  customs_fine : (Changes : List (Option Custom) → List (Option Custom) → Type 0) → ((a b : List (Option Custom)) → Changes a b → Free a → Free b) → (old new : Held) → InCustoms Changes old new → IsFine c old → IsFine c new
  customs_fine Changes keeps old new made fine = record {
    formed = subst (λ (m : Contents). AreFormed c (contents_view m)) (sym (ap (λ (h : Held). h.contents) made.1)) fine.formed;
    free = keeps old.customs new.customs made.0 fine.free;
  }

  section_fine : (s : Section) (old new : Held) → AddsSection s old new → IsFine c old → IsFine c new
  section_fine (frames.CustomSection s) old new made fine = customs_fine _ (adds_custom_fine s) old new made fine
  section_fine (frames.Types gs) old new made fine = adds_types_fine c gs old new made fine
  section_fine (frames.Imports is) old new made fine = contents_fine _ (adds_imports_fine c is) old new made fine
  section_fine (frames.Globals gs) old new made fine = contents_fine _ (globals_added c gs) old new made fine
  section_fine (frames.Exports es) old new made fine = contents_fine _ (adds_exports_fine c es) old new made fine
  section_fine (frames.Start f) old new made fine = contents_fine _ (sets_start_fine c f) old new made fine
  section_fine (frames.Elements es) old new made fine = contents_fine _ (elements_added c es) old new made fine
  section_fine (frames.DataSegments ds) old new made fine = contents_fine _ (data_added c ds) old new made fine
  section_fine _ old new made fine = absurd made

  setting_fine : (s : Setting) (old new : Held) → SetsItem (features_of c) s old new → IsFine c old → IsFine c new
  setting_fine (edits.SetsCustom i bytes) old new made fine = customs_fine _ (sets_custom_fine i bytes) old new made fine
  setting_fine (edits.SetsImport i from name) old new made fine = contents_fine _ (sets_import_fine c i from name) old new made fine
  setting_fine (edits.SetsExport i e) old new made fine = contents_fine _ (sets_export_fine c i e) old new made fine
  setting_fine (edits.SetsFunction i code) old new made fine = sets_function_fine c i code old new made fine
  setting_fine (edits.SetsGlobal i g) old new made fine = contents_fine _ (global_set c i g) old new made fine
  setting_fine (edits.SetsMemory i l) old new made fine = contents_fine _ (memory_set c i l) old new made fine
  setting_fine (edits.SetsData i d) old new made fine = contents_fine _ (data_set c i d) old new made fine

  deletion_fine : (d : Option Deleted) (i : ℕ) (old new : Held) → DeletesItem d i old new → IsFine c old → IsFine c new
  deletion_fine (Some ACustom) i old new made fine = customs_fine _ (deletes_custom_fine i) old new made fine
  deletion_fine (Some AnExport) i old new made fine = contents_fine _ (deletes_export_fine c i) old new made fine
  deletion_fine (Some AnElement) i old new made fine = contents_fine _ (element_deleted c i) old new made fine
  deletion_fine (Some SomeData) i old new made fine = contents_fine _ (data_deleted c i) old new made fine
  deletion_fine None i old new made fine = absurd made

  one_fine : (e : Said) (old new : Held) → Makes (features_of c) e old new → IsFine c old → IsFine c new
  one_fine (edits.Adds s) old new made fine = section_fine s old new made fine
  one_fine (edits.AddsFunction ty code) old new made fine = adds_function_fine c ty code old new made fine
  one_fine (edits.Sets s) old new made fine = setting_fine s old new made fine
  one_fine (edits.Deletes what i) old new made fine = deletion_fine (deleted what) i old new made fine
  one_fine edits.DeletesStart old new made fine = contents_fine _ (deletes_start_fine c) old new made fine
  one_fine (edits.BringsFunction i from name) old new made fine = contents_fine _ (brings_formed c i from name) old new made fine
  one_fine (edits.Names what n) old new made fine = contents_fine _ (gives_name_fine c what n) old new made fine
  one_fine (edits.AddsProducer field name version) old new made fine = contents_fine _ (adds_producer_fine c field name version) old new made fine
  one_fine edits.ClearsProducers old new made fine = contents_fine _ (clears_producers_fine c) old new made fine
  one_fine (edits.Fronts i operators) old new made fine = contents_fine _ (fronts_formed c i operators) old new made fine

  each_fine : (es : List Said) (old new : Held) → EditsBy (features_of c) es old new → IsFine c old → IsFine c new
  each_fine [] old new same fine = subst (IsFine c) (sym same) fine
  each_fine (e ∷ es) old new (middle, first, more) fine = each_fine es middle new more (one_fine e old middle first fine)

pub keep_fine : EditsKeepFine
keep_fine c es old new by fine = each_fine c es old new by fine
