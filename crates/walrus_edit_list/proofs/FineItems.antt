-- Bodies stay well formed, and names of custom sections free, where exports, imports, the start function, names, producers and custom sections
-- come, change and go.
use Rattle.std.proofs.Common.{◌≡◌, ℕ, false, List, [], ◌∷◌, refl, sym, ap, ◌∙◌, subst}
use Rattle.std.specs.Prelude.{Option, Some, None, Contains, codes, bytes_eq, option_map, ◌||◌}
use Rattle.std.proofs.lemmas.Bool.{or_parts}
use Rattle.walrus_base.specs.Arena.{item_at, items}
use Rattle.walrus_base.specs.Id.{place}
use Rattle.walrus_base.specs.Operators.{Types, Functions, Tables, Memories, Tags, Globals, Elements, DataSegments, Space}
use Rattle.walrus_base.specs.TypeDef.{TypeDef}
use Rattle.walrus_contents.specs.View.{contents_view, function}
use Rattle.walrus_contents.specs.declared.parts.Contents.{Contents}
use Rattle.walrus_items.specs.Functions.{FunctionValue, functions}
use Rattle.walrus_model.proofs.Looked.{differs}
use Rattle.walrus_model.specs.Abstract.{Body, Function, FunctionKind, ImportedFunction, LocalFunction}
use Rattle.walrus_model.specs.Config.{Config}
use Rattle.walrus_model.specs.Customs.{is_debug_name}
use Rattle.walrus_model.specs.Sections.{is_apart}
use Rattle.walrus_module.specs.Edits.{brought}
use Rattle.walrus_theorem.specs.Sound.{IsFreeName}
use Rattle.wasm_entries.specs.Record.{Export, Import}
use Rattle.wasm_entries.specs.declared.record.RawDesc.{RawDesc}
use Rattle.wasm_entries.specs.declared.record.RawDesc.TheVariants as descs
use Rattle.wasm_frames.specs.Record.{Custom}
use Rattle.walrus_edit_list.specs.Formed.{AreFormed}
use Rattle.walrus_edit_list.specs.Customs.{AddsCustom, DeletesCustom, SetsCustom}
use Rattle.walrus_edit_list.specs.Edits.{Named, The, TheModule}
use Rattle.walrus_edit_list.specs.Exports.{AddsExport, AddsExports, DeletesExport, SetsExport}
use Rattle.walrus_edit_list.specs.Imports.{AddsImport, AddsImports, Brings, SetsImport}
use Rattle.walrus_edit_list.specs.Naming.{GivesName, NamesItem, space_of}
use Rattle.walrus_edit_list.specs.Producing.{AddsProducer, ClearsProducers}
use Rattle.walrus_edit_list.specs.Start.{DeletesStart, SetsStart}
use Rattle.walrus_edit_list.specs.Turns.{InTurn}
use Rattle.walrus_edit_list.proofs.FineSlots.{added_too, among, carried, same_seen, seen_before, was_left, written_too}

-- ---- bodies

-- what an import brings has no body
isnt_local : (p : ℕ) (b : Body) → ◌≡◌ {A = FunctionKind} (ImportedFunction p) (LocalFunction b) → ⊥
isnt_local p b same = absurd cc

module _ (c : Config) where
  abbrev Formed : Contents → Type 0
  Formed m = AreFormed c (contents_view m)

  -- where functions, types and locals are the same
  same : (old new : Contents) (bare : Contents) → new ≡ bare → ((t : ℕ) → (contents_view bare).types t ≡ (contents_view old).types t)
      → ((i : ℕ) (f : Function) (b : Body) → (contents_view bare).functions i ≡ Some f → f.kind ≡ LocalFunction b → (contents_view old).functions i ≡ Some f)
      → Formed old → Formed new
  same old new bare is types bodies formed = subst Formed (sym is) (carried c (contents_view old) (contents_view bare) types bodies formed)

  each : {A : Type 0} (Makes : A → (old new : Contents) → Type 0) → ((x : A) (old new : Contents) → Makes x old new → Formed old → Formed new)
      → (xs : List A) (old new : Contents) → InTurn Makes xs old new → Formed old → Formed new
  each Makes one [] old new is formed = subst Formed (sym is) formed
  each Makes one (x ∷ xs) old new (middle, first, more) formed = each Makes one xs middle new more (one x old middle first formed)

  exports_stay : (old new : Contents) → new ≡ record old { exports = new.exports } → Formed old → Formed new
  exports_stay old new only formed = same old new (record old { exports = new.exports }) only (λ t. refl) (λ i f b at is. at) formed

  pub adds_exports_fine : (es : List Export) (old new : Contents) → AddsExports es old new → Formed old → Formed new
  adds_exports_fine es old new adds formed = each AddsExport (λ e a b one was. exports_stay a b one.3 was) es old new adds formed

  pub sets_export_fine : (i : ℕ) (e : Export) (old new : Contents) → SetsExport i e old new → Formed old → Formed new
  sets_export_fine i e old new sets formed = exports_stay old new sets.3 formed

  pub deletes_export_fine : (i : ℕ) (old new : Contents) → DeletesExport i old new → Formed old → Formed new
  deletes_export_fine i old new deletes formed = exports_stay old new deletes.1 formed

  brings_fine : (d : RawDesc) (from name : List ℕ) (old new : Contents) → Brings d from name old new → Formed old → Formed new
  brings_fine (descs.Function n) from name old new (ty, ids, is, imported, only) formed =
      same old new (record old { funcs = new.funcs; imports = new.imports }) only (λ t. refl)
      (λ i f b at has.
      seen_before (function old.locals) (functions old.funcs) (brought ty (place ids.0) ids.1) i f
      (sym (ap (λ (xs : List (Option FunctionValue)). option_map (function old.locals) (item_at xs i)) imported.items) ∙ at)
      (λ own. isnt_local (place ids.1) b (ap (λ (g : Function). g.kind) own ∙ has)))
      formed
  brings_fine (descs.Global g) from name old new brings formed =
      same old new (record old { globals = new.globals; imports = new.imports }) brings.4 (λ t. refl) (λ i f b at is. at) formed
  brings_fine (descs.Table t) from name old new brings formed = absurd brings
  brings_fine (descs.Memory t) from name old new brings formed = absurd brings
  brings_fine (descs.Tag t) from name old new brings formed = absurd brings

  pub adds_imports_fine : (is : List Import) (old new : Contents) → AddsImports is old new → Formed old → Formed new
  adds_imports_fine is old new adds formed = each AddsImport (λ i a b one was. brings_fine i.desc i.from i.name a b one was) is old new adds formed

  pub sets_import_fine : (i : ℕ) (from name : List ℕ) (old new : Contents) → SetsImport i from name old new → Formed old → Formed new
  sets_import_fine i from name old new sets formed =
      same old new (record old { imports = new.imports }) sets.1 (λ t. refl) (λ j f b at is. at) formed

  pub sets_start_fine : (i : ℕ) (old new : Contents) → SetsStart i old new → Formed old → Formed new
  sets_start_fine i old new (f, at, live, only) formed = same old new (record old { start = Some f }) only (λ t. refl) (λ j g b has is. has) formed

  pub deletes_start_fine : (old new : Contents) → DeletesStart old new → Formed old → Formed new
  deletes_start_fine old new only formed = same old new (record old { start = None }) only (λ t. refl) (λ j g b has is. has) formed

  pub adds_producer_fine : (field name version : List ℕ) (old new : Contents) → AddsProducer field name version old new → Formed old → Formed new
  adds_producer_fine field name version old new adds formed =
      same old new (record old { producers = new.producers }) adds.1 (λ t. refl) (λ j f b at is. at) formed

  pub clears_producers_fine : (old new : Contents) → ClearsProducers old new → Formed old → Formed new
  clears_producers_fine old new clears formed =
      same old new (record old { producers = new.producers }) clears.1 (λ t. refl) (λ j f b at is. at) formed

  item_fine : (s : Option Space) (i : ℕ) (n : Option (List ℕ)) (old new : Contents) → NamesItem s i n old new → Formed old → Formed new
  item_fine None i n old new names formed = absurd names
  item_fine (Some Types) i n old new names formed =
      same old new (record old { types = new.types }) names.1 (λ t. ap (λ (xs : List (Option TypeDef)). item_at xs t) names.0.1) (λ j f b at is. at) formed
  item_fine (Some Functions) i n old new names formed =
      same old new (record old { funcs = new.funcs }) names.1 (λ t. refl)
      (λ j f b at is.
      sym (ap (λ (xs : List (Option FunctionValue)). option_map (function old.locals) (item_at xs j)) names.0.2
      ∙ same_seen (function old.locals) (functions old.funcs) i j names.0.0 (record names.0.0 { name = n }) names.0.1 refl) ∙ at)
      formed
  item_fine (Some Tables) i n old new names formed = same old new (record old { tables = new.tables }) names.1 (λ t. refl) (λ j f b at is. at) formed
  item_fine (Some Memories) i n old new names formed = same old new (record old { memories = new.memories }) names.1 (λ t. refl) (λ j f b at is. at) formed
  item_fine (Some Tags) i n old new names formed = same old new (record old { tags = new.tags }) names.1 (λ t. refl) (λ j f b at is. at) formed
  item_fine (Some Globals) i n old new names formed = same old new (record old { globals = new.globals }) names.1 (λ t. refl) (λ j f b at is. at) formed
  item_fine (Some Elements) i n old new names formed = same old new (record old { elements = new.elements }) names.1 (λ t. refl) (λ j f b at is. at) formed
  item_fine (Some DataSegments) i n old new names formed = same old new (record old { data_ = new.data_ }) names.1 (λ t. refl) (λ j f b at is. at) formed

  pub gives_name_fine : (w : Named) (n : Option (List ℕ)) (old new : Contents) → GivesName w n old new → Formed old → Formed new
  gives_name_fine TheModule n old new gives formed = same old new (record old { name = new.name }) gives.1 (λ t. refl) (λ j f b at is. at) formed
  gives_name_fine (The what i) n old new gives formed = item_fine (space_of what) i n old new gives formed

-- ---- names of custom sections

abbrev Free : List (Option Custom) → Type 0
Free all = (s : Custom) → Contains (items all) s → IsFreeName s.name

free_name : (name : List ℕ) → is_apart name ≡ false → IsFreeName name
free_name name free =
    let parts = or_parts (bytes_eq name (codes "name")) (bytes_eq name (codes "producers") || is_debug_name name) free in
    (differs name (codes "name") parts.0, differs name (codes "producers") (or_parts (bytes_eq name (codes "producers")) (is_debug_name name) parts.1).0)

pub adds_custom_fine : (c : Custom) (old new : List (Option Custom)) → AddsCustom c old new → Free old → Free new
adds_custom_fine c old new adds free =
    subst Free (sym adds.1) (added_too (λ (s : Custom). IsFreeName s.name) c (free_name c.name adds.0) 0 old free)

pub sets_custom_fine : (i : ℕ) (bytes : List ℕ) (old new : List (Option Custom)) → SetsCustom i bytes old new → Free old → Free new
sets_custom_fine i bytes old new (was, there, is) free =
    subst Free (sym is)
    (written_too (λ (s : Custom). IsFreeName s.name) (record was { bytes = bytes }) (free was (among 0 old i was there)) 0 old i free)

pub deletes_custom_fine : (i : ℕ) (old new : List (Option Custom)) → DeletesCustom i old new → Free old → Free new
deletes_custom_fine i old new deletes free = subst Free (sym deletes.1) (λ s has. free s (was_left 0 old i s has))
