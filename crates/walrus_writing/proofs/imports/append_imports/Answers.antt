use Rattle.std.proofs.Common.{◌≡◌, ap, ◌∙◌, List, map, ℕ}
use Rattle.std.specs.Prelude.{Ok, option_map}
use Rattle.wasm_entries.specs.Record.{import_entry}
use Rattle.wasm_entries.specs.Spelling.{ImportFits, import_bytes}
use Rattle.wasm_entries.specs.declared.record.RawImport.{RawImport}
use Rattle.walrus_base.specs.Arena.{entries}
use Rattle.walrus_code.specs.Indices.{index_of}
use Rattle.walrus_items.specs.Imports.{ImportValue, import_value, imports, import_entries_left}
use Rattle.walrus_contents.specs.View as seen
use Rattle.walrus_contents.specs.View.{parts_view}
use Rattle.walrus_contents.specs.declared.parts.Parts.{Parts}
use Rattle.walrus_code.specs.Names.{Lookup}
use Rattle.walrus_model.proofs.Walked.{next_there, walk_begins, walk_goes}
use Rattle.walrus_writing.specs.BySection.{AreImports}
use Rattle.walrus_writing.specs.Imported.{IndexesImport}
use Rattle.walrus_writing.proofs.AppendedRows.{none_appended, one_appended, said_else}
use Rattle.walrus_writing.proofs.ImportedEntries.{Completes, completes_begins, completes_ends, completes_goes}
use Rattle.walrus_writing.proofs.imports.append_imports.Goals as goal

-- the entries of those left complete those of these records
abbrev ImportsWritten : Parts → Lookup → List (ℕ × ImportValue) → List RawImport → Type 0
ImportsWritten p names left raw = Completes names (parts_view p) (map import_entry raw) (map (λ e. e.0) left) (map (λ e. e.0) (entries (imports p.imports.now)))

pub loop-import-init : goal.loop-import-init
loop-import-init c =
    let p = c.args.parts in
    let names = index_of c.args.indices.now in
    let left = import_entries_left c.into_iter-import-iterator.result in
    let all : left ≡ entries (imports p.imports.now) = ap import_entries_left c.into_iter-import-iterator.ensures.into_iter_gives ∙ c.iter_entries-import-items.ensures in (
      tt,
      tt,
      walk_begins (λ i. Unit {0}) (imports p.imports.now) _ all,
      none_appended import_entry import_bytes ImportFits (ImportsWritten p names left) _ (completes_begins names (parts_view p) _ _ (ap (λ (l : List (ℕ × ImportValue)). map (λ e. e.0) l) all)),
    )

pub append_import-requires : goal.append_import-requires
append_import-requires c =
    let p = c.args.parts in
    let at = next_there (λ i. Unit {0}) (imports p.imports.now) _ _ _ c.in-Some.ensures.steps c.loop-import.invariant.2 in
    record { live = c.requires.live _ (seen.import_of (import_value c.in-Some.import.now)) (ap (option_map seen.import_of) at) }

pub loop-import-preserved : goal.loop-import-preserved
loop-import-preserved c =
    let p = c.args.parts in
    let names = index_of c.args.indices.now in
    let slots = imports p.imports.now in
    let at = next_there (λ i. Unit {0}) slots _ _ _ c.in-Some.ensures.steps c.loop-import.invariant.2 in (
      tt,
      tt,
      walk_goes (λ i. Unit {0}) slots _ _ _ c.in-Some.ensures.steps tt c.loop-import.invariant.2,
      one_appended import_entry import_bytes ImportFits (ImportsWritten p names (import_entries_left c.loop-import.import-iterator)) (ImportsWritten p names (import_entries_left c.next.new.self))
          (λ (raw : RawImport). IndexesImport names (parts_view p) (seen.import_of (import_value c.in-Some.import.now)) (Ok raw)) _ _ _ _ _
          (λ raw one w said. completes_goes names (parts_view p) _ _ _ _ c.in-Some.ensures.steps raw one (ap (option_map seen.import_of) at) said w)
          c.loop-import.invariant.3 c.in_ok-count.ensures,
    )

pub returns : goal.returns
returns c =
    let p = c.args.parts in
    let names = index_of c.args.indices.now in
    said_else import_entry import_bytes ImportFits (ImportsWritten p names (import_entries_left c.loop-import.import-iterator)) (AreImports p names) _ _ _
    (λ raw w. completes_ends names (parts_view p) _ _ _ c.in-None.ensures.steps.0 w)
    c.loop-import.invariant.3
