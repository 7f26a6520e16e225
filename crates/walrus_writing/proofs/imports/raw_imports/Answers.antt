use Rattle.std.proofs.Common.{◌≡◌, ap, ◌∙◌, List, map, ℕ, sym, subst}
use Rattle.std.specs.Prelude.{option_map}
use Rattle.std.proofs.lemmas.Result.{err_from_is_err_and}
use Rattle.wasm_entries.specs.Record.{import_entry}
use Rattle.wasm_entries.specs.declared.record.RawImport.{RawImport}
use Rattle.walrus_base.specs.Arena.{entries}
use Rattle.walrus_code.specs.Indices.{index_of}
use Rattle.walrus_items.specs.Imports.{ImportValue, import_value, imports, import_entries_left}
use Rattle.walrus_contents.specs.View as seen
use Rattle.walrus_contents.specs.View.{parts_view}
use Rattle.walrus_model.proofs.Walked.{next_there, walk_begins, walk_goes}
use Rattle.walrus_writing.proofs.ImportedEntries.{Completes, completes_begins, completes_ends, completes_goes, one_refused}
use Rattle.walrus_writing.proofs.imports.raw_imports.Goals as goal

pub loop-import-init : goal.loop-import-init
loop-import-init c =
    let p = c.args.parts in
    let slots = imports p.imports.now in
    let all : import_entries_left c.into_iter-import-iterator.result ≡ entries (imports c.args.parts.imports.now) = ap import_entries_left c.into_iter-import-iterator.ensures.into_iter_gives ∙ c.iter_entries-import-items.ensures in (
      tt,
      tt,
      walk_begins (λ i. Unit {0}) slots _ all,
      subst (λ (raw : List RawImport). Completes (index_of c.args.indices.now) (parts_view p) (map import_entry raw) (map (λ e. e.0) (import_entries_left c.into_iter-import-iterator.result)) (map (λ e. e.0) (entries slots)))
          (sym c.in_ok-raw.ensures.items)
          (completes_begins (index_of c.args.indices.now) (parts_view p) _ _ (ap (λ (l : List (ℕ × ImportValue)). map (λ e. e.0) l) all)),
    )

pub raw_import-requires : goal.raw_import-requires
raw_import-requires c =
    let p = c.args.parts in
    let at = next_there (λ i. Unit {0}) (imports p.imports.now) _ _ _ c.in-Some.ensures.steps c.loop-import.invariant.2 in
    record { live = c.requires.live _ (seen.import_of (import_value c.in-Some.import.now)) (ap (option_map seen.import_of) at) }

pub returns-in_err-one-clause-fails : goal.returns-in_err-one-clause-fails
returns-in_err-one-clause-fails c =
    let p = c.args.parts in
    let at = next_there (λ i. Unit {0}) (imports p.imports.now) _ _ _ c.in-Some.ensures.steps c.loop-import.invariant.2 in
    let q = err_from_is_err_and c.from_residual-in_err-one.result c.from_residual-in_err-one.ensures.1 in
    rw (q.1, q.2) (one_refused (index_of c.args.indices.now) (parts_view p) _ (seen.import_of (import_value c.in-Some.import.now)) _ (ap (option_map seen.import_of) at) c.requires.indexed c.in_err-one.ensures)

pub loop-import-preserved : goal.loop-import-preserved
loop-import-preserved c =
    let p = c.args.parts in
    let slots = imports p.imports.now in
    let at = next_there (λ i. Unit {0}) slots _ _ _ c.in-Some.ensures.steps c.loop-import.invariant.2 in (
      tt,
      tt,
      walk_goes (λ i. Unit {0}) slots _ _ _ c.in-Some.ensures.steps tt c.loop-import.invariant.2,
      subst (λ (raw : List RawImport). Completes (index_of c.args.indices.now) (parts_view p) (map import_entry raw) (map (λ e. e.0) (import_entries_left c.next.new.self)) (map (λ e. e.0) (entries slots)))
          (sym c.in_ok-push.ensures.items)
          (completes_goes (index_of c.args.indices.now) (parts_view p) _ _ _ _ c.in-Some.ensures.steps c.loop-import.raw.items c.in_ok-one.one (ap (option_map seen.import_of) at) c.in_ok-one.ensures c.loop-import.invariant.3),
    )

pub returns-clause-value : goal.returns-clause-value
returns-clause-value c =
    let p = c.args.parts in
    completes_ends (index_of c.args.indices.now) (parts_view p) _ _ _ c.in-None.ensures.steps.0 c.loop-import.invariant.3
