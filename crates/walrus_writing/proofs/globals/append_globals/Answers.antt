use Rattle.std.proofs.Common.{ap, ◌∙◌, List, refl, sym}
use Rattle.std.specs.Prelude.{⊤, Ok}
use Rattle.wasm_entries.specs.Record.{global_entry}
use Rattle.wasm_entries.specs.Spelling.{global_bytes}
use Rattle.wasm_entries.specs.declared.record.RawGlobal.{RawGlobal}
use Rattle.walrus_base.specs.Arena.{items}
use Rattle.walrus_base.specs.Id.{place}
use Rattle.walrus_code.specs.Indices.{index_of}
use Rattle.walrus_contents.specs.View.{global_of}
use Rattle.walrus_items.specs.Globals.{globals, globals_left, global_value}
use Rattle.walrus_writing.specs.BySection.{AreGlobals}
use Rattle.walrus_writing.specs.Globals.{IndexesGlobal}
use Rattle.walrus_writing.proofs.AppendedRows.{none_appended, one_appended, said_else}
use Rattle.walrus_writing.proofs.ItemsLeft.{GlobalsWritten, none_brings, one_brings, written_begins, written_done, written_more, written_past, written_spelled}
use Rattle.walrus_writing.proofs.globals.append_globals.Goals as goal

pub append_global-requires : goal.append_global-requires
append_global-requires c = record { own = none_brings place _ _ _ c.global_import.ensures c.is_none.ensures c.if-is_none.true }

pub loop-global-init : goal.loop-global-init
loop-global-init c =
    let names = index_of c.args.indices.now in
    let every = items (globals c.args.all.now) in (
      tt,
      tt,
      none_appended global_entry global_bytes (λ _. ⊤) (λ (raw : List RawGlobal). GlobalsWritten names every raw (globals_left c.into_iter-global-iterator.result)) _
          (written_begins _ _ _ _ _ every _ _ refl (ap globals_left c.into_iter-global-iterator.ensures.into_iter_gives ∙ c.iter-global-items.ensures)),
    )

pub loop-global-preserved-then-is_none : goal.loop-global-preserved-then-is_none
loop-global-preserved-then-is_none c =
    let names = index_of c.args.indices.now in
    let every = items (globals c.args.all.now) in (
      tt,
      tt,
      one_appended global_entry global_bytes (λ _. ⊤) (λ (raw : List RawGlobal). GlobalsWritten names every raw (globals_left c.loop-global.global-iterator)) (λ (raw : List RawGlobal). GlobalsWritten names every raw (globals_left c.next.new.self))
          (λ (raw : RawGlobal). IndexesGlobal names (global_of (global_value c.in-Some.global.now)) (Ok raw)) _ _ _ _ _
          (λ raw one w said. written_more _ _ _ _ _ _ _ _ _ _ _ c.in-Some.ensures.steps w one (none_brings place _ _ _ c.global_import.ensures c.is_none.ensures c.if-is_none.true) refl said.1 said.2 (sym said.0))
          c.loop-global.invariant.2 c.in_ok-count.ensures,
    )

pub loop-global-preserved : goal.loop-global-preserved
loop-global-preserved c =
    let names = index_of c.args.indices.now in
    let every = items (globals c.args.all.now) in (
      tt,
      tt,
      said_else global_entry global_bytes (λ _. ⊤) (λ (raw : List RawGlobal). GlobalsWritten names every raw (globals_left c.loop-global.global-iterator)) (λ (raw : List RawGlobal). GlobalsWritten names every raw (globals_left c.next.new.self)) _ _ _
          (λ raw w. written_past _ _ _ _ _ _ _ _ _ _ _ c.in-Some.ensures.steps w (one_brings place _ _ _ c.global_import.ensures c.is_none.ensures c.if-is_none.false) refl)
          c.loop-global.invariant.2,
    )

pub returns : goal.returns
returns c =
    let names = index_of c.args.indices.now in
    let every = items (globals c.args.all.now) in
    said_else global_entry global_bytes (λ _. ⊤) (λ (raw : List RawGlobal). GlobalsWritten names every raw (globals_left c.loop-global.global-iterator)) (AreGlobals names every) _ _ _
    (λ raw w. (written_done _ _ _ _ _ _ _ _ c.in-None.ensures.steps.0 w, w.stand, written_spelled _ _ _ _ _ _ _ _ c.in-None.ensures.steps.0 w))
    c.loop-global.invariant.2
