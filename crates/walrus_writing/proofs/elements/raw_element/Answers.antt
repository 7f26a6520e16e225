use Rattle.std.proofs.lemmas.Result.{err_from_is_err_and}
use Rattle.wasm_entries.specs.Record.{items_of}
use Rattle.walrus_code.specs.Indices.{index_of}
use Rattle.walrus_contents.specs.View.{element_of, tables_of}
use Rattle.walrus_items.specs.Elements.{element_value}
use Rattle.walrus_writing.proofs.ElementRecords.{element_written, items_refused, mode_refused}
use Rattle.walrus_writing.proofs.elements.raw_element.Goals as goal

pub returns-in_err-held : goal.returns-in_err-held
returns-in_err-held c =
    let p = err_from_is_err_and c.from_residual.result c.from_residual.ensures.1 in
    rw (p.1, p.2) (items_refused (index_of c.args.indices.now) (tables_of c.args.all_tables.now) (element_of (element_value c.args.segment.now)) _ c.in_err-held.ensures)

pub returns-in_err-mode : goal.returns-in_err-mode
returns-in_err-mode c =
    let p = err_from_is_err_and c.from_residual-in_err-mode.result c.from_residual-in_err-mode.ensures.1 in
    rw (p.1, p.2) (mode_refused (index_of c.args.indices.now) (tables_of c.args.all_tables.now) (element_of (element_value c.args.segment.now)) (items_of c.in_ok-held.held) _ c.in_err-mode.ensures)

pub returns : goal.returns
returns c =
    element_written (index_of c.args.indices.now) (tables_of c.args.all_tables.now) (element_of (element_value c.args.segment.now)) (record { mode = c.in_ok-mode.mode; items = c.in_ok-held.held }) c.in_ok-held.ensures c.in_ok-mode.ensures
