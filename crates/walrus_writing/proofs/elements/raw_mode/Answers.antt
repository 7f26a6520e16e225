use Rattle.std.proofs.lemmas.Result.{err_from_is_err_and}
use Rattle.wasm_entries.specs.Record.{items_of}
use Rattle.walrus_base.specs.Id.{place}
use Rattle.walrus_code.specs.Indices.{index_of}
use Rattle.walrus_contents.specs.View.{tables_of}
use Rattle.walrus_base.specs.ConstOps.{const_ops}
use Rattle.walrus_writing.proofs.ElementRecords.{active_written, offset_refused}
use Rattle.walrus_writing.proofs.elements.raw_mode.Goals as goal

pub returns-in_err-raw_offset-in-Active : goal.returns-in_err-raw_offset-in-Active
returns-in_err-raw_offset-in-Active c =
    let p = err_from_is_err_and c.from_residual.result c.from_residual.ensures.1 in
    rw (c.in-Active.is) (rw (p.1, p.2) (offset_refused (index_of c.args.indices.now) (tables_of c.args.all_tables.now) (items_of c.args.held.now) (place c.in-Active.table) (const_ops c.in-Active.offset) c.in-Some.index c.in-Some.ensures.same _ c.in_err-raw_offset-in-Active.ensures.indexed))

pub returns-in_ok-raw_offset-in-Active : goal.returns-in_ok-raw_offset-in-Active
returns-in_ok-raw_offset-in-Active c =
    rw (c.in-Active.is) (active_written (index_of c.args.indices.now) (tables_of c.args.all_tables.now) (items_of c.args.held.now) (place c.in-Active.table) (const_ops c.in-Active.offset) c.in_ok-raw_offset-in-Active.raw_offset c.in_ok-raw_offset-in-Active.ensures.indexed c.in_ok-raw_offset-in-Active.ensures.spelled
    c.in-Some.index c.in-Some.ensures.same c.in-Some.ensures.stands _ _ c.is_narrow.ensures c.are_plain.ensures _ c.written_index-written.ensures)
