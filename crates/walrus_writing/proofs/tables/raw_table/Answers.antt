use Rattle.std.proofs.Common.{ap}
use Rattle.std.specs.Prelude.{option_map}
use Rattle.std.proofs.lemmas.Result.{err_from_is_err_and}
use Rattle.walrus_code.specs.Indices.{index_of}
use Rattle.walrus_base.specs.ConstOps.{const_ops}
use Rattle.walrus_contents.specs.View.{origin_of, own_initialiser, table_of}
use Rattle.walrus_items.specs.Tables.{table_value}
use Rattle.walrus_writing.proofs.TableRecords.{initial_refused, table_written}
use Rattle.walrus_writing.proofs.tables.raw_table.Goals as goal

pub returns-in_err-initial : goal.returns-in_err-initial
returns-in_err-initial c =
    let p = err_from_is_err_and c.from_residual-in_err-initial.result c.from_residual-in_err-initial.ensures.1 in
    rw (p.1, p.2) (initial_refused (index_of c.args.indices.now) (table_of (table_value c.args.table.now)) (option_map const_ops c.args.table.now.init) _ (ap (λ o. own_initialiser o (option_map const_ops c.args.table.now.init)) c.requires.own) c.in_err-initial.ensures.indexed)

pub returns : goal.returns
returns c =
    table_written (index_of c.args.indices.now) (table_of (table_value c.args.table.now)) _ (option_map const_ops c.args.table.now.init) (ap (λ o. own_initialiser o (option_map const_ops c.args.table.now.init)) c.requires.own) (ap origin_of c.requires.own) c.in_ok-ty.ensures.limits c.in_ok-ty.ensures.indexed
    (record { ty = c.in_ok-ty.ensures.spelled; initial = c.in_ok-initial.ensures.spelled })
    c.in_ok-initial.ensures.indexed
