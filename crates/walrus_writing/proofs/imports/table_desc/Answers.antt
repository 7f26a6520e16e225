use Rattle.wasm_entries.specs.declared.record.RawTableType.{RawTableType}
use Rattle.std.proofs.lemmas.Result.{err_from_is_err_and}
use Rattle.walrus_code.specs.Indices.{index_of}
use Rattle.walrus_contents.specs.View.{table_of}
use Rattle.walrus_items.specs.Tables.{table_value}
use Rattle.walrus_model.specs.Sections as said
use Rattle.walrus_writing.proofs.ImportedThings.{table_described, table_refused}
use Rattle.walrus_writing.proofs.imports.table_desc.Goals as goal

pub returns-in_err-ty : goal.returns-in_err-ty
returns-in_err-ty c =
    let p = err_from_is_err_and c.from_residual.result c.from_residual.ensures.1 in
    rw (p.1, p.2) (table_refused (index_of c.args.indices.now) (λ (raw : RawTableType). said.ref_of raw.element) (table_of (table_value c.args.table.now)) _ c.in_err-ty.ensures.indexed c.in_err-ty.ensures.memory)

pub returns : goal.returns
returns c = table_described (index_of c.args.indices.now) (table_of (table_value c.args.table.now)) _ c.in_ok-ty.ensures.limits c.in_ok-ty.ensures.indexed c.in_ok-ty.ensures.spelled
