use Rattle.std.proofs.Common.{map}
use Rattle.std.proofs.lemmas.Result.{err_from_is_err_and}
use Rattle.walrus_code.specs.Indices.{index_of}
use Rattle.walrus_model.specs.Sections.{ref_of}
use Rattle.walrus_base.specs.ConstOps.{const_ops}
use Rattle.walrus_base.specs.Value.{ref_type}
use Rattle.walrus_writing.proofs.ElementRecords.{consts_refused, expressions_written, type_refused}
use Rattle.walrus_writing.proofs.elements.raw_expressions.Goals as goal

pub returns-in_err-element : goal.returns-in_err-element
returns-in_err-element c =
    let p = err_from_is_err_and c.from_residual.result c.from_residual.ensures.1 in
    rw (p.1, p.2) (type_refused (index_of c.args.indices.now) (ref_type c.args.ty) (map const_ops c.args.all.now) ref_of _ c.in_err-element.ensures.indexed)

pub returns-in_err-raw : goal.returns-in_err-raw
returns-in_err-raw c =
    let p = err_from_is_err_and c.from_residual-in_err-raw.result c.from_residual-in_err-raw.ensures.1 in
    rw (p.1, p.2) (consts_refused (index_of c.args.indices.now) (ref_type c.args.ty) (map const_ops c.args.all.now) _ c.in_err-raw.ensures.indexed)

pub returns : goal.returns
returns c =
    expressions_written (index_of c.args.indices.now) (ref_type c.args.ty) (map const_ops c.args.all.now) c.in_ok-element.element c.in_ok-raw.raw c.in_ok-element.ensures.indexed c.in_ok-element.ensures.spelled c.in_ok-raw.ensures.indexed c.in_ok-raw.ensures.spelled
