use Rattle.std.proofs.Common.{ap, refl}
use Rattle.std.proofs.lemmas.Result.{err_from_is_err_and}
use Rattle.walrus_writing.proofs.tables.raw_table_type.Goals as goal

pub returns-in_err-element-clause-indexed : goal.returns-in_err-element-clause-indexed
returns-in_err-element-clause-indexed c =
    let p = err_from_is_err_and c.from_residual.result c.from_residual.ensures.1 in
    rw (p.1, p.2) c.in_err-element.ensures.indexed

pub returns-in_err-element-clause-memory : goal.returns-in_err-element-clause-memory
returns-in_err-element-clause-memory c =
    let p = err_from_is_err_and c.from_residual.result c.from_residual.ensures.1 in
    rw (p.1, p.2) c.in_err-element.ensures.memory

pub returns-clause-limits : goal.returns-clause-limits
returns-clause-limits c = rw c.raw_limits-limits.ensures.value refl

pub returns-clause-spelled : goal.returns-clause-spelled
returns-clause-spelled c = record {
  element = c.in_ok-element.ensures.spelled;
  limits = c.raw_limits-limits.ensures.stands;
  not_shared = ap (λ l. l.shared) c.raw_limits-limits.ensures.value;
  no_page = ap (λ l. l.page) c.raw_limits-limits.ensures.value;
}
