use Rattle.std.proofs.Common.{◌≡◌, ℕ, ap, sym, subst, ◌∙◌, OnOk}
use Rattle.std.specs.Prelude.{Option}
use Rattle.walrus_reading.specs.Renamed.{renamed_from}
use Rattle.walrus_reading.specs.Shown.{local_values, mend_local}
use Rattle.walrus_reading.specs.Synthetic.{filled_in, span}
use Rattle.walrus_reading.proofs.Filled.{no_names_become}
use Rattle.walrus_reading.proofs.synthetic.fill_locals.Goals as goal

pub returns-in_default-clause-filled : goal.returns-in_default-clause-filled
returns-in_default-clause-filled c =
    no_names_become (local_values c.args.all.now) (filled_in c.args.parameters (span c.args.starts.now c.args.function))
    (λ n. ap (λ (o : Option (ℕ × ℕ)). filled_in c.args.parameters o n) (sym c.span_of.ensures ∙ c.in_default.is))

pub returns-clause-filled : goal.returns-clause-filled
returns-clause-filled c =
    subst (λ (o : Option (ℕ × ℕ)). OnOk c.fill_row.result (local_values c.fill_row.new.all ≡ renamed_from mend_local (filled_in c.args.parameters o) 0 (local_values c.args.all.now)))
    (sym c.in-Some.is ∙ c.span_of.ensures) c.fill_row.ensures.filled
