use Rattle.wasm_entries.proofs.Widths.{wide_fits, narrow_fits}
use Rattle.wasm_entries.proofs.limits.fits_width.Goals as goal

pub returns-then-wide : goal.returns-then-wide
returns-then-wide c = wide_fits c.args.wide c.args.size c.if-wide.true

pub returns-else-wide : goal.returns-else-wide
returns-else-wide c = narrow_fits c.args.wide c.args.size c.if-wide.false
