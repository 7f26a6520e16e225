use mathlib.Core.Path.{fun_ext}
use Rattle.walrus_items.proofs.sets.no_ids.Goals as goal

pub returns : goal.returns
returns g c = fun_ext (λ n. c.new.ensures n)
