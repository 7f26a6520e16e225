use Rattle.std.proofs.Common.{ap, sym, ◌+◌, ℕ, ◌∙◌}
use Rattle.walrus_base.proofs.Fronts.{both_counted}
use Rattle.walrus_code.proofs.indices.IndexSpace.len.Goals as goal

pub returns : goal.returns
returns g c = ap (λ (n : ℕ). c.args.self.now.front + n) (c.len.ensures ∙ c.args.self.now.behind.ok.0) ∙ sym (both_counted c.args.self.now.front c.args.self.now.behind.items)
