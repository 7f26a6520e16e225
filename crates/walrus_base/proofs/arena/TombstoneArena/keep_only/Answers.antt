use Rattle.std.proofs.Common.{ap, ◌∙◌}
use Rattle.walrus_base.specs.Arena.{item_at, slots}
use Rattle.walrus_base.specs.Marks.{is_marked}
use Rattle.walrus_base.proofs.Kept.{item_at-kept_by}
use Rattle.walrus_base.proofs.arena.TombstoneArena.keep_only.Goals as goal

pub returns-clause-each : goal.returns-clause-each
returns-clause-each g c = λ p. ap (λ s. item_at s p) c.keep_marked.ensures ∙ item_at-kept_by (is_marked c.args.marks.now) (slots c.args.self.now) p
