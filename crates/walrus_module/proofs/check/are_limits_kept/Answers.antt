use Rattle.std.proofs.Common.{sym, ◌∙◌}
use Rattle.walrus_contents.specs.View.{lent}
use Rattle.walrus_model.proofs.Deciding.{refused, told_last}
use Rattle.walrus_module.proofs.RulesTested.{limits_hold, memories_kept, tables_kept}
use Rattle.walrus_module.proofs.check.are_limits_kept.Goals as goal

pub returns-then-not-are_tables_limited : goal.returns-then-not-are_tables_limited
returns-then-not-are_tables_limited c = refused _ _ c.are_tables_limited.ensures c.if-not-are_tables_limited.true (tables_kept (lent c.args.parts))

pub returns : goal.returns
returns c =
    told_last _ _ c.are_memories_limited.ensures
    (limits_hold (lent c.args.parts) (sym c.are_tables_limited.ensures ∙ c.if-not-are_tables_limited.false))
    (memories_kept (lent c.args.parts))
