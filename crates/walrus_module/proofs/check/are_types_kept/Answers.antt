use Rattle.std.proofs.Common.{sym, ◌∙◌}
use Rattle.walrus_contents.specs.View.{lent}
use Rattle.walrus_model.proofs.Deciding.{refused, told_last}
use Rattle.walrus_module.proofs.RulesTested.{blocks_typed, functions_typed, tags_typed, types_hold}
use Rattle.walrus_module.proofs.check.are_types_kept.Goals as goal

pub returns-then-not-are_functions_typed : goal.returns-then-not-are_functions_typed
returns-then-not-are_functions_typed c = refused _ _ c.are_functions_typed.ensures c.if-not-are_functions_typed.true (functions_typed (lent c.args.parts))

pub returns-then-not-are_tags_typed : goal.returns-then-not-are_tags_typed
returns-then-not-are_tags_typed c = refused _ _ c.are_tags_typed.ensures c.if-not-are_tags_typed.true (tags_typed (lent c.args.parts))

pub returns : goal.returns
returns c =
    told_last _ _ c.in_ok-hold.ensures
    (types_hold (lent c.args.parts) (sym c.are_functions_typed.ensures ∙ c.if-not-are_functions_typed.false) (sym c.are_tags_typed.ensures ∙ c.if-not-are_tags_typed.false))
    (blocks_typed (lent c.args.parts))
