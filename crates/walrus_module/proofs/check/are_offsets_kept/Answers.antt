use Rattle.std.proofs.Common.{sym, ◌∙◌}
use Rattle.walrus_contents.specs.View.{lent}
use Rattle.walrus_model.proofs.Deciding.{refused, told_last}
use Rattle.walrus_module.proofs.OffsetsTested.{data_kept, elements_kept, offsets_hold}
use Rattle.walrus_module.proofs.check.are_offsets_kept.Goals as goal

pub returns-then-not-are_elements_placed : goal.returns-then-not-are_elements_placed
returns-then-not-are_elements_placed c = refused _ _ c.are_elements_placed.ensures c.if-not-are_elements_placed.true (elements_kept (lent c.args.parts))

pub returns : goal.returns
returns c =
    told_last _ _ c.are_data_placed.ensures
    (offsets_hold (lent c.args.parts) (sym c.are_elements_placed.ensures ∙ c.if-not-are_elements_placed.false))
    (data_kept (lent c.args.parts))
