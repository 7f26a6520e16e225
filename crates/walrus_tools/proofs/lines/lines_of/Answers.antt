use Rattle.std.proofs.Common.{ℕ, List, ◌++◌, ◌∙◌, ap, flat_map, map, take_all}
use Rattle.walrus.specs.Code.Code.{item_of}
use Rattle.walrus.specs.Code.ItemId.{ItemId}
use Rattle.walrus_tools.specs.Reasons.{item_line}
use Rattle.walrus_tools.proofs.LineLemmas.{line_more}
use Rattle.walrus_tools.proofs.lines.lines_of.Goals as goal

pub loop-item-preserved : goal.loop-item-preserved
loop-item-preserved c =
    let all = c.args.items.now in
    let i = c.loop-item.item-index in
    c.in_ok-push_str.ensures.bytes
    ∙ ap (λ (t : List ℕ). t ++ c.as_str.result.now) c.loop-item.invariant
    ∙ line_more item_line item_of all i _ c.loop-item-test.true _ (c.as_str.ensures.value ∙ c.in_ok-line.ensures)

pub returns : goal.returns
returns c = c.loop-item.invariant ∙ ap (λ (xs : List ItemId). flat_map item_line (map item_of xs)) (take_all c.loop-item.item-index c.args.items.now c.loop-item-test.false)
