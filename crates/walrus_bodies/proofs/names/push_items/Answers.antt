use Rattle.std.proofs.Common.{arith}
use Rattle.walrus_bodies.proofs.NamesShown.{argument_at, put_first, put_more, put_all}
use Rattle.walrus_bodies.proofs.names.push_items.Goals as goal

pub marks-init : goal.marks-init
marks-init c = put_first c.args.bytes.now c.args.marks.now c.args.to.now.items c.requires

pub push_item-requires : goal.push_item-requires
push_item-requires c = argument_at c.args.bytes.now c.args.marks.now c.marks.mark-index _ c.marks-test.true c.marks.invariant.ordered

pub marks-preserved : goal.marks-preserved
marks-preserved c = put_more c.args.bytes.now c.args.marks.now c.marks.mark-index _ c.args.to.now.items c.marks.to.items _ c.marks-test.true c.marks.invariant c.in_ok-push_item.ensures

pub returns : goal.returns
returns c = put_all c.args.bytes.now c.args.marks.now c.marks.mark-index c.args.to.now.items c.marks.to.items (omega (arith, c.marks-test.false)) c.marks.invariant
