use Rattle.std.proofs.Common.{sym}
use Rattle.std.specs.Vec.Iter.{into_iter_items}
use Rattle.std.proofs.lemmas.Result.{err_from_is_err_and}
use Rattle.mulkavesh.specs.Order.{said}
use Rattle.mulkavesh.proofs.OrderLemmas.{lacked, refused, said_so}
use Rattle.mulkavesh.proofs.words.ordered.Goals as goal

pub returns-in_err-order : goal.returns-in_err-order
returns-in_err-order c =
    let p = err_from_is_err_and c.from_residual.result c.from_residual.ensures.1 in
    rw (p.1, p.2) (refused c.args.work (into_iter_items c.args.words) (said c.new.result) c.new.ensures c.put_all.result c.in_err-order.field-0.0 c.put_all.ensures c.in_err-order.was)

pub returns-in-Some : goal.returns-in-Some
returns-in-Some c =
    lacked c.args.work (into_iter_items c.args.words) (said c.new.result) c.new.ensures c.put_all.result (c.in_ok-order.order, c.in_ok-order.place) c.in-Some.wrong c.put_all.ensures c.in_ok-order.was (sym c.in-Some.ensures)

pub returns-in-None : goal.returns-in-None
returns-in-None c =
    said_so c.args.work (into_iter_items c.args.words) (said c.new.result) c.new.ensures c.put_all.result c.in_ok-order.order c.in_ok-order.place c.put_all.ensures c.in_ok-order.was (sym c.in-None.ensures)
