use Rattle.mulkavesh.proofs.subcommands.functions.Goals as goal

pub returns-then-order : goal.returns-then-order
returns-then-order c = rw c.if-order.true (c.in_ok-gone.gone, c.in_ok-gone.ensures, c.in_ok-told.ensures)

pub returns : goal.returns
returns c = rw c.if-order.false (c.in_ok-left.left, c.in_ok-left.ensures, c.in_ok-told-2.ensures)
