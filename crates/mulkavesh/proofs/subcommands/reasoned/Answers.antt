use Rattle.std.proofs.Common.{ap, ◌∙◌}
use Rattle.mulkavesh.specs.Links.{links_text}
use Rattle.mulkavesh.proofs.subcommands.reasoned.Goals as goal

pub returns-then-order : goal.returns-then-order
returns-then-order c =
    let told = c.in_ok-told.ensures ∙ ap (links_text c.args.order.now.is_json) c.deref.ensures.value in
    rw c.if-order.true (c.in_ok-links.links, c.in_ok-links.ensures, told)

pub returns : goal.returns
returns c = rw c.if-order.false (c.in_ok-reason.reason, c.in_ok-reason.ensures, c.in_ok-told-2.ensures)
