use Rattle.std.proofs.Common.{ap, ◌∙◌}
use Rattle.mulkavesh.specs.Entries.{first_of}
use Rattle.mulkavesh.specs.Interface.{exports_text, imports_text}
use Rattle.mulkavesh.proofs.subcommands.listed.Goals as goal

pub returns-then-order : goal.returns-then-order
returns-then-order c =
    let o = c.args.order.now in
    let told = c.in_ok-told.ensures ∙ ap (exports_text o.is_json) (c.first_of.ensures ∙ ap (first_of o.listing.count) c.deref.ensures.value) in
    rw c.if-order.true (c.in_ok-all.all, c.in_ok-all.ensures, told)

pub returns-then-order-2 : goal.returns-then-order-2
returns-then-order-2 c =
    let o = c.args.order.now in
    let told = c.in_ok-told-2.ensures ∙ ap (imports_text o.is_json) (c.first_of-then-order-2.ensures ∙ ap (first_of o.listing.count) c.deref-then-order-2.ensures.value) in
    rw (c.if-order.false, c.if-order-2.true) (c.in_ok-all-2.all, c.in_ok-all-2.ensures, told)
