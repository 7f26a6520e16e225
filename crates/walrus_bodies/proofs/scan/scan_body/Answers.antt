use Rattle.std.proofs.Common.{arith}
use Rattle.walrus_bodies.proofs.Scanning.{plain_answer, plain_body}
use Rattle.walrus_bodies.proofs.scan.scan_body.Goals as goal

pub returns-then-are_named : goal.returns-then-are_named
returns-then-are_named c = plain_body c.args.limits.now c.scan_from.new.self c.args.bytes.now c.in-Some.count (rw c.in-Some.is at c.in_ok-count.ensures.body) (c.are_named.ensures c.if-are_named.true)

pub returns : goal.returns
returns c =
    plain_answer c.args.limits.now c.scan_from-2.new.self c.args.bytes.now c.scan_from-2.result c.scan_from-2.ensures.body
    (λ n low high. absurd (omega (arith, low, high, c.scan_from-2.ensures.first, c.if-limits-gt-NO_LOCAL.false)))
