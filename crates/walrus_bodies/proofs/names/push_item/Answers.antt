use Rattle.std.proofs.Common.{◌∷◌, [], ◌∙◌, ap}
use Rattle.walrus_base.specs.Operators.{Memories}
use Rattle.walrus_bodies.proofs.AtMarks.{access_at, puts}
use Rattle.walrus_bodies.proofs.names.push_item.Goals as goal

pub returns-in_ok-push-in-6 : goal.returns-in_ok-push-in-6
returns-in_ok-push-in-6 c =
    puts c.args.bytes.now c.args.mark c.args.to.now.items c.push.new.self.items _ c.in_ok-push-in-6.ensures.items
    (λ arg behind s. ap (λ n. (Memories, n) ∷ []) c.at.ensures ∙ access_at c.args.bytes.now c.args.mark c.number_at.result c.in-6.is c.number_at.ensures c.if-number_at-lt64.true arg behind s)
