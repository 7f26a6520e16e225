use Rattle.std.proofs.Common.{◌≤◌, ap, arith}
use Rattle.std.proofs.lemmas.Bool.{leb-true}
use Rattle.walrus_bodies.specs.Text.{left_out_of}
use Rattle.walrus_bodies.specs.declared.plain_code.LeftOut.{LeftOut}
use Rattle.walrus_bodies.proofs.FlagLemmas.{each_named}
use Rattle.walrus_bodies.proofs.text.Text.names_from.Goals as goal

pub returns : goal.returns
returns c = λ told x behind low.
    let same = ap (λ (o : LeftOut). o.first) c.left_out.ensures in
    let low_enough = leb-true c.left_out.result.first c.args.index told in
    let from : (left_out_of c.args.self.now).first ≤ c.args.index = omega (arith, same, low_enough) in
    each_named c.args.self.now c.args.index from x behind low
