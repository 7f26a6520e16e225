use Rattle.std.proofs.Common.{◌<◌, rules, sym, ◌∙◌}
use Rattle.walrus_base.specs.Id.{place}
use Rattle.walrus_functions.specs.Signatures.{types_in}
use Rattle.walrus_functions.proofs.AlikeLemmas.{like_by_values}
use Rattle.walrus_functions.proofs.signatures.Signatures.are_alike.Goals as goal

pub returns-then-is_below : goal.returns-then-is_below
returns-then-is_below c equal =
    let there : place c.args.other < c.args.self.now.bound = search rules in
    like_by_values c.args.side c.args.self.now.bound (types_in c.args.self.now) (place c.args.id) (place c.args.other) c.values.result.now c.values-then-is_below.result.now c.requires there c.values.ensures c.values-then-is_below.ensures (sym c.eq.ensures ∙ equal)
