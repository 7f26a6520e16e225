use Rattle.walrus_tools.proofs.BodySearch.{lost_kind}
use Rattle.walrus_tools.proofs.links.body_size.Goals as goal

pub returns-in_default : goal.returns-in_default
returns-in_default c = lost_kind c.args.bodies.now c.args.item c.in_default.not-Function
