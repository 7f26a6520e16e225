use Rattle.std.proofs.Common.{◌≡◌, length, arith}
use Rattle.walrus_base.specs.Id.{place}
use Rattle.walrus_base.proofs.FullSlots.{live_below}
use Rattle.walrus_base.proofs.locals.ModuleLocals.contains.Goals as goal

pub returns : goal.returns
returns c =
    let all : c.len.result ≡ length c.args.self.now.places.items = omega (arith, c.len.ensures, c.args.self.now.places.ok.0) in
    live_below c.args.self.now.places.items (place c.args.id) c.index.result c.len.result c.index.ensures all
