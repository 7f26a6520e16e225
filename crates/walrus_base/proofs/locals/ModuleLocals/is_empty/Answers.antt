use Rattle.std.proofs.Common.{◌≡◌, length, arith}
use Rattle.std.specs.Prelude.{vec_len}
use Rattle.walrus_base.proofs.FullSlots.{full_empty}
use Rattle.walrus_base.proofs.locals.ModuleLocals.is_empty.Goals as goal

pub returns : goal.returns
returns c =
    let all : vec_len c.args.self.now.places ≡ length c.args.self.now.places.items = omega (arith, c.args.self.now.places.ok.0) in
    full_empty c.args.self.now.places.items c.is_empty.result (vec_len c.args.self.now.places) c.is_empty.ensures all
