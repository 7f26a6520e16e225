use Rattle.std.proofs.Common.{◌≡◌, length, ◌∙◌, sym, arith}
use Rattle.walrus_base.proofs.FullSlots.{full_count}
use Rattle.walrus_base.proofs.locals.ModuleLocals.len.Goals as goal

pub returns : goal.returns
returns c =
    let all : c.len.result ≡ length c.args.self.now.places.items = omega (arith, c.len.ensures, c.args.self.now.places.ok.0) in
    all ∙ sym (full_count c.args.self.now.places.items)
