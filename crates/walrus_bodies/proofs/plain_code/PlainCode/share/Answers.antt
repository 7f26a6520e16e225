use Rattle.walrus_bodies.proofs.plain_code.PlainCode.share.Goals as goal

pub invariant_of-code : goal.invariant_of-code
invariant_of-code c = record { held = rw c.shrink_to_fit.ensures.items c.args.self.held }
