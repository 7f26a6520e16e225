use Rattle.walrus_functions.specs.Signatures.{types_in}
use Rattle.walrus_functions.proofs.AlikeLemmas.{alike_more}
use Rattle.walrus_functions.proofs.alike.Alike.first_like.Goals as goal

pub returns-clause-kept : goal.returns-clause-kept
returns-clause-kept c =
    alike_more c.args.side c.args.signatures.now.bound (types_in c.args.signatures.now) c.args.self.now.first c.insert.new.self c.args.id c.in_ok-first.first c.requires c.in_ok-insert.ensures.updates.0 c.in_ok-first.ensures
