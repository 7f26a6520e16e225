use Rattle.walrus_bodies.proofs.DeclarationLemmas.{reads_declarations}
use Rattle.walrus_bodies.proofs.declarations.read_declarations.Goals as goal

pub returns-clause-found : goal.returns-clause-found
returns-clause-found c = reads_declarations _ c.args.bytes.now c.take_declarations.result c.take_declarations.ensures
