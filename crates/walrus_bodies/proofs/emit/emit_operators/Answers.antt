use Rattle.walrus_code.specs.Code.{ops_of}
use Rattle.walrus_code.specs.Indices.{index_of, local_index}
use Rattle.walrus_bodies.proofs.EmitLemmas.{told}
use Rattle.walrus_bodies.proofs.emit.emit_operators.Goals as goal

pub returns-clause-written : goal.returns-clause-written
returns-clause-written c =
    let all = c.append_operators.ensures.written in
    told (index_of c.args.indices.now) (local_index c.args.locals.now) c.args.features.now (ops_of c.args.operators.now) c.args.to.now.items c.append_operators.new.to.items all.0 _ c.append_operators.result all.1.0 all.1.1
