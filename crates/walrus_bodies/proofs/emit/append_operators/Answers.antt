use Rattle.std.proofs.Common.{sym, ◌∙◌}
use Rattle.walrus_code.specs.Code.{ops_of}
use Rattle.walrus_code.specs.Indices.{index_of, local_index}
use Rattle.walrus_bodies.proofs.EmitLemmas.{emits}
use Rattle.walrus_bodies.proofs.emit.append_operators.Goals as goal

pub returns-clause-written : goal.returns-clause-written
returns-clause-written c =
    let all = c.write_all.ensures.written in (
      all.0,
      (
        emits (index_of c.args.indices.now) (local_index c.args.locals.now) c.args.features.now (ops_of c.args.operators.now) c.args.to.now.items c.write_all.new.to.items _ c.write_all.result (sym c.in_ok-nested.ensures ∙ c.if-not-nested.false) (sym c.are_allowed-allowed.ensures ∙ c.if-not-allowed.false) all.1.0,
        all.1.1,
      ),
    )
