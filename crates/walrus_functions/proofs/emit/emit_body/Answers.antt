use Rattle.std.proofs.Common.{map}
use Rattle.walrus_base.specs.Id.{place}
use Rattle.walrus_code.specs.Indices.{local_index}
use Rattle.walrus_functions.specs.EmittedBody.{source_of}
use Rattle.walrus_functions.proofs.WrittenLemmas.{all_told}
use Rattle.walrus_functions.proofs.emit.emit_body.Goals as goal

pub returns-clause-written : goal.returns-clause-written
returns-clause-written c =
    let all = c.emit_body_with.ensures.written in
    all_told (source_of c.args.indices.now c.args.module_locals.now c.args.types.now c.args.function.now c.args.features.now) (λ body. body.bytes.items) (λ body. map (λ p. p.1) body.places.items) (λ body. local_index body.locals) (λ body. map place body.order.items) (λ body. body.used.items) all.0 c.emit_body_with.result all.1.0 all.1.1
