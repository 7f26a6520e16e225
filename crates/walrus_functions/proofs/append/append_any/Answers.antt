use Rattle.std.proofs.Common.{map, None}
use Rattle.std.proofs.lemmas.Result.{err_from_is_err_and}
use Rattle.walrus_base.specs.Id.{place}
use Rattle.walrus_code.specs.Indices.{local_index}
use Rattle.walrus_functions.specs.EmittedBody.{source_of}
use Rattle.walrus_functions.specs.declared.emit.KnownBody.{KnownBody}
use Rattle.walrus_functions.specs.declared.append.AppendedBody.{AppendedBody}
use Rattle.walrus_functions.proofs.AppendLemmas.{refused_body}
use Rattle.walrus_functions.proofs.append.append_any.Goals as goal

pub returns-in_err-known : goal.returns-in_err-known
returns-in_err-known c =
    let p = err_from_is_err_and c.from_residual.result c.from_residual.ensures.1 in
    let s = source_of c.args.indices.now c.args.module_locals.now c.args.types.now c.args.function.now c.args.features.now in
    let all = c.in_err-known.ensures.written in
    (all.0, all.1, (λ _. None), (refused_body {X = KnownBody} {Y = AppendedBody} s (λ _. all.0) (λ _. all.1) (λ (body : KnownBody). local_index body.locals) (λ body. map place body.order.items) (λ body. body.used.items) (λ _. all.0) (λ _. all.1) (λ _ _. None) (λ body. map place body.order.items) (λ body. body.used.items) c.from_residual.result c.in_err-known.field-0.0 c.from_residual.ensures.1 all.2.0, rw p.1 tt))

pub returns : goal.returns
returns c =
    let all = c.in_ok-known.ensures.written in
    (all.0, all.1, local_index c.in_ok-known.known.locals, (all.2.0, all.2.1.0))
