use Rattle.std.proofs.Common.{◌≡◌, ◌∙◌, ◌++◌, ℕ, List, [], map, ap, subst, sym}
use Rattle.std.proofs.lemmas.Result.{err_from_is_err_and}
use Rattle.walrus_base.specs.Id.{place}
use Rattle.walrus_code.specs.Indices.{local_index}
use Rattle.walrus_functions.specs.EmittedBody.{BodyWritten, source_of}
use Rattle.walrus_functions.specs.declared.emit.KnownBody.{KnownBody}
use Rattle.walrus_functions.specs.declared.emit.EmittedBody.{EmittedBody}
use Rattle.walrus_functions.proofs.AppendLemmas.{refused_body}
use Rattle.walrus_functions.proofs.emit.emit_body_with.Goals as goal

pub append_all-requires-clause-alone : goal.append_all-requires-clause-alone
append_all-requires-clause-alone c _ = c.in_ok-bytes.ensures.items

pub returns-in_err-code-clause-written : goal.returns-in_err-code-clause-written
returns-in_err-code-clause-written c = let p = err_from_is_err_and c.from_residual.result c.from_residual.ensures.1 in rw (p.1, p.2) ([], (tt, tt))

pub returns-in_err-code-clause-located : goal.returns-in_err-code-clause-located
returns-in_err-code-clause-located c = let p = err_from_is_err_and c.from_residual.result c.from_residual.ensures.1 in rw p.1 tt

pub returns-in_err-bytes-clause-written : goal.returns-in_err-bytes-clause-written
returns-in_err-bytes-clause-written c = let p = err_from_is_err_and c.from_residual-in_err-bytes.result c.from_residual-in_err-bytes.ensures.1 in rw (p.1, p.2) ([], (tt, tt))

pub returns-in_err-bytes-clause-located : goal.returns-in_err-bytes-clause-located
returns-in_err-bytes-clause-located c = let p = err_from_is_err_and c.from_residual-in_err-bytes.result c.from_residual-in_err-bytes.ensures.1 in rw p.1 tt

pub returns-in_err-known-clause-written : goal.returns-in_err-known-clause-written
returns-in_err-known-clause-written c =
    let p = err_from_is_err_and c.from_residual-in_err-known.result c.from_residual-in_err-known.ensures.1 in
    let s = source_of c.args.indices.now c.args.module_locals.now c.args.types.now c.args.function.now c.args.features.now in
    let all = c.in_err-known.ensures.written in
    (all.1, (refused_body {X = KnownBody} {Y = EmittedBody} s (λ _. all.0) (λ _. all.1) (λ body. local_index body.locals) (λ body. map place body.order.items) (λ body. body.used.items) (λ body. body.bytes.items) (λ _. all.1) (λ body. local_index body.locals) (λ body. map place body.order.items) (λ body. body.used.items) c.from_residual-in_err-known.result c.in_err-known.field-0.0 c.from_residual-in_err-known.ensures.1 all.2.0, rw p.1 tt))

pub returns-in_err-known-clause-located : goal.returns-in_err-known-clause-located
returns-in_err-known-clause-located c = let p = err_from_is_err_and c.from_residual-in_err-known.result c.from_residual-in_err-known.ensures.1 in rw p.1 tt

pub returns-clause-written : goal.returns-clause-written
returns-clause-written c =
    let s = source_of c.args.indices.now c.args.module_locals.now c.args.types.now c.args.function.now c.args.features.now in
    let all = c.in_ok-known.ensures.written in
    let known = c.in_ok-known.known in
    let are : all.0 ≡ c.shrink_to_fit.new.self.items = sym (c.shrink_to_fit.ensures.items ∙ all.2.1.0 ∙ ap (λ (bytes : List ℕ). bytes ++ all.0) c.in_ok-bytes.ensures.items) in
    (all.1, (subst (λ (bytes : List ℕ). BodyWritten s bytes all.1 (local_index known.locals) (map place known.order.items) known.used.items) are all.2.0, all.2.1.1))

pub returns-clause-located : goal.returns-clause-located
returns-clause-located c = c.in_ok-known.ensures.located
