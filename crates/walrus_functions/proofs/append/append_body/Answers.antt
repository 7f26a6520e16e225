use Rattle.std.proofs.Common.{[], None, map}
use Rattle.std.proofs.lemmas.Result.{err_from_is_err_and}
use Rattle.walrus_base.specs.Id.{place}
use Rattle.walrus_functions.specs.EmittedBody.{source_of}
use Rattle.walrus_functions.specs.declared.append.AppendedBody.{AppendedBody}
use Rattle.walrus_functions.proofs.InPlaceWritten.{always}
use Rattle.walrus_functions.proofs.append.append_body.Goals as goal

pub returns-in_err-code-in-None : goal.returns-in_err-code-in-None
returns-in_err-code-in-None c = record { written = let p = err_from_is_err_and c.from_residual.result c.from_residual.ensures.1 in rw (p.1, p.2) ([], [], (λ _. None), [], [], (tt, tt)) }

pub returns-in_ok-code-in-None : goal.returns-in_ok-code-in-None
returns-in_ok-code-in-None c =
    let s = source_of c.args.indices.now c.args.module_locals.now c.args.types.now c.args.function.now c.args.features.now in
    record { written = always s c.args.tells (λ (body : AppendedBody). map place body.order.items) (λ body. body.used.items) c.args.to.now.items c.append_any.new.to.items c.append_any.result c.append_any.ensures }
