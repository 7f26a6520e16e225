use Rattle.std.proofs.Common.{ap, ◌∙◌}
use Rattle.std.proofs.lemmas.Result.{err_from_is_err_and}
use Rattle.walrus.specs.Modules.Flags.{flags}
use Rattle.walrus_examples.proofs.HookEnds.{hook_finishes, hook_refused}
use Rattle.walrus_examples.proofs.examples.with_export.with_export.Goals as goal

pub returns-in_err-module : goal.returns-in_err-module
returns-in_err-module c =
    let p = err_from_is_err_and c.from_residual.result c.from_residual.ensures.1 in
    let same = ap flags c.on_parse.ensures.config ∙ c.new-config.ensures.value in
    rw (p.1, p.2) (hook_refused _ _ c.args.bytes.now c.on_parse.result.hook _ c.on_parse.ensures.hook _ same c.in_err-module.field-0.0 c.in_err-module.ensures.ran)

pub returns : goal.returns
returns c =
    let same = ap flags c.on_parse.ensures.config ∙ c.new-config.ensures.value in
    hook_finishes _ _ c.args.bytes.now c.on_parse.result.hook _ c.on_parse.ensures.hook _ same c.in_ok-module.module c.in_ok-module.ensures.ran c.finished.result c.finished.ensures
