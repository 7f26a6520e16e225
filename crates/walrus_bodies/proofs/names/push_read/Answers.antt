use Rattle.std.proofs.Common.{[], ◌∷◌, ap, ◌∙◌}
use Rattle.std.proofs.lemmas.Result.{on_ok_weaker}
use Rattle.walrus_base.specs.Operators.{Arg}
use Rattle.walrus_code.specs.Code.{args_of}
use Rattle.walrus_bodies.proofs.AtMarks.{puts_read}
use Rattle.walrus_bodies.proofs.names.push_read.Goals as goal

pub returns : goal.returns
returns c =
    on_ok_weaker c.push_names.result
    (puts_read c.args.bytes.now c.in_ok-arg._rest.now c.args.mark c.in_ok-arg.arg (args_of c.new-named.result.args) c.args.to.now.items c.push_names.new.to.items c.in_ok-arg.ensures
    (ap args_of c.new-named.ensures.args ∙ ap (λ (a : Arg). a ∷ []) c.place_arg.ensures))
    c.push_names.ensures.names
