use Rattle.walrus_contents.proofs.NamedLemmas.{body_named}
use Rattle.walrus_contents.proofs.names.push_body_names.Goals as goal

pub returns : goal.returns
returns c =
    body_named c.args.locals.now c.args.function.now c.push_used_types.result c.args.to.now c.push_operator_names.new.to
    c.push_used_types.new.to c.in_ok-push_operator_names.ensures c.push_used_types.ensures
