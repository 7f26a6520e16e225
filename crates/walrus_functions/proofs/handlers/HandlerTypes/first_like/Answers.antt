use Rattle.walrus_functions.specs.Signatures.{types_in}
use Rattle.walrus_functions.proofs.AlikeLemmas.{needs_same}
use Rattle.walrus_functions.proofs.handlers.HandlerTypes.first_like.Goals as goal

pub returns-clause-same : goal.returns-clause-same
returns-clause-same c = needs_same (types_in c.args.signatures.now) _ c.args.handler c.in_ok-tag_type.ensures.same c.in_ok-try_type.ensures.same

pub returns-clause-kept : goal.returns-clause-kept
returns-clause-kept c = record {
  known = c.requires.known;
  params = c.in_ok-tag_type.ensures.kept;
  results = c.in_ok-try_type.ensures.kept;
}
