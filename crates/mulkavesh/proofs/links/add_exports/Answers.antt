use Rattle.mulkavesh.proofs.LinkLemmas.{told_exports}
use Rattle.mulkavesh.proofs.links.add_exports.Goals as goal

pub returns : goal.returns
returns c =
    told_exports c.args.names.now c.is_empty.result c.is_empty.ensures c.if-is_empty.false _ _ _ c.in_ok-extend_from_slice.ensures.items c.in_ok-add_all_quoted.ensures
