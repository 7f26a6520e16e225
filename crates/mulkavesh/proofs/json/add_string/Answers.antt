use Rattle.std.proofs.Common.{arith}
use Rattle.std.specs.Prelude.{◌<◌}
use Rattle.mulkavesh.proofs.EscapeLemmas.{step}
use Rattle.mulkavesh.proofs.json.add_string.Goals as goal

pub characters-preserved : goal.characters-preserved
characters-preserved c =
    let some : 0 < c.hidden_length-hidden.result = omega (arith, c.if-hidden-eq0.false) in
    step c.characters.rest.now c.split_at.result.0.now c.split_at.result.1.now _ _ _ c.hidden_length-hidden.result c.code_of.result c.hidden_length-hidden.ensures.length some c.split_at.ensures.front
    c.split_at.ensures.back c.code_of.ensures c.characters.invariant c.in_ok-add_escape.ensures
