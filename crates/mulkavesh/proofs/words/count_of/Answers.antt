use Rattle.std.proofs.Common.{sym}
use Rattle.mulkavesh.proofs.NumberLemmas.{parsed, unparsed}
use Rattle.mulkavesh.proofs.words.count_of.Goals as goal

pub returns-in-Ok : goal.returns-in-Ok
returns-in-Ok c = sym (parsed c.args.word.now c.in-Ok.count c.in-Ok.ensures.value.0)

pub returns-in-Err : goal.returns-in-Err
returns-in-Err c = sym (unparsed c.args.word.now c.in-Err.ensures.value.0)
