use Rattle.mulkavesh_c.proofs.AnswerLemmas.{gives_plain}
use Rattle.mulkavesh_c.proofs.mulkavesh_parts.Goals as goal

pub returns : goal.returns
returns c = gives_plain _ _ _ _ _ _ tt c.part_list-made.result c.of.result c.of.ensures c.part_list-made.ensures c.put.ensures
