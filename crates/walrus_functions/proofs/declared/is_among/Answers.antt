use Rattle.std.proofs.Common.{◌∙◌}
use Rattle.walrus_base.specs.Id.{place}
use Rattle.walrus_functions.proofs.AmongLemmas.{searched}
use Rattle.walrus_functions.proofs.declared.is_among.Goals as goal

pub returns : goal.returns
returns c = c.is_ok.ensures.value ∙ searched c.args.named.now c.requires (place c.args.id) c.binary_search.result c.binary_search.ensures.bound c.binary_search.ensures.position
