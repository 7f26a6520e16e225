use Rattle.std.proofs.Common.{◌∙◌, ap, sym}
use Rattle.walrus_model.proofs.OneEntry.{raw_consts, consts_back}
use Rattle.walrus_constants.proofs.law.operators_have_one_record.Goals as goal

pub returns : goal.returns
returns c = λ a b stands also same. sym (consts_back a stands) ∙ ap raw_consts same ∙ consts_back b also
