use Rattle.walrus_model.proofs.Examples.{kept_and_out, small_ones_lem}
use Rattle.walrus_model.proofs.HoldExample.{two_functions_hold}
use Rattle.walrus_model.proofs.laws.worked_examples.Goals as goal

pub returns-clause-two_functions : goal.returns-clause-two_functions
returns-clause-two_functions c = record {
  holds = two_functions_hold;
  second_is_kept = kept_and_out.0;
  type_is_kept = kept_and_out.1;
  first_is_not = kept_and_out.2;
  comes_out = kept_and_out.3;
}

pub returns-clause-small_ones : goal.returns-clause-small_ones
returns-clause-small_ones c = small_ones_lem
