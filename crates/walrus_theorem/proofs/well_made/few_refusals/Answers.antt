use Rattle.walrus_theorem.proofs.FitsLimits.{fits_no_limit}
use Rattle.walrus_theorem.proofs.FitsTold.{ok_fits}
use Rattle.walrus_theorem.proofs.FewRefusals as few
use Rattle.walrus_theorem.proofs.Matches.{ok_matches}
use Rattle.walrus_theorem.proofs.well_made.few_refusals.Goals as goal

pub returns-clause-refused : goal.returns-clause-refused
returns-clause-refused c = few.few_refusals

pub returns-clause-size : goal.returns-clause-size
returns-clause-size c = few.ok_or_too_large

pub returns-clause-matches : goal.returns-clause-matches
returns-clause-matches c = ok_matches

pub returns-clause-fits : goal.returns-clause-fits
returns-clause-fits c = ok_fits

pub returns-clause-no_limit : goal.returns-clause-no_limit
returns-clause-no_limit c = fits_no_limit
