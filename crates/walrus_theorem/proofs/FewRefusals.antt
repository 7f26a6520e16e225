-- The refusals of a well-made module.
use Rattle.std.specs.Prelude.{Ok, Err}
use Rattle.walrus_theorem.specs.Refused.{Memory, DeadItem, NoIndex, TwoIndices, TooLarge, NotWritable, Caller, Another}
use Rattle.walrus_theorem.specs.RefusedLaws.{FewRefusals, OkOrTooLarge}
use Rattle.walrus_theorem.proofs.NoCause.{well_no_cause}

pub few_refusals : FewRefusals
few_refusals c u (Ok x) made h = tt
few_refusals c u (Err Memory) made h = tt
few_refusals c u (Err TooLarge) made h = tt
few_refusals c u (Err Caller) made h = tt
few_refusals c u (Err DeadItem) made h = (well_no_cause c u made).all_there h
few_refusals c u (Err NoIndex) made h = (well_no_cause c u made).indices h
few_refusals c u (Err TwoIndices) made h = (well_no_cause c u made).one_index h
few_refusals c u (Err NotWritable) made h = (well_no_cause c u made).spelled h
few_refusals c u (Err Another) made h = h

pub ok_or_too_large : OkOrTooLarge
ok_or_too_large c u bytes made ok large = ok.fits (large.2 made.customs)
