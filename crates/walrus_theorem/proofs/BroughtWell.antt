-- What the steps bring a module to is well made.
use Rattle.walrus_theorem.specs.WellMadeLaws.{BroughtWell}
use Rattle.walrus_theorem.proofs.NoCause.{well_no_cause}
use Rattle.walrus_theorem.proofs.StepParsed.{live_v}
use Rattle.walrus_theorem.proofs.StepRead.{read_is_plain}
use Rattle.walrus_theorem.proofs.WellStays.{collected_well, leaves_well}
use Rattle.walrus_theorem.proofs.WritableParsed.{parsed_is_well}
use Rattle.walrus_theorem.proofs.WrittenHolds.{written_holds}

pub brought_well : BroughtWell
brought_well c bytes m u reads holds brings =
    let v = brings.module_parsed in
    let w = brings.module_kept in
    let parsed = parsed_is_well c bytes m v reads holds brings.parsed in
    let kept = collected_well c v w parsed (live_v c m v brings.parsed (read_is_plain c bytes m reads) holds) brings.collected in
    let left = leaves_well c w u kept brings.leaves in
    record {
      made = left.0;
      declared = left.1;
      no_cause = well_no_cause c u left.0;
      written = λ t written spelling. written_holds c u t left.0 left.1 written spelling;
    }
