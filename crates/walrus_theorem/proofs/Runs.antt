-- What a run comes to. For those who prove it: each of these is one line to use.
use Rattle.std.proofs.Common.{ℕ, List, [], refl, arith}
use Rattle.std.specs.Prelude.{All, Result, Ok, Err}
use Rattle.wasm_writer.specs.Spelling.{SectionFits}
use Rattle.walrus_model.specs.Abstract.{Abstract}
use Rattle.walrus_model.specs.Config.{Config}
use Rattle.walrus_model.specs.Declared.{NothingUndeclared}
use Rattle.walrus_model.specs.Pipeline.{Collected, ReachedIsLive}
use Rattle.walrus_model.specs.Rules.{Holds}
use Rattle.walrus_base.proofs.Lists.{Contains-none}
use Rattle.walrus_theorem.specs.Chain.{BringsTo, Leaves, ParsedAs}
use Rattle.walrus_theorem.specs.Headline.{ReadsModule, ComesTo, ComesOutTooLarge}
use Rattle.walrus_theorem.specs.Pinned.{IsWrittenAs}
use Rattle.walrus_theorem.specs.Refused.{Refusal, Memory, DeadItem, NoIndex, TwoIndices, TooLarge, NotWritable, Caller, Another, PassesLimits, IsSayable, RefusesToWrite}
use Rattle.walrus_theorem.specs.RunLaws.{CanBeWritten, RunsFine, RunsOutput, RunsOk, RunsTooLarge, IsFew}
use Rattle.walrus_theorem.specs.Spelling.{IsSpelledAs}
use Rattle.walrus_theorem.specs.Text.{sections_of}
use Rattle.walrus_theorem.specs.WellMade.{IsWellMade}
use Rattle.walrus_theorem.proofs.BroughtWell.{brought_well}
use Rattle.walrus_theorem.proofs.FitsTold.{ok_fits}
use Rattle.walrus_theorem.proofs.NoCause.{well_no_cause}
pub use Rattle.walrus_theorem.proofs.ReadPlain.{reads_plain}
use Rattle.walrus_theorem.proofs.StepParsed.{live_v}
use Rattle.walrus_theorem.proofs.StepRead.{read_is_plain, steps_come_out_lem}
use Rattle.walrus_theorem.proofs.WellStays.{collected_well, leaves_well}
use Rattle.walrus_theorem.proofs.WritableParsed.{parsed_is_well}
use Rattle.walrus_theorem.proofs.WrittenReads.{written_reads}

-- ---- of any module

-- where nothing is undeclared, no segment is added
pub leaves_itself : (w : Abstract) → NothingUndeclared w → Leaves w w
leaves_itself w nothing = record {
  functions = [];
  undeclared = record { rising = λ i j d lt below. absurd (omega (arith, below)); are = λ f. ((λ at. absurd (Contains-none f at)), (λ u. absurd (nothing f u))) };
  added = refl;
}

pub brings_itself : (c : Config) (m v w : Abstract) → ParsedAs c m v → Collected v w → NothingUndeclared w → BringsTo c m w
brings_itself c m v w parsed collected nothing = record { module_parsed = v; module_kept = w; parsed = parsed; collected = collected; leaves = leaves_itself w nothing }

pub well_sayable : (c : Config) (w : Abstract) → IsWellMade c w → IsSayable w
well_sayable c w made = made.customs

-- the output that is the one spelling of what the steps bring a module to, all of whose sections fit
pub comes_to : (c : Config) (bytes output : List ℕ) (m u n : Abstract) → ReadsModule c bytes m → Holds m → BringsTo c m u → IsWrittenAs c u n → (spelled : IsSpelledAs n output) → All SectionFits (sections_of spelled.text) → ComesTo c bytes output
comes_to c bytes output m u n reads holds brings written spelled fits =
    let fine = brought_well c bytes m u reads holds brings in
    let back = written_reads c u n output fine.made fine.declared written spelled fits in
    record {
      module_read = m;
      reads = reads;
      holds = holds;
      module_left = u;
      brought = brings;
      module_written = n;
      written = written;
      spelled = spelled;
      output_reads = back.0;
      output_holds = back.1;
      out = steps_come_out_lem c bytes m u n reads holds brings written;
    }

pub comes_out_too_large : (c : Config) (bytes : List ℕ) (m u : Abstract) → ReadsModule c bytes m → Holds m → BringsTo c m u → PassesLimits c u → ComesOutTooLarge c bytes
comes_out_too_large c bytes m u reads holds brings large = record { module_read = m; reads = reads; holds = holds; module_left = u; brought = brings; too_large = large }

-- ---- of what was read

module _ (c : Config) (bytes : List ℕ) (m v w u : Abstract) (read : ReadsModule c bytes m) (holds : Holds m) (parsed : ParsedAs c m v) (collected : Collected v w) (leaves : Leaves w u) where
  pub reached_live : ReachedIsLive v
  reached_live = live_v c m v parsed (read_is_plain c bytes m read) holds

  pub made_parsed : IsWellMade c v
  made_parsed = parsed_is_well c bytes m v read holds parsed

  pub made_collected : IsWellMade c w
  made_collected = collected_well c v w made_parsed reached_live collected

  pub left_well : IsWellMade c u × NothingUndeclared u
  left_well = leaves_well c w u made_collected leaves

  pub brought : BringsTo c m u
  brought = record { module_parsed = v; module_kept = w; parsed = parsed; collected = collected; leaves = leaves }

pub runs_fine : RunsFine
runs_fine c bytes m v w u read holds parsed collected leaves =
    let well = left_well c bytes m v w u read holds parsed collected leaves in
    record {
      parsed = made_parsed c bytes m v w u read holds parsed collected leaves;
      reached = reached_live c bytes m v w u read holds parsed collected leaves;
      collected = made_collected c bytes m v w u read holds parsed collected leaves;
      left = record { made = well.0; declared = well.1; no_cause = well_no_cause c u well.0; sayable = well_sayable c u well.0 };
      brings = brought c bytes m v w u read holds parsed collected leaves;
    }

pub runs_output : RunsOutput
runs_output c bytes output m v w u read holds parsed collected leaves out =
    comes_to c bytes output m u out.module_written read holds (brought c bytes m v w u read holds parsed collected leaves) out.written out.spelled out.fits

pub runs_ok : RunsOk
runs_ok c bytes output m v w u n read holds parsed collected leaves ok written spelled =
    runs_output c bytes output m v w u read holds parsed collected leaves
    (record { module_written = n; written = written; spelled = spelled; fits = ok_fits c u n spelled.text ok written spelled.spells })

pub runs_too_large : RunsTooLarge
runs_too_large c bytes m v w u read holds parsed collected leaves large =
    comes_out_too_large c bytes m u read holds (brought c bytes m v w u read holds parsed collected leaves)
    (large.2 (well_sayable c u (left_well c bytes m v w u read holds parsed collected leaves).0))

pub runs_few : {X : Type 0} (c : Config) (u : Abstract) (result : Result X Refusal) → CanBeWritten c u → RefusesToWrite ⊥ c u result → IsFew result
runs_few c u (Ok x) are h = tt
runs_few c u (Err Memory) are h = tt
runs_few c u (Err TooLarge) are h = tt
runs_few c u (Err Caller) are h = h
runs_few c u (Err DeadItem) are h = are.no_cause.all_there h
runs_few c u (Err TwoIndices) are h = are.no_cause.one_index h
runs_few c u (Err NoIndex) are h = are.no_cause.indices h
runs_few c u (Err NotWritable) are h = are.no_cause.spelled h
runs_few c u (Err Another) are h = h
