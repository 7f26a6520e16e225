-- What was parsed, and is emitted as it is, comes whole.
use Rattle.std.proofs.Common.{◌≡◌, ℕ, List, Result, Ok, Err, subst}
use Rattle.std.specs.Prelude.{IfOk}
use Rattle.std.specs.Global.{Vec}
use Rattle.walrus_items.specs.declared.custom.CustomSection.{Ghosts}
use Rattle.walrus_items.specs.declared.error.Error.{Error}
use Rattle.walrus_model.specs.Config.{Config}
use Rattle.walrus_theorem.specs.Chain.{Leaves}
use Rattle.walrus_theorem.specs.Refused.{PassesLimits}
use Rattle.walrus_theorem.specs.WellMade.{IsWellMade}
use Rattle.walrus_theorem.specs.Whole.{ComesWhole}
use Rattle.walrus_module.specs.Emitted.{told}
use Rattle.walrus_module.specs.Answered.{IsWellWritten, WritesUnless}
use Rattle.walrus_module.specs.Emission.{EmitsBytes}
use Rattle.walrus_module.specs.Flags.{Flags, config_of}
use Rattle.walrus_module.specs.Following.{OneMayRefuseThen}
use Rattle.walrus_module.specs.Parsed.{IsParsed}
use Rattle.walrus_module.specs.Raws.{KeepsRead}
use Rattle.walrus_module.specs.Settings.{settings}
use Rattle.walrus_module.specs.View.{view}
use Rattle.walrus_module.specs.declared.entry.SectionEntry.{SectionEntry}
use Rattle.walrus_module.specs.declared.module.Module.{Module}
use Rattle.walrus.specs.Whole.{ParsedIsWritten}
use Rattle.walrus_theorem.proofs.StepLive.{plain_comes_out}
use Rattle.walrus_theorem.proofs.WritableParsed.{parsed_is_well}
use Rattle.walrus_module.proofs.RawStays.{all_raw, leaves_whole}

module _ {V : Type 0} {O : V → Type 0} (G : (v : V) → Ghosts (O v)) where
  come_whole : (f : Flags) (bytes : List ℕ) (old new : Module (SectionEntry V O)) (output : Vec ℕ) → IsParsed (config_of f) bytes (view G old) → settings old ≡ f → KeepsRead bytes old → EmitsBytes G old new (Ok output) → ComesWhole (config_of f) bytes output.items
  come_whole f bytes old new output found configured kept emits =
      let c : Config = config_of f in
      let parsed = found in
      let leaves : Leaves (view G old) (view G new) = leaves_whole G old new (emits.raw (all_raw old.customs kept.raws kept.are)) (told (Ok output)) emits.left in
      let made : IsWellMade c (view G old) = parsed_is_well c bytes parsed.module_read (view G old) parsed.reads parsed.holds parsed.parsed in
      let written : IsWellWritten c (view G new) output.items =
      subst (λ (g : Flags). IsWellMade (config_of g) (view G old) → WritesUnless (PassesLimits (config_of g) (view G new)) (OneMayRefuseThen G old.customs new.customs) (λ (r : Vec ℕ). IsWellWritten (config_of g) (view G new) r.items) (told (Ok output)))
      configured emits.well_made made in
      record {
        module_read = parsed.module_read;
        reads = parsed.reads;
        holds = parsed.holds;
        module_parsed = view G old;
        parsed = parsed.parsed;
        module_left = view G new;
        leaves = leaves;
        module_written = written.module_written;
        written = written.written;
        spelled = written.spelled;
        output_reads = written.reads;
        output_holds = written.holds;
        out = plain_comes_out c bytes parsed.module_read (view G old) (view G new) written.module_written parsed.reads parsed.holds parsed.parsed leaves written.written;
      }

  pub parsed_is_written : ParsedIsWritten G
  parsed_is_written f bytes old new output found configured kept emits = come_whole f bytes old new output found configured kept emits

  -- so is what emission answers, whatever that is
  pub whole_answer : (f : Flags) (bytes : List ℕ) (old new : Module (SectionEntry V O)) (result : Result (Vec ℕ) Error) → IsParsed (config_of f) bytes (view G old) → settings old ≡ f → KeepsRead bytes old → EmitsBytes G old new result
      → IfOk result (λ (output : Vec ℕ). ComesWhole (config_of f) bytes output.items)
  whole_answer f bytes old new (Ok output) found configured kept emits = come_whole f bytes old new output found configured kept emits
  whole_answer f bytes old new (Err e) found configured kept emits = tt
