-- What comes out of a run is in settled form, and what is in settled form comes to itself; so it is without gc.
use Rattle.std.proofs.Common.{ℕ, List, subst}
use Rattle.walrus_model.specs.Abstract.{Abstract}
use Rattle.walrus_model.specs.Config.{Config}
use Rattle.walrus_model.specs.Live.{IsLive}
use Rattle.walrus_model.specs.Rules.{Holds}
use Rattle.walrus_theorem.specs.Again.{ComesToItself, WritesAgain, NeverTooLarge}
use Rattle.walrus_theorem.specs.Headline.{ReadsModule, ComesTo}
use Rattle.walrus_theorem.specs.Pinned.{IsWrittenAs}
use Rattle.walrus_theorem.specs.SettledForm.{IsWrittenForm, IsSettledForm, FixedPoints, ComesOutSettled}
use Rattle.walrus_theorem.specs.Whole.{ComesWhole, ComesWholeInForm, WholePoints}
use Rattle.walrus_theorem.specs.Spelling.{IsSpelledAs}
use Rattle.walrus_theorem.proofs.AgainForm.{in_form, settled_by}
use Rattle.walrus_theorem.proofs.AgainKept.{nothing_again, brings_again}
use Rattle.walrus_theorem.proofs.AgainParsed.{again, parsed_again}
use Rattle.walrus_theorem.proofs.AgainRan.{Ran}
use Rattle.walrus_theorem.proofs.AgainRead.{read_well}
use Rattle.walrus_theorem.proofs.AgainWritten.{written_again}
use Rattle.walrus_theorem.proofs.NotBoth.{not_both}
use Rattle.walrus_theorem.proofs.OneOutput.{one_output}
use Rattle.walrus_theorem.proofs.ReadsOnce.{reads_once_lem}
use Rattle.walrus_theorem.proofs.Runs.{leaves_itself}
use Rattle.walrus_theorem.proofs.StepLeaves.{Between, between}
use Rattle.walrus_theorem.proofs.StepLive.{live_chosen, live_left, plain_comes_out}
use Rattle.walrus_theorem.proofs.BytesOnce.{premises_hold}
use Rattle.walrus_theorem.proofs.WritableParsed.{parsed_is_well}
use Rattle.walrus_theorem.proofs.StepRead.{read_is_plain, steps_come_out_lem}

-- ---- a run

settled : (c : Config) (bytes output : List ℕ) (run : ComesTo c bytes output) → IsSettledForm c run.module_written
settled c bytes output run = settled_by c bytes run.module_read run.module_left run.module_written output run.reads run.holds run.brought run.written run.output_reads

-- ---- the same without gc

module _ (c : Config) (bytes output : List ℕ) (run : ComesWhole c bytes output) where
  whole_ran : Ran (IsLive run.module_read) (IsLive run.module_parsed) c run.module_read run.module_parsed run.module_written
  whole_ran =
      let m : Abstract = run.module_read in
      let v : Abstract = run.module_parsed in
      let b = between v run.module_left run.leaves in
      let written : IsWrittenAs c (record v { elements = run.module_left.elements }) run.module_written = subst (λ x. IsWrittenAs c x run.module_written) b.same run.written in
      let plain = read_is_plain c bytes m run.reads in record {
        w = run.module_parsed;
        elements = run.module_left.elements;
        fs = run.leaves.functions;
        p = run.parsed;
        plain = plain;
        holds = run.holds;
        closed = λ x y live at. run.holds.indices.written x y at;
        chosen = live_chosen c m v run.parsed plain run.holds;
        l = live_left c m v run.parsed plain run.holds;
        undeclared = run.leaves.undeclared;
        b = subst (λ x. Between v x run.leaves.functions) b.same b;
        o = written.written;
        pinned = written.pinned;
        lives = premises_hold c v (parsed_is_well c bytes m v run.reads run.holds run.parsed);
        plain_n = read_is_plain c output run.module_written run.output_reads;
      }

  whole_form : IsWrittenForm c run.module_written
  whole_form = in_form (IsLive run.module_read) (IsLive run.module_parsed) c run.module_read run.module_parsed run.module_written whole_ran

-- ---- a module in such a form

form_whole : (c : Config) (bytes : List ℕ) (n : Abstract) → ReadsModule c bytes n → Holds n → IsSpelledAs n bytes → IsWrittenForm c n → ComesWhole c bytes bytes
form_whole c bytes n reads holds spelled form =
    let well = read_well c bytes n reads holds spelled in record {
      module_read = n;
      reads = reads;
      holds = holds;
      module_parsed = again c n form well;
      parsed = parsed_again c n form well;
      module_left = again c n form well;
      leaves = leaves_itself (again c n form well) (nothing_again c n form well);
      module_written = n;
      written = written_again c n form well;
      spelled = spelled;
      output_reads = reads;
      output_holds = holds;
      out = plain_comes_out c bytes n (again c n form well) (again c n form well) n reads holds (parsed_again c n form well) (leaves_itself (again c n form well) (nothing_again c n form well)) (written_again c n form well);
    }

settled_comes : (c : Config) (bytes : List ℕ) (n : Abstract) → ReadsModule c bytes n → Holds n → IsSpelledAs n bytes → IsSettledForm c n → ComesTo c bytes bytes
settled_comes c bytes n reads holds spelled settled =
    let well = read_well c bytes n reads holds spelled in record {
      module_read = n;
      reads = reads;
      holds = holds;
      module_left = again c n settled.form well;
      brought = brings_again c n settled.form well settled.kept;
      module_written = n;
      written = written_again c n settled.form well;
      spelled = spelled;
      output_reads = reads;
      output_holds = holds;
      out = steps_come_out_lem c bytes n (again c n settled.form well) n reads holds (brings_again c n settled.form well settled.kept) (written_again c n settled.form well);
    }

-- ---- the laws

pub comes_out_settled : ComesOutSettled
comes_out_settled c bytes output run = settled c bytes output run

itself_is_settled : (c : Config) (bytes : List ℕ) (n : Abstract) → ReadsModule c bytes n → ComesTo c bytes bytes → Holds n × IsSpelledAs n bytes × IsSettledForm c n
itself_is_settled c bytes n reads run =
    subst (λ x. Holds x × IsSpelledAs x bytes × IsSettledForm c x) (reads_once_lem c bytes n run.module_written reads run.output_reads)
    (run.output_holds, run.spelled, settled c bytes bytes run)

pub fixed_points : FixedPoints
fixed_points c bytes n reads = (
  λ run. itself_is_settled c bytes n reads run,
  λ h. settled_comes c bytes n reads h.0 h.1 h.2,
)

pub comes_to_itself : ComesToItself
comes_to_itself c bytes output run = settled_comes c output run.module_written run.output_reads run.output_holds run.spelled (settled c bytes output run)

pub writes_again : WritesAgain
writes_again c bytes output more first second = one_output c output output more (comes_to_itself c bytes output first) second

pub never_too_large : NeverTooLarge
never_too_large c bytes output first large = not_both c output output (comes_to_itself c bytes output first) large

-- ---- and without gc

pub comes_whole_in_form : ComesWholeInForm
comes_whole_in_form c bytes output run = whole_form c bytes output run

whole_in_form : (c : Config) (bytes : List ℕ) (n : Abstract) → ReadsModule c bytes n → ComesWhole c bytes bytes → Holds n × IsSpelledAs n bytes × IsWrittenForm c n
whole_in_form c bytes n reads run =
    subst (λ x. Holds x × IsSpelledAs x bytes × IsWrittenForm c x) (reads_once_lem c bytes n run.module_written reads run.output_reads)
    (run.output_holds, run.spelled, whole_form c bytes bytes run)

pub whole_points : WholePoints
whole_points c bytes n reads = (
  λ run. whole_in_form c bytes n reads run,
  λ h. form_whole c bytes n reads h.0 h.1 h.2,
)
