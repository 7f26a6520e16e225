-- What comes of a module without gc: all of it.
use Rattle.std.specs.Prelude.{ℕ, List, ◌↔◌}
use Rattle.walrus_model.specs.Abstract.{Abstract}
use Rattle.walrus_model.specs.Config.{Config}
use Rattle.walrus_model.specs.Live.{IsLive}
use Rattle.walrus_model.specs.Out.{OutOf}
use Rattle.walrus_model.specs.Rules.{Holds}
use Rattle.walrus_theorem.specs.Chain.{ParsedAs, Leaves}
use Rattle.walrus_theorem.specs.Headline.{ReadsModule}
use Rattle.walrus_theorem.specs.Pinned.{IsWrittenAs}
use Rattle.walrus_theorem.specs.SettledForm.{IsWrittenForm}
use Rattle.walrus_theorem.specs.Spelling.{IsSpelledAs}

-- The bytes read as a module that keeps the rules. Parsing, the declared segment and writing bring it to the output, which is accepted again. What
-- this comes to for a reader is `out`: all that was read.
pub record ComesWhole (c : Config) (bytes output : List ℕ) : Type 0 where
  pub module_read : Abstract
  pub reads : ReadsModule c bytes module_read
  pub holds : Holds module_read
  pub module_parsed : Abstract
  pub parsed : ParsedAs c module_read module_parsed
  pub module_left : Abstract
  pub leaves : Leaves module_parsed module_left
  pub module_written : Abstract
  pub written : IsWrittenAs c module_left module_written
  pub spelled : IsSpelledAs module_written output
  pub output_reads : ReadsModule c output module_written
  pub output_holds : Holds module_written
  pub out : OutOf (IsLive module_read) c module_read module_written

-- what is said of the steps gives what is said of the module that was read
abbrev pub PlainComesOut : Type 0
PlainComesOut = (c : Config) (bytes : List ℕ) (m v u n : Abstract) → ReadsModule c bytes m → Holds m → ParsedAs c m v → Leaves v u → IsWrittenAs c u n → OutOf (IsLive m) c m n

-- Bytes come whole to themselves exactly if they are the one spelling of a module that keeps the rules and has the form in which it is written.
abbrev pub WholePoints : Type 0
WholePoints = (c : Config) (bytes : List ℕ) (n : Abstract) → ReadsModule c bytes n → ComesWhole c bytes bytes ↔ (Holds n × IsSpelledAs n bytes × IsWrittenForm c n)

-- What comes whole is in this form.
abbrev pub ComesWholeInForm : Type 0
ComesWholeInForm = (c : Config) (bytes output : List ℕ) (run : ComesWhole c bytes output) → IsWrittenForm c run.module_written
