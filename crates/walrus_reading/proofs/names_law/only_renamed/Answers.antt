use Rattle.std.proofs.Common.{sym, subst}
use Rattle.walrus_reading.specs.Shown.{IsRenamed, Shown, shown}
use Rattle.walrus_reading.proofs.Whole.{is_renamed}
use Rattle.walrus_reading.proofs.names_law.only_renamed.Goals as goal

pub returns : goal.returns
returns c = λ b namings old new are. subst (λ (s : Shown). IsRenamed (shown old) s) (sym are) (is_renamed b namings (shown old))
