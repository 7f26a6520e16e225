-- What subcommands answer, by what the library answered.
use Rattle.std.proofs.Common.{◌≡◌, ℕ, Bool, true, false, List, sym, subst}
use Rattle.std.specs.Prelude.{Result, Ok}
use Rattle.walrus_tools.specs.Facade.{Error}
use Rattle.std.specs.Global.{Vec}
use Rattle.walrus_tools.specs.declared.weigh.Smaller.{Smaller}
use Rattle.mulkavesh.specs.declared.subcommands.Made.{Made}
use Rattle.mulkavesh.specs.declared.order.Order.{Order}
use Rattle.mulkavesh.specs.declared.order.Work.{Work}
use Rattle.mulkavesh.specs.Subcommands.{Answer, AnswersOrder, AnswersWork, NotesNothing, WritesAlone, WritesNoted, WritesSmaller}

-- by the subcommand of an order
pub by_work : (o : Order) (bytes : List ℕ) (w : Work) (r : Result Made Error) → o.work ≡ w → AnswersWork w o bytes r → AnswersOrder o bytes r
by_work o bytes w r is answers = subst (λ (v : Work). AnswersWork v o bytes r) (sym is) answers

-- what a call answered is written, and nothing is noted
pub written : (Answers : Answer → Type 0) (output : Vec ℕ) (m : Made) → m.output ≡ output → m.is_refused ≡ false → NotesNothing m → Answers (Ok output) → WritesAlone Answers (Ok m)
written Answers output m same accepted alone answers = (subst (λ (v : Vec ℕ). Answers (Ok v)) (sym same) answers, accepted, alone)

-- what is answered where the order is to be quiet, and where it isn't
pub quietly : (is_quiet : Bool) (Alone : Answer → Type 0) (Noted : Result Smaller Error → Type 0) (r : Result Made Error) → is_quiet ≡ true → WritesAlone Alone r → WritesSmaller is_quiet Alone Noted r
quietly true Alone Noted r is answers = answers
quietly false Alone Noted r is answers = absurd (cc)

pub aloud : (is_quiet : Bool) (Alone : Answer → Type 0) (Noted : Result Smaller Error → Type 0) (r : Result Made Error) → is_quiet ≡ false → WritesNoted Noted r → WritesSmaller is_quiet Alone Noted r
aloud true Alone Noted r is answers = absurd (cc)
aloud false Alone Noted r is answers = answers
