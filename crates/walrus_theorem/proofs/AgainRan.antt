-- A run, with gc or without, as far as the form of what it wrote rests on it.
use Rattle.std.proofs.Common.{subst}
use Rattle.std.specs.Prelude.{ℕ, List, Option, Contains}
use Rattle.walrus_base.specs.Operators.{Item}
use Rattle.walrus_model.specs.Abstract.{Abstract, Element}
use Rattle.walrus_model.specs.Config.{Config}
use Rattle.walrus_model.specs.Declared.{AreUndeclared}
use Rattle.walrus_model.specs.Kept.{Kept}
use Rattle.walrus_model.specs.Live.{IsLive}
use Rattle.walrus_model.specs.Out.{Written}
use Rattle.walrus_model.specs.Refers.{written_in}
use Rattle.walrus_model.specs.Rules.{Holds}
use Rattle.walrus_theorem.specs.Chain.{ParsedAs, BringsTo}
use Rattle.walrus_theorem.specs.Headline.{ReadsModule}
use Rattle.walrus_theorem.specs.Once.{Premises}
use Rattle.walrus_theorem.specs.Pinned.{IsPinned, IsWrittenAs}
use Rattle.walrus_theorem.proofs.KeptLives.{kept_lives}
use Rattle.walrus_theorem.proofs.StepLeaves.{Between, between}
use Rattle.walrus_theorem.proofs.StepOut.{LeavesOnly, AreChosen, kept_chosen, kept_left}
use Rattle.walrus_model.proofs.StepPlain.{IsPlain}
use Rattle.walrus_theorem.proofs.StepRead.{read_is_plain}
use Rattle.walrus_model.proofs.RulesSteps.{kept_named as kept_closed}

-- v is parsed of m, w has what is chosen of v, and n is what w is written as with the segment, if any
pub record Ran (K J : Item → Type 0) (c : Config) (m v n : Abstract) : Type 0 where
  pub w : Abstract
  pub elements : ℕ → Option Element
  pub fs : List ℕ
  pub p : ParsedAs c m v
  pub plain : IsPlain m
  pub holds : Holds m
  pub closed : (x y : Item) → K x → Contains (written_in m x) y → K y
  pub chosen : AreChosen c m v p K J
  pub l : LeavesOnly J v w
  pub undeclared : AreUndeclared (IsLive w) w fs
  pub b : Between w (record w { elements = elements }) fs
  pub o : Written c (record w { elements = elements }) n
  pub pinned : IsPinned c (o.renaming) (record w { elements = elements }) n
  pub lives : Premises w
  pub plain_n : IsPlain n

-- a run by its steps
pub ran_by : (c : Config) (bytes : List ℕ) (m u n : Abstract) → ReadsModule c bytes m → Holds m → (brings : BringsTo c m u) → IsWrittenAs c u n → IsPlain n → Ran (Kept m) (Kept brings.module_parsed) c m brings.module_parsed n
ran_by c bytes m u n reads holds brings is plain_n =
    let v : Abstract = brings.module_parsed in
    let b = between brings.module_kept u brings.leaves in
    let written : IsWrittenAs c (record brings.module_kept { elements = u.elements }) n = subst (λ x. IsWrittenAs c x n) b.same is in
    let plain = read_is_plain c bytes m reads in record {
      w = brings.module_kept;
      elements = u.elements;
      fs = brings.leaves.functions;
      p = brings.parsed;
      plain = plain;
      holds = holds;
      closed = kept_closed m;
      chosen = kept_chosen c m v brings.parsed plain holds;
      l = kept_left c m v brings.parsed plain holds brings.module_kept brings.collected;
      undeclared = brings.leaves.undeclared;
      b = subst (λ x. Between brings.module_kept x brings.leaves.functions) b.same b;
      o = written.written;
      pinned = written.pinned;
      lives = kept_lives c bytes m v brings.module_kept reads holds brings.parsed brings.collected;
      plain_n = plain_n;
    }
