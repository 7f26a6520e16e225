-- What is told of an order that was refused.
use Rattle.std.proofs.Common.{◌≡◌, ℕ, Bool, true, false, List, inl, inr, sym, subst}
use Rattle.std.specs.Prelude.{Option, Some, None, Result, Err}
use Rattle.std.specs.Global.{Vec}
use Rattle.walrus_tools.specs.Facade.{Error, Stream, Tells}
use Rattle.mulkavesh.specs.declared.cause.Cause.{Cause}
use Rattle.mulkavesh.specs.declared.cause.Cause.TheVariants as cause
use Rattle.mulkavesh.specs.declared.subcommands.Made.{Made}
use Rattle.mulkavesh.specs.declared.order.Work.{Work}
use Rattle.mulkavesh.specs.Cause.{error_of, said_text}
use Rattle.mulkavesh.specs.Command.{Device, FindsRead, TellsLine, TellsMade, TellsRefusal, TellsResult, unaccepted_text}

module _ (Answers : List ℕ → Result Made Error → Type 0) (w : Work) (Says : List ℕ → Error → List ℕ → Type 0) (from to : Device) (errors : Stream) (status : ℕ) where
  abbrev pub Line : List ℕ → Type 0
  Line text = TellsLine Answers w Says from to errors status from.name text

  abbrev pub Told : Cause → Type 0
  Told x = TellsResult Answers w Says from to errors status (Err (error_of x))

  pub tells_refused : (is_refused : Bool) (note : List ℕ) → is_refused ≡ true → (status ≡ 1) × Tells errors (unaccepted_text w from.name note) → TellsMade Answers w Says from to errors status is_refused note
  tells_refused true note is told = told
  tells_refused false note is told = absurd (cc)

  pub tells_read : (x : Cause) → x ≡ cause.Read → Line from.trouble → Told x
  tells_read x is told = subst Told (sym is) told

  abbrev pub Found : Cause → Type 0
  Found x = FindsRead Answers from.stream.old from.stream.new to.stream.old to.stream.new Says x

  tells : (e : Error) (said : Option (Vec ℕ)) → Found (cause.Refused e said) → Line (said_text w e said) → TellsRefusal Answers w Says from to errors status e
  tells e None finds told = inr told
  tells e (Some text) finds told = inl (finds.0, finds.1, (text.items, finds.2, told))

  pub tells_error : (x : Cause) (e : Error) (said : Option (Vec ℕ)) → x ≡ cause.Refused e said → Found x → Line (said_text w e said) → Told x
  tells_error x e said is finds told = subst Told (sym is) (tells e said (subst Found is finds) told)
