-- What snipping comes to: of a module in memory, and from bytes to bytes.
use Rattle.std.specs.Prelude.{ℕ, Bool, false, List, Option, Some, None, bytes_eq, Result, Ok, Err, MatchResult, ◌≡◌, ⊤}
use Rattle.std.specs.Global.{Vec}
use Rattle.walrus.specs.Base.Id.{place}
use Rattle.walrus.specs.Base.IdValue.{Id}
use Rattle.walrus.specs.Base.FunctionKey.{FunctionKey}
use Rattle.walrus.specs.Base.Operators.{function_item}
use Rattle.walrus.specs.Model.Config.{Config}
use Rattle.walrus.specs.Items.Error.{Error}
use Rattle.walrus.specs.Items.Error.TheVariants.{Memory, NotFound, NotReplaceable}
use Rattle.walrus.specs.Items.Exports.{ExportValue, exports, exports_item}
use Rattle.walrus.specs.Items.Functions.{functions}
use Rattle.walrus.specs.Items.Searches.{first}
use Rattle.walrus.specs.Contents.Contents.{Contents}
use Rattle.walrus.specs.Modules.View.{contents_of}
use Rattle.walrus.specs.Modules.Module.{Module}
use Rattle.walrus.specs.Edits.{AnswersEdited, IsWhole}
use Rattle.walrus_examples.specs.Snip.{Exports, IsKept, NamedBefore, SnipsIn}

-- ---- which function is exported

-- whether the export that was found has this name
abbrev pub first_named : List ℕ → Option (ℕ × ExportValue) → Bool
first_named name None = false
first_named name (Some e) = bytes_eq e.1.name name

-- this name is the first under which the function is exported
pub record IsNamedFirst (name : List ℕ) (exports : List (Option ExportValue)) (id : Id FunctionKey) : Type 0 where
  pub export : ℕ × ExportValue
  pub found : first (exports_item (function_item (place id))) exports ≡ Some export
  pub named : export.1.name ≡ name

-- a function is exported under this name, but under another one before
pub record IsNamedBefore (name : List ℕ) (exports : List (Option ExportValue)) : Type 0 where
  pub export : Exports name exports
  pub before : NamedBefore export

-- the function that is exported under this name first, or why there is none
abbrev pub FindsNamed : List ℕ → List (Option ExportValue) → Result (Id FunctionKey) Error → Type 0
FindsNamed name exports (Ok id) = IsNamedFirst name exports id
FindsNamed name exports (Err NotFound) = Exports name exports → ⊥
FindsNamed name exports (Err NotReplaceable) = IsNamedBefore name exports
FindsNamed name exports (Err _) = ⊥

-- ---- what a module holds

-- memory ran out, or no function is exported under this name, or the one that is isn't replaced
abbrev pub RefusesSnip : List ℕ → Contents → Error → Type 0
RefusesSnip name m (Memory e) = ⊤
RefusesSnip name m NotFound = Exports name (exports m.exports) → ⊥
RefusesSnip name m NotReplaceable = IsKept name (functions m.funcs) (exports m.exports)
RefusesSnip name m _ = ⊥

-- of what is held the function that this name exports was replaced by one that traps, and nothing else changed
pub record SnipsHeld (name : List ℕ) (old new : Contents) : Type 0 where
  pub items : SnipsIn name (functions old.funcs) (functions new.funcs) (exports old.exports) (exports new.exports)
  pub others : new ≡ record old { funcs = new.funcs; exports = new.exports }

module _ {S : Type 0} where
  -- the same of a module
  pub record Snips (name : List ℕ) (old new : Module S) : Type 0 where
    pub items : SnipsIn name (functions old.funcs) (functions new.funcs) (exports old.exports) (exports new.exports)
    pub others : new ≡ record old { funcs = new.funcs; exports = new.exports }

  -- of a whole module the function is replaced, and what is left is whole; or it is refused, with its cause
  abbrev pub SnipsExport : (name : List ℕ) → (old new : Module S) → Result (Id FunctionKey) Error → Type 0
  SnipsExport name old new result = (c : Config) → IsWhole c old → MatchResult result (λ id. Snips name old new × IsWhole c new) (RefusesSnip name (contents_of old))

-- the module in which the export traps, or a refusal with its cause
abbrev pub AnswersSnipped : Config → (bytes name : List ℕ) → Result (Vec ℕ) Error → Type 0
AnswersSnipped c bytes name result = AnswersEdited (SnipsHeld name) (RefusesSnip name) c bytes result
