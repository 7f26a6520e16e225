-- What stubbing comes to: of a module in memory, and from bytes to bytes.
use Rattle.std.specs.Prelude.{ℕ, Bool, List, ◌++◌, ◌∷◌, [], Result, MatchResult, ◌≡◌, ◌&&◌, nat_lt}
use Rattle.std.specs.Global.{Vec}
use Rattle.walrus.specs.Ir.Instructions.{unreachable_op}
use Rattle.walrus.specs.Ir.Sequence.{built}
use Rattle.walrus.specs.Base.Locals.{locals}
use Rattle.walrus.specs.Model.Config.{Config}
use Rattle.walrus.specs.Model.ReadFunction.{StaysInFront}
use Rattle.walrus.specs.Items.Errors.{out_of_memory}
use Rattle.walrus.specs.Items.Error.{Error}
use Rattle.walrus.specs.Items.Functions.{functions}
use Rattle.walrus.specs.Items.Imports.{imports}
use Rattle.walrus.specs.Contents.Contents.{Contents}
use Rattle.walrus.specs.Modules.Replaced.{Builds}
use Rattle.walrus.specs.Modules.Module.{Module}
use Rattle.walrus.specs.Edits.{AnswersEdited, ForMemory, IsWhole}
use Rattle.walrus_tools.specs.Stub.{StubsWhere, comes_from}

-- what a closure does that puts a trap behind what was built, unless memory runs out
abbrev pub PutsTrap : Builds
PutsTrap shown given answer left = MatchResult answer (λ done. built left.now ≡ built shown.now ++ unreachable_op ∷ []) (λ e. e ≡ out_of_memory)

module _ {S : Type 0} where
  -- of a module nothing but these functions and imports changed; locals may have come, for the parameters of what traps
  pub record StubsAt (hits : ℕ → Bool) (old new : Module S) : Type 0 where
    pub items : StubsWhere hits (functions old.funcs) (functions new.funcs) (imports old.imports) (imports new.imports)
    pub locals : StaysInFront (locals old.locals) (locals new.locals)
    pub others : new ≡ record old { funcs = new.funcs; imports = new.imports; locals = new.locals }

  -- each function that was imported from the module of this name is local and traps
  abbrev pub Stubs : (from : List ℕ) → (old new : Module S) → Type 0
  Stubs from old new = StubsAt (comes_from from (imports old.imports)) old new

  -- so it is at the first n places alone
  pub record StubsSome (c : Config) (hits : ℕ → Bool) (n : ℕ) (old new : Module S) : Type 0 where
    pub stubs : StubsAt (λ p. nat_lt p n && hits p) old new
    pub whole : IsWhole c new

  -- of a whole module in which that is done at the first n places, it is done at the first m; `Memory` is the only refusal
  abbrev pub StubsOne : (from : List ℕ) → (n m : ℕ) → (old new : Module S) → Result (Unit {0}) Error → Type 0
  StubsOne from n m old new result =
      (c : Config) (begun : Module S) → IsWhole c begun → StubsSome c (comes_from from (imports begun.imports)) n begun old
      → MatchResult result (λ done. StubsSome c (comes_from from (imports begun.imports)) m begun new) (λ e. e ≡ out_of_memory)

  -- of a whole module it is done at all places, and what is left is whole; `Memory` is the only refusal
  abbrev pub StubsAll : (from : List ℕ) → (old new : Module S) → Result (Unit {0}) Error → Type 0
  StubsAll from old new result = (c : Config) → IsWhole c old → MatchResult result (λ done. Stubs from old new × IsWhole c new) (λ e. e ≡ out_of_memory)

-- ---- from bytes to bytes

-- of what is held nothing but functions and imports changed, and locals came: each function that was imported from the module of this name is
-- local and traps
pub record StubsHeld (from : List ℕ) (old new : Contents) : Type 0 where
  pub items : StubsWhere (comes_from from (imports old.imports)) (functions old.funcs) (functions new.funcs) (imports old.imports) (imports new.imports)
  pub locals : StaysInFront (locals old.locals) (locals new.locals)
  pub others : new ≡ record old { funcs = new.funcs; imports = new.imports; locals = new.locals }

-- the module with its stubs, or a refusal with its cause
abbrev pub AnswersStubbed : Config → (bytes from : List ℕ) → Result (Vec ℕ) Error → Type 0
AnswersStubbed c bytes from result = AnswersEdited (StubsHeld from) ForMemory c bytes result
