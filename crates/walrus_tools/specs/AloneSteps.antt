-- The steps to what would go with a function: the trap, the body put back, the functions that go, and what they cost.
use Rattle.std.specs.Prelude.{ℕ, Bool, true, false, not, ◌&&◌, ◌||◌, ◌≡◌, List, Option, Some, None, count_by, filter, is_some, ◌==◌, slice_set}
use Rattle.std.specs.List.{range_with_len}
use Rattle.walrus.specs.Base.Arena.{item_at}
use Rattle.walrus.specs.Base.Marks.{Sets, is_marked, mark_places}
use Rattle.walrus.specs.Base.FunctionKey.{FunctionKey}
use Rattle.walrus.specs.Base.MarksValue.{Marks}
use Rattle.walrus.specs.Items.Functions.{FunctionValue, functions}
use Rattle.walrus.specs.Items.LocalFunction.{LocalFunction}
use Rattle.walrus.specs.Items.FunctionKind.{FunctionKind}
use Rattle.walrus.specs.Items.FunctionKind.TheVariants.{Local}
use Rattle.walrus.specs.Modules.Module.{Module}
use Rattle.walrus_tools.specs.Alone.{bytes_of, size_of}
use Rattle.walrus_tools.specs.FunctionMeaning.{has_body}
use Rattle.walrus_tools.specs.TrapEdit.{IsTrapOf}
use Rattle.walrus_tools.specs.declared.goers.Alone.{Alone}

-- ---- the trap

-- a function of this kind has no body
abbrev pub HasNone : FunctionKind → Type 0
HasNone kind = (body : LocalFunction) → kind ≡ Local body → ⊥

-- a trap stands in place of the body that is answered; without a body all is as it was
abbrev pub TradesKind : (old new : FunctionKind) → Option LocalFunction → Type 0
TradesKind old new None = (new ≡ old) × HasNone old
TradesKind old new (Some body) = (old ≡ Local body) × ((trap : LocalFunction) × (new ≡ Local trap) × IsTrapOf body trap)

module _ {S : Type 0} where
  -- the function at place f had this body, and traps now under its id and its name; nothing else changed
  pub record Trades (f : ℕ) (body : LocalFunction) (old new : Module S) : Type 0 where
    pub function : FunctionValue
    pub was : item_at (functions old.funcs) f ≡ Some function
    pub had : function.kind ≡ Local body
    pub trap : LocalFunction
    pub traps : IsTrapOf body trap
    pub is : functions new.funcs ≡ slice_set (functions old.funcs) f (Some (record function { kind = Local trap }))
    pub others : new ≡ record old { funcs = new.funcs }

  -- each function is as it was, and nothing else changed
  pub record HoldsSame (old new : Module S) : Type 0 where
    pub same : functions new.funcs ≡ functions old.funcs
    pub others : new ≡ record old { funcs = new.funcs }

  -- so it traps where a body is answered; else there was none
  abbrev pub TradesIfAny : (f : ℕ) → (old new : Module S) → Option LocalFunction → Type 0
  TradesIfAny f old new None = HoldsSame old new × (has_body (item_at (functions old.funcs) f) ≡ false)
  TradesIfAny f old new (Some body) = Trades f body old new

  -- the function at place f has this body, under its id and its name, and nothing else changed
  pub record HasBodyAgain (f : ℕ) (body : LocalFunction) (old new : Module S) : Type 0 where
    pub function : FunctionValue
    pub was : item_at (functions old.funcs) f ≡ Some function
    pub is : functions new.funcs ≡ slice_set (functions old.funcs) f (Some (record function { kind = Local body }))
    pub others : new ≡ record old { funcs = new.funcs }

-- ---- what goes

-- a function is there and goes with f: it is f, or isn't used
abbrev pub goes_at : List (Option FunctionValue) → (used : ℕ → Bool) → (f i : ℕ) → Bool
goes_at all used f i = is_some (item_at all i) && (i == f || not (used i))

-- a mark is set, if so
abbrev pub MarksIf : (so : Bool) → (place : ℕ) → (old new : Marks FunctionKey) → Type 0
MarksIf true place old new = Sets old new place
MarksIf false place old new = new ≡ old

-- marked are those that go with f
abbrev pub MarksGoers : List (Option FunctionValue) → (used : ℕ → Bool) → (f : ℕ) → Marks FunctionKey → Type 0
MarksGoers all used f marks = (i : ℕ) → is_marked marks i ≡ goes_at all used f i

-- ---- what they cost

-- how many bytes a body has, if its function is one of these, else none
abbrev pub size_where : (so : Bool) → ℕ × (ℕ × ℕ) → ℕ
size_where true body = size_of body
size_where false body = 0

abbrev pub size_if : (ℕ → Bool) → ℕ × (ℕ × ℕ) → ℕ
size_if goes body = size_where (goes body.0) body

-- as many as are marked, and the bytes of the bodies of these
abbrev pub alone_in : Marks FunctionKey → List (ℕ × (ℕ × ℕ)) → Alone
alone_in marks bodies = record { functions = count_by (is_marked marks) (range_with_len 0 (mark_places marks)); bytes = bytes_of (filter (λ body. is_marked marks body.0) bodies) }
