-- A module in which functions trap that texts mean ("Structure > Instructions > Control Instructions").
use Rattle.std.specs.Prelude.{ℕ, Bool, true, false, List, [], Option, Some, None, Result, All, MatchResult, length, ◌≡◌, ◌≢◌, ◌⊎◌, ⊤}
use Rattle.std.specs.Global.{Vec}
use Rattle.walrus.specs.Base.Arena.{item_at}
use Rattle.walrus.specs.Model.Config.{Config}
use Rattle.walrus.specs.Items.Exports.{exports}
use Rattle.walrus.specs.Items.Function.{args_of, body_of, function_type, handlers_in}
use Rattle.walrus.specs.Items.Functions.{FunctionValue, functions}
use Rattle.walrus.specs.Items.LocalFunction.{LocalFunction}
use Rattle.walrus.specs.Items.Error.{Error}
use Rattle.walrus.specs.Items.Error.TheVariants.{Memory, NotFound, NotReplaceable}
use Rattle.walrus.specs.Items.FunctionKind.{FunctionKind}
use Rattle.walrus.specs.Items.FunctionKind.TheVariants.{Import, Local, Uninitialized}
use Rattle.walrus.specs.Contents.Contents.{Contents}
use Rattle.walrus.specs.Modules.View.{contents_of}
use Rattle.walrus.specs.Modules.Module.{Module}
use Rattle.walrus.specs.Edits.{AnswersEdited, IsWhole}
use Rattle.walrus_tools.specs.FunctionMeaning.{AreMeant, IsFirst, MeansBodies, MeansImported, MeansNone}
use Rattle.walrus_tools.specs.Trap.{trap_ops}

-- ---- a body that traps in place of another

-- of the same type and with the same parameters it traps, and has no types of handlers
pub record IsTrapOf (old new : LocalFunction) : Type 0 where
  pub typed : function_type new ≡ function_type old
  pub takes : args_of new ≡ args_of old
  pub traps : body_of new ≡ trap_ops
  pub no_handlers : handlers_in new ≡ []

-- so a function with a body does; one without is as it was
abbrev pub KindTraps : (old new : FunctionKind) → Type 0
KindTraps (Local f) new = (g : LocalFunction) × (new ≡ Local g) × IsTrapOf f g
KindTraps (Import i) new = new ≡ Import i
KindTraps (Uninitialized ty) new = new ≡ Uninitialized ty

-- the same of what stands at a place: its id and its name stay, and where nothing was nothing is
abbrev pub SlotTraps : (old new : Option FunctionValue) → Type 0
SlotTraps None new = new ≡ None
SlotTraps (Some f) new = (kind : FunctionKind) × (new ≡ Some (record f { kind = kind })) × KindTraps f.kind kind

-- where the place is hit
abbrev pub TrapsIf : (hit : Bool) → (old new : Option FunctionValue) → Type 0
TrapsIf true old new = SlotTraps old new
TrapsIf false old new = new ≡ old

-- of these functions the one at place p does if it is hit, and the others are as they were
pub record PlaceTraps (hit : Bool) (p : ℕ) (old new : List (Option FunctionValue)) : Type 0 where
  pub here : TrapsIf hit (item_at old p) (item_at new p)
  pub others : (i : ℕ) → i ≢ p → item_at new i ≡ item_at old i
  pub same_length : length new ≡ length old

-- so does each that is hit, and each other one is as it was
abbrev pub HitTrap : (hits : ℕ → Bool) → (old new : List (Option FunctionValue)) → Type 0
HitTrap hits old new = (p : ℕ) → TrapsIf (hits p) (item_at old p) (item_at new p)

-- ---- functions that are meant

-- a function with a body traps now, under its id and its name
pub record Trapped (old new : Option FunctionValue) : Type 0 where
  pub function : FunctionValue
  pub was : old ≡ Some function
  pub body : LocalFunction
  pub had : function.kind ≡ Local body
  pub trap : LocalFunction
  pub is : new ≡ Some (record function { kind = Local trap })
  pub same : IsTrapOf body trap

-- each function that is meant traps, and each other one is as it was
abbrev pub MeantTrap : (IsMeant : ℕ → Type 0) → (old new : List (Option FunctionValue)) → Type 0
MeantTrap IsMeant old new = (p : ℕ) → (IsMeant p × Trapped (item_at old p) (item_at new p)) ⊎ ((IsMeant p → ⊥) × (item_at new p ≡ item_at old p))

-- ---- what a module holds

-- of what is held the functions trap that these texts mean, each of which means some, and nothing else changed
pub record SnipsMeant (texts : List (List ℕ)) (old new : Contents) : Type 0 where
  pub traps : MeantTrap (AreMeant (functions old.funcs) (exports old.exports) texts) (functions old.funcs) (functions new.funcs)
  pub mean : All (MeansBodies (functions old.funcs) (exports old.exports)) texts
  pub others : new ≡ record old { funcs = new.funcs }

-- Memory ran out, or one of the texts means no function, or an imported one; and each before it means functions that have bodies, so that the first
-- text that is refused says why.
abbrev pub RefusesMeant : (texts : List (List ℕ)) → Contents → Error → Type 0
RefusesMeant texts m (Memory e) = ⊤
RefusesMeant texts m NotFound = IsFirst (functions m.funcs) (exports m.exports) (MeansNone (functions m.funcs) (exports m.exports)) texts
RefusesMeant texts m NotReplaceable = IsFirst (functions m.funcs) (exports m.exports) (MeansImported (functions m.funcs) (exports m.exports)) texts
RefusesMeant texts m _ = ⊥

module _ {S : Type 0} where
  -- the same of a module
  pub record TrapsMeant (texts : List (List ℕ)) (old new : Module S) : Type 0 where
    pub traps : MeantTrap (AreMeant (functions old.funcs) (exports old.exports) texts) (functions old.funcs) (functions new.funcs)
    pub mean : All (MeansBodies (functions old.funcs) (exports old.exports)) texts
    pub others : new ≡ record old { funcs = new.funcs }

  -- of a whole module these functions trap, and what is left is whole; or it is refused, with its cause
  abbrev pub TrapsAll : (texts : List (List ℕ)) → (old new : Module S) → Result (Unit {0}) Error → Type 0
  TrapsAll texts old new result = (c : Config) → IsWhole c old → MatchResult result (λ done. TrapsMeant texts old new × IsWhole c new) (RefusesMeant texts (contents_of old))

-- ---- from bytes to bytes

-- the module in which these functions trap, or a refusal with its cause
abbrev pub AnswersMeant : Config → (bytes : List ℕ) → (texts : List (List ℕ)) → Result (Vec ℕ) Error → Type 0
AnswersMeant c bytes texts result = AnswersEdited (SnipsMeant texts) (RefusesMeant texts) c bytes result
