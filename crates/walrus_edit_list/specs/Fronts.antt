-- Operators that come to stand in front of a body ("Binary Format > Instructions > Expressions").
use Rattle.std.specs.Prelude.{ℕ, ◌-◌, false, List, [], ◌∷◌, ◌++◌, length, take, Option, Some, None, slice_get, slice_set, ◌≡◌, ⊤}
use Rattle.walrus_base.specs.Arena.{item_at}
use Rattle.walrus_base.specs.Operators.{Op}
use Rattle.walrus_base.specs.declared.module_types.ModuleTypes.{ModuleTypes}
use Rattle.walrus_bodies.specs.Body.{OperatorsRead, context}
use Rattle.walrus_bodies.specs.FunctionTypes.{is_function_at}
use Rattle.walrus_bodies.specs.declared.features.Features.{Features}
use Rattle.walrus_code.specs.Names.{Lookup}
use Rattle.walrus_contents.specs.declared.parts.Contents.{Contents}
use Rattle.walrus_items.specs.Function.{KeepsOthers, args_of, body_of}
use Rattle.walrus_items.specs.Functions.{FunctionValue, functions}
use Rattle.walrus_items.specs.LocalFunction.{LocalFunction}
use Rattle.walrus_items.specs.declared.error.Error.{Error}
use Rattle.walrus_items.specs.declared.error.Error.TheVariants.{DeadItem, Memory, NotReplaceable, TooLarge}
use Rattle.walrus_items.specs.declared.function_kind.FunctionKind.{FunctionKind}
use Rattle.walrus_items.specs.declared.function_kind.FunctionKind.TheVariants.{Import, Local, Uninitialized}
use Rattle.walrus_edit_list.specs.Functions.{RefusesForm}
use Rattle.walrus_edit_list.specs.Ids.{HasTooMany, ids_of}
use Rattle.walrus_edit_list.specs.declared.front.TheConstants.{END}

-- operators but for the last one
abbrev pub but_last : List Op → List Op
but_last ops = take (length ops - 1) ops

-- by the items that indices lead to, the types, the proposals that may be used, and the bytes
module _ (names : Lookup) (types : ModuleTypes) (f : Features) (bytes : List ℕ) where
  -- The bytes, with an `end` behind them, are these operators over these parameters. None is of legacy exceptions, which may need types of their own.
  abbrev pub IsFront : (parameters : List ℕ) → List Op → Type 0
  IsFront parameters ops = OperatorsRead (context names (is_function_at types) (record f { legacy_exceptions = false })) (slice_get parameters) (bytes ++ END ∷ []) ops

  -- they are none
  abbrev pub IsNoFront : (parameters : List ℕ) → Type 0
  IsNoFront parameters = (ops : List Op) → IsFront parameters ops → ⊥

  -- in front of a body stand the operators that the bytes are, without that `end`; nothing else changed
  pub record FrontsBody (old new : LocalFunction) : Type 0 where
    pub read : List Op
    pub front : IsFront (args_of old) read
    pub operators : body_of new ≡ but_last read ++ body_of old
    pub others : KeepsOthers old new

  -- the same of a function of this kind, which has a body
  abbrev pub FrontsKind : (old new : FunctionKind) → Type 0
  FrontsKind (Local own) new = (made : LocalFunction) × (new ≡ Local made) × FrontsBody own made
  FrontsKind (Import i) new = ⊥
  FrontsKind (Uninitialized ty) new = ⊥

  -- it has no body, or the bytes are no operators over its parameters
  abbrev pub RefusesKind : FunctionKind → Error → Type 0
  RefusesKind (Local own) e = RefusesForm (IsNoFront (args_of own)) e
  RefusesKind (Import i) e = e ≡ NotReplaceable
  RefusesKind (Uninitialized ty) e = e ≡ NotReplaceable

-- in front of the body of the function of this id stand the operators that these bytes are, with ids as indices
pub record FrontsFunction (f : Features) (id : ℕ) (bytes : List ℕ) (old new : Contents) : Type 0 where
  pub function : FunctionValue
  pub there : item_at (functions old.funcs) id ≡ Some function
  pub kind : FunctionKind
  pub fronts : FrontsKind (ids_of old) old.types f bytes function.kind kind
  pub set : functions new.funcs ≡ slice_set (functions old.funcs) id (Some (record function { kind = kind }))
  pub others : new ≡ record old { funcs = new.funcs }

-- by what stands at the place of the id; nothing is refused as such
abbrev pub RefusesSlot : Features → (bytes : List ℕ) → Contents → Option FunctionValue → Error → Type 0
RefusesSlot f bytes old None e = e ≡ DeadItem
RefusesSlot f bytes old (Some function) (Memory e) = ⊤
RefusesSlot f bytes old (Some function) TooLarge = HasTooMany old
RefusesSlot f bytes old (Some function) e = RefusesKind (ids_of old) old.types f bytes function.kind e

abbrev pub RefusesFront : Features → (id : ℕ) → (bytes : List ℕ) → Contents → Error → Type 0
RefusesFront f id bytes old e = RefusesSlot f bytes old (item_at (functions old.funcs) id) e
