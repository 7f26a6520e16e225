-- What emission leaves of a module: it adds the one segment that declares what `ref.func` names and nothing declares ("Validation > Modules":
-- the context's references), or nothing.
use Rattle.std.specs.Prelude.{List, [], ◌∷◌, ◌++◌, length, Option, Some, None, Result, Ok, Err, ◌≡◌, ◌⊎◌}
use Rattle.std.specs.Global.{Vec}
use Rattle.walrus_base.specs.declared.id.Id.{Id}
use Rattle.walrus_base.specs.declared.keys.FunctionKey.{FunctionKey}
use Rattle.walrus_items.specs.declared.segments.ElementItems.TheVariants.{Functions}
use Rattle.walrus_items.specs.declared.segments.ElementKind.TheVariants.{Declared}
use Rattle.walrus_items.specs.Elements.{ElementValue}
use Rattle.walrus_model.specs.Abstract.{Abstract}
use Rattle.walrus_module.specs.declared.module.Module.{Module}
use Rattle.walrus_theorem.specs.Chain.{Leaves}
use Rattle.walrus_theorem.specs.Refused.{Refusal, Memory, DeadItem, NoIndex, TwoIndices, TooLarge, NotWritable, Caller, Another}

-- u is left of v where emission answers so: with that segment, or as it was where something named isn't there; where memory runs out, either
abbrev pub LeavesBy : {X : Type 0} → Abstract → Abstract → Result X Refusal → Type 0
LeavesBy v u (Ok x) = Leaves v u
LeavesBy v u (Err DeadItem) = u ≡ v
LeavesBy v u (Err Memory) = Leaves v u ⊎ (u ≡ v)
LeavesBy v u (Err TwoIndices) = Leaves v u
LeavesBy v u (Err NoIndex) = Leaves v u
LeavesBy v u (Err NotWritable) = Leaves v u
LeavesBy v u (Err TooLarge) = Leaves v u
LeavesBy v u (Err Caller) = Leaves v u
LeavesBy v u (Err Another) = Leaves v u

-- behind the segments stands, at its own id and without a name, one that declares functions, or nothing is added
pub data AddsDeclared (old new : List (Option ElementValue)) : Type 0 where
  AsTheyWere : new ≡ old → AddsDeclared old new
  AndOne : (functions : Vec (Id FunctionKey)) → new ≡ old ++ Some (record { id = length old; kind = Declared; items = Functions functions; name = None }) ∷ [] → AddsDeclared old new

-- all but the element segments stays
abbrev pub ChangesElements : {S : Type 0} → Module S → Module S → Type 0
ChangesElements old new = new ≡ record old { elements = new.elements }

-- the module that is left, with the custom sections that it had before
abbrev pub but_customs : {S : Type 0} → (old new : Module S) → Module S
but_customs old new = record new { customs = old.customs }
