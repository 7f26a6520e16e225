-- Which location an operator is given while it is read: what the caller's function answers for the place of its first byte, or else that place.
use Rattle.std.specs.Prelude.{ℕ, Option, Some, None, ◌≡◌}
use Rattle.std.specs.Fn.{FnReturnsAt}
use Rattle.std.specs.declared.alloc.Global.{Global}
use Rattle.std.specs.declared.dyn_box.DynBox.{DynBox}
use Rattle.walrus_code.specs.declared.location.InstrLocId.{InstrLocId}
pub use Rattle.walrus_reading.specs.Taken.{IsPlace}
use Rattle.walrus_module.specs.declared.config.ModuleConfig.{ModuleConfig}
use Rattle.walrus_module.specs.declared.hook.LocationHook.{LocationHook}

module _ {V : Type 0} {O : V → Type 0} {calls : _} where
  -- the function may answer this for the place
  abbrev pub MayAnswer : LocationHook V O calls → ℕ → InstrLocId → Type 0
  MayAnswer hook place loc = FnReturnsAt calls (hook.call.vtable, hook.call.value) place loc

  abbrev pub GivenBy : Option (LocationHook V O calls) → ℕ → InstrLocId → Type 0
  GivenBy None place loc = IsPlace place loc
  GivenBy (Some hook) place loc = MayAnswer hook place loc

  -- under the configuration an operator that begins at this place is given this location
  abbrev pub Gives : ModuleConfig V O calls → ℕ → InstrLocId → Type 0
  Gives c place loc = GivenBy c.on_instr_loc place loc

  -- this function of a caller's is kept
  abbrev pub IsHooked : DynBox V Global O → ModuleConfig V O calls → Type 0
  IsHooked call c = (hook : LocationHook V O calls) × ((c.on_instr_loc ≡ Some hook) × (hook.call ≡ call))

  -- none is kept
  abbrev pub HasNoHook : ModuleConfig V O calls → Type 0
  HasNoHook c = c.on_instr_loc ≡ None

  -- the same function is kept, or none
  abbrev pub Keeps : (old new : ModuleConfig V O calls) → Type 0
  Keeps old new = new.on_instr_loc ≡ old.on_instr_loc
