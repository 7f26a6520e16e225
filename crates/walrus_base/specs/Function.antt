-- A composite type as the type of a function, if it is one.
use Rattle.std.specs.Prelude.{◌≡◌, ◌≢◌, ℕ, Option, Some, None}
use Rattle.std.specs.Borrow.{Bor}
use Rattle.walrus_base.specs.Types.{CompType}
use Rattle.walrus_base.specs.Alone.{alone}
use Rattle.walrus_base.specs.Composite.{FunctionType as FunctionView, function_type, function_comp}
use Rattle.walrus_base.specs.TypeDef.{TypeDef, IsFunction}
use Rattle.walrus_base.specs.declared.composite.FunctionType.{FunctionType}

-- the answer is the function type that the composite type is, and none where it is none
abbrev pub AsFunction : Option (Bor FunctionType) → CompType ℕ → Type 0
AsFunction (Some f) comp = comp ≡ function_comp (function_type f.now)
AsFunction None comp = IsFunction comp → ⊥

-- the answer is what the type at this place is, if it is a type of functions that is alone in its group, final, and without supertype
abbrev pub AsAlone : Option (Bor FunctionType) → TypeDef → ℕ → Type 0
AsAlone (Some f) x place = x ≡ alone place (function_type f.now)
AsAlone None x place = (f : FunctionView) → x ≢ alone place f
