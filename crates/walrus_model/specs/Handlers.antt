-- The function types that the legacy exception handlers of a body need ("Instructions > Control Instructions" of the legacy exception
-- handling proposal).
use Rattle.std.specs.Prelude.{ℕ, List, map, Option, option_map}
use Rattle.walrus_base.specs.Types.{CompType}
use Rattle.walrus_base.specs.Composite.{function_comp}
use Rattle.walrus_functions.specs.Handlers as handlers
use Rattle.walrus_model.specs.Abstract.{Abstract, Body}

-- the type of each tag
abbrev pub tag_type : Abstract → ℕ → Option ℕ
tag_type m tag = option_map (λ t. t.ty) (m.tags tag)

-- the function types that the handlers of a body need; the function itself is the outermost block
abbrev pub handlers_of : Abstract → Body → List (CompType ℕ)
handlers_of m b = map function_comp (handlers.handlers_of m.types (tag_type m) b.operators)
