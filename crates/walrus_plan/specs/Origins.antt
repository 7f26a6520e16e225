-- Which import brings a function.
use Rattle.std.specs.Prelude.{ℕ, Option, Some, None}
use Rattle.walrus_base.specs.Id.{place}
use Rattle.walrus_items.specs.declared.function_kind.FunctionKind.{FunctionKind}
use Rattle.walrus_items.specs.declared.function_kind.FunctionKind.TheVariants as kind

-- the place of the import that brings a function of this kind
abbrev pub function_import : FunctionKind → Option ℕ
function_import (kind.Import i) = Some (place i.«import»)
function_import (kind.Local f) = None
function_import (kind.Uninitialized ty) = None
