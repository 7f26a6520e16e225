-- Where a function comes from ("Structure > Modules > Functions").
use Rattle.std.specs.Prelude.{⊤}
use Rattle.walrus_base.specs.declared.id.Id.{Id}
use Rattle.walrus_base.specs.declared.keys.TypeKey.{TypeKey}
use Rattle.walrus_ir.specs.Function.{function_type}
use Rattle.walrus_items.specs.declared.function_kind.FunctionKind.{FunctionKind}
use Rattle.walrus_items.specs.declared.function_kind.FunctionKind.TheVariants.{Import, Local, Uninitialized}

-- the type of a function of this kind
abbrev pub kind_type : FunctionKind → Id TypeKey
kind_type (Import i) = i.ty
kind_type (Local f) = function_type f
kind_type (Uninitialized ty) = ty

-- an import brings it
abbrev pub IsImport : FunctionKind → Type 0
IsImport (Import i) = ⊤
IsImport (Local f) = ⊥
IsImport (Uninitialized ty) = ⊥

-- it has a body
abbrev pub IsLocal : FunctionKind → Type 0
IsLocal (Local f) = ⊤
IsLocal (Import i) = ⊥
IsLocal (Uninitialized ty) = ⊥
