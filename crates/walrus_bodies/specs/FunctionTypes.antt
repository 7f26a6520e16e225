-- Which of a module's types are function types ("Structure > Types > Composite Types").
use Rattle.std.specs.Prelude.{ℕ, Bool, true, false, Option, Some, None}
use Rattle.walrus_base.specs.Arena.{item_at}
use Rattle.walrus_base.specs.Types.{CompType, Func, Struct, Array}
use Rattle.walrus_base.specs.ModuleTypes.{type_slots}
use Rattle.walrus_base.specs.TypeDef.{TypeDef}
use Rattle.walrus_base.specs.declared.module_types.ModuleTypes.{ModuleTypes}

-- whether a composite type is a function type, rather than a structure or array type
abbrev pub is_function_comp : CompType ℕ → Bool
is_function_comp (Func params results) = true
is_function_comp (Struct fields) = false
is_function_comp (Array element) = false

-- whether there is a type at all, and its composite type is a function type
abbrev pub is_function_def : Option TypeDef → Bool
is_function_def None = false
is_function_def (Some x) = is_function_comp x.sub.comp

-- a type that is there, and is a function type, has this place
abbrev pub is_function_at : ModuleTypes → ℕ → Bool
is_function_at types number = is_function_def (item_at (type_slots types) number)
