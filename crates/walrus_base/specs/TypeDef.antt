-- What a contract sees of the types of a module ("Structure > Types > Recursive Types").
use Rattle.std.specs.Prelude.{ℕ, ◌-◌, List, [], Option, option_map, string_bytes, String}
use Rattle.std.specs.Global.{Global}
use Rattle.std.specs.List.{range_with_len}
use Rattle.walrus_base.specs.Id.{place}
use Rattle.walrus_base.specs.Types.{SubType, CompType, Func, Struct, Array, ValType}
use Rattle.walrus_base.specs.Composite.{sub_type}
use Rattle.walrus_base.specs.declared.types.Type.{«Type»}

-- a type, and the members of its group, in order
pub record TypeDef : Type 0 where
  pub group : List ℕ
  pub sub : SubType ℕ

-- the numbers from the first on, up to the end
abbrev pub places_between : (first end : ℕ) → List ℕ
places_between first end = range_with_len first (end - first)

-- the place of the type's own id
abbrev pub type_place : «Type» → ℕ
type_place ty = place ty.id

abbrev pub type_def : «Type» → TypeDef
type_def ty = record { group = places_between ty.first ty.end; sub = sub_type ty.is_final ty.supertype ty.comp }

-- the bytes of a name, if there is one
abbrev pub name_bytes : Option (String Global) → Option (List ℕ)
name_bytes name = option_map (λ s. string_bytes s) name

abbrev pub type_name : «Type» → Option (List ℕ)
type_name ty = name_bytes ty.name

-- the type of a function
abbrev pub IsFunction : CompType ℕ → Type 0
IsFunction (Func params results) = Unit {0}
IsFunction (Struct fields) = ⊥
IsFunction (Array element) = ⊥

-- what a function of the type takes
abbrev pub type_params : CompType ℕ → List (ValType ℕ)
type_params (Func params results) = params
type_params (Struct fields) = []
type_params (Array element) = []

-- what a function of the type gives back
abbrev pub type_results : CompType ℕ → List (ValType ℕ)
type_results (Func params results) = results
type_results (Struct fields) = []
type_results (Array element) = []
