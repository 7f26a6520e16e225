-- Functions of a module's own that come to be imported ("Structure > Modules > Imports").
use Rattle.std.specs.Prelude.{ℕ, List, [], ◌∷◌, ◌++◌, length, Option, Some, None, slice_set, ◌≡◌, ⊤}
use Rattle.walrus_base.specs.Arena.{item_at}
use Rattle.walrus_base.specs.Id.{place}
use Rattle.walrus_base.specs.declared.id.Id.{Id}
use Rattle.walrus_base.specs.declared.keys.FunctionKey.{FunctionKey}
use Rattle.walrus_base.specs.declared.keys.ImportKey.{ImportKey}
use Rattle.walrus_contents.specs.declared.parts.Contents.{Contents}
use Rattle.walrus_items.specs.FunctionKinds.{IsImport, kind_type}
use Rattle.walrus_items.specs.Functions.{FunctionValue, functions}
use Rattle.walrus_items.specs.Imports.{imports}
use Rattle.walrus_items.specs.declared.error.Error.{Error}
use Rattle.walrus_items.specs.declared.error.Error.TheVariants.{DeadItem, Memory, NotReplaceable}
use Rattle.walrus_items.specs.declared.function_kind.FunctionKind.TheVariants.{Import}
use Rattle.walrus_items.specs.declared.kinds.ImportKind.TheVariants.{Function}

-- An import under these names came, behind the others, and brings the function of this id, which no import brought. It has no body any more; its type
-- and its name stay.
pub record BringsFunction (id : ℕ) (from name : List ℕ) (old new : Contents) : Type 0 where
  pub function : FunctionValue
  pub there : item_at (functions old.funcs) id ≡ Some function
  pub own : IsImport function.kind → ⊥
  pub brought : Id FunctionKey
  pub is : place brought ≡ id
  pub by : Id ImportKey
  pub next : place by ≡ length (imports old.imports)
  pub import_added : imports new.imports ≡ imports old.imports ++ Some (record { id = place by; module_name = from; name = name; kind = Function brought }) ∷ []
  pub set : functions new.funcs ≡ slice_set (functions old.funcs) id (Some (record function { kind = Import (record { ty = kind_type function.kind; «import» = by }) }))
  pub others : new ≡ record old { funcs = new.funcs; imports = new.imports }

abbrev pub IsImported : Option FunctionValue → Type 0
IsImported None = ⊥
IsImported (Some function) = IsImport function.kind

-- by what stands at the place of the id: nothing, or a function that an import brings already
abbrev pub RefusesSlot : Option FunctionValue → Error → Type 0
RefusesSlot slot (Memory e) = ⊤
RefusesSlot slot DeadItem = slot ≡ None
RefusesSlot slot NotReplaceable = IsImported slot
RefusesSlot slot _ = ⊥

abbrev pub RefusesBring : ℕ → Contents → Error → Type 0
RefusesBring id old e = RefusesSlot (item_at (functions old.funcs) id) e
