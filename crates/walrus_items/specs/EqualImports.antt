-- When imports are equal.
use Rattle.std.specs.Prelude.{◌≡◌, ◌↔◌, Bool, IsTrue}
use Rattle.walrus_items.specs.Kinds.{imported}
use Rattle.walrus_items.specs.Imports.{ImportValue, import_value}
use Rattle.walrus_items.specs.declared.imports.Import.{Import}

-- two imports have the same own id and names, and bring one item
pub record IsSameImport (a b : ImportValue) : Type 0 where
  pub id : a.id ≡ b.id
  pub module_name : a.module_name ≡ b.module_name
  pub name : a.name ≡ b.name
  pub item : imported a.kind ≡ imported b.kind

-- imports that are compared so are equal exactly where all their parts are
abbrev pub ComparesImports : (Import → Import → Bool) → Type 0
ComparesImports eq = (a b : Import) → IsTrue (eq a b) ↔ IsSameImport (import_value a) (import_value b)
