-- What makes an item a root, kind by kind.
use Rattle.std.specs.Prelude.{◌≡◌, ℕ, List, [], ◌∷◌, Option, Some, None, nat_eq, if◌then◌else◌}
use Rattle.walrus.specs.Base.Id.{place}
use Rattle.walrus.specs.Base.Operators.{Item}
use Rattle.walrus.specs.Base.IdValue.{Id}
use Rattle.walrus.specs.Base.FunctionKey.{FunctionKey}
use Rattle.walrus.specs.Model.Abstract.{Abstract}
use Rattle.walrus.specs.Items.Data.{DataValue}
use Rattle.walrus.specs.Items.Elements.{ElementValue}
use Rattle.walrus.specs.Items.Kinds.{exported}
use Rattle.walrus.specs.Items.ExportItem.{ExportItem}
use Rattle.walrus.specs.Items.DataKind.{DataKind}
use Rattle.walrus.specs.Items.DataKind.TheVariants as data_kinds
use Rattle.walrus.specs.Items.ElementKind.{ElementKind}
use Rattle.walrus.specs.Items.ElementKind.TheVariants as element_kinds
use Rattle.walrus_tools.specs.Links.{IsRootBy}
use Rattle.walrus_tools.specs.declared.roots.Root.{Root}
use Rattle.walrus_tools.specs.declared.roots.Root.TheVariants.{Active, Declared, Start}

-- the item as exports name it, or exports name none such
abbrev pub NamesExport : Item → Option ExportItem → Type 0
NamesExport x None = (e : ExportItem) → exported e ≡ x → ⊥
NamesExport x (Some e) = exported e ≡ x

-- of a function: whether it is the start function
abbrev pub by_start : Option (Id FunctionKey) → ℕ → Option Root
by_start None f = None
by_start (Some start) f = if nat_eq (place start) f then Some Start else None

abbrev pub by_element_kind : ElementKind → Option Root
by_element_kind (element_kinds.Active table offset) = Some Active
by_element_kind element_kinds.Passive = None
by_element_kind element_kinds.Declared = Some Declared

abbrev pub by_element : Option ElementValue → Option Root
by_element None = None
by_element (Some e) = by_element_kind e.kind

abbrev pub by_data_kind : DataKind → Option Root
by_data_kind (data_kinds.Active memory offset) = Some Active
by_data_kind data_kinds.Passive = None

abbrev pub by_data : Option DataValue → Option Root
by_data None = None
by_data (Some d) = by_data_kind d.kind

-- what makes the item a root, or nothing does
abbrev pub FindsRoot : Abstract → Item → Option Root → Type 0
FindsRoot m x None = (root : Root) → IsRootBy m root x → ⊥
FindsRoot m x (Some root) = IsRootBy m root x

-- the same of the first item of a chain, if there is one
abbrev pub FindsChainRoot : Abstract → Option (List Item) → Option Root → Type 0
FindsChainRoot m None found = found ≡ None
FindsChainRoot m (Some []) found = found ≡ None
FindsChainRoot m (Some (first ∷ others)) found = FindsRoot m first found
