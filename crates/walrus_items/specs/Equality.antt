-- When items are one, when what imports bring is, when custom sections are equal, and when their ids are.
use Rattle.std.specs.Prelude.{◌≡◌, ◌↔◌, Bool, IsTrue}
use Rattle.std.specs.String.{string_bytes}
use Rattle.walrus_base.specs.Id.{place}
use Rattle.walrus_base.specs.declared.id.Id.{Id}
use Rattle.walrus_base.specs.Operators.{Item}
use Rattle.walrus_items.specs.Items.{is_item}
use Rattle.walrus_items.specs.Kinds.{imported}
use Rattle.walrus_items.specs.declared.kinds.ImportKind.{ImportKind}
use Rattle.walrus_items.specs.declared.raw_section.RawCustomSection.{RawCustomSection}

-- ids that are compared so are equal exactly where their places are
abbrev pub ComparesIds : {K : Type 0} → (Id K → Id K → Bool) → Type 0
ComparesIds {K} eq = (a b : Id K) → IsTrue (eq a b) ↔ (place a ≡ place b)

-- two sections have the same name and the same bytes
pub record IsSameSection (a b : RawCustomSection) : Type 0 where
  pub name : string_bytes a.name ≡ string_bytes b.name
  pub bytes : a.data_.items ≡ b.data_.items

-- sections that are compared so are equal exactly where both their parts are
abbrev pub ComparesSections : (RawCustomSection → RawCustomSection → Bool) → Type 0
ComparesSections eq = (a b : RawCustomSection) → IsTrue (eq a b) ↔ IsSameSection a b

-- items are told to be one exactly where they are
abbrev pub TellsItems : Type 0
TellsItems = (x y : Item) → IsTrue (is_item x y) ↔ (x ≡ y)

-- what is compared so is equal exactly where it brings one item
abbrev pub ComparesKinds : (ImportKind → ImportKind → Bool) → Type 0
ComparesKinds eq = (a b : ImportKind) → IsTrue (eq a b) ↔ (imported a ≡ imported b)
