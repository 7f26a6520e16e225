-- Element segments that are alike ("Structure > Modules > Element Segments").
use Rattle.std.specs.Prelude.{◌≡◌, ⊤}
use Rattle.std.specs.List.{AllZip}
use Rattle.walrus_base.specs.ConstOps.{SameExpr}
use Rattle.walrus_items.specs.declared.segments.ElementKind.{ElementKind}
use Rattle.walrus_items.specs.declared.segments.ElementKind.TheVariants.{Passive, Declared, Active}
use Rattle.walrus_items.specs.declared.segments.ElementItems.{ElementItems}
use Rattle.walrus_items.specs.declared.segments.ElementItems.TheVariants.{Functions, Expressions}

-- the same case with the same parts
abbrev pub SameElementKind : ElementKind → ElementKind → Type 0
SameElementKind Passive Passive = ⊤
SameElementKind Declared Declared = ⊤
SameElementKind (Active table offset) (Active table' offset') = (table ≡ table') × SameExpr offset offset'
SameElementKind a b = ⊥

-- the same case with the same parts, in the same order
abbrev pub SameElementItems : ElementItems → ElementItems → Type 0
SameElementItems (Functions xs) (Functions ys) = xs.items ≡ ys.items
SameElementItems (Expressions s xs) (Expressions t ys) = (s ≡ t) × AllZip SameExpr xs.items ys.items
SameElementItems a b = ⊥
