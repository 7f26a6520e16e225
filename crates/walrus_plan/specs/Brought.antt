-- The order of the items of an index space: what imports bring, and then what the module defines.
use Rattle.std.specs.Prelude.{ℕ, List, ◌++◌, ◌≡◌, Option, filter, filter_map, map, option_to_list}
use Rattle.std.specs.Global.{Vec}
use Rattle.walrus_base.specs.Arena.{entries}
use Rattle.walrus_base.specs.Id.{place}
use Rattle.walrus_base.specs.declared.id.Id.{Id}
use Rattle.walrus_base.specs.Operators.{Space}
use Rattle.walrus_contents.specs.declared.parts.Parts.{Parts}
use Rattle.walrus_items.specs.Kinds.{imported}
use Rattle.walrus_items.specs.declared.kinds.ImportKind.{ImportKind}
use Rattle.walrus_items.specs.Imports.{ImportValue, imports}
use Rattle.walrus_model.specs.Imported.{number_in}
use Rattle.walrus_plan.specs.Local.{is_own}

-- the places of what these imports bring to a space, in their order
abbrev pub places_brought : Space → List ImportValue → List ℕ
places_brought s all = filter_map (λ i. number_in s (imported i.kind)) all

-- what an import of this kind brings to a space has come to the end of a list of its ids
abbrev pub IsLonger : {K : Type 0} → (old new : Vec (Id K)) → Space → ImportKind → Type 0
IsLonger old new s kind = map place new.items ≡ map place old.items ++ option_to_list (number_in s (imported kind))

-- those of these that no import brings
abbrev pub own_of : {X : Type 0} → (X → Option ℕ) → List X → List X
own_of imported_by all = filter (λ x. is_own (imported_by x)) all

-- their places
abbrev pub own_places : {X : Type 0} → (X → Option ℕ) → List (ℕ × X) → List ℕ
own_places imported_by all = map (λ e. e.0) (own_of (λ e. imported_by e.1) all)

-- the numbers of the imports, rising
abbrev pub import_numbers : Parts → List ℕ
import_numbers p = map (λ e. e.0) (entries (imports p.imports.now))
