-- What a contract sees of the iterators over a module's types.
use Rattle.std.specs.Prelude.{ℕ, List, map, drop}
use Rattle.walrus_base.specs.Arena.{entries_from}
use Rattle.walrus_base.specs.TypeDef.{TypeDef, type_place, type_def, places_between}
use Rattle.walrus_base.specs.declared.group.GroupIds.{GroupIds}
use Rattle.walrus_base.specs.declared.type_iter.TypeIter.{TypeIter}
use Rattle.walrus_base.specs.declared.types.Type.{«Type»}

-- the type with the place of its own id in front
abbrev pub place_and_def : «Type» → ℕ × TypeDef
place_and_def ty = (type_place ty, type_def ty)

-- the types that are still to come, each with the place of its id in front
abbrev pub types_left : TypeIter → List (ℕ × TypeDef)
types_left left = map (λ entry. place_and_def entry.1) (entries_from left.place (drop left.place left.places.now))

-- the places of the ids that are still to come
abbrev pub ids_left : GroupIds → List ℕ
ids_left left = places_between left.next left.end
