-- Types of functions that are found by what they are.
use Rattle.std.specs.Prelude.{◌≡◌, ℕ, ◌<◌, ◌≤◌, true, false, List, [], ◌∷◌, ◌++◌, ◌⊎◌, Option, Some, None, IsTrue, length}
use Rattle.walrus_base.specs.Arena.{item_at}
use Rattle.walrus_base.specs.Types.{comp_names}
use Rattle.walrus_base.specs.Composite.{FunctionType, function_type, function_comp}
use Rattle.walrus_base.specs.Index.{places_at}
use Rattle.walrus_base.specs.PlaceList.{has, rise}
use Rattle.walrus_base.specs.TypeDef.{TypeDef, type_place}
use Rattle.walrus_base.specs.TypeSlots.{defs}
use Rattle.walrus_base.specs.declared.composite.FunctionType.{FunctionType as DeclaredFunctionType}
use Rattle.walrus_base.specs.declared.index.FunctionIndex.{FunctionIndex}
use Rattle.walrus_base.specs.declared.types.Type.{«Type»}

-- the type of functions at a place that is alone in its group, final, and without supertype
abbrev pub alone : ℕ → FunctionType → TypeDef
alone place f = record { group = place ∷ []; sub = record { is_final = true; supertypes = []; comp = function_comp f } }

-- the type of functions doesn't name the place
abbrev pub NamesNot : FunctionType → ℕ → Type 0
NamesNot f place = has (comp_names (function_comp f)) place ≡ false

-- Such a type stands at the place, and doesn't name itself: one that does has another shape than what is looked for.
abbrev pub StandsAt : FunctionType → List (Option TypeDef) → ℕ → Type 0
StandsAt f slots place = (item_at slots place ≡ Some (alone place f)) × NamesNot f place

-- the first such type stands at the place
abbrev pub StandsFirst : FunctionType → List (Option TypeDef) → ℕ → Type 0
StandsFirst f slots place = StandsAt f slots place × ((p : ℕ) → p < place → StandsAt f slots p → ⊥)

-- no such type stands from the one place on, up to the other
abbrev pub StandsNowhere : FunctionType → List (Option TypeDef) → (low high : ℕ) → Type 0
StandsNowhere f slots low high = (p : ℕ) → low ≤ p → p < high → StandsAt f slots p → ⊥

-- each such type at the first so many places is found under what it is
abbrev pub IsIndexed : FunctionIndex → (noted : ℕ) → List (Option «Type») → Type 0
IsIndexed index noted places = (p : ℕ) (f : DeclaredFunctionType) → p < noted → StandsAt (function_type f) (defs places) p → IsTrue (has (places_at index f) p)

-- the places under each type of functions rise up to this number
abbrev pub AreInOrder : FunctionIndex → ℕ → Type 0
AreInOrder index end = (f : DeclaredFunctionType) → IsTrue (rise 0 (places_at index f) end)

-- no type of functions names a place that is under it
abbrev pub AreNotNamed : FunctionIndex → Type 0
AreNotNamed index = (f : DeclaredFunctionType) (p : ℕ) → IsTrue (has (places_at index f) p) → NamesNot (function_type f) p

-- under each type of functions are the places that were, and perhaps behind them that of this type
abbrev pub NotesOnly : Option «Type» → (old new : FunctionIndex) → Type 0
NotesOnly slot old new = (f : DeclaredFunctionType) → (places_at new f ≡ places_at old f)
    ⊎ ((ty : «Type») × (slot ≡ Some ty) × NamesNot (function_type f) (type_place ty) × (places_at new f ≡ places_at old f ++ type_place ty ∷ []))

-- The first such type was at this place, and all types and names are as they were; or none was there, and it was added at the end, at this
-- place, without a name.
pub data FoundOrAdded (f : FunctionType) (old new : List (Option TypeDef)) (old_names new_names : List (Option (Option (List ℕ)))) (place : ℕ) : Type 0 where
  Found : StandsFirst f old place → new ≡ old → new_names ≡ old_names → FoundOrAdded f old new old_names new_names place
  Added : ((p : ℕ) → StandsAt f old p → ⊥) → place ≡ length old → new ≡ old ++ Some (alone place f) ∷ [] → new_names ≡ old_names ++ Some None ∷ [] → FoundOrAdded f old new old_names new_names place
