-- From the module that bytes read as to the one that is written, step by step. Each step has one result, the numbers of locals aside.
use Rattle.std.specs.Prelude.{ℕ, List, [], ◌∷◌, ◌++◌, map, length, Option, Some, None, IsSome, Contains, slice_get, ◌≡◌, ◌≢◌, ◌<◌, ◌≤◌, ◌↔◌, true}
use Rattle.std.specs.List.{range_with_len}
use Rattle.walrus_base.specs.Types.{ValType, CompType, comp_names}
use Rattle.walrus_base.specs.Operators.{Types, Elements, Item}
use Rattle.walrus_model.specs.Abstract.{Abstract, TypeDef, Body, TheModule, AnItem, ALocal, DeclaredElements, ListedFunctions}
use Rattle.walrus_model.specs.Carried.{Carried}
use Rattle.walrus_model.specs.Config.{Config}
use Rattle.walrus_model.specs.Declared.{AreUndeclared}
use Rattle.walrus_model.specs.Handlers.{handlers_of}
use Rattle.walrus_model.specs.Live.{IsLive}
use Rattle.walrus_model.specs.Names.{body_of, own_name, name_of}
use Rattle.walrus_model.specs.Pipeline.{Collected}
use Rattle.walrus_model.specs.Producers.{produced}
use Rattle.walrus_model.specs.Renaming.{Renaming}
use Rattle.walrus_theorem.specs.WellMade.{IsCounted}

-- ---- parsing: the types that legacy handlers need are found, or stand behind the others

-- a final type alone in its group, with no supertype
abbrev pub alone : ℕ → CompType ℕ → TypeDef
alone place comp = record { group = place ∷ []; sub = record { is_final = true; supertypes = []; comp = comp } }

-- a final type alone in its group with this composite type stands at p, and does not name itself: one that does has another shape
abbrev pub IsLoneTypeAt : CompType ℕ → List TypeDef → ℕ → Type 0
IsLoneTypeAt comp types p = (slice_get types p ≡ Some (alone p comp)) × (Contains (comp_names comp) p → ⊥)

-- a composite type has its place: the first type that stands alone with it, or a new one behind all others
pub data TypeIsFoundOrAdded (comp : CompType ℕ) (old new : List TypeDef) (place : ℕ) : Type 0 where
  Found : IsLoneTypeAt comp old place → ((p : ℕ) → p < place → IsLoneTypeAt comp old p → ⊥) → new ≡ old → TypeIsFoundOrAdded comp old new place
  Added : ((p : ℕ) → IsLoneTypeAt comp old p → ⊥) → place ≡ length old → new ≡ old ++ alone place comp ∷ [] → TypeIsFoundOrAdded comp old new place

-- each of these composite types in turn is found where it first stands alone in a group, or else added behind all types; `places` has where each is
pub data AreFoundOrAdded : (comps : List (CompType ℕ)) (old new : List TypeDef) (places : List ℕ) → Type 0 where
  NoMore : (types : List TypeDef) → AreFoundOrAdded [] types types []
  AndThen : (comp : CompType ℕ) (comps : List (CompType ℕ)) (old middle new : List TypeDef) (p : ℕ) (ps : List ℕ) → TypeIsFoundOrAdded comp old middle p → AreFoundOrAdded comps middle new ps → AreFoundOrAdded (comp ∷ comps) old new (p ∷ ps)

-- the function types that the legacy exception handlers of a function's body need; none where it has no body
abbrev pub handlers_by : Abstract → Option Body → List (CompType ℕ)
handlers_by m None = []
handlers_by m (Some b) = handlers_of m b

-- the types of legacy handlers are found or added, function by function, in the order of their indices
pub data AddsHandlers (m : Abstract) (places : ℕ → List ℕ) : (fs : List ℕ) (old new : List TypeDef) → Type 0 where
  NoFunction : (types : List TypeDef) → AddsHandlers m places [] types types
  AndThose : (f : ℕ) (fs : List ℕ) (old middle new : List TypeDef) → AreFoundOrAdded (handlers_by m (body_of m f)) old middle (places f) → AddsHandlers m places fs middle new → AddsHandlers m places (f ∷ fs) old new

-- the item is a type, and stands behind the first `count` types
abbrev pub IsBehind : ℕ → Item → Type 0
IsBehind count x = (x.0 ≡ Types) × (count ≤ x.1)

-- a body with all its parameters and locals, used or not, in their order
pub record IsWholeBody (r : Renaming) (f : ℕ) (a b : Body) : Type 0 where
  pub parameters : b.parameters ≡ map (r.locals f) a.parameters
  pub types : (x : ℕ) (v : ValType ℕ) → a.local_type x ≡ Some v → b.local_type (r.locals f x) ≡ Some v
  pub counted : IsCounted b
  pub rise : (x y : ℕ) → IsSome (a.local_type x) → IsSome (a.local_type y) → x < y → r.locals f x < r.locals f y

-- v is the module in memory that is made of the module m that was read
pub record ParsedAs (c : Config) (m v : Abstract) : Type 0 where
  pub types : List TypeDef
  pub functions : ℕ
  pub all_types : List TypeDef
  pub types_read : (i : ℕ) → m.types i ≡ slice_get types i
  pub functions_read : (f : ℕ) → IsSome (m.functions f) ↔ (f < functions)
  pub handlers : AddsHandlers m v.handler_types (range_with_len 0 functions) types all_types
  pub types_made : (i : ℕ) → v.types i ≡ slice_get all_types i
  pub no_handlers : (f : ℕ) → functions ≤ f → v.handler_types f ≡ []
  pub renaming : Renaming
  pub carried : Carried (IsLive m) (IsBehind (length types)) renaming m v
  pub bodies : (f : ℕ) (a b : Body) → body_of m f ≡ Some a → body_of v f ≡ Some b → IsWholeBody renaming f a b
  pub in_place : (x : Item) → renaming.numbers x.0 x.1 ≡ x.1
  pub imports_in_place : (i : ℕ) → renaming.imports i ≡ i
  pub table_segments : (table segment : ℕ) → v.table_segments table segment ≡ m.table_segments table segment
  pub memory_segments : (memory segment : ℕ) → v.memory_segments memory segment ≡ m.memory_segments memory segment
  pub section_roots : v.section_roots ≡ []
  pub customs : v.customs ≡ m.customs
  pub producers : v.producers ≡ produced m.producers
  pub own : own_name v TheModule ≡ name_of c m TheModule
  pub items : (x : Item) → IsLive m x → own_name v (AnItem x) ≡ name_of c m (AnItem x)
  pub added : (i : ℕ) → length types ≤ i → own_name v (AnItem (Types, i)) ≡ None
  pub locals : (f : ℕ) (b : Body) (x : ℕ) → body_of m f ≡ Some b → IsSome (b.local_type x) → own_name v (ALocal f (renaming.locals f x)) ≡ name_of c m (ALocal f x)

-- ---- emission first adds the declared segment

-- u has one element segment more than v: a declared one of these functions, behind all other segments, and without a name
pub record HasSegment (v u : Abstract) (fs : List ℕ) : Type 0 where
  pub id : ℕ
  pub is : u.elements id ≡ Some (record { kind = DeclaredElements; items = ListedFunctions fs })
  pub last : (i : ℕ) → IsSome (v.elements i) → i < id
  pub unnamed : own_name v (AnItem (Elements, id)) ≡ None
  pub others : (i : ℕ) → i ≢ id → u.elements i ≡ v.elements i

-- u is v with one declared element segment more, which lists these functions; where there is none of them, u is v itself
abbrev pub AddsSegment : Abstract → Abstract → List ℕ → Type 0
AddsSegment v u [] = u ≡ v
AddsSegment v u (f ∷ fs) = HasSegment v u (f ∷ fs) × (u ≡ record v { elements = u.elements })

-- u is v with the one segment that declares what ref.func names and nothing declares, if there is any
pub record Leaves (v u : Abstract) : Type 0 where
  pub functions : List ℕ
  pub undeclared : AreUndeclared (IsLive v) v functions
  pub added : AddsSegment v u functions

-- ---- the chain

-- module m, which was read, comes to u: by parsing, by gc, and by emission
pub record BringsTo (c : Config) (m u : Abstract) : Type 0 where
  pub module_parsed : Abstract
  pub module_kept : Abstract
  pub parsed : ParsedAs c m module_parsed
  pub collected : Collected module_parsed module_kept
  pub leaves : Leaves module_kept u
