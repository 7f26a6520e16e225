-- What types by their ids are written as: groups over indices.
use Rattle.std.specs.Prelude.{ℕ, ◌≡◌, ◌≢◌, ◌<◌, ◌⊎◌, ⊤, List, [], map, All, Contains, Option, Some, None, Result, Ok, Err}
use Rattle.wasm_entries.specs.Record.{Group}
use Rattle.wasm_entries.specs.TypeSpelling.{GroupStands}
use Rattle.walrus_base.specs.Arena.{item_at, entries}
use Rattle.walrus_base.specs.Types.{HeapType, IsNotExact, comp_heaps, comp_names, sub_names}
use Rattle.walrus_base.specs.Operators.{Types}
use Rattle.walrus_base.specs.Shape.{place_in}
use Rattle.walrus_base.specs.TypeDef.{TypeDef}
use Rattle.walrus_code.specs.Names.{Lookup}
use Rattle.walrus_code.specs.declared.error.IrError.{IrError}
use Rattle.walrus_code.specs.declared.error.IrError.TheVariants.{Malformed, Memory, NoIndex, NotWritable, TooLarge}
use Rattle.walrus_groups.specs.Groups.{types_from}
use Rattle.walrus_groups.specs.Named.{named_def}

-- each type has the number of types in front of it as its index, and nothing else has one
abbrev pub NumbersTypes : Lookup → List (Option TypeDef) → Type 0
NumbersTypes names slots = (t : ℕ) → names Types t ≡ place_in (map (λ e. e.0) (entries slots)) t

-- the groups read as these types under their indices, none is empty, and each can be spelled
pub record AreIndexed (names : Lookup) (defs : List TypeDef) (groups : List Group) : Type 0 where
  pub read : map Some (types_from 0 groups) ≡ map (named_def names) defs
  pub none_empty : All (λ g. g ≢ []) groups
  pub stand : All GroupStands groups

-- a type names one that has no index
abbrev pub LacksAnIndex : Lookup → List TypeDef → Type 0
LacksAnIndex names defs = (x : TypeDef) × ((t : ℕ) × (Contains defs x × Contains (sub_names x.sub) t × (names Types t ≡ None)))

-- an exact heap type stands in a type, which no bytes spell
abbrev pub HasExact : List TypeDef → Type 0
HasExact defs = (x : TypeDef) × ((h : HeapType ℕ) × (Contains defs x × Contains (comp_heaps x.sub.comp) h × (IsNotExact h → ⊥)))

-- refused only with a cause, and never Ok where a type lacks an index or an exact heap type stands in one
abbrev pub IndexesTypes : {X : Type 0} → (X → List Group) → Lookup → List TypeDef → Result X IrError → Type 0
IndexesTypes view names defs (Ok groups) = AreIndexed names defs (view groups) × (HasExact defs → ⊥)
IndexesTypes view names defs (Err NoIndex) = LacksAnIndex names defs
IndexesTypes view names defs (Err NotWritable) = HasExact defs
IndexesTypes view names defs (Err (Memory e)) = ⊤
IndexesTypes view names defs (Err Malformed) = ⊥
IndexesTypes view names defs (Err TooLarge) = ⊥

-- ---- the order in which types may be written ("Validation > Types > Recursive Types")

-- the type is of this group, or before all its members
abbrev pub IsInOrBefore : List ℕ → ℕ → Type 0
IsInOrBefore group u = Contains group u ⊎ ((p : ℕ) → Contains group p → u < p)

-- a supertype comes before its subtype; every other type that is named is of an earlier group or of the own one
pub record AreInOrder (slots : List (Option TypeDef)) : Type 0 where
  pub supertypes : (t u : ℕ) (x : TypeDef) → item_at slots t ≡ Some x → Contains x.sub.supertypes u → u < t
  pub others : (t u : ℕ) (x : TypeDef) → item_at slots t ≡ Some x → Contains (comp_names x.sub.comp) u → IsInOrBefore x.group u

-- a type has a supertype that isn't before it, or names another type that is neither of its group nor before all of that
pub data IsOutOfOrder (slots : List (Option TypeDef)) : Type 0 where
  LaterSupertype : (t u : ℕ) (x : TypeDef) → item_at slots t ≡ Some x → Contains x.sub.supertypes u → (u < t → ⊥) → IsOutOfOrder slots
  LaterType : (t u : ℕ) (x : TypeDef) → item_at slots t ≡ Some x → Contains (comp_names x.sub.comp) u → (IsInOrBefore x.group u → ⊥) → IsOutOfOrder slots
