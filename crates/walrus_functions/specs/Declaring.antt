-- What the steps answer by which the locals of a body are found, put in order, grouped and numbered. Public clauses speak of
-- `BodyWritten` alone.
use Rattle.std.specs.Prelude.{◌≡◌, ◌≢◌, ◌<◌, ◌≤◌, ◌-◌, ◌&&◌, ◌||◌, ◌↔◌, ℕ, Bool, true, false, List, [], ◌∷◌, map, flat_map, replicate, min, Option, Some, None, All, Contains, Result, Ok, Err, nat_eq, nat_le, nat_lt, unwrap_or}
use Rattle.std.specs.HashMap.{HashMap, get}
use Rattle.std.specs.HashSet as set
use Rattle.std.specs.List.{IsDistinct, list_any}
use Rattle.std.specs.List.Sorted.{IsStrictlySortedBy}
use Rattle.std.specs.Ordering.{nat_cmp, ordering_then}
use Rattle.std.specs.declared.cmp.Ordering.{Ordering}
use Rattle.wasm_forms.specs.Types.{ValueStands}
use Rattle.wasm_forms.specs.declared.types.RawVal.{RawVal}
use Rattle.walrus_base.specs.Arena.{item_at}
use Rattle.walrus_base.specs.Types.{ValType}
use Rattle.walrus_base.specs.Value.{val_type}
use Rattle.walrus_base.specs.declared.value.ValType.{ValType as DeclaredValType}
use Rattle.walrus_base.specs.declared.value.ValType.TheVariants.{I32, I64, F32, F64, V128, Ref}
use Rattle.walrus_base.specs.contracts.value.ValTypePartialEq.TheImpl as equality
use Rattle.walrus_code.specs.FromRaw.{val_of}
use Rattle.walrus_code.specs.Names.{Lookup, named_val}
use Rattle.walrus_code.specs.Results.{val_is_exact}
use Rattle.walrus_code.specs.declared.error.IrError.{IrError}
use Rattle.walrus_code.specs.declared.error.IrError.TheVariants.{Malformed, Memory, NoIndex, NotWritable, TooLarge}
use Rattle.walrus_functions.specs.DeclaredLocals.{rank}
use Rattle.walrus_functions.specs.declared.lowest.Lowest.{Lowest}
use Rattle.walrus_functions.specs.declared.taken.TakenPlaces.{TakenPlaces}

-- ---- parameters

-- whether the range has this place
abbrev pub is_in_range : TakenPlaces → ℕ → Bool
is_in_range taken x = nat_le taken.first x && nat_lt (x - taken.first) taken.count

-- whether this place is taken
abbrev pub is_taken : TakenPlaces → ℕ → Bool
is_taken taken x = is_in_range taken x || set.contains nat_eq taken.others x

-- these places and no others are taken, and each of them stands in the list once
pub record HasPlaces (places : List ℕ) (taken : TakenPlaces) : Type 0 where
  pub distinct : IsDistinct nat_eq places
  pub are : (x : ℕ) → is_taken taken x ≡ list_any (nat_eq x) places

-- ---- the locals that operators name

-- these are the locals that stand in a list, each once, by rising place
pub record AreOnce (named once : List ℕ) : Type 0 where
  pub same : (x : ℕ) → Contains once x ↔ Contains named x
  pub distinct : IsDistinct nat_eq once
  pub rising : IsStrictlySortedBy nat_cmp once

-- ---- the locals that are declared, each use of one with its type

-- a local with its type
abbrev pub typed : ℕ × DeclaredValType → ℕ × ValType ℕ
typed e = (e.0, val_type e.1)

-- whether they are one local
abbrev pub same_local : ℕ × DeclaredValType → ℕ × DeclaredValType → Bool
same_local d e = nat_eq d.0 e.0

-- these are the locals in a list that are no parameters and that are there, with their types
pub record AreTyped (slots : List (Option (ValType ℕ))) (used : List ℕ) (is_parameter : ℕ → Bool) (found : List (ℕ × ValType ℕ)) : Type 0 where
  pub sound : All (λ e. Contains used e.0 × (is_parameter e.0 ≡ false) × (item_at slots e.0 ≡ Some e.1)) found
  pub complete : (x : ℕ) (v : ValType ℕ) → Contains used x → is_parameter x ≡ false → item_at slots x ≡ Some v → Contains found (x, v)

-- ---- their order

-- the number that a table has for a type
abbrev pub number_at : {S : Type 0} → HashMap DeclaredValType ℕ S → DeclaredValType → Option ℕ
number_at numbers v = get (equality.ghosts).eq numbers v

-- the lowest local that stands for a type
abbrev pub lowest_of : Lowest → DeclaredValType → Option ℕ
lowest_of numbers I32 = numbers.integer_32
lowest_of numbers I64 = numbers.integer_64
lowest_of numbers F32 = numbers.float_32
lowest_of numbers F64 = numbers.float_64
lowest_of numbers V128 = numbers.vector
lowest_of numbers (Ref r) = number_at numbers.references (Ref r)

-- the lower one
abbrev pub lower : ℕ → Option ℕ → ℕ
lower x None = x
lower x (Some y) = min x y

-- the look-up has for each type the lowest of these locals that has it
pub record AreLowest (found : List (ℕ × DeclaredValType)) (lowest : DeclaredValType → Option ℕ) : Type 0 where
  pub low : All (λ e. (n : ℕ) × ((lowest e.1 ≡ Some n) × (n ≤ e.0))) found
  pub there : (v : DeclaredValType) (n : ℕ) → lowest v ≡ Some n → Contains (map typed found) (n, val_type v)

-- the rank of the local's type, the lowest local of that type, and the local
abbrev pub key_of : (DeclaredValType → Option ℕ) → ℕ × DeclaredValType → ℕ × ℕ × ℕ
key_of lowest e = (rank (val_type e.1), unwrap_or (lowest e.1) e.0, e.0)

-- by the rank, then by the lowest local, then by the local
abbrev pub by_key : ℕ × ℕ × ℕ → ℕ × ℕ × ℕ → Ordering
by_key x y = ordering_then (ordering_then (nat_cmp x.0 y.0) (nat_cmp x.1 y.1)) (nat_cmp x.2 y.2)

-- these are the keys of the locals, in order
pub record AreInOrder (found : List (ℕ × DeclaredValType)) (keys : List (ℕ × ℕ × ℕ)) : Type 0 where
  pub lowest : DeclaredValType → Option ℕ
  pub least : AreLowest found lowest
  pub which : (k : ℕ × ℕ × ℕ) → Contains keys k ↔ Contains (map (key_of lowest) found) k
  pub sorted : IsStrictlySortedBy by_key keys

-- ---- groups of locals of one type

-- how many, and their type
abbrev pub group_of : ℕ × DeclaredValType → ℕ × ValType ℕ
group_of g = (g.0, val_type g.1)

abbrev pub spread : List (ℕ × ValType ℕ) → List (ValType ℕ)
spread groups = flat_map (λ g. replicate g.0 g.1) groups

-- no group has the type of the next one
abbrev pub Changes : List (ℕ × ValType ℕ) → Type 0
Changes [] = Unit {0}
Changes (g ∷ []) = Unit {0}
Changes (g ∷ h ∷ groups) = (g.1 ≢ h.1) × Changes (h ∷ groups)

-- these are groups of locals of these types, in order
pub record AreRuns (types : List (ValType ℕ)) (groups : List (ℕ × ValType ℕ)) : Type 0 where
  pub all : spread groups ≡ types
  pub filled : All (λ g. 0 < g.0) groups
  pub changes : Changes groups

-- ---- declarations

-- The declarations of these groups, with the index of each type in them. No index: a group's type has none. Not writable: a group's
-- type is exact.
pub record AreDeclarations (names : Lookup) (groups : List (ℕ × ValType ℕ)) (declarations : List (ℕ × RawVal)) : Type 0 where
  pub are : map {B = ℕ × Option (ValType ℕ)} (λ d. (d.0, Some (val_of d.1))) declarations ≡ map (λ g. (g.0, named_val names g.1)) groups
  pub stand : All (λ d. ValueStands d.1) declarations

abbrev pub Declares : {X : Type 0} → Lookup → List (ℕ × ValType ℕ) → (X → List (ℕ × RawVal)) → Result X IrError → Type 0
Declares names groups view (Ok x) = AreDeclarations names groups (view x)
Declares names groups view (Err NoIndex) = (g : ℕ × ValType ℕ) × (Contains groups g × (named_val names g.1 ≡ None))
Declares names groups view (Err NotWritable) = (g : ℕ × ValType ℕ) × (Contains groups g × (val_is_exact g.1 ≡ true))
Declares names groups view (Err (Memory e)) = Unit {0}
Declares names groups view (Err Malformed) = ⊥
Declares names groups view (Err TooLarge) = ⊥
