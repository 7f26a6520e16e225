-- The one spelling of types, and which of them it spells: shortest numbers, a group of one type as that type.
use Rattle.std.specs.Prelude.{ℕ, ◌≡◌, ◌+◌, ◌<◌, ◌^◌, Bool, true, false, List, [], ◌∷◌, ◌++◌, Option, Some, None, All, if◌then◌else◌}
use Rattle.wasm_opcodes.specs.declared.types.TheConstants.{I8_TYPE, I16_TYPE, FUNC_TYPE, STRUCT_TYPE, ARRAY_TYPE, SUB_TYPE, SUB_FINAL_TYPE, REC_TYPE}
use Rattle.wasm_forms.specs.Spelling.{number_bytes, vector_bytes}
use Rattle.wasm_forms.specs.Writing.{FitsLength, FitsVector}
use Rattle.wasm_forms.specs.Types.{value_bytes, reference_bytes, ValueStands, HeapStands}
use Rattle.wasm_entries.specs.declared.record.RawStorage.{RawStorage}
use Rattle.wasm_entries.specs.declared.record.RawStorage.TheVariants as storages
use Rattle.wasm_entries.specs.declared.record.RawFieldType.{RawFieldType}
use Rattle.wasm_entries.specs.declared.record.RawLimits.{RawLimits}
use Rattle.wasm_entries.specs.declared.record.RawTableType.{RawTableType}
use Rattle.wasm_entries.specs.declared.record.RawGlobalType.{RawGlobalType}
use Rattle.wasm_entries.specs.Record.{FuncType, Comp, Function, Struct, Array, Sub, Group}

-- ---- spelling (Binary Format > Types)

-- the bytes of a storage type: those of a value type, 0x78 for i8, 0x77 for i16
abbrev pub storage_bytes : RawStorage → List ℕ
storage_bytes (storages.Val v) = value_bytes v
storage_bytes storages.I8 = I8_TYPE ∷ []
storage_bytes storages.I16 = I16_TYPE ∷ []

-- the number of a flag, 1 or 0
abbrev pub flag_byte : Bool → ℕ
flag_byte true = 1
flag_byte false = 0

-- the bytes of a field type: its storage type, and 0x01 if it is mutable, else 0x00
abbrev pub field_bytes : RawFieldType → List ℕ
field_bytes f = storage_bytes f.storage ++ flag_byte f.mutable ∷ []

-- the bytes of a function type, without the 0x60 in front: the types of its parameters and of its results, each behind their count
abbrev pub func_type_bytes : FuncType → List ℕ
func_type_bytes t = vector_bytes value_bytes t.params ++ vector_bytes value_bytes t.results

-- the bytes of a composite type: 0x60 and a function type, 0x5F and the fields of a struct, or 0x5E and the field type of an array
abbrev pub comp_bytes : Comp → List ℕ
comp_bytes (Function t) = FUNC_TYPE ∷ func_type_bytes t
comp_bytes (Struct fields) = STRUCT_TYPE ∷ vector_bytes field_bytes fields
comp_bytes (Array field) = ARRAY_TYPE ∷ field_bytes field

-- the bytes of a sub type; a final type without supertype is bare
abbrev pub sub_spelled : Bool → List ℕ → Comp → List ℕ
sub_spelled true [] comp = comp_bytes comp
sub_spelled true (x ∷ xs) comp = SUB_FINAL_TYPE ∷ (vector_bytes number_bytes (x ∷ xs) ++ comp_bytes comp)
sub_spelled false supers comp = SUB_TYPE ∷ (vector_bytes number_bytes supers ++ comp_bytes comp)

-- the bytes of a sub type: 0x50 if open, 0x4F if final, the supertypes and the composite type; of a final one without supertype, the composite type alone
abbrev pub sub_bytes : Sub → List ℕ
sub_bytes s = sub_spelled s.is_final s.supers s.comp

-- the bytes of a recursive group; a type alone is bare
abbrev pub group_bytes : Group → List ℕ
group_bytes [] = REC_TYPE ∷ vector_bytes sub_bytes []
group_bytes (s ∷ []) = sub_bytes s
group_bytes (s ∷ t ∷ rest) = REC_TYPE ∷ vector_bytes sub_bytes (s ∷ t ∷ rest)

-- a bit of the flags that says that something is there: this number where it is, else 0
abbrev pub bit_if : {A : Type 0} → ℕ → Option A → ℕ
bit_if bit None = 0
bit_if bit (Some x) = bit

-- the flags of limits: 0x01 a maximum, 0x02 shared, 0x04 wide, 0x08 a page exponent
abbrev pub limits_flags : RawLimits → ℕ
limits_flags l = bit_if 1 l.maximum + (if l.shared then 2 else 0) + (if l.wide then 4 else 0) + bit_if 8 l.page

-- the bytes of a number where there is one, else none
abbrev pub number_if : Option ℕ → List ℕ
number_if None = []
number_if (Some n) = number_bytes n

-- the bytes of limits: the flags, the minimum, and the maximum and the page exponent where there are such
abbrev pub limits_bytes : RawLimits → List ℕ
limits_bytes l = limits_flags l ∷ (number_bytes l.minimum ++ number_if l.maximum ++ number_if l.page)

-- the bytes of a table type: the reference type of its elements, and its limits
abbrev pub table_type_bytes : RawTableType → List ℕ
table_type_bytes t = reference_bytes t.element ++ limits_bytes t.limits

-- the flags of a global type: 0x01 mutable, 0x02 shared
abbrev pub global_flags : RawGlobalType → ℕ
global_flags g = flag_byte g.mutable + (if g.shared then 2 else 0)

-- the bytes of a global type: its value type and its flags
abbrev pub global_type_bytes : RawGlobalType → List ℕ
global_type_bytes g = value_bytes g.value ++ global_flags g ∷ []

-- ---- what fits: counts below 2 ^ 32, and limits that aren't wide

-- a function type fits: it has fewer than 2 ^ 32 parameters and fewer than 2 ^ 32 results
abbrev pub FuncTypeFits : FuncType → Type 0
FuncTypeFits t = FitsLength t.params × FitsLength t.results

-- a composite type fits: a function type as such, a struct type with fewer than 2 ^ 32 fields, an array type always
abbrev pub CompFits : Comp → Type 0
CompFits (Function t) = FuncTypeFits t
CompFits (Struct fields) = FitsLength fields
CompFits (Array field) = Unit {0}

-- a sub type fits: it has fewer than 2 ^ 32 supertypes, and its composite type fits
abbrev pub SubFits : Sub → Type 0
SubFits s = FitsLength s.supers × CompFits s.comp

-- a recursive type fits: it has fewer than 2 ^ 32 sub types, and each of them fits
abbrev pub GroupFits : Group → Type 0
GroupFits g = FitsVector SubFits g

-- a size fits: it is below 2 ^ 32 where addresses have 32 bits; where they have 64, nothing is asked here
abbrev pub FitsWide : Bool → ℕ → Type 0
FitsWide true n = Unit {0}
FitsWide false n = n < 2 ^ 32

-- a maximum, where there is one, fits: it is below 2 ^ 32 where addresses have 32 bits
abbrev pub MaximumFits : Bool → Option ℕ → Type 0
MaximumFits wide None = Unit {0}
MaximumFits wide (Some n) = FitsWide wide n

-- limits fit: the minimum and the maximum, where there is one, are below 2 ^ 32 where addresses have 32 bits; that they are in order isn't asked
abbrev pub LimitsFit : RawLimits → Type 0
LimitsFit l = FitsWide l.wide l.minimum × MaximumFits l.wide l.maximum

-- ---- what is spelled at all: bytes of abstract heap types, indices below 2 ^ 32, limits below 2 ^ 64

-- a storage type has a spelling: a value type if it has one as such, i8 and i16 always
abbrev pub StorageStands : RawStorage → Type 0
StorageStands (storages.Val v) = ValueStands v
StorageStands storages.I8 = Unit {0}
StorageStands storages.I16 = Unit {0}

-- a field type has a spelling: its storage type has one
abbrev pub FieldStands : RawFieldType → Type 0
FieldStands f = StorageStands f.storage

-- a composite type has a spelling: the value types or field types in it have one
abbrev pub CompStands : Comp → Type 0
CompStands (Function t) = All ValueStands t.params × All ValueStands t.results
CompStands (Struct fields) = All FieldStands fields
CompStands (Array field) = FieldStands field

-- a sub type has a spelling: the indices of its supertypes are below 2 ^ 32, and its composite type has a spelling
abbrev pub SubStands : Sub → Type 0
SubStands s = All (λ n. n < 2 ^ 32) s.supers × CompStands s.comp

-- a recursive type has a spelling: each of its sub types has one
abbrev pub GroupStands : Group → Type 0
GroupStands g = All SubStands g

-- a number, where there is one, is below this bound
abbrev pub IsBelow : ℕ → Option ℕ → Type 0
IsBelow top None = Unit {0}
IsBelow top (Some n) = n < top

-- limits have a spelling: sizes below 2 ^ 64, a page exponent below 2 ^ 32
pub record LimitsStand (l : RawLimits) : Type 0 where
  pub minimum : l.minimum < 2 ^ 64
  pub maximum : IsBelow (2 ^ 64) l.maximum
  pub page : IsBelow (2 ^ 32) l.page

-- a table type has a spelling: its limits have one, and are neither shared nor with a page exponent
pub record TableTypeStands (t : RawTableType) : Type 0 where
  pub element : HeapStands t.element.heap
  pub limits : LimitsStand t.limits
  pub not_shared : t.limits.shared ≡ false
  pub no_page : t.limits.page ≡ None

-- a global type has a spelling: its value type has one
abbrev pub GlobalTypeStands : RawGlobalType → Type 0
GlobalTypeStands g = ValueStands g.value
