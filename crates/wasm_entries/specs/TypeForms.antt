-- The forms of the entries of the type section, and of the types in other entries (Binary Format > Types).
use Rattle.std.specs.Prelude.{ℕ, Bool, true, false, not, ◌&&◌, bit_and, [], ◌∷◌, Option, Some, None, nat_eq, nat_lt}
use Rattle.wasm_opcodes.specs.declared.types.TheConstants.{I8_TYPE, I16_TYPE, FUNC_TYPE, STRUCT_TYPE, ARRAY_TYPE, SUB_TYPE, SUB_FINAL_TYPE, REC_TYPE}
use Rattle.wasm_forms.specs.Grammar.{Form, Fails, Gives, Byte, U32, U64, ◌then◌, Led, Made, Where, Vector, choose}
use Rattle.wasm_forms.specs.Types.{value_type, value_from, reference_from}
use Rattle.wasm_entries.specs.declared.record.RawStorage.{RawStorage}
use Rattle.wasm_entries.specs.declared.record.RawStorage.TheVariants as storages
use Rattle.wasm_entries.specs.declared.record.RawFieldType.{RawFieldType}
use Rattle.wasm_entries.specs.declared.record.RawLimits.{RawLimits}
use Rattle.wasm_entries.specs.declared.record.RawTableType.{RawTableType}
use Rattle.wasm_entries.specs.declared.record.RawGlobalType.{RawGlobalType}
use Rattle.wasm_entries.specs.Record.{FuncType, Comp, Function, Struct, Array, Sub, Group}

-- ---- composite types

-- 0x78 and 0x77 are i8 and i16; else a value type (storage types)
unfoldable pub storage_from : ℕ → Form RawStorage
storage_from b = choose (nat_eq b I8_TYPE) (Gives storages.I8)
    (choose (nat_eq b I16_TYPE) (Gives storages.I16)
    (Made storages.Val (value_from b)))

-- a storage type: i8, i16 or a value type
unfoldable pub storage_type : Form RawStorage
storage_type = Led Byte storage_from

-- a flag of one byte, 0x00 or 0x01
unfoldable pub flag : Form Bool
flag = Made (λ b. nat_eq b 1) (Where (λ b. nat_lt b 2) Byte)

-- a storage type, and whether it is mutable (field types)
unfoldable pub field_type : Form RawFieldType
field_type = Made (λ x. record { storage = x.0; mutable = x.1 }) (storage_type then flag)

-- parameters and results
unfoldable pub signature : Form FuncType
signature = Made (λ x. record { params = x.0; results = x.1 }) (Vector value_type then Vector value_type)

-- 0x60: a function, 0x5F: a struct, 0x5E: an array (Composite Types)
unfoldable pub comp_from : ℕ → Form Comp
comp_from b = choose (nat_eq b FUNC_TYPE) (Made Function signature)
    (choose (nat_eq b STRUCT_TYPE) (Made Struct (Vector field_type))
    (choose (nat_eq b ARRAY_TYPE) (Made Array field_type)
    Fails))

-- a composite type: of a function, a struct or an array (Composite Types)
unfoldable pub composite_type : Form Comp
composite_type = Led Byte comp_from

-- ---- recursive types

-- a sub type behind the byte that says whether it is final: any number of supertypes, and a composite type (Recursive Types)
unfoldable pub sub_with : Bool → Form Sub
sub_with is_final = Made (λ x. record { is_final = is_final; supers = x.0; comp = x.1 }) (Vector U32 then composite_type)

-- 0x50: open, 0x4F: final, each with supertypes; else a composite type, final without supertype (Recursive Types)
unfoldable pub sub_from : ℕ → Form Sub
sub_from b = choose (nat_eq b SUB_TYPE) (sub_with false)
    (choose (nat_eq b SUB_FINAL_TYPE) (sub_with true)
    (Made (λ c. record { is_final = true; supers = []; comp = c }) (comp_from b)))

-- a sub type: open or final, with supertypes, or a composite type alone, which is final and has no supertype (Recursive Types)
unfoldable pub sub_type : Form Sub
sub_type = Led Byte sub_from

-- a recursive type by its first byte: behind 0x4E any number of sub types, else one alone
unfoldable pub group_from : ℕ → Form Group
group_from b = choose (nat_eq b REC_TYPE) (Vector sub_type) (Made (λ s. s ∷ []) (sub_from b))

-- a recursive type, which is an entry of the type section: sub types, any number of them, behind 0x4E, or one alone (Recursive Types)
unfoldable pub group_form : Form Group
group_form = Led Byte group_from

-- ---- limits, tables, memories, globals, tags

-- the flags have this bit
abbrev pub has : ℕ → ℕ → Bool
has flags bit = not (nat_eq (bit_and flags bit) 0)

-- something of this form where it is present, else nothing, which takes no byte
unfoldable pub optional : {A : Type 0} → Bool → Form A → Form (Option A)
optional present f = choose present (Made Some f) (Gives None)

-- a size has 64 bits where addresses have
unfoldable pub size_form : Bool → Form ℕ
size_form wide = choose wide U64 U32

-- what stands behind the flags: 0x01 a maximum, 0x02 shared, 0x04 wide, 0x08 a page exponent (Limits)
unfoldable pub limits_of : ℕ → Form RawLimits
limits_of flags = Made (λ x. record { minimum = x.0; maximum = x.1.0; shared = has flags 2; wide = has flags 4; page = x.1.1 })
    (size_form (has flags 4) then optional (has flags 1) (size_form (has flags 4)) then optional (has flags 8) U32)

-- a memory type, which is its limits: flags below 16, and what these ask for (Memory Types)
unfoldable pub memory_type : Form RawLimits
memory_type = Led (Where (λ flags. nat_lt flags 16) Byte) limits_of

-- a table's limits: neither shared nor with a page exponent
unfoldable pub table_limits : Form RawLimits
table_limits = Led (Where (λ flags. nat_lt flags 8 && not (has flags 2)) Byte) limits_of

-- a table type whose reference type begins with this byte
unfoldable pub table_type_from : ℕ → Form RawTableType
table_type_from b = Made (λ x. record { element = x.0; limits = x.1 }) (reference_from b then table_limits)

-- a table type: the reference type of its elements, and its limits (Table Types)
unfoldable pub table_type : Form RawTableType
table_type = Led Byte table_type_from

-- a value type and its flags: 0x01 mutable, 0x02 shared (Global Types)
unfoldable pub global_type : Form RawGlobalType
global_type = Made (λ x. record { value = x.0; mutable = has x.1 1; shared = has x.1 2 }) (value_type then Where (λ flags. nat_lt flags 4) Byte)

-- 0x00 and the index of a type (Tag Types)
unfoldable pub tag_type : Form ℕ
tag_type = Led (Where (λ b. nat_eq b 0) Byte) (λ b. U32)
