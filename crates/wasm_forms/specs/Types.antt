-- The forms and the spelling of value, reference and heap types (Binary Format > Types).
use Rattle.std.specs.Prelude.{ℕ, ◌≡◌, ◌<◌, ◌^◌, Bool, true, false, List, [], ◌∷◌, nat_le, nat_eq, ◌&&◌}
use Rattle.wasm_opcodes.specs.declared.types.TheConstants.{HEAP_EXN, HEAP_NO_EXN, I32_TYPE, I64_TYPE, F32_TYPE, F64_TYPE, V128_TYPE, REF_NULL_TYPE, REF_TYPE}
use Rattle.wasm_forms.specs.declared.types.RawHeap.{RawHeap}
use Rattle.wasm_forms.specs.declared.types.RawHeap.TheVariants.{Abstract, Index}
use Rattle.wasm_forms.specs.declared.types.RawRef.{RawRef}
use Rattle.wasm_forms.specs.declared.types.RawVal.{RawVal}
use Rattle.wasm_forms.specs.declared.types.RawVal.TheVariants.{I32, I64, F32, F64, V128, Ref}
use Rattle.wasm_forms.specs.Grammar.{Form, Fails, Gives, Byte, IndexFrom, Led, Made, choose}
use Rattle.wasm_forms.specs.Spelling.{index_bytes}

-- ---- forms

-- the byte of an abstract heap type: exn, array, struct, i31, eq, any, extern, func, none, noextern, nofunc, noexn
abbrev pub is_abstract : ℕ → Bool
is_abstract b = nat_le HEAP_EXN b && nat_le b HEAP_NO_EXN

-- the heap type that begins with this byte (Heap Types)
unfoldable pub heap_from : ℕ → Form RawHeap
heap_from b = choose (is_abstract b) (Gives (Abstract b)) (Made Index (IndexFrom b))

-- a heap type: the one byte of an abstract heap type, or the index of a type as an s33 that is not negative (Heap Types)
unfoldable pub heap_type : Form RawHeap
heap_type = Led Byte heap_from

-- the reference type that is nullable or not, and refers to this heap type
abbrev pub reference : Bool → RawHeap → RawRef
reference nullable heap = record { nullable = nullable; heap = heap }

-- 0x63 and a heap type: nullable; 0x64: not nullable; an abstract heap type alone: nullable (Reference Types)
unfoldable pub reference_from : ℕ → Form RawRef
reference_from b = choose (nat_eq b REF_NULL_TYPE) (Made (reference true) heap_type)
    (choose (nat_eq b REF_TYPE) (Made (reference false) heap_type)
    (choose (is_abstract b) (Gives (reference true (Abstract b)))
    Fails))

-- a reference type, in each spelling that the standard has for it (Reference Types)
unfoldable pub reference_type : Form RawRef
reference_type = Led Byte reference_from

-- the value type that begins with this byte (Number Types, Vector Types, Value Types)
unfoldable pub value_from : ℕ → Form RawVal
value_from b = choose (nat_eq b I32_TYPE) (Gives I32)
    (choose (nat_eq b I64_TYPE) (Gives I64)
    (choose (nat_eq b F32_TYPE) (Gives F32)
    (choose (nat_eq b F64_TYPE) (Gives F64)
    (choose (nat_eq b V128_TYPE) (Gives V128)
    (Made Ref (reference_from b))))))

-- a value type: a number type, the vector type or a reference type (Value Types)
unfoldable pub value_type : Form RawVal
value_type = Led Byte value_from

-- ---- the one spelling: a nullable reference to an abstract heap type is one byte

-- a heap type as it is written: the one byte of an abstract one, or the shortest spelling of an index as an s33 (Heap Types)
abbrev pub heap_bytes : RawHeap → List ℕ
heap_bytes (Abstract b) = b ∷ []
heap_bytes (Index n) = index_bytes n

-- a reference type as it is written, by its nullability and its heap type: 0x63 or 0x64 and the heap type, but the heap type's byte alone
-- where it is nullable and abstract (Reference Types)
abbrev pub reference_spelled : Bool → RawHeap → List ℕ
reference_spelled true (Abstract b) = b ∷ []
reference_spelled true (Index n) = REF_NULL_TYPE ∷ index_bytes n
reference_spelled false heap = REF_TYPE ∷ heap_bytes heap

-- a reference type as it is written, of its spellings the shortest (Reference Types)
abbrev pub reference_bytes : RawRef → List ℕ
reference_bytes r = reference_spelled r.nullable r.heap

-- a value type as it is written: the one byte of a number type or of the vector type, or a reference type (Value Types)
abbrev pub value_bytes : RawVal → List ℕ
value_bytes I32 = I32_TYPE ∷ []
value_bytes I64 = I64_TYPE ∷ []
value_bytes F32 = F32_TYPE ∷ []
value_bytes F64 = F64_TYPE ∷ []
value_bytes V128 = V128_TYPE ∷ []
value_bytes (Ref r) = reference_bytes r

-- ---- which of them spell something: an abstract heap type by one of its bytes, an index below 2 ^ 32

-- the heap type has a spelling: its byte is that of an abstract heap type, or its index is below 2 ^ 32
abbrev pub HeapStands : RawHeap → Type 0
HeapStands (Abstract b) = is_abstract b ≡ true
HeapStands (Index n) = n < 2 ^ 32

-- the value type has a spelling: each number type and the vector type has one, a reference type where its heap type has one
abbrev pub ValueStands : RawVal → Type 0
ValueStands (Ref r) = HeapStands r.heap
ValueStands I32 = Unit {0}
ValueStands I64 = Unit {0}
ValueStands F32 = Unit {0}
ValueStands F64 = Unit {0}
ValueStands V128 = Unit {0}
