-- What a contract sees of value, reference and heap types: the types of the standard, with the place of an id for a type that is named.
use Rattle.std.specs.Prelude.{ℕ}
use Rattle.walrus_base.specs.Id.{place}
use Rattle.walrus_base.specs.Types.{AbstractHeap, FuncHeap, ExternHeap, AnyHeap, EqHeap, I31Heap, StructHeap, ArrayHeap, ExnHeap, NoneHeap, NoExternHeap, NoFuncHeap, NoExnHeap, HeapType, OfHeap, Concrete, Exact, RefType, ValType, I32, I64, F32, F64, V128, Ref}
use Rattle.walrus_base.specs.declared.value.AbstractHeapType.{AbstractHeapType}
use Rattle.walrus_base.specs.declared.value.AbstractHeapType.TheVariants as declared_abstract
use Rattle.walrus_base.specs.declared.value.HeapType.{HeapType as DeclaredHeapType}
use Rattle.walrus_base.specs.declared.value.HeapType.TheVariants as declared_heap
use Rattle.walrus_base.specs.declared.value.RefType.{RefType as DeclaredRefType}
use Rattle.walrus_base.specs.declared.value.ValType.{ValType as DeclaredValType}
use Rattle.walrus_base.specs.declared.value.ValType.TheVariants as declared_value

abbrev pub abstract_heap : AbstractHeapType → AbstractHeap
abstract_heap declared_abstract.Func = FuncHeap
abstract_heap declared_abstract.Extern = ExternHeap
abstract_heap declared_abstract.Any = AnyHeap
abstract_heap declared_abstract.Eq = EqHeap
abstract_heap declared_abstract.I31 = I31Heap
abstract_heap declared_abstract.Struct = StructHeap
abstract_heap declared_abstract.Array = ArrayHeap
abstract_heap declared_abstract.Exn = ExnHeap
abstract_heap declared_abstract.None = NoneHeap
abstract_heap declared_abstract.NoExtern = NoExternHeap
abstract_heap declared_abstract.NoFunc = NoFuncHeap
abstract_heap declared_abstract.NoExn = NoExnHeap

abbrev pub heap_type : DeclaredHeapType → HeapType ℕ
heap_type (declared_heap.Abstract h) = OfHeap (abstract_heap h)
heap_type (declared_heap.Concrete id) = Concrete (place id)
heap_type (declared_heap.Exact id) = Exact (place id)

abbrev pub ref_type : DeclaredRefType → RefType ℕ
ref_type r = record { nullable = r.nullable; heap = heap_type r.heap_type }

abbrev pub val_type : DeclaredValType → ValType ℕ
val_type declared_value.I32 = I32
val_type declared_value.I64 = I64
val_type declared_value.F32 = F32
val_type declared_value.F64 = F64
val_type declared_value.V128 = V128
val_type (declared_value.Ref r) = Ref (ref_type r)
