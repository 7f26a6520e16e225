-- What stands for a value type where a local holds it.
use Rattle.walrus_base.specs.declared.held_type.HeldCase.{HeldCase}
use Rattle.walrus_base.specs.declared.held_type.HeldCase.TheVariants as held
use Rattle.walrus_base.specs.declared.value.HeapType.TheVariants as heap
use Rattle.walrus_base.specs.declared.value.ValType.{ValType}
use Rattle.walrus_base.specs.declared.value.ValType.TheVariants as value

abbrev pub held_value : HeldCase → ValType
held_value held.I32 = value.I32
held_value held.I64 = value.I64
held_value held.F32 = value.F32
held_value held.F64 = value.F64
held_value held.V128 = value.V128
held_value (held.Abstract nullable h) = value.Ref (record { nullable = nullable; heap_type = heap.Abstract h })
held_value (held.Concrete nullable id) = value.Ref (record { nullable = nullable; heap_type = heap.Concrete id })
held_value (held.Exact nullable id) = value.Ref (record { nullable = nullable; heap_type = heap.Exact id })
