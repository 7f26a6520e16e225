-- Whether a type names only such as it may, by its place and the last one of its group.
use Rattle.std.specs.Prelude.{ℕ, Bool, true, ◌&&◌, List, nat_le, nat_lt}
use Rattle.std.specs.List.{list_all}
use Rattle.walrus_base.specs.Types.{HeapType, OfHeap, Concrete, Exact, ValType, I32, I64, F32, F64, V128, Ref, StorageType, Unpacked, I8, I16, FieldType, CompType, Func, Struct, Array}
use Rattle.walrus_base.specs.TypeDef.{TypeDef}
use Rattle.walrus_base.specs.TypeSlots.{last_of}

module _ (last : ℕ) where
  abbrev pub heap_within : HeapType ℕ → Bool
  heap_within (OfHeap h) = true
  heap_within (Concrete t) = nat_le t last
  heap_within (Exact t) = nat_le t last

  abbrev pub val_within : ValType ℕ → Bool
  val_within (Ref r) = heap_within r.heap
  val_within I32 = true
  val_within I64 = true
  val_within F32 = true
  val_within F64 = true
  val_within V128 = true

  abbrev pub vals_within : List (ValType ℕ) → Bool
  vals_within vs = list_all val_within vs

  abbrev pub storage_within : StorageType ℕ → Bool
  storage_within (Unpacked v) = val_within v
  storage_within I8 = true
  storage_within I16 = true

  abbrev pub field_within : FieldType ℕ → Bool
  field_within f = storage_within f.storage

  abbrev pub fields_within : List (FieldType ℕ) → Bool
  fields_within fs = list_all field_within fs

  abbrev pub comp_within : CompType ℕ → Bool
  comp_within (Func params results) = vals_within params && vals_within results
  comp_within (Struct fields) = fields_within fields
  comp_within (Array element) = field_within element

-- each of these is below the place
abbrev pub all_below : ℕ → List ℕ → Bool
all_below p us = list_all (λ u. nat_lt u p) us

-- the supertype is below the type's own place, and each other type is not behind the last one of its group
abbrev pub is_ordered : ℕ × TypeDef → Bool
is_ordered e = all_below e.0 e.1.sub.supertypes && comp_within (last_of e.1.group e.0) e.1.sub.comp
