-- What is named and there is found by its own index.
use Rattle.std.proofs.Common.{◌≡◌, ℕ, zero, suc, ◌+◌, ◌<◌, Bool, List, [], ◌∷◌, ◌++◌, map, refl, ap, ◌∙◌, arith, lt-ltb}
use Rattle.std.specs.Prelude.{Some, None, Contains, flat_map, replicate, slice_get, if◌then◌else◌}
use Rattle.std.specs.List.{AllByRecursion}
use Rattle.wasm_forms.specs.Reading.{◌>>=◌}
use Rattle.wasm_forms.specs.declared.types.RawVal.{RawVal}
use Rattle.wasm_forms.proofs.Bind.{bind_at}
use Rattle.walrus_base.specs.Types.{HeapType, OfHeap, Concrete, Exact, ValType, I32, I64, F32, F64, V128, Ref, heap_names, val_names}
use Rattle.walrus_base.specs.Operators.{Memories, Types, Item, type_item, BlockType, NoResult, OneResult, OfType, block_names, Arg, Index, Label, Local, Number, Count, Byte, S32, S64, Bits32, Bits64, Value, Heap, Block, Access, Op, arg_names, arg_locals, op_names, op_locals, names_of, locals_of}
use Rattle.walrus_functions.specs.Names.{Lookup, named_heap, named_val, named_block, named_arg, named_args, named_op, named_ops}
use Rattle.walrus_functions.specs.FromRaw.{val_of}
use Rattle.walrus_functions.specs.Body.{declared_types}
use Rattle.walrus_functions.specs.ReadFunction.{locals_from}
use Rattle.walrus_model.specs.Reads.{below}
use Rattle.walrus_base.proofs.Lists.{Contains-head, Contains-append_1, Contains-append_2}
use Rattle.walrus_base.proofs.Taking.{get_range as local_is}

pub below_is : (count i : ℕ) → i < count → below count i ≡ Some i
below_is count i lt = ap (λ (b : Bool). if b then Some i else None) (lt-ltb i count lt)

module _ (names : Lookup) where
  -- an item is found by its own number
  abbrev pub IsFound : Item → Type 0
  IsFound y = names y.0 y.1 ≡ Some y.1

  abbrev AreFound : List Item → Type 0
  AreFound ys = (y : Item) → Contains ys y → IsFound y

  heap_found : (h : HeapType ℕ) → AreFound (map type_item (heap_names h)) → named_heap names h ≡ Some h
  heap_found (OfHeap h) f = refl
  heap_found (Concrete t) f = bind_at (names Types t) (λ found. Some (Concrete found)) t (f (Types, t) (Contains-head (Types, t) []))
  heap_found (Exact t) f = bind_at (names Types t) (λ found. Some (Exact found)) t (f (Types, t) (Contains-head (Types, t) []))

  pub val_found : (v : ValType ℕ) → AreFound (map type_item (val_names v)) → named_val names v ≡ Some v
  val_found I32 f = refl
  val_found I64 f = refl
  val_found F32 f = refl
  val_found F64 f = refl
  val_found V128 f = refl
  val_found (Ref r) f = bind_at (named_heap names r.heap) (λ heap. Some (Ref (record { nullable = r.nullable; heap = heap }))) r.heap (by_heap r.heap f)
    where
      by_heap : (h : HeapType ℕ) → AreFound (map type_item (flat_map heap_names (h ∷ []))) → named_heap names h ≡ Some h
      by_heap (OfHeap h) g = refl
      by_heap (Concrete t) g = heap_found (Concrete t) g
      by_heap (Exact t) g = heap_found (Exact t) g

  block_found : (b : BlockType) → AreFound (map type_item (block_names b)) → named_block names b ≡ Some b
  block_found NoResult f = refl
  block_found (OneResult v) f = bind_at (named_val names v) (λ found. Some (OneResult found)) v (val_found v f)
  block_found (OfType t) f = bind_at (names Types t) (λ found. Some (OfType found)) t (f (Types, t) (Contains-head (Types, t) []))

  module _ (count : ℕ) where
    AreLocals : List ℕ → Type 0
    AreLocals xs = (x : ℕ) → Contains xs x → x < count

    arg_found : (a : Arg) → AreFound (arg_names a) → AreLocals (arg_locals a) → named_arg names (locals_from 0 count) a ≡ Some a
    unfolding AreLocals
    arg_found (Index x) f l = bind_at (names x.0 x.1) (λ found. Some (Index (x.0, found))) x.1 (f x (Contains-head x []))
    arg_found (Local n) f l = bind_at (locals_from 0 count n) (λ found. Some (Local found)) n (local_is 0 count n (l n (Contains-head n [])) ∙ ap Some (let e : 0 + n ≡ n = omega arith in e))
    arg_found (Value v) f l = bind_at (named_val names v) (λ found. Some (Value found)) v (val_found v f)
    arg_found (Heap h) f l = bind_at (named_heap names h) (λ found. Some (Heap found)) h (heap_found h f)
    arg_found (Block b) f l = bind_at (named_block names b) (λ found. Some (Block found)) b (block_found b f)
    arg_found (Access flags memory offset) f l = bind_at (names Memories memory) (λ found. Some (Access flags found offset)) memory (f (Memories, memory) (Contains-head (Memories, memory) []))
    arg_found (Label n) f l = refl
    arg_found (Number n) f l = refl
    arg_found (Count n) f l = refl
    arg_found (Byte n) f l = refl
    arg_found (S32 n) f l = refl
    arg_found (S64 n) f l = refl
    arg_found (Bits32 n) f l = refl
    arg_found (Bits64 n) f l = refl

    args_found : (xs : List Arg) → AreFound (flat_map arg_names xs) → AreLocals (flat_map arg_locals xs) → named_args names (locals_from 0 count) xs ≡ Some xs
    unfolding AreLocals
    args_found [] f l = refl
    args_found (a ∷ xs) f l =
        bind_at (named_arg names (locals_from 0 count) a) (λ found. named_args names (locals_from 0 count) xs >>= λ others. Some (found ∷ others)) a
        (arg_found a (λ y at. f y (Contains-append_1 y (arg_names a) (flat_map arg_names xs) at)) (λ x at. l x (Contains-append_1 x (arg_locals a) (flat_map arg_locals xs) at)))
        ∙ bind_at (named_args names (locals_from 0 count) xs) (λ others. Some (a ∷ others)) xs
        (args_found xs (λ y at. f y (Contains-append_2 y (arg_names a) (flat_map arg_names xs) at)) (λ x at. l x (Contains-append_2 x (arg_locals a) (flat_map arg_locals xs) at)))

    pub ops_named_back : (os : List Op) → AreFound (names_of os) → ((x : ℕ) → Contains (locals_of os) x → x < count) → named_ops names (locals_from 0 count) os ≡ Some os
    unfolding AreLocals
    ops_named_back [] f l = refl
    ops_named_back (o ∷ os) f l =
        bind_at (named_op names (locals_from 0 count) o) (λ found. named_ops names (locals_from 0 count) os >>= λ others. Some (found ∷ others)) o
        (bind_at (named_args names (locals_from 0 count) o.args) (λ args. let p : Op = record { op = o.op; args = args } in Some p) o.args
        (args_found o.args (λ y at. f y (Contains-append_1 y (op_names o) (names_of os) at)) (λ x at. l x (Contains-append_1 x (op_locals o) (locals_of os) at))))
        ∙ bind_at (named_ops names (locals_from 0 count) os) (λ others. Some (o ∷ others)) os
        (ops_named_back os (λ y at. f y (Contains-append_2 y (op_names o) (names_of os) at)) (λ x at. l x (Contains-append_2 x (op_locals o) (locals_of os) at)))

  -- ---- declared types

  abbrev spread : List (ℕ × RawVal) → List (ValType ℕ)
  spread ds = flat_map (λ d. replicate d.0 (val_of d.1)) ds

  past : (n : ℕ) (v : ValType ℕ) (rest : List (ValType ℕ)) (k : ℕ) → slice_get (replicate n v ++ rest) (k + n) ≡ slice_get rest k
  past zero v rest k = ap (slice_get rest) (let e : k + 0 ≡ k = omega arith in e)
  past (suc n) v rest k = ap (slice_get (v ∷ (replicate n v ++ rest))) (let e : k + suc n ≡ suc (k + n) = omega arith in e) ∙ past n v rest k

  first_is : (n : ℕ) (v : ValType ℕ) (rest : List (ValType ℕ)) → 0 < n → slice_get (replicate n v ++ rest) 0 ≡ Some v
  first_is zero v rest lt = absurd (omega (arith, lt))
  first_is (suc n) v rest lt = refl

  pub types_named_back : (ds : List (ℕ × RawVal)) → AllByRecursion (λ (d : ℕ × RawVal). 0 < d.0) ds → ((k : ℕ) (v : ValType ℕ) → slice_get (spread ds) k ≡ Some v → named_val names v ≡ Some v) → declared_types names ds ≡ Some (spread ds)
  types_named_back [] filled h = refl
  types_named_back (d ∷ ds) filled h =
      bind_at (named_val names (val_of d.1)) (λ v. declared_types names ds >>= λ others. Some (replicate d.0 v ++ others)) (val_of d.1) (h 0 (val_of d.1) (first_is d.0 (val_of d.1) (spread ds) filled.0))
      ∙ bind_at (declared_types names ds) (λ others. Some (replicate d.0 (val_of d.1) ++ others)) (spread ds) (types_named_back ds filled.1 (λ k v e. h (k + d.0) v (past d.0 (val_of d.1) (spread ds) k ∙ e)))
