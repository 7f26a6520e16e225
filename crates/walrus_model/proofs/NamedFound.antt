-- What operators name that were looked up and found.
use Rattle.std.proofs.Common.{◌≡◌, ℕ, Bool, true, List, [], ◌∷◌, ◌++◌, map, refl, ap, ap₂, ◌∙◌, subst, ⊎_elim, Some}
use Rattle.std.specs.Prelude.{Option, IsSome, Contains, flat_map, ◌&&◌}
use Rattle.std.proofs.lemmas.List.Elements.{Contains-append_cases}
use Rattle.wasm_forms.specs.Reading.{◌>>=◌}
use Rattle.walrus_base.specs.Types.{HeapType, OfHeap, Concrete, Exact, ValType, I32, I64, F32, F64, V128, Ref, heap_names, val_names}
use Rattle.walrus_base.specs.Operators.{Item, Types, Memories, BlockType, NoResult, OneResult, OfType, Arg, Index, Label, Local, Number, Count, Byte, S32, S64, Bits32, Bits64, Value, Heap, Block, Access, Op, type_item, block_names, arg_names, arg_locals, op_names, op_locals, names_of, locals_of}
use Rattle.walrus_functions.specs.Names.{Lookup, named_heap, named_val, named_block, named_arg, named_args, named_op, named_ops}
use Rattle.walrus_functions.specs.Blocks.{block_holds, args_hold, blocks_hold}
use Rattle.walrus_base.proofs.Lists.{Contains-uncons, Contains-none}
use Rattle.walrus_base.proofs.Standing.{some_inj}
use Rattle.walrus_model.proofs.Orders.{is_some_by}
use Rattle.wasm_forms.proofs.Bind.{bind_some as through}

one_item : {A : Type 0} (P : A → Type 0) (x y : A) → Contains (x ∷ []) y → P x → P y
one_item P x y c p = ⊎_elim (λ (e : x ≡ y). subst P e p) (λ (d : Contains [] y). absurd (Contains-none y d)) (Contains-uncons x y [] c)

module _ (f : Lookup) where
  abbrev Found : Item → Type 0
  Found y = IsSome (f y.0 y.1)

  heap_found : (a b : HeapType ℕ) → named_heap f a ≡ Some b → (y : Item) → Contains (map type_item (heap_names a)) y → Found y
  heap_found (OfHeap x) b e y c = absurd (Contains-none y c)
  heap_found (Concrete t) b e y c =
      let q : (j : ℕ) × (f Types t ≡ Some j) × (Some (Concrete j) ≡ Some b) = through (f Types t) (λ found. Some (Concrete found)) b e in
      one_item Found (type_item t) y c (is_some_by (f Types t) q.0 q.1)
  heap_found (Exact t) b e y c =
      let q : (j : ℕ) × (f Types t ≡ Some j) × (Some (Exact j) ≡ Some b) = through (f Types t) (λ found. Some (Exact found)) b e in
      one_item Found (type_item t) y c (is_some_by (f Types t) q.0 q.1)

  one_heap : (a : HeapType ℕ) → heap_names a ++ [] ≡ heap_names a
  one_heap (OfHeap x) = refl
  one_heap (Concrete t) = refl
  one_heap (Exact t) = refl

  -- the types that a value type names
  pub val_found : (a b : ValType ℕ) → named_val f a ≡ Some b → (y : Item) → Contains (map type_item (val_names a)) y → Found y
  val_found (Ref v) b e y c =
      let q : (heap : HeapType ℕ) × (named_heap f v.heap ≡ Some heap) × (Some (Ref (record { nullable = v.nullable; heap = heap })) ≡ Some b) =
      through (named_heap f v.heap) (λ heap. Some (Ref (record { nullable = v.nullable; heap = heap }))) b e in
      heap_found v.heap q.0 q.1 y (subst (λ (l : List ℕ). Contains (map type_item l) y) (one_heap v.heap) c)
  val_found I32 b e y c = absurd (Contains-none y c)
  val_found I64 b e y c = absurd (Contains-none y c)
  val_found F32 b e y c = absurd (Contains-none y c)
  val_found F64 b e y c = absurd (Contains-none y c)
  val_found V128 b e y c = absurd (Contains-none y c)

  block_found : (a b : BlockType) → named_block f a ≡ Some b → (y : Item) → Contains (map type_item (block_names a)) y → Found y
  block_found NoResult b e y c = absurd (Contains-none y c)
  block_found (OneResult v) b e y c =
      let q : (w : ValType ℕ) × (named_val f v ≡ Some w) × (Some (OneResult w) ≡ Some b) = through (named_val f v) (λ found. Some (OneResult found)) b e in
      val_found v q.0 q.1 y c
  block_found (OfType t) b e y c =
      let q : (j : ℕ) × (f Types t ≡ Some j) × (Some (OfType j) ≡ Some b) = through (f Types t) (λ found. Some (OfType found)) b e in
      one_item Found (type_item t) y c (is_some_by (f Types t) q.0 q.1)

  module _ (l : ℕ → Option ℕ) where
    arg_found : (a b : Arg) → named_arg f l a ≡ Some b → (y : Item) → Contains (arg_names a) y → Found y
    arg_found (Index x) b e y c =
        let q : (j : ℕ) × (f x.0 x.1 ≡ Some j) × (Some (Index (x.0, j)) ≡ Some b) = through (f x.0 x.1) (λ found. Some (Index (x.0, found))) b e in
        one_item Found x y c (is_some_by (f x.0 x.1) q.0 q.1)
    arg_found (Value v) b e y c =
        let q : (w : ValType ℕ) × (named_val f v ≡ Some w) × (Some (Value w) ≡ Some b) = through (named_val f v) (λ found. Some (Value found)) b e in
        val_found v q.0 q.1 y c
    arg_found (Heap v) b e y c =
        let q : (w : HeapType ℕ) × (named_heap f v ≡ Some w) × (Some (Heap w) ≡ Some b) = through (named_heap f v) (λ found. Some (Heap found)) b e in
        heap_found v q.0 q.1 y c
    arg_found (Block v) b e y c =
        let q : (w : BlockType) × (named_block f v ≡ Some w) × (Some (Block w) ≡ Some b) = through (named_block f v) (λ found. Some (Block found)) b e in
        block_found v q.0 q.1 y c
    arg_found (Access flags memory offset) b e y c =
        let q : (j : ℕ) × (f Memories memory ≡ Some j) × (Some (Access flags j offset) ≡ Some b) = through (f Memories memory) (λ found. Some (Access flags found offset)) b e in
        one_item Found (Memories, memory) y c (is_some_by (f Memories memory) q.0 q.1)
    arg_found (Label n) b e y c = absurd (Contains-none y c)
    arg_found (Local n) b e y c = absurd (Contains-none y c)
    arg_found (Number n) b e y c = absurd (Contains-none y c)
    arg_found (Count n) b e y c = absurd (Contains-none y c)
    arg_found (Byte n) b e y c = absurd (Contains-none y c)
    arg_found (S32 n) b e y c = absurd (Contains-none y c)
    arg_found (S64 n) b e y c = absurd (Contains-none y c)
    arg_found (Bits32 n) b e y c = absurd (Contains-none y c)
    arg_found (Bits64 n) b e y c = absurd (Contains-none y c)

    local_found : (a b : Arg) → named_arg f l a ≡ Some b → (x : ℕ) → Contains (arg_locals a) x → IsSome (l x)
    local_found (Local n) b e x c =
        let q : (j : ℕ) × (l n ≡ Some j) × (Some (Local j) ≡ Some b) = through (l n) (λ found. Some (Local found)) b e in
        one_item (λ (m : ℕ). IsSome (l m)) n x c (is_some_by (l n) q.0 q.1)
    local_found (Index i) b e x c = absurd (Contains-none x c)
    local_found (Value v) b e x c = absurd (Contains-none x c)
    local_found (Heap v) b e x c = absurd (Contains-none x c)
    local_found (Block v) b e x c = absurd (Contains-none x c)
    local_found (Access flags memory offset) b e x c = absurd (Contains-none x c)
    local_found (Label n) b e x c = absurd (Contains-none x c)
    local_found (Number n) b e x c = absurd (Contains-none x c)
    local_found (Count n) b e x c = absurd (Contains-none x c)
    local_found (Byte n) b e x c = absurd (Contains-none x c)
    local_found (S32 n) b e x c = absurd (Contains-none x c)
    local_found (S64 n) b e x c = absurd (Contains-none x c)
    local_found (Bits32 n) b e x c = absurd (Contains-none x c)
    local_found (Bits64 n) b e x c = absurd (Contains-none x c)

    -- ---- lists

    pub args_split : (a : Arg) (rest : List Arg) (b : List Arg) → named_args f l (a ∷ rest) ≡ Some b → (x : Arg) × (named_arg f l a ≡ Some x) × ((xs : List Arg) × (named_args f l rest ≡ Some xs) × (x ∷ xs ≡ b))
    args_split a rest b e =
        let q : (y : Arg) × (named_arg f l a ≡ Some y) × ((named_args f l rest >>= λ others. Some (y ∷ others)) ≡ Some b) = through (named_arg f l a) (λ found. named_args f l rest >>= λ others. Some (found ∷ others)) b e in
        let s : (ys : List Arg) × (named_args f l rest ≡ Some ys) × (Some (q.0 ∷ ys) ≡ Some b) = through (named_args f l rest) (λ others. Some (q.0 ∷ others)) b q.2 in
        (q.0, q.1, (s.0, s.1, some_inj (q.0 ∷ s.0) b s.2))

    pub op_split : (a b : Op) → named_op f l a ≡ Some b → (xs : List Arg) × (named_args f l a.args ≡ Some xs) × ((record { op = a.op; args = xs }) ≡ b)
    op_split a b e =
        let q : (ys : List Arg) × (named_args f l a.args ≡ Some ys) × (Some (record { op = a.op; args = ys }) ≡ Some b) = through (named_args f l a.args) (λ args. Some (record { op = a.op; args = args })) b e in
        (q.0, q.1, some_inj (record { op = a.op; args = q.0 }) b q.2)

    pub ops_split : (a : Op) (rest : List Op) (b : List Op) → named_ops f l (a ∷ rest) ≡ Some b → (x : Op) × (named_op f l a ≡ Some x) × ((xs : List Op) × (named_ops f l rest ≡ Some xs) × (x ∷ xs ≡ b))
    ops_split a rest b e =
        let q : (y : Op) × (named_op f l a ≡ Some y) × ((named_ops f l rest >>= λ others. Some (y ∷ others)) ≡ Some b) = through (named_op f l a) (λ found. named_ops f l rest >>= λ others. Some (found ∷ others)) b e in
        let s : (ys : List Op) × (named_ops f l rest ≡ Some ys) × (Some (q.0 ∷ ys) ≡ Some b) = through (named_ops f l rest) (λ others. Some (q.0 ∷ others)) b q.2 in
        (q.0, q.1, (s.0, s.1, some_inj (q.0 ∷ s.0) b s.2))

    args_found : (a b : List Arg) → named_args f l a ≡ Some b → (y : Item) → Contains (flat_map arg_names a) y → Found y
    args_found [] b e y c = absurd (Contains-none y c)
    args_found (x ∷ rest) b e y c =
        let q = args_split x rest b e in
        ⊎_elim (λ (d : Contains (arg_names x) y). arg_found x q.0 q.1 y d) (λ (d : Contains (flat_map arg_names rest) y). args_found rest q.2.0 q.2.1 y d) (Contains-append_cases (arg_names x) (flat_map arg_names rest) y c)

    -- each item that they name was found
    pub names_found : (a b : List Op) → named_ops f l a ≡ Some b → (y : Item) → Contains (names_of a) y → IsSome (f y.0 y.1)
    names_found [] b e y c = absurd (Contains-none y c)
    names_found (x ∷ rest) b e y c =
        let q = ops_split x rest b e in
        let s = op_split x q.0 q.1 in
        ⊎_elim (λ (d : Contains (op_names x) y). args_found x.args s.0 s.1 y d) (λ (d : Contains (names_of rest) y). names_found rest q.2.0 q.2.1 y d) (Contains-append_cases (op_names x) (names_of rest) y c)

    arg_locals_found : (a b : List Arg) → named_args f l a ≡ Some b → (y : ℕ) → Contains (flat_map arg_locals a) y → IsSome (l y)
    arg_locals_found [] b e y c = absurd (Contains-none y c)
    arg_locals_found (x ∷ rest) b e y c =
        let q = args_split x rest b e in
        ⊎_elim (λ (d : Contains (arg_locals x) y). local_found x q.0 q.1 y d) (λ (d : Contains (flat_map arg_locals rest) y). arg_locals_found rest q.2.0 q.2.1 y d) (Contains-append_cases (arg_locals x) (flat_map arg_locals rest) y c)

    -- and so was each local
    pub locals_found : (a b : List Op) → named_ops f l a ≡ Some b → (y : ℕ) → Contains (locals_of a) y → IsSome (l y)
    locals_found [] b e y c = absurd (Contains-none y c)
    locals_found (x ∷ rest) b e y c =
        let q = ops_split x rest b e in
        let s = op_split x q.0 q.1 in
        ⊎_elim (λ (d : Contains (op_locals x) y). arg_locals_found x.args s.0 s.1 y d) (λ (d : Contains (locals_of rest) y). locals_found rest q.2.0 q.2.1 y d) (Contains-append_cases (op_locals x) (locals_of rest) y c)

    -- ---- blocks: what a block's type was found as passes a test as the type passes one itself

    module _ (test before : ℕ → Bool) (H : (p j : ℕ) → f Types p ≡ Some j → test j ≡ before p) where
      arg_holds : (a b : Arg) → named_arg f l a ≡ Some b → block_holds test b ≡ block_holds before a
      arg_holds (Index x) b e =
          let q : (j : ℕ) × (f x.0 x.1 ≡ Some j) × (Some (Index (x.0, j)) ≡ Some b) = through (f x.0 x.1) (λ found. Some (Index (x.0, found))) b e in
          subst (λ (c : Arg). block_holds test c ≡ true) (some_inj (Index (x.0, q.0)) b q.2) refl
      arg_holds (Value v) b e =
          let q : (w : ValType ℕ) × (named_val f v ≡ Some w) × (Some (Value w) ≡ Some b) = through (named_val f v) (λ found. Some (Value found)) b e in
          subst (λ (c : Arg). block_holds test c ≡ true) (some_inj (Value q.0) b q.2) refl
      arg_holds (Heap v) b e =
          let q : (w : HeapType ℕ) × (named_heap f v ≡ Some w) × (Some (Heap w) ≡ Some b) = through (named_heap f v) (λ found. Some (Heap found)) b e in
          subst (λ (c : Arg). block_holds test c ≡ true) (some_inj (Heap q.0) b q.2) refl
      arg_holds (Block NoResult) b e = subst (λ (c : Arg). block_holds test c ≡ true) (some_inj (Block NoResult) b e) refl
      arg_holds (Block (OneResult v)) b e =
          let q : (w : BlockType) × (named_block f (OneResult v) ≡ Some w) × (Some (Block w) ≡ Some b) = through (named_block f (OneResult v)) (λ found. Some (Block found)) b e in
          let s : (w : ValType ℕ) × (named_val f v ≡ Some w) × (Some (OneResult w) ≡ Some q.0) = through (named_val f v) (λ found. Some (OneResult found)) q.0 q.1 in
          subst (λ (c : Arg). block_holds test c ≡ true) (ap (λ (w : BlockType). Block w) (some_inj (OneResult s.0) q.0 s.2) ∙ some_inj (Block q.0) b q.2) refl
      arg_holds (Block (OfType t)) b e =
          let q : (w : BlockType) × (named_block f (OfType t) ≡ Some w) × (Some (Block w) ≡ Some b) = through (named_block f (OfType t)) (λ found. Some (Block found)) b e in
          let s : (j : ℕ) × (f Types t ≡ Some j) × (Some (OfType j) ≡ Some q.0) = through (f Types t) (λ found. Some (OfType found)) q.0 q.1 in
          subst (λ (c : Arg). block_holds test c ≡ before t) (ap (λ (w : BlockType). Block w) (some_inj (OfType s.0) q.0 s.2) ∙ some_inj (Block q.0) b q.2) (H t s.0 s.1)
      arg_holds (Access flags memory offset) b e =
          let q : (j : ℕ) × (f Memories memory ≡ Some j) × (Some (Access flags j offset) ≡ Some b) = through (f Memories memory) (λ found. Some (Access flags found offset)) b e in
          subst (λ (c : Arg). block_holds test c ≡ true) (some_inj (Access flags q.0 offset) b q.2) refl
      arg_holds (Local n) b e =
          let q : (j : ℕ) × (l n ≡ Some j) × (Some (Local j) ≡ Some b) = through (l n) (λ found. Some (Local found)) b e in
          subst (λ (c : Arg). block_holds test c ≡ true) (some_inj (Local q.0) b q.2) refl
      arg_holds (Label n) b e = subst (λ (c : Arg). block_holds test c ≡ true) (some_inj (Label n) b e) refl
      arg_holds (Number n) b e = subst (λ (c : Arg). block_holds test c ≡ true) (some_inj (Number n) b e) refl
      arg_holds (Count n) b e = subst (λ (c : Arg). block_holds test c ≡ true) (some_inj (Count n) b e) refl
      arg_holds (Byte n) b e = subst (λ (c : Arg). block_holds test c ≡ true) (some_inj (Byte n) b e) refl
      arg_holds (S32 n) b e = subst (λ (c : Arg). block_holds test c ≡ true) (some_inj (S32 n) b e) refl
      arg_holds (S64 n) b e = subst (λ (c : Arg). block_holds test c ≡ true) (some_inj (S64 n) b e) refl
      arg_holds (Bits32 n) b e = subst (λ (c : Arg). block_holds test c ≡ true) (some_inj (Bits32 n) b e) refl
      arg_holds (Bits64 n) b e = subst (λ (c : Arg). block_holds test c ≡ true) (some_inj (Bits64 n) b e) refl

      args_are : (a b : List Arg) → named_args f l a ≡ Some b → args_hold test b ≡ args_hold before a
      args_are [] b e = subst (λ (c : List Arg). args_hold test c ≡ true) (some_inj [] b e) refl
      args_are (x ∷ rest) b e =
          let q = args_split x rest b e in
          subst (λ (c : List Arg). args_hold test c ≡ args_hold before (x ∷ rest)) q.2.2 (ap₂ (λ (s t : Bool). s && t) (arg_holds x q.0 q.1) (args_are rest q.2.0 q.2.1))

      pub blocks_found : (a b : List Op) → named_ops f l a ≡ Some b → blocks_hold test b ≡ blocks_hold before a
      blocks_found [] b e = subst (λ (c : List Op). blocks_hold test c ≡ true) (some_inj [] b e) refl
      blocks_found (x ∷ rest) b e =
          let q = ops_split x rest b e in
          let s = op_split x q.0 q.1 in
          let first : args_hold test q.0.args ≡ args_hold before x.args = subst (λ (o : Op). args_hold test o.args ≡ args_hold before x.args) s.2 (args_are x.args s.0 s.1) in
          subst (λ (c : List Op). blocks_hold test c ≡ blocks_hold before (x ∷ rest)) q.2.2 (ap₂ (λ (s t : Bool). s && t) first (blocks_found rest q.2.0 q.2.1))
