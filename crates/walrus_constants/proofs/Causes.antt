-- Why a constant expression isn't written: what the code tests, with its causes.
use Rattle.std.proofs.Common.{◌≡◌, ◌≢◌, ◌∙◌, ◌||◌, ⊎_elim, ℕ, Bool, true, false, List, [], ◌∷◌, ◌++◌, map, length, Option, Some, None, refl, sym, ap, subst, append-nil}
use Rattle.std.specs.Prelude.{IsSome, Contains, flat_map, Result, Ok, Err, IfOk, All}
use Rattle.std.proofs.lemmas.List.Elements.{Contains-append_left, Contains-append_right, Contains-append_cases}
use Rattle.wasm_forms.specs.Reading.{◌>>=◌}
use Rattle.wasm_forms.proofs.Bind.{bind_some}
use Rattle.wasm_entries.specs.Record.{Expression}
use Rattle.wasm_entries.specs.Spelling.{ConstStands, ExpressionStands}
use Rattle.walrus_base.specs.Types.{HeapType, OfHeap, Concrete, Exact, IsNotExact, ValType, I32, I64, F32, F64, V128, Ref, val_heaps, heap_names, val_names}
use Rattle.walrus_base.specs.Operators.{Types, Memories, Item, type_item, BlockType, NoResult, OneResult, OfType, block_names, Arg, Index, Label, Local, Number, Count, Byte, S32, S64, Bits32, Bits64, Value, Heap, Block, Access, Op, arg_names, op_names, names_of}
use Rattle.walrus_code.specs.Names.{Lookup, named_heap, named_val, named_block, named_arg, named_args}
use Rattle.walrus_code.specs.Results.{heap_is_exact, val_is_exact, block_is_exact, arg_is_exact, args_are_exact, Indexes, IndexesIn}
use Rattle.walrus_code.specs.declared.error.IrError.{IrError}
use Rattle.walrus_code.specs.declared.error.IrError.TheVariants.{Malformed, Memory, NoIndex, NotWritable, TooLarge}
use Rattle.walrus_groups.specs.Named.{each}
use Rattle.walrus_model.specs.Constants.{consts_of}
use Rattle.walrus_model.specs.WellMade.{block_heaps, arg_heaps, op_heaps}
use Rattle.walrus_base.proofs.Lists.{Contains-head, Contains-uncons, Contains-none}
use Rattle.walrus_base.proofs.Standing.{none_there}
use Rattle.walrus_constants.specs.Named.{named_const_op, named_const}
use Rattle.walrus_constants.specs.Written.{ops_are_exact, LacksAnIndex, IsUnspelled, NoOperator, ExactHeap, IndexesConst}

-- what holds of one holds of all that a list of it contains
only : {A : Type 0} (P : A → Type 0) (x : A) → P x → (y : A) → Contains (x ∷ []) y → P y
only P x h y c = ⊎_elim (λ (e : x ≡ y). subst P e h) (λ (d : Contains [] y). absurd (Contains-none y d)) (Contains-uncons x y [] c)

both : {A : Type 0} (P : A → Type 0) (xs ys : List A) → ((x : A) → Contains xs x → P x) → ((x : A) → Contains ys x → P x) → (x : A) → Contains (xs ++ ys) x → P x
both P xs ys h k x c = ⊎_elim (h x) (k x) (Contains-append_cases xs ys x c)

-- ---- what has no number

module _ (names : Lookup) where
  abbrev pub Lacks : List Item → Type 0
  Lacks xs = (x : Item) × (Contains xs x × (names x.0 x.1 ≡ None))

  abbrev pub IsFound : Item → Type 0
  IsFound x = IsSome (names x.0 x.1)

  -- nothing is found, and one of these items has no number; or something, and each of them has one
  abbrev pub Told : {Y : Type 0} → List Item → Option Y → Type 0
  Told xs None = Lacks xs
  Told xs (Some y) = (x : Item) → Contains xs x → IsFound x

  pub told_last : {Y Z : Type 0} (xs : List Item) (o : Option Y) (f : Y → Z) → Told xs o → Told xs (o >>= λ y. Some (f y))
  told_last xs None f t = t
  told_last xs (Some y) f t = t

  told_joined : {Z : Type 0} (xs ys : List Item) (p : Option Z) → ((x : Item) → Contains xs x → IsFound x) → Told ys p → Told (xs ++ ys) p
  told_joined xs ys None t l = (l.0, (Contains-append_right xs ys l.0 l.1.0, l.1.1))
  told_joined xs ys (Some z) t u = both IsFound xs ys t u

  pub told_then : {Y Z : Type 0} (xs ys : List Item) (o : Option Y) (k : Y → Option Z) → Told xs o → ((y : Y) → Told ys (k y)) → Told (xs ++ ys) (o >>= k)
  told_then xs ys None k t u = (t.0, (Contains-append_left xs ys t.0 t.1.0, t.1.1))
  told_then xs ys (Some y) k t u = told_joined xs ys (k y) t (u y)

  pub told_none : (x : Item) → Contains [] x → IsFound x
  told_none x c = absurd (Contains-none x c)

  pub told_number : (x : Item) (o : Option ℕ) → names x.0 x.1 ≡ o → Told (x ∷ []) o
  told_number x None e = (x, (Contains-head x [], e))
  told_number x (Some n) e = only IsFound x (rw e refl)

  told_one : {Z : Type 0} (x : Item) (f : ℕ → Z) → Told (x ∷ []) (names x.0 x.1 >>= λ n. Some (f n))
  told_one x f = told_last (x ∷ []) (names x.0 x.1) f (told_number x (names x.0 x.1) refl)

  pub told_heap : (h : HeapType ℕ) → Told (map type_item (heap_names h)) (named_heap names h)
  told_heap (OfHeap h) = told_none
  told_heap (Concrete t) = told_one (Types, t) (λ n. Concrete n)
  told_heap (Exact t) = told_one (Types, t) (λ n. Exact n)

  told_val : (v : ValType ℕ) → Told (map type_item (val_names v)) (named_val names v)
  told_val (Ref r) =
      subst (λ (ts : List ℕ). Told (map type_item ts) (named_val names (Ref r))) (sym (append-nil (heap_names r.heap)))
      (told_last (map type_item (heap_names r.heap)) (named_heap names r.heap) (λ heap. Ref (record { nullable = r.nullable; heap = heap })) (told_heap r.heap))
  told_val I32 = told_none
  told_val I64 = told_none
  told_val F32 = told_none
  told_val F64 = told_none
  told_val V128 = told_none

  told_block : (b : BlockType) → Told (map type_item (block_names b)) (named_block names b)
  told_block NoResult = told_none
  told_block (OneResult v) = told_last (map type_item (val_names v)) (named_val names v) (λ w. OneResult w) (told_val v)
  told_block (OfType t) = told_one (Types, t) (λ n. OfType n)

  told_arg : (a : Arg) → Told (arg_names a) (named_arg names (λ x. Some x) a)
  told_arg (Index x) = told_one x (λ n. Index (x.0, n))
  told_arg (Value v) = told_last (map type_item (val_names v)) (named_val names v) (λ w. Value w) (told_val v)
  told_arg (Heap h) = told_last (map type_item (heap_names h)) (named_heap names h) (λ k. Heap k) (told_heap h)
  told_arg (Block b) = told_last (map type_item (block_names b)) (named_block names b) (λ c. Block c) (told_block b)
  told_arg (Access flags memory offset) = told_one (Memories, memory) (λ n. Access flags n offset)
  told_arg (Local n) = told_none
  told_arg (Label n) = told_none
  told_arg (Number n) = told_none
  told_arg (Count n) = told_none
  told_arg (Byte n) = told_none
  told_arg (S32 n) = told_none
  told_arg (S64 n) = told_none
  told_arg (Bits32 n) = told_none
  told_arg (Bits64 n) = told_none

  told_args : (args : List Arg) → Told (flat_map arg_names args) (named_args names (λ x. Some x) args)
  told_args [] = told_none
  told_args (a ∷ rest) =
      told_then (arg_names a) (flat_map arg_names rest) (named_arg names (λ x. Some x) a) (λ b. named_args names (λ x. Some x) rest >>= λ others. Some (b ∷ others)) (told_arg a)
      (λ b. told_last (flat_map arg_names rest) (named_args names (λ x. Some x) rest) (λ others. b ∷ others) (told_args rest))

  told_op : (o : Op) → Told (op_names o) (named_const_op names o)
  told_op o = told_last (op_names o) (named_args names (λ x. Some x) o.args) (λ args. let made : Op = record { op = o.op; args = args } in made) (told_args o.args)

  pub told_ops : (ops : List Op) → Told (names_of ops) (named_const names ops)
  told_ops [] = told_none
  told_ops (o ∷ rest) =
      told_then (op_names o) (names_of rest) (named_const_op names o) (λ p. named_const names rest >>= λ others. Some (p ∷ others)) (told_op o)
      (λ p. told_last (names_of rest) (named_const names rest) (λ others. p ∷ others) (told_ops rest))

  lacks_by : {Y : Type 0} (xs : List Item) (o : Option Y) → Told xs o → o ≡ None → Lacks xs
  lacks_by xs None t e = t
  lacks_by xs (Some y) t e = absurd cc

  none_by : {Y : Type 0} (xs : List Item) (o : Option Y) → Told xs o → Lacks xs → o ≡ None
  none_by xs None t l = refl
  none_by xs (Some y) t l = let there : IsSome (names l.0.0 l.0.1) = t l.0 l.1.0 in absurd (not_there (names l.0.0 l.0.1) there l.1.1)
    where
      not_there : (o : Option ℕ) → IsSome o → o ≡ None → ⊥
      not_there None h e = absurd cc
      not_there (Some n) h e = absurd cc

  pub found_by : {Y : Type 0} (xs : List Item) (o : Option Y) → Told xs o → ((x : Item) → Contains xs x → IsFound x) → IsSome o
  found_by xs (Some y) t k = refl
  found_by xs None t k = absurd (none_there (subst (λ (o : Option ℕ). IsSome o) t.1.1 (k t.0 t.1.0)))

  pub all_found : {Y : Type 0} (xs : List Item) (o : Option Y) → Told xs o → IsSome o → (x : Item) → Contains xs x → IsFound x
  all_found xs (Some y) t h = t
  all_found xs None t h = absurd (none_there h)

  -- nothing is found exactly where an item has no number
  pub lacking : (ops : List Op) → named_const names ops ≡ None → LacksAnIndex names ops
  lacking ops e = lacks_by (names_of ops) (named_const names ops) (told_ops ops) e

  pub not_found : (ops : List Op) → LacksAnIndex names ops → named_const names ops ≡ None
  not_found ops l = none_by (names_of ops) (named_const names ops) (told_ops ops) l

-- ---- exact heap types

-- the test says whether one of these heap types is exact
abbrev Exacts : Bool → List (HeapType ℕ) → Type 0
Exacts true heaps = (h : HeapType ℕ) × (Contains heaps h × (IsNotExact h → ⊥))
Exacts false heaps = (h : HeapType ℕ) → Contains heaps h → IsNotExact h

exact_or : (a b : Bool) (xs ys : List (HeapType ℕ)) → Exacts a xs → Exacts b ys → Exacts (a || b) (xs ++ ys)
exact_or true b xs ys s t = (s.0, (Contains-append_left xs ys s.0 s.1.0, s.1.1))
exact_or false true xs ys s t = (t.0, (Contains-append_right xs ys t.0 t.1.0, t.1.1))
exact_or false false xs ys s t = both (λ (h : HeapType ℕ). IsNotExact h) xs ys s t

exact_none : Exacts false []
exact_none h c = absurd (Contains-none h c)

exact_heap : (h : HeapType ℕ) → Exacts (heap_is_exact h) (h ∷ [])
exact_heap (OfHeap h) = only (λ (k : HeapType ℕ). IsNotExact k) (OfHeap h) tt
exact_heap (Concrete t) = only (λ (k : HeapType ℕ). IsNotExact k) (Concrete t) tt
exact_heap (Exact t) = (Exact t, (Contains-head (Exact t) [], λ n. n))

exact_val : (v : ValType ℕ) → Exacts (val_is_exact v) (val_heaps v)
exact_val (Ref r) = exact_heap r.heap
exact_val I32 = exact_none
exact_val I64 = exact_none
exact_val F32 = exact_none
exact_val F64 = exact_none
exact_val V128 = exact_none

exact_block : (b : BlockType) → Exacts (block_is_exact b) (block_heaps b)
exact_block NoResult = exact_none
exact_block (OneResult v) = exact_val v
exact_block (OfType t) = exact_none

exact_arg : (a : Arg) → Exacts (arg_is_exact a) (arg_heaps a)
exact_arg (Value v) = exact_val v
exact_arg (Heap h) = exact_heap h
exact_arg (Block b) = exact_block b
exact_arg (Index x) = exact_none
exact_arg (Access flags memory offset) = exact_none
exact_arg (Local n) = exact_none
exact_arg (Label n) = exact_none
exact_arg (Number n) = exact_none
exact_arg (Count n) = exact_none
exact_arg (Byte n) = exact_none
exact_arg (S32 n) = exact_none
exact_arg (S64 n) = exact_none
exact_arg (Bits32 n) = exact_none
exact_arg (Bits64 n) = exact_none

exact_args : (args : List Arg) → Exacts (args_are_exact args) (flat_map arg_heaps args)
exact_args [] = exact_none
exact_args (a ∷ rest) = exact_or (arg_is_exact a) (args_are_exact rest) (arg_heaps a) (flat_map arg_heaps rest) (exact_arg a) (exact_args rest)

exact_ops : (ops : List Op) → Exacts (ops_are_exact ops) (flat_map op_heaps ops)
exact_ops [] = exact_none
exact_ops (o ∷ rest) = exact_or (args_are_exact o.args) (ops_are_exact rest) (op_heaps o) (flat_map op_heaps rest) (exact_args o.args) (exact_ops rest)

exact_by : (ops : List Op) (b : Bool) → Exacts b (flat_map op_heaps ops) → b ≡ true → IsUnspelled ops
exact_by ops true x e = ExactHeap x.0 x.1.0 x.1.1
exact_by ops false x e = absurd cc

spelled_by : (ops : List Op) (b : Bool) → Exacts b (flat_map op_heaps ops) → b ≡ false → ops ≢ [] → IsUnspelled ops → ⊥
spelled_by ops true x e n u = absurd cc
spelled_by ops false x e n (NoOperator f) = n f
spelled_by ops false x e n (ExactHeap h c f) = f (x h c)

-- ---- the whole

-- what is made of some is some
pub some_made : {A B : Type 0} (f : A → B) (xs : List A) → length xs ≢ 0 → map f xs ≢ []
some_made f [] n e = n refl
some_made f (x ∷ xs) n e = absurd cc

-- operators are written, or there is a cause
pub const_written : {X : Type 0} (view : X → List Op) (names : Lookup) (ops : List Op) (r : Result X IrError) → ops ≢ [] → IndexesIn view r (ops_are_exact ops) (named_const names ops) → IndexesConst view names ops r
const_written view names ops (Ok x) n i = (i.0, λ u. spelled_by ops (ops_are_exact ops) (exact_ops ops) i.1 n u)
const_written view names ops (Err NoIndex) n i = lacking names ops i
const_written view names ops (Err NotWritable) n i = exact_by ops (ops_are_exact ops) (exact_ops ops) i
const_written view names ops (Err (Memory e)) n i = tt
const_written view names ops (Err Malformed) n i = i
const_written view names ops (Err TooLarge) n i = i

--- an operator that stands alone
pub alone_written : {X : Type 0} (view : X → Op) (names : Lookup) (o : Op) (r : Result X IrError) → Indexes view r o (named_const_op names o) → IndexesIn (λ x. view x ∷ []) r (ops_are_exact (o ∷ [])) (named_const names (o ∷ []))
alone_written view names o (Ok x) i = (ap (λ t. t >>= λ y. Some (y ∷ [])) i.0, ap (λ t. t || false) i.1)
alone_written view names o (Err NoIndex) i = ap (λ t. t >>= λ y. Some (y ∷ [])) i
alone_written view names o (Err NotWritable) i = ap (λ t. t || false) i
alone_written view names o (Err (Memory e)) i = i
alone_written view names o (Err Malformed) i = i
alone_written view names o (Err TooLarge) i = i

none_left : {X Y : Type 0} (find : X → Option Y) (x : X) (xs : List X) → each find (x ∷ xs) ≡ Some [] → ⊥
none_left find x xs e =
    let b = bind_some (find x) (λ y. each find xs >>= λ others. Some (y ∷ others)) [] e in
    let d = bind_some (each find xs) (λ others. Some (b.0 ∷ others)) [] b.2 in
    absurd cc

-- what is written of some operators is some operators
filled : (names : Lookup) (ops : List Op) (e : Expression) → ops ≢ [] → named_const names ops ≡ Some (consts_of e) → e ≢ []
filled names [] e n found is = n refl
filled names (o ∷ ops) e n found is = none_left (named_const_op names) o ops (found ∙ ap (λ (l : Expression). Some (consts_of l)) is)

pub const_stands : {X : Type 0} (raw : X → Expression) (names : Lookup) (ops : List Op) (r : Result X IrError) → ops ≢ [] → IndexesIn (λ x. consts_of (raw x)) r (ops_are_exact ops) (named_const names ops) → IfOk r (λ x. All ConstStands (raw x)) → IfOk r (λ x. ExpressionStands (raw x))
const_stands raw names ops (Ok x) n i s = (filled names ops (raw x) n i.0, s)
const_stands raw names ops (Err e) n i s = s
