-- What is found in operators that were read: nothing exact, only locals that have an index, and only operators that are spelled.
use Rattle.std.proofs.Common.{◌≡◌, ℕ, Bool, true, false, List, [], ◌∷◌, ◌++◌, map, Option, Some, None, refl, sym, ap, ap₂, ◌∙◌, subst, inl, inr}
use Rattle.std.specs.Prelude.{◌||◌, flat_map}
use Rattle.std.specs.List.{AllByRecursion}
use Rattle.std.proofs.lemmas.List.Elements.{recursion_from_All}
use Rattle.wasm_forms.specs.Reading.{◌>>=◌}
use Rattle.wasm_forms.specs.Grammar.{Is, IsRow}
use Rattle.wasm_forms.proofs.Bind.{bind_some, some_same}
use Rattle.wasm_forms.specs.declared.types.RawHeap.{RawHeap}
use Rattle.wasm_forms.specs.declared.types.RawHeap.TheVariants as raw_heap
use Rattle.wasm_forms.specs.declared.types.RawVal.{RawVal}
use Rattle.wasm_forms.specs.declared.types.RawVal.TheVariants as raw_val
use Rattle.wasm_operators.specs.declared.operator.RawArg.{RawArg}
use Rattle.wasm_operators.specs.declared.operator.RawArg.TheVariants as raw
use Rattle.wasm_operators.specs.declared.operator.RawBlock.{RawBlock}
use Rattle.wasm_operators.specs.declared.operator.RawBlock.TheVariants as raw_block
use Rattle.wasm_operators.specs.Operators as wire
use Rattle.wasm_operators.specs.Forms.{operator}
use Rattle.wasm_operators.specs.Standing.{spells}
use Rattle.walrus_base.specs.Types.{HeapType, Concrete, ValType, Ref}
use Rattle.walrus_base.specs.Operators.{Types, Functions, Tables, Memories, Tags, Globals, Elements, DataSegments, BlockType, OneResult, OfType, Arg, Index, Local, Value, Heap, Block, Access, Op, arg_locals, op_locals, locals_of}
use Rattle.walrus_code.specs.FromRaw.{heap_of, val_of, block_of, arg_of, op_of, ops_of}
use Rattle.walrus_code.specs.Names.{Lookup, named_heap, named_val, named_block, named_arg, named_args, named_op, named_ops}
use Rattle.walrus_code.specs.Results.{heap_is_exact, val_is_exact, block_is_exact, arg_is_exact, args_are_exact}
use Rattle.walrus_code.specs.Stands.{ArgStands}
use Rattle.walrus_bodies.specs.Emitting.{IsUnspelled}
use Rattle.walrus_code.proofs.LawTags.{arg_tag, tag, tagged, spells_same}
use Rattle.walrus_code.proofs.LawSpelled.{read_spells}

-- ---- what is found has what each value that is made has

pub via : {A B : Type 0} (P : B → Type 0) (o : Option A) (f : A → B) (y : B) → ((k : A) → o ≡ Some k → P (f k)) → (o >>= λ k. Some (f k)) ≡ Some y → P y
via P (Some k) f y has is = subst P (some_same _ _ is) (has k refl)
via P None f y has is = absurd cc

pub plain : {B : Type 0} (P : B → Type 0) (x y : B) → P x → Some x ≡ Some y → P y
plain P x y has is = subst P (some_same x y is) has

pub each_append : {X : Type 0} (P : X → Type 0) (xs ys : List X) → AllByRecursion P xs → AllByRecursion P ys → AllByRecursion P (xs ++ ys)
each_append P [] ys all more = more
each_append P (x ∷ xs) ys all more = (all.0, each_append P xs ys all.1 more)

abbrev pub NoExact : ValType ℕ → Type 0
NoExact v = val_is_exact v ≡ false

module _ (names : Lookup) where
  heap_inexact : (h : RawHeap) (found : HeapType ℕ) → named_heap names (heap_of h) ≡ Some found → heap_is_exact found ≡ false
  heap_inexact (raw_heap.Abstract b) found is = plain (λ (x : HeapType ℕ). heap_is_exact x ≡ false) _ found refl is
  heap_inexact (raw_heap.Index t) found is = via (λ (x : HeapType ℕ). heap_is_exact x ≡ false) (names Types t) Concrete found (λ k e. refl) is

  pub val_inexact : (v : RawVal) (found : ValType ℕ) → named_val names (val_of v) ≡ Some found → val_is_exact found ≡ false
  val_inexact (raw_val.Ref r) found is = via NoExact (named_heap names (heap_of r.heap)) (λ heap. Ref (record { nullable = r.nullable; heap = heap })) found (λ k e. heap_inexact r.heap k e) is
  val_inexact raw_val.I32 found is = plain NoExact _ found refl is
  val_inexact raw_val.I64 found is = plain NoExact _ found refl is
  val_inexact raw_val.F32 found is = plain NoExact _ found refl is
  val_inexact raw_val.F64 found is = plain NoExact _ found refl is
  val_inexact raw_val.V128 found is = plain NoExact _ found refl is

  block_inexact : (b : RawBlock) (found : BlockType) → named_block names (block_of b) ≡ Some found → block_is_exact found ≡ false
  block_inexact raw_block.NoResult found is = plain (λ (x : BlockType). block_is_exact x ≡ false) _ found refl is
  block_inexact (raw_block.OneResult v) found is = via (λ (x : BlockType). block_is_exact x ≡ false) (named_val names (val_of v)) OneResult found (λ k e. val_inexact v k e) is
  block_inexact (raw_block.OfType t) found is = via (λ (x : BlockType). block_is_exact x ≡ false) (names Types t) OfType found (λ k e. refl) is

  module _ (locals : ℕ → Option ℕ) where
    abbrev Plain : Arg → Type 0
    Plain x = arg_is_exact x ≡ false

    arg_inexact : (x : RawArg) (found : Arg) → named_arg names locals (arg_of x) ≡ Some found → arg_is_exact found ≡ false
    arg_inexact (raw.Function n) found is = via Plain (names Functions n) (λ k. Index (Functions, k)) found (λ k e. refl) is
    arg_inexact (raw.«Type» n) found is = via Plain (names Types n) (λ k. Index (Types, k)) found (λ k e. refl) is
    arg_inexact (raw.Table n) found is = via Plain (names Tables n) (λ k. Index (Tables, k)) found (λ k e. refl) is
    arg_inexact (raw.Memory n) found is = via Plain (names Memories n) (λ k. Index (Memories, k)) found (λ k e. refl) is
    arg_inexact (raw.Global n) found is = via Plain (names Globals n) (λ k. Index (Globals, k)) found (λ k e. refl) is
    arg_inexact (raw.Tag n) found is = via Plain (names Tags n) (λ k. Index (Tags, k)) found (λ k e. refl) is
    arg_inexact (raw.Element n) found is = via Plain (names Elements n) (λ k. Index (Elements, k)) found (λ k e. refl) is
    arg_inexact (raw.Data n) found is = via Plain (names DataSegments n) (λ k. Index (DataSegments, k)) found (λ k e. refl) is
    arg_inexact (raw.Local n) found is = via Plain (locals n) Local found (λ k e. refl) is
    arg_inexact (raw.Value v) found is = via Plain (named_val names (val_of v)) Value found (λ k e. val_inexact v k e) is
    arg_inexact (raw.Heap h) found is = via Plain (named_heap names (heap_of h)) Heap found (λ k e. heap_inexact h k e) is
    arg_inexact (raw.Block b) found is = via Plain (named_block names (block_of b)) Block found (λ k e. block_inexact b k e) is
    arg_inexact (raw.Access flags memory offset) found is = via Plain (names Memories memory) (λ k. Access flags k offset) found (λ k e. refl) is
    arg_inexact x found is = plain Plain _ found refl is

    args_inexact : (xs : List RawArg) (found : List Arg) → named_args names locals (map arg_of xs) ≡ Some found → args_are_exact found ≡ false
    args_inexact [] found is = plain (λ (l : List Arg). args_are_exact l ≡ false) [] found refl is
    args_inexact (x ∷ xs) found is =
        let b = bind_some (named_arg names locals (arg_of x)) (λ y. named_args names locals (map arg_of xs) >>= λ ys. Some (y ∷ ys)) found is in
        let one = arg_inexact x b.0 b.1 in
        via (λ (l : List Arg). args_are_exact l ≡ false) (named_args names locals (map arg_of xs)) (λ ys. b.0 ∷ ys) found (λ ys e. ap₂ (λ (s t : Bool). s || t) one (args_inexact xs ys e)) b.2

    -- ---- the same arguments but for their indices

    abbrev SameTag : Arg → Arg → Type 0
    SameTag x y = arg_tag y ≡ arg_tag x

    arg_same : (x found : Arg) → named_arg names locals x ≡ Some found → arg_tag found ≡ arg_tag x
    arg_same (Index x) found is = via (SameTag (Index x)) (names x.0 x.1) (λ k. Index (x.0, k)) found (λ k e. refl) is
    arg_same (Local n) found is = via (SameTag (Local n)) (locals n) Local found (λ k e. refl) is
    arg_same (Value v) found is = via (SameTag (Value v)) (named_val names v) Value found (λ k e. refl) is
    arg_same (Heap h) found is = via (SameTag (Heap h)) (named_heap names h) Heap found (λ k e. refl) is
    arg_same (Block b) found is = via (SameTag (Block b)) (named_block names b) Block found (λ k e. refl) is
    arg_same (Access flags memory offset) found is = via (SameTag (Access flags memory offset)) (names Memories memory) (λ k. Access flags k offset) found (λ k e. refl) is
    arg_same x found is = plain (SameTag x) x found refl is

    args_same : (xs found : List Arg) → named_args names locals xs ≡ Some found → map arg_tag found ≡ map arg_tag xs
    args_same [] found is = plain (λ (l : List Arg). map arg_tag l ≡ []) [] found refl is
    args_same (x ∷ xs) found is =
        let b = bind_some (named_arg names locals x) (λ y. named_args names locals xs >>= λ ys. Some (y ∷ ys)) found is in
        let one = arg_same x b.0 b.1 in
        via (λ (l : List Arg). map arg_tag l ≡ arg_tag x ∷ map arg_tag xs) (named_args names locals xs) (λ ys. b.0 ∷ ys) found (λ ys e. ap₂ ◌∷◌ one (args_same xs ys e)) b.2

    op_parts : (o found : Op) → named_op names locals o ≡ Some found → (found.op ≡ o.op) × (named_args names locals o.args ≡ Some found.args)
    op_parts o found is =
        let b = bind_some (named_args names locals o.args) (λ args. Some (record { op = o.op; args = args })) found is in
        let same = some_same _ _ b.2 in
        (ap (λ (x : Op). x.op) (sym same), b.1 ∙ ap (λ (x : Op). Some x.args) same)

    -- ---- locals

    abbrev pub HasIndex : ℕ → Type 0
    HasIndex x = (n : ℕ) × (locals n ≡ Some x)

    abbrev LocalsFound : Arg → Type 0
    LocalsFound x = AllByRecursion HasIndex (arg_locals x)

    arg_found : (x found : Arg) → named_arg names locals x ≡ Some found → AllByRecursion HasIndex (arg_locals found)
    arg_found (Local n) found is = via LocalsFound (locals n) Local found (λ k e. ((n, e), tt)) is
    arg_found (Index x) found is = via LocalsFound (names x.0 x.1) (λ k. Index (x.0, k)) found (λ k e. tt) is
    arg_found (Value v) found is = via LocalsFound (named_val names v) Value found (λ k e. tt) is
    arg_found (Heap h) found is = via LocalsFound (named_heap names h) Heap found (λ k e. tt) is
    arg_found (Block b) found is = via LocalsFound (named_block names b) Block found (λ k e. tt) is
    arg_found (Access flags memory offset) found is = via LocalsFound (names Memories memory) (λ k. Access flags k offset) found (λ k e. tt) is
    arg_found x found is = plain LocalsFound x found tt is

    args_found : (xs found : List Arg) → named_args names locals xs ≡ Some found → AllByRecursion HasIndex (flat_map arg_locals found)
    args_found [] found is = plain (λ (l : List Arg). AllByRecursion HasIndex (flat_map arg_locals l)) [] found tt is
    args_found (x ∷ xs) found is =
        let b = bind_some (named_arg names locals x) (λ y. named_args names locals xs >>= λ ys. Some (y ∷ ys)) found is in
        let one = arg_found x b.0 b.1 in
        via (λ (l : List Arg). AllByRecursion HasIndex (flat_map arg_locals l)) (named_args names locals xs) (λ ys. b.0 ∷ ys) found (λ ys e. each_append HasIndex (arg_locals b.0) (flat_map arg_locals ys) one (args_found xs ys e)) b.2

    pub ops_found : (os found : List Op) → named_ops names locals os ≡ Some found → AllByRecursion HasIndex (locals_of found)
    ops_found [] found is = plain (λ (l : List Op). AllByRecursion HasIndex (locals_of l)) [] found tt is
    ops_found (o ∷ os) found is =
        let b = bind_some (named_op names locals o) (λ y. named_ops names locals os >>= λ ys. Some (y ∷ ys)) found is in
        let one = args_found o.args b.0.args (op_parts o b.0 b.1).1 in
        via (λ (l : List Op). AllByRecursion HasIndex (locals_of l)) (named_ops names locals os) (λ ys. b.0 ∷ ys) found (λ ys e. each_append HasIndex (op_locals b.0) (locals_of ys) one (ops_found os ys e)) b.2

    -- ---- operators that were read

    -- some bytes are the operator
    pub record ReadOp (o : Op) : Type 0 where
      pub bytes : List ℕ
      pub text : wire.Op
      pub is : Is operator bytes text
      pub named : named_op names locals (op_of text) ≡ Some o

    pub each_read : (texts : List wire.Op) (bytes : List ℕ) (found : List Op) → IsRow (Is operator) bytes texts → named_ops names locals (ops_of texts) ≡ Some found → AllByRecursion ReadOp found
    each_read [] bytes found row is = plain (AllByRecursion ReadOp) [] found tt is
    each_read (text ∷ texts) bytes found (front, (back, (parts, one, row))) is =
        let b = bind_some (named_op names locals (op_of text)) (λ y. named_ops names locals (ops_of texts) >>= λ ys. Some (y ∷ ys)) found is in
        let first : ReadOp b.0 = record { bytes = front; text = text; is = one; named = b.1 } in
        via (AllByRecursion ReadOp) (named_ops names locals (ops_of texts)) (λ ys. b.0 ∷ ys) found (λ ys e. (first, each_read texts back ys row e)) b.2

tags_same : (xs : List RawArg) → map tag xs ≡ map arg_tag (map arg_of xs)
tags_same [] = refl
tags_same (x ∷ xs) = ap (λ (l : List RawArg). tag x ∷ l) (tags_same xs)

with_tags : ℕ → List RawArg → wire.Op
with_tags op args = record { op = op; args = args }

-- an operator that was read isn't one that no bytes spell
pub no_unspelled : (names others : Lookup) (locals places : ℕ → Option ℕ) (o : Op) → ReadOp names locals o → IsUnspelled others places o → ⊥
unfolding with_tags
no_unspelled names others locals places o read (inl exact) =
    let plain_args = args_inexact names locals read.text.args o.args (op_parts names locals (op_of read.text) o read.named).1 in
    cc
no_unspelled names others locals places o read (inr none) =
    let to = op_parts others places o (op_of none.text) none.named in
    let from = op_parts names locals (op_of read.text) o read.named in
    let args : map tag none.text.args ≡ map tag read.text.args =
    tags_same none.text.args ∙ args_same others places o.args (map arg_of none.text.args) to.1 ∙ args_same names locals (map arg_of read.text.args) o.args from.1 ∙ sym (tags_same read.text.args) in
    let same : tagged none.text.op none.text.args ≡ tagged read.text.op read.text.args = ap₂ with_tags (to.0 ∙ from.0) args in
    let yes : spells none.text ≡ true = sym (spells_same none.text (recursion_from_All ArgStands none.text.args none.stands)) ∙ ap spells same ∙ read_spells read.bytes read.text read.is in
    let never = none.unspelled in
    cc
