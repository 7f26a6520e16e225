-- Operators with new numbers are those over places, each number looked up.
-- A kind of mark is written as its number: local 0, function 1, global 2, type 3, table 4, memory 5.
use Rattle.std.proofs.Common.{◌≡◌, ℕ, ◌+◌, true, List, [], ◌∷◌, ◌++◌, map, Option, Some, None, ◌⊎◌, inl, inr, refl, ap, ◌∙◌}
use Rattle.std.specs.Prelude.{IfSome, option_map}
use Rattle.std.specs.List.{list_all}
use Rattle.wasm_forms.specs.Reading.{◌>>=◌}
use Rattle.wasm_forms.specs.Writing.{EachFits}
use Rattle.wasm_forms.specs.declared.types.RawHeap.{RawHeap}
use Rattle.wasm_forms.specs.declared.types.RawHeap.TheVariants as raw_heap
use Rattle.wasm_forms.specs.declared.types.RawVal.{RawVal}
use Rattle.wasm_forms.specs.declared.types.RawVal.TheVariants as raw_val
use Rattle.wasm_text.specs.RawArg.{RawArg}
use Rattle.wasm_text.specs.RawArg.TheVariants as args
use Rattle.wasm_text.specs.RawBlock.{RawBlock}
use Rattle.wasm_text.specs.RawBlock.TheVariants as raw_block
use Rattle.wasm_text.specs.Operators as wire
use Rattle.wasm_text.specs.Marks.{with, all_args}
use Rattle.wasm_text.specs.Filling.{Numbering, renamed, renamed_heap, renamed_value, renamed_block, or_same, anew, HasNumber, SomeLacks}
use Rattle.wasm_text.specs.Classes.{is_plain}
use Rattle.walrus_base.specs.Types.{Concrete, Ref}
use Rattle.walrus_base.specs.Operators.{Types, Functions, Tables, Memories, Globals, OneResult, OfType, Arg, Index, Local, Value, Heap, Block, Access}
use Rattle.walrus_code.specs.FromRaw.{heap_of, val_of, block_of, arg_of, op_of, ops_of}
use Rattle.walrus_code.specs.Names.{Lookup, named_heap, named_val, named_block, named_arg, named_args, named_op, named_ops}
use Rattle.walrus_bodies.specs.Numbers.{numbering}
use Rattle.walrus_bodies.specs.Placed.{moved_arg, placed_op, placed_ops}
use Rattle.walrus_bodies.specs.Plain.{is_plain_arg, is_plain_op}
use Rattle.std.proofs.lemmas.Bool.{and_parts as parts}

-- ---- looked up, and made anew

itself : (o : Option ℕ) → IfSome o (λ n. o ≡ Some n)
itself None = tt
itself (Some n) = refl

looked : {R A S B : Type 0} (make : R → S) (build : A → B) (to : R → A) (view : S → B) (o : Option R) (look : Option A)
    → ((r : R) → build (to r) ≡ view (make r)) → IfSome o (λ r. look ≡ Some (to r)) → IfSome (option_map make o) (λ s. (look >>= λ found. Some (build found)) ≡ Some (view s))
looked make build to view None look same h = tt
looked make build to view (Some r) look same h = ap (λ k. k >>= λ found. Some (build found)) h ∙ ap Some (same r)

missed : {R A S B : Type 0} (make : R → S) (build : A → B) (o : Option R) (look : Option A) → (o ≡ None → look ≡ None) → option_map make o ≡ None → (look >>= λ found. Some (build found)) ≡ None
missed make build None look h e = ap (λ k. k >>= λ found. Some (build found)) (h refl)
missed make build (Some r) look h e = cc

some_of : (P : RawArg → Type 0) (a new : RawArg) (o : Option RawArg) → o ≡ Some new → IfSome o P → P (or_same a o)
some_of P a new None e h = absurd cc
some_of P a new (Some b) e h = h

pub each_split : {X : Type 0} (P : X → Type 0) (xs ys : List X) → EachFits P (xs ++ ys) → EachFits P xs × EachFits P ys
each_split P [] ys h = (tt, h)
each_split P (x ∷ xs) ys h = let p = each_split P xs ys h.1 in ((h.0, p.0), p.1)

some_split : (number : Numbering) (xs ys : List RawArg) → SomeLacks number (xs ++ ys) → SomeLacks number xs ⊎ SomeLacks number ys
some_split number [] ys h = inr h
some_split number (x ∷ xs) ys (inl e) = inl (inl e)
some_split number (x ∷ xs) ys (inr h) = elim (some_split number xs ys h) as (λ _. SomeLacks number (x ∷ xs) ⊎ SomeLacks number ys) [
  | inl k ↦ inl (inr k)
  | inr k ↦ inr k
]

module _ (names : Lookup) (locals : ℕ → Option ℕ) (first : ℕ) where
  abbrev full : Numbering
  full = numbering names locals first

  abbrev placed_arg : RawArg → Arg
  placed_arg a = moved_arg first (arg_of a)

  -- ---- each has a new number

  heap_named : (h : RawHeap) → IfSome (renamed_heap full h) (λ g. named_heap names (heap_of h) ≡ Some (heap_of g))
  heap_named (raw_heap.Abstract b) = refl
  heap_named (raw_heap.Index n) = looked raw_heap.Index Concrete (λ m. m) heap_of (names Types n) (names Types n) (λ m. refl) (itself (names Types n))

  value_named : (v : RawVal) → IfSome (renamed_value full v) (λ w. named_val names (val_of v) ≡ Some (val_of w))
  value_named (raw_val.Ref r) = looked (λ heap. raw_val.Ref (record { nullable = r.nullable; heap = heap })) (λ heap. Ref (record { nullable = r.nullable; heap = heap })) heap_of val_of (renamed_heap full r.heap) (named_heap names (heap_of r.heap)) (λ g. refl) (heap_named r.heap)
  value_named raw_val.I32 = refl
  value_named raw_val.I64 = refl
  value_named raw_val.F32 = refl
  value_named raw_val.F64 = refl
  value_named raw_val.V128 = refl

  block_named : (b : RawBlock) → IfSome (renamed_block full b) (λ c. named_block names (block_of b) ≡ Some (block_of c))
  block_named raw_block.NoResult = refl
  block_named (raw_block.OneResult v) = looked raw_block.OneResult OneResult val_of block_of (renamed_value full v) (named_val names (val_of v)) (λ w. refl) (value_named v)
  block_named (raw_block.OfType t) = looked raw_block.OfType OfType (λ m. m) block_of (names Types t) (names Types t) (λ m. refl) (itself (names Types t))

  arg_named : (a : RawArg) → IfSome (renamed full a) (λ b. named_arg names locals (placed_arg a) ≡ Some (arg_of b))
  arg_named (args.Function n) = looked args.Function (λ m. Index (Functions, m)) (λ m. m) arg_of (names Functions n) (names Functions n) (λ m. refl) (itself (names Functions n))
  arg_named (args.«Type» n) = looked args.«Type» (λ m. Index (Types, m)) (λ m. m) arg_of (names Types n) (names Types n) (λ m. refl) (itself (names Types n))
  arg_named (args.Table n) = looked args.Table (λ m. Index (Tables, m)) (λ m. m) arg_of (names Tables n) (names Tables n) (λ m. refl) (itself (names Tables n))
  arg_named (args.Memory n) = looked args.Memory (λ m. Index (Memories, m)) (λ m. m) arg_of (names Memories n) (names Memories n) (λ m. refl) (itself (names Memories n))
  arg_named (args.Global n) = looked args.Global (λ m. Index (Globals, m)) (λ m. m) arg_of (names Globals n) (names Globals n) (λ m. refl) (itself (names Globals n))
  arg_named (args.Tag n) = tt
  arg_named (args.Element n) = tt
  arg_named (args.Data n) = tt
  arg_named (args.Local n) = looked args.Local Local (λ m. m) arg_of (locals (first + n)) (locals (first + n)) (λ m. refl) (itself (locals (first + n)))
  arg_named (args.Label n) = refl
  arg_named (args.Count n) = refl
  arg_named (args.Number n) = refl
  arg_named (args.Byte b) = refl
  arg_named (args.S32 z) = refl
  arg_named (args.S64 z) = refl
  arg_named (args.F32 bits) = refl
  arg_named (args.F64 bits) = refl
  arg_named (args.Value v) = looked args.Value Value val_of arg_of (renamed_value full v) (named_val names (val_of v)) (λ w. refl) (value_named v)
  arg_named (args.Heap h) = looked args.Heap Heap heap_of arg_of (renamed_heap full h) (named_heap names (heap_of h)) (λ g. refl) (heap_named h)
  arg_named (args.Block b) = looked args.Block Block block_of arg_of (renamed_block full b) (named_block names (block_of b)) (λ c. refl) (block_named b)
  arg_named (args.Access flags memory offset) = looked (λ n. args.Access flags n offset) (λ n. Access flags n offset) (λ m. m) arg_of (names Memories memory) (names Memories memory) (λ m. refl) (itself (names Memories memory))

  anew_named : (a : RawArg) → HasNumber full a → named_arg names locals (placed_arg a) ≡ Some (arg_of (anew full a))
  anew_named a has = some_of (λ b. named_arg names locals (placed_arg a) ≡ Some (arg_of b)) a has.0 (renamed full a) has.1.0 (arg_named a)

  args_named : (xs : List RawArg) → EachFits (HasNumber full) xs → named_args names locals (map (moved_arg first) (map arg_of xs)) ≡ Some (map arg_of (map (anew full) xs))
  args_named [] h = refl
  args_named (a ∷ xs) h =
      ap (λ o. o >>= λ found. named_args names locals (map (moved_arg first) (map arg_of xs)) >>= λ others. Some (found ∷ others)) (anew_named a h.0)
      ∙ ap (λ o. o >>= λ others. Some (arg_of (anew full a) ∷ others)) (args_named xs h.1)

  pub ops_named : (texts : List wire.Op) → EachFits (HasNumber full) (all_args texts) → named_ops names locals (placed_ops first texts) ≡ Some (ops_of (map (with (anew full)) texts))
  ops_named [] h = refl
  ops_named (o ∷ texts) h =
      let p = each_split (HasNumber full) o.args (all_args texts) h in
      ap (λ k. (k >>= λ found. Some (record { op = o.op; args = found })) >>= λ found. named_ops names locals (placed_ops first texts) >>= λ others. Some (found ∷ others)) (args_named o.args p.0)
      ∙ ap (λ k. k >>= λ others. Some (op_of (with (anew full) o) ∷ others)) (ops_named texts p.1)

  -- ---- one has none

  heap_unnamed : (h : RawHeap) → renamed_heap full h ≡ None → named_heap names (heap_of h) ≡ None
  heap_unnamed (raw_heap.Abstract b) e = absurd cc
  heap_unnamed (raw_heap.Index n) e = missed raw_heap.Index Concrete (names Types n) (names Types n) (λ k. k) e

  value_unnamed : (v : RawVal) → renamed_value full v ≡ None → named_val names (val_of v) ≡ None
  value_unnamed (raw_val.Ref r) e = missed (λ heap. raw_val.Ref (record { nullable = r.nullable; heap = heap })) (λ heap. Ref (record { nullable = r.nullable; heap = heap })) (renamed_heap full r.heap) (named_heap names (heap_of r.heap)) (heap_unnamed r.heap) e
  value_unnamed raw_val.I32 e = absurd cc
  value_unnamed raw_val.I64 e = absurd cc
  value_unnamed raw_val.F32 e = absurd cc
  value_unnamed raw_val.F64 e = absurd cc
  value_unnamed raw_val.V128 e = absurd cc

  block_unnamed : (b : RawBlock) → renamed_block full b ≡ None → named_block names (block_of b) ≡ None
  block_unnamed raw_block.NoResult e = absurd cc
  block_unnamed (raw_block.OneResult v) e = missed raw_block.OneResult OneResult (renamed_value full v) (named_val names (val_of v)) (value_unnamed v) e
  block_unnamed (raw_block.OfType t) e = missed raw_block.OfType OfType (names Types t) (names Types t) (λ k. k) e

  module _ (count : ℕ) where
    arg_unnamed : (a : RawArg) → is_plain_arg first count (placed_arg a) ≡ true → renamed full a ≡ None → named_arg names locals (placed_arg a) ≡ None
    arg_unnamed (args.Function n) plain e = missed args.Function (λ m. Index (Functions, m)) (names Functions n) (names Functions n) (λ k. k) e
    arg_unnamed (args.«Type» n) plain e = missed args.«Type» (λ m. Index (Types, m)) (names Types n) (names Types n) (λ k. k) e
    arg_unnamed (args.Table n) plain e = missed args.Table (λ m. Index (Tables, m)) (names Tables n) (names Tables n) (λ k. k) e
    arg_unnamed (args.Memory n) plain e = missed args.Memory (λ m. Index (Memories, m)) (names Memories n) (names Memories n) (λ k. k) e
    arg_unnamed (args.Global n) plain e = missed args.Global (λ m. Index (Globals, m)) (names Globals n) (names Globals n) (λ k. k) e
    arg_unnamed (args.Tag n) plain e = absurd cc
    arg_unnamed (args.Element n) plain e = absurd cc
    arg_unnamed (args.Data n) plain e = absurd cc
    arg_unnamed (args.Local n) plain e = missed args.Local Local (locals (first + n)) (locals (first + n)) (λ k. k) e
    arg_unnamed (args.Label n) plain e = absurd cc
    arg_unnamed (args.Count n) plain e = absurd cc
    arg_unnamed (args.Number n) plain e = absurd cc
    arg_unnamed (args.Byte b) plain e = absurd cc
    arg_unnamed (args.S32 z) plain e = absurd cc
    arg_unnamed (args.S64 z) plain e = absurd cc
    arg_unnamed (args.F32 bits) plain e = absurd cc
    arg_unnamed (args.F64 bits) plain e = absurd cc
    arg_unnamed (args.Value v) plain e = missed args.Value Value (renamed_value full v) (named_val names (val_of v)) (value_unnamed v) e
    arg_unnamed (args.Heap h) plain e = missed args.Heap Heap (renamed_heap full h) (named_heap names (heap_of h)) (heap_unnamed h) e
    arg_unnamed (args.Block b) plain e = missed args.Block Block (renamed_block full b) (named_block names (block_of b)) (block_unnamed b) e
    arg_unnamed (args.Access flags memory offset) plain e = missed (λ n. args.Access flags n offset) (λ n. Access flags n offset) (names Memories memory) (names Memories memory) (λ k. k) e

    none_behind : {A : Type 0} (o : Option A) (rest : Option (List A)) → rest ≡ None → (o >>= λ found. rest >>= λ others. Some (found ∷ others)) ≡ None
    none_behind None rest e = refl
    none_behind (Some x) rest e = ap (λ k. k >>= λ others. Some (x ∷ others)) e

    args_unnamed : (xs : List RawArg) → list_all (is_plain_arg first count) (map (moved_arg first) (map arg_of xs)) ≡ true → SomeLacks full xs → named_args names locals (map (moved_arg first) (map arg_of xs)) ≡ None
    args_unnamed [] plain h = absurd h
    args_unnamed (a ∷ xs) plain (inl e) =
        let p = parts (is_plain_arg first count (placed_arg a)) (list_all (is_plain_arg first count) (map (moved_arg first) (map arg_of xs))) plain in
        ap (λ o. o >>= λ found. named_args names locals (map (moved_arg first) (map arg_of xs)) >>= λ others. Some (found ∷ others)) (arg_unnamed a p.0 e)
    args_unnamed (a ∷ xs) plain (inr h) =
        let p = parts (is_plain_arg first count (placed_arg a)) (list_all (is_plain_arg first count) (map (moved_arg first) (map arg_of xs))) plain in
        none_behind (named_arg names locals (placed_arg a)) (named_args names locals (map (moved_arg first) (map arg_of xs))) (args_unnamed xs p.1 h)

    pub ops_unnamed : (texts : List wire.Op) → list_all (is_plain_op first count) (placed_ops first texts) ≡ true → SomeLacks full (all_args texts) → named_ops names locals (placed_ops first texts) ≡ None
    ops_unnamed [] plain h = absurd h
    ops_unnamed (o ∷ texts) plain h =
        let p = parts (is_plain_op first count (placed_op first o)) (list_all (is_plain_op first count) (placed_ops first texts)) plain in
        let q = parts (is_plain o.op) (list_all (is_plain_arg first count) (map (moved_arg first) (map arg_of o.args))) p.0 in
        elim (some_split full o.args (all_args texts) h) as (λ _. named_ops names locals (placed_ops first (o ∷ texts)) ≡ None) [
          | inl k ↦ ap (λ k. (k >>= λ found. Some (record { op = o.op; args = found })) >>= λ found. named_ops names locals (placed_ops first texts) >>= λ others. Some (found ∷ others)) (args_unnamed o.args q.1 k)
          | inr k ↦ none_behind (named_op names locals (placed_op first o)) (named_ops names locals (placed_ops first texts)) (ops_unnamed texts p.1 k)
        ]
