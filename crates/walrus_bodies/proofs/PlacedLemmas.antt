-- What look-ups find where each index below its limit is the place of its item, and locals lie one behind another.
use Rattle.std.proofs.Common.{◌≡◌, ℕ, ◌+◌, false, List, [], ◌∷◌, ◌++◌, map, refl, ap, ap₂}
use Rattle.std.specs.Prelude.{Option, Some}
use Rattle.wasm_forms.specs.Reading.{◌>>=◌}
use Rattle.wasm_forms.specs.Writing.{EachFits}
use Rattle.wasm_forms.specs.declared.types.RawHeap.{RawHeap}
use Rattle.wasm_forms.specs.declared.types.RawHeap.TheVariants as raw_heap
use Rattle.wasm_forms.specs.declared.types.RawVal.{RawVal}
use Rattle.wasm_forms.specs.declared.types.RawVal.TheVariants as raw_val
use Rattle.wasm_text.specs.RawArg.{RawArg}
use Rattle.wasm_text.specs.RawArg.TheVariants as raw
use Rattle.wasm_text.specs.RawBlock.{RawBlock}
use Rattle.wasm_text.specs.RawBlock.TheVariants as raw_block
use Rattle.wasm_text.specs.Operators as wire
use Rattle.wasm_text.specs.declared.limits.Limits.{Limits}
use Rattle.wasm_text.specs.Marks.{heap_names, value_names, all_args}
use Rattle.wasm_text.specs.Scans.{BlockWithin}
use Rattle.walrus_base.specs.Types.{Ref}
use Rattle.walrus_base.specs.Operators.{Types, Functions, Tables, Memories, Globals, OneResult, OfType, Arg, Index, Local, Value, Heap, Block, Access, Op}
use Rattle.walrus_code.specs.FromRaw.{heap_of, val_of, block_of, arg_of, op_of, ops_of}
use Rattle.walrus_code.specs.Names.{Lookup, named_heap, named_val, named_block, named_arg, named_args, named_op, named_ops}
use Rattle.walrus_bodies.specs.Placed.{moved_arg, placed_op, placed_ops}
use Rattle.walrus_bodies.specs.PlainBody.{IsNamed}
use Rattle.walrus_bodies.specs.Scanned.{AreInPlace, LieFrom}

-- what is made of what is found
found_so : {A B : Type 0} (o : Option A) (x : A) (make : A → B) → o ≡ Some x → (o >>= λ found. Some (make found)) ≡ Some (make x)
found_so {A = A} o x make is = ap (λ (p : Option A). p >>= λ found. Some (make found)) is

each_so : {A : Type 0} (o : Option A) (rest : Option (List A)) (x : A) (xs : List A) → o ≡ Some x → rest ≡ Some xs → (o >>= λ y. rest >>= λ ys. Some (y ∷ ys)) ≡ Some (x ∷ xs)
each_so {A = A} o rest x xs is are = ap₂ (λ (p : Option A) (q : Option (List A)). p >>= λ y. q >>= λ ys. Some (y ∷ ys)) is are

pub each_front : {X : Type 0} (P : X → Type 0) (xs ys : List X) → EachFits P (xs ++ ys) → EachFits P xs
each_front P [] ys h = tt
each_front P (x ∷ xs) ys h = (h.0, each_front P xs ys h.1)

pub each_back : {X : Type 0} (P : X → Type 0) (xs ys : List X) → EachFits P (xs ++ ys) → EachFits P ys
each_back P [] ys h = h
each_back P (x ∷ xs) ys h = each_back P xs ys h.1

-- ---- what names no index is the same under each look-up

heap_same : (names : Lookup) (h : RawHeap) → heap_names h ≡ false → named_heap names (heap_of h) ≡ Some (heap_of h)
heap_same names (raw_heap.Abstract b) none = refl
heap_same names (raw_heap.Index t) none = absurd cc

value_same : (names : Lookup) (v : RawVal) → value_names v ≡ false → named_val names (val_of v) ≡ Some (val_of v)
value_same names (raw_val.Ref r) none = found_so (named_heap names (heap_of r.heap)) (heap_of r.heap) (λ heap. Ref (record { nullable = r.nullable; heap = heap })) (heap_same names r.heap none)
value_same names raw_val.I32 none = refl
value_same names raw_val.I64 none = refl
value_same names raw_val.F32 none = refl
value_same names raw_val.F64 none = refl
value_same names raw_val.V128 none = refl

-- ---- what is within limits is found

module _ (limits : Limits) (first : ℕ) (names : Lookup) (locals : ℕ → Option ℕ) (same : AreInPlace limits names) (from : LieFrom first limits.locals locals) where
  block_found : (b : RawBlock) → BlockWithin limits b → named_block names (block_of b) ≡ Some (block_of b)
  block_found raw_block.NoResult fits = refl
  block_found (raw_block.OneResult v) fits = found_so (named_val names (val_of v)) (val_of v) OneResult (value_same names v fits)
  block_found (raw_block.OfType t) fits = found_so (names Types t) t OfType (same Types t fits)

  arg_found : (a : RawArg) → IsNamed limits a → named_arg names locals (arg_of a) ≡ Some (moved_arg first (arg_of a))
  arg_found (raw.Function n) fits = found_so (names Functions n) n (λ k. Index (Functions, k)) (same Functions n fits.1)
  arg_found (raw.«Type» n) fits = found_so (names Types n) n (λ k. Index (Types, k)) (same Types n fits.1)
  arg_found (raw.Table n) fits = found_so (names Tables n) n (λ k. Index (Tables, k)) (same Tables n fits.1)
  arg_found (raw.Memory n) fits = found_so (names Memories n) n (λ k. Index (Memories, k)) (same Memories n fits.1)
  arg_found (raw.Global n) fits = found_so (names Globals n) n (λ k. Index (Globals, k)) (same Globals n fits.1)
  arg_found (raw.Tag n) fits = absurd fits.1
  arg_found (raw.Element n) fits = absurd fits.1
  arg_found (raw.Data n) fits = absurd fits.1
  arg_found (raw.Local n) fits = found_so (locals n) (first + n) Local (from n fits.1)
  arg_found (raw.Label n) fits = refl
  arg_found (raw.Count n) fits = refl
  arg_found (raw.Number n) fits = refl
  arg_found (raw.Byte b) fits = refl
  arg_found (raw.S32 z) fits = refl
  arg_found (raw.S64 z) fits = refl
  arg_found (raw.F32 bits) fits = refl
  arg_found (raw.F64 bits) fits = refl
  arg_found (raw.Value v) fits = found_so (named_val names (val_of v)) (val_of v) Value (value_same names v fits.1)
  arg_found (raw.Heap h) fits = found_so (named_heap names (heap_of h)) (heap_of h) Heap (heap_same names h fits.1)
  arg_found (raw.Block b) fits = found_so (named_block names (block_of b)) (block_of b) Block (block_found b (within b fits.1))
    where
      within : (b : RawBlock) → BlockWithin (record limits { labels = fits.0 }) b → BlockWithin limits b
      within raw_block.NoResult h = h
      within (raw_block.OneResult v) h = h
      within (raw_block.OfType t) h = h
  arg_found (raw.Access flags memory offset) fits = found_so (names Memories memory) memory (λ k. Access flags k offset) (same Memories memory fits.1)

  args_found : (xs : List RawArg) → EachFits (IsNamed limits) xs → named_args names locals (map arg_of xs) ≡ Some (map (moved_arg first) (map arg_of xs))
  args_found [] fit = refl
  args_found (x ∷ xs) fit =
      each_so (named_arg names locals (arg_of x)) (named_args names locals (map arg_of xs)) (moved_arg first (arg_of x)) (map (moved_arg first) (map arg_of xs)) (arg_found x fit.0) (args_found xs fit.1)

  -- the look-ups give the operators over places
  pub ops_found : (texts : List wire.Op) → EachFits (IsNamed limits) (all_args texts) → named_ops names locals (ops_of texts) ≡ Some (placed_ops first texts)
  ops_found [] fit = refl
  ops_found (o ∷ os) fit =
      let here = found_so (named_args names locals (map arg_of o.args)) (map (moved_arg first) (map arg_of o.args)) (λ (args : List Arg). let x : Op = record { op = o.op; args = args } in x)
      (args_found o.args (each_front (IsNamed limits) o.args (all_args os) fit)) in
      each_so (named_op names locals (op_of o)) (named_ops names locals (ops_of os)) (placed_op first o) (placed_ops first os) here
      (ops_found os (each_back (IsNamed limits) o.args (all_args os) fit))
