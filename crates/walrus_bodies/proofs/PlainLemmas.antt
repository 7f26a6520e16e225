-- Operators within limits as plain ones over places: they nest as over indices, and all proposals allow them.
use Rattle.std.proofs.Common.{◌≡◌, ℕ, ◌+◌, ◌<◌, Bool, true, false, List, [], ◌∷◌, map, refl, ap, ap₂, ◌∙◌, arith, lt-ltb, le-leb}
use Rattle.std.specs.Prelude.{Option, Some, None, ◌&&◌, ◌||◌, not, nat_le, nat_lt, nat_eq, if◌then◌else◌}
use Rattle.std.specs.List.{list_all}
use Rattle.wasm_forms.specs.Writing.{EachFits}
use Rattle.wasm_forms.specs.declared.types.RawHeap.{RawHeap}
use Rattle.wasm_forms.specs.declared.types.RawHeap.TheVariants as raw_heap
use Rattle.wasm_forms.specs.declared.types.RawVal.{RawVal}
use Rattle.wasm_forms.specs.declared.types.RawVal.TheVariants as raw_val
use Rattle.wasm_text.specs.RawArg.{RawArg}
use Rattle.wasm_text.specs.RawArg.TheVariants as raw
use Rattle.wasm_text.specs.RawBlock.{RawBlock}
use Rattle.wasm_text.specs.RawBlock.TheVariants as raw_block
use Rattle.wasm_text.specs.Operators as wire
use Rattle.wasm_opcodes.specs.declared.one_byte.TheConstants.{REF_FUNC}
use Rattle.wasm_text.specs.declared.limits.Limits.{Limits}
use Rattle.wasm_text.specs.Marks.{heap_names, value_names, all_args}
use Rattle.wasm_text.specs.Scans.{BlockWithin}
use Rattle.wasm_text.specs.Classes.{is_plain}
use Rattle.walrus_base.specs.Operators.{Arg, Local}
use Rattle.walrus_code.specs.FromRaw.{heap_of, val_of, block_of, arg_of, ops_of}
use Rattle.walrus_bodies.specs.declared.blocks.Opened.{Opened}
use Rattle.walrus_bodies.specs.declared.blocks.Opened.TheVariants.{Plain}
use Rattle.walrus_bodies.specs.declared.features.Features.{Features}
use Rattle.walrus_bodies.specs.Blocks.{label_below, blocks_meant, blocks_behind, blocks_after, nests, are_nested}
use Rattle.walrus_bodies.specs.Features.{is_legacy, is_wide_arithmetic, is_allowed, are_allowed}
use Rattle.walrus_bodies.specs.Placed.{moved_arg, placed_ops}
use Rattle.walrus_bodies.specs.Plain.{is_plain_heap, is_plain_value, is_plain_block, is_plain_arg, is_plain_op, are_plain}
use Rattle.walrus_bodies.specs.PlainBody.{IsNamed}
use Rattle.walrus_bodies.proofs.PlacedLemmas.{each_front, each_back}
use Rattle.walrus_bodies.proofs.LocatedLemmas.{and_left as left_of, and_right as right_of}

both : {a b : Bool} → a ≡ true → b ≡ true → (a && b) ≡ true
both p q = rw (p, q) refl

-- ---- arguments

heap_plain : (h : RawHeap) → heap_names h ≡ false → is_plain_heap (heap_of h) ≡ true
heap_plain (raw_heap.Abstract b) none = refl
heap_plain (raw_heap.Index t) none = absurd cc

value_plain : (v : RawVal) → value_names v ≡ false → is_plain_value (val_of v) ≡ true
value_plain (raw_val.Ref r) none = heap_plain r.heap none
value_plain raw_val.I32 none = refl
value_plain raw_val.I64 none = refl
value_plain raw_val.F32 none = refl
value_plain raw_val.F64 none = refl
value_plain raw_val.V128 none = refl

block_plain : (limits : Limits) (b : RawBlock) → BlockWithin limits b → is_plain_block (block_of b) ≡ true
block_plain limits raw_block.NoResult fits = refl
block_plain limits (raw_block.OneResult v) fits = value_plain v fits
block_plain limits (raw_block.OfType t) fits = refl

local_plain : (first count n : ℕ) → n < count → (nat_le first (first + n) && nat_lt (first + n) (first + count)) ≡ true
local_plain first count n below = both (le-leb first (first + n) (omega arith)) (lt-ltb (first + n) (first + count) (omega (arith, below)))

module _ (limits : Limits) (first : ℕ) where
  arg_plain : (a : RawArg) → IsNamed limits a → is_plain_arg first limits.locals (moved_arg first (arg_of a)) ≡ true
  arg_plain (raw.Function n) fits = refl
  arg_plain (raw.«Type» n) fits = refl
  arg_plain (raw.Table n) fits = refl
  arg_plain (raw.Memory n) fits = refl
  arg_plain (raw.Global n) fits = refl
  arg_plain (raw.Tag n) fits = absurd fits.1
  arg_plain (raw.Element n) fits = absurd fits.1
  arg_plain (raw.Data n) fits = absurd fits.1
  arg_plain (raw.Local n) fits = local_plain first limits.locals n fits.1
  arg_plain (raw.Label n) fits = refl
  arg_plain (raw.Count n) fits = refl
  arg_plain (raw.Number n) fits = refl
  arg_plain (raw.Byte b) fits = refl
  arg_plain (raw.S32 z) fits = refl
  arg_plain (raw.S64 z) fits = refl
  arg_plain (raw.F32 bits) fits = refl
  arg_plain (raw.F64 bits) fits = refl
  arg_plain (raw.Value v) fits = value_plain v fits.1
  arg_plain (raw.Heap h) fits = heap_plain h fits.1
  arg_plain (raw.Block b) fits = block_plain (record limits { labels = fits.0 }) b fits.1
  arg_plain (raw.Access flags memory offset) fits = refl

  args_plain : (xs : List RawArg) → EachFits (IsNamed limits) xs → list_all (is_plain_arg first limits.locals) (map (moved_arg first) (map arg_of xs)) ≡ true
  args_plain [] fit = refl
  args_plain (x ∷ xs) fit = both (arg_plain x fit.0) (args_plain xs fit.1)

  ops_plain : (texts : List wire.Op) → EachFits (IsNamed limits) (all_args texts) → list_all (λ o. is_plain o.op) texts ≡ true → list_all (is_plain_op first limits.locals) (placed_ops first texts) ≡ true
  ops_plain [] fit plain = refl
  ops_plain (o ∷ os) fit plain =
      both (both (left_of (is_plain o.op) (list_all (λ o. is_plain o.op) os) plain) (args_plain o.args (each_front (IsNamed limits) o.args (all_args os) fit)))
      (ops_plain os (each_back (IsNamed limits) o.args (all_args os) fit) (right_of (is_plain o.op) (list_all (λ o. is_plain o.op) os) plain))

-- ---- nesting doesn't see where locals lie

label_moved : (by count : ℕ) (x : Arg) → label_below count (moved_arg by x) ≡ label_below count x
label_moved by count (Local n) = refl
label_moved by count x = refl

labels_moved : (by count : ℕ) (xs : List Arg) → list_all (label_below count) (map (moved_arg by) xs) ≡ list_all (label_below count) xs
labels_moved by count [] = refl
labels_moved by count (x ∷ xs) = ap₂ (λ (s t : Bool). s && t) (label_moved by count x) (labels_moved by count xs)

after_moved : (by op : ℕ) (xs : List Arg) (blocks : List Opened) → blocks_after op (map (moved_arg by) xs) blocks ≡ blocks_after op xs blocks
after_moved by op xs [] = refl
after_moved by op xs (block ∷ around) =
    ap (λ (t : Bool). if t then blocks_behind op (block ∷ around) else None) (labels_moved by (blocks_meant op (block ∷ around)) xs)

nests_moved : (by : ℕ) (texts : List wire.Op) (blocks : Option (List Opened)) → nests blocks (placed_ops by texts) ≡ nests blocks (ops_of texts)
nests_moved by texts None = refl
nests_moved by [] (Some blocks) = refl
nests_moved by (o ∷ os) (Some blocks) =
    ap (λ (found : Option (List Opened)). nests found (placed_ops by os)) (after_moved by o.op (map arg_of o.args) blocks) ∙ nests_moved by os (blocks_after o.op (map arg_of o.args) blocks)

pub nested_moved : (by : ℕ) (texts : List wire.Op) → are_nested (placed_ops by texts) ≡ are_nested (ops_of texts)
nested_moved by texts = nests_moved by texts (Some (Plain ∷ []))

-- plain operators within limits that nest over indices are plain ones over places
pub texts_plain : (limits : Limits) (first : ℕ) (texts : List wire.Op) → EachFits (IsNamed limits) (all_args texts) → list_all (λ o. is_plain o.op) texts ≡ true → are_nested (ops_of texts) ≡ true
    → are_plain first limits.locals (placed_ops first texts) ≡ true
texts_plain limits first texts fit plain nested = both (ops_plain limits first texts fit plain) (nested_moved first texts ∙ nested)

-- ---- what is plain is allowed

pub allowed_if : (l r w asked stable : Bool) → (not (l || r) && not w) ≡ true → ((not l || asked) && not (w && stable)) ≡ true
allowed_if true r w asked stable is = absurd cc
allowed_if false true w asked stable is = absurd cc
allowed_if false false true asked stable is = absurd cc
allowed_if false false false asked stable is = refl

pub op_allowed : (features : Features) (op : ℕ) → is_plain op ≡ true → is_allowed features op ≡ true
op_allowed features op plain = allowed_if (is_legacy op) (nat_eq op REF_FUNC) (is_wide_arithmetic op) features.legacy_exceptions features.only_stable plain

pub texts_allowed : (features : Features) (first : ℕ) (texts : List wire.Op) → list_all (λ o. is_plain o.op) texts ≡ true → are_allowed features (placed_ops first texts) ≡ true
texts_allowed features first [] plain = refl
texts_allowed features first (o ∷ os) plain =
    both (op_allowed features o.op (left_of (is_plain o.op) (list_all (λ o. is_plain o.op) os) plain)) (texts_allowed features first os (right_of (is_plain o.op) (list_all (λ o. is_plain o.op) os) plain))
