-- Whether an operator is spelled doesn't hang on what its indices are: its arguments without these.
use Rattle.std.proofs.Common.{◌≡◌, ℕ, zero, suc, Bool, true, false, List, [], ◌∷◌, map, Option, Some, None, option_map, refl, sym, ap, ◌∙◌, subst}
use Rattle.std.specs.Prelude.{nat_lt, if◌then◌else◌}
use Rattle.std.specs.List.{AllByRecursion}
use Rattle.wasm_forms.specs.Reading.{◌>>=◌}
use Rattle.wasm_forms.proofs.Bind.{bind_some, some_same}
use Rattle.wasm_forms.specs.Types.{HeapStands, ValueStands}
use Rattle.wasm_forms.specs.declared.types.RawHeap.{RawHeap}
use Rattle.wasm_forms.specs.declared.types.RawHeap.TheVariants as raw_heap
use Rattle.wasm_forms.specs.declared.types.RawVal.{RawVal}
use Rattle.wasm_forms.specs.declared.types.RawVal.TheVariants as raw_val
use Rattle.wasm_operators.specs.declared.kind.Kind.{Kind}
use Rattle.wasm_operators.specs.declared.kind.Kind.TheVariants as kinds
use Rattle.wasm_operators.specs.declared.operator.RawArg.{RawArg}
use Rattle.wasm_operators.specs.declared.operator.RawArg.TheVariants as raw
use Rattle.wasm_operators.specs.declared.operator.RawBlock.{RawBlock}
use Rattle.wasm_operators.specs.declared.operator.RawBlock.TheVariants as raw_block
use Rattle.wasm_operators.specs.Operators as wire
use Rattle.wasm_operators.specs.Table.{kinds_of}
use Rattle.wasm_operators.specs.Standing.{heap_spells, value_spells, block_spells, is_of, behind_one, behind_value, behind_catch, behind_entries, behind_counted, behind_kind, behind_kinds, is_done, spelled_by, spells}
use Rattle.walrus_base.specs.Operators.{Space, Types, Functions, Tables, Memories, Tags, Globals, Elements, DataSegments, Arg, Index, Label, Local, Number, Count, Byte, S32, S64, Bits32, Bits64, Value, Heap, Block, Access}
use Rattle.walrus_code.specs.FromRaw.{arg_of}
use Rattle.walrus_code.specs.Stands.{BlockStands, ArgStands}

abbrev pub space_tag : Space → RawArg
space_tag Types = raw.«Type» 0
space_tag Functions = raw.Function 0
space_tag Tables = raw.Table 0
space_tag Memories = raw.Memory 0
space_tag Tags = raw.Tag 0
space_tag Globals = raw.Global 0
space_tag Elements = raw.Element 0
space_tag DataSegments = raw.Data 0

-- an argument with every index in it 0
abbrev pub arg_tag : Arg → RawArg
arg_tag (Index x) = space_tag x.0
arg_tag (Local n) = raw.Local 0
arg_tag (Label n) = raw.Label n
arg_tag (Number n) = raw.Number n
arg_tag (Count n) = raw.Count n
arg_tag (Byte n) = raw.Byte n
arg_tag (S32 z) = raw.S32 z
arg_tag (S64 z) = raw.S64 z
arg_tag (Bits32 n) = raw.F32 n
arg_tag (Bits64 n) = raw.F64 n
arg_tag (Value v) = raw.Value raw_val.I32
arg_tag (Heap h) = raw.Heap (raw_heap.Index 0)
arg_tag (Block b) = raw.Block raw_block.NoResult
arg_tag (Access flags memory offset) = raw.Access flags 0 offset

abbrev pub tag : RawArg → RawArg
tag x = arg_tag (arg_of x)

-- ---- one argument

heap_good : (h : RawHeap) → HeapStands h → heap_spells h ≡ true
heap_good (raw_heap.Abstract b) s = s
heap_good (raw_heap.Index n) s = refl

value_good : (v : RawVal) → ValueStands v → value_spells v ≡ true
value_good (raw_val.Ref r) s = heap_good r.heap s
value_good raw_val.I32 s = refl
value_good raw_val.I64 s = refl
value_good raw_val.F32 s = refl
value_good raw_val.F64 s = refl
value_good raw_val.V128 s = refl

block_good : (b : RawBlock) → BlockStands b → block_spells b ≡ true
block_good raw_block.NoResult s = refl
block_good (raw_block.OneResult v) s = value_good v s
block_good (raw_block.OfType t) s = refl

of_function : (kind : Kind) (n : ℕ) → is_of kind (raw.Function 0) ≡ is_of kind (raw.Function n)
of_function kinds.Function n = refl
of_function kind n = refl

of_type : (kind : Kind) (n : ℕ) → is_of kind (raw.«Type» 0) ≡ is_of kind (raw.«Type» n)
of_type kinds.«Type» n = refl
of_type kind n = refl

of_table : (kind : Kind) (n : ℕ) → is_of kind (raw.Table 0) ≡ is_of kind (raw.Table n)
of_table kinds.Table n = refl
of_table kind n = refl

of_memory : (kind : Kind) (n : ℕ) → is_of kind (raw.Memory 0) ≡ is_of kind (raw.Memory n)
of_memory kinds.Memory n = refl
of_memory kind n = refl

of_global : (kind : Kind) (n : ℕ) → is_of kind (raw.Global 0) ≡ is_of kind (raw.Global n)
of_global kinds.Global n = refl
of_global kind n = refl

of_tag : (kind : Kind) (n : ℕ) → is_of kind (raw.Tag 0) ≡ is_of kind (raw.Tag n)
of_tag kinds.Tag n = refl
of_tag kind n = refl

of_element : (kind : Kind) (n : ℕ) → is_of kind (raw.Element 0) ≡ is_of kind (raw.Element n)
of_element kinds.Element n = refl
of_element kind n = refl

of_data : (kind : Kind) (n : ℕ) → is_of kind (raw.Data 0) ≡ is_of kind (raw.Data n)
of_data kinds.Data n = refl
of_data kind n = refl

of_local : (kind : Kind) (n : ℕ) → is_of kind (raw.Local 0) ≡ is_of kind (raw.Local n)
of_local kinds.Local n = refl
of_local kind n = refl

of_access : (kind : Kind) (flags memory offset : ℕ) → is_of kind (raw.Access flags 0 offset) ≡ is_of kind (raw.Access flags memory offset)
of_access kinds.Access flags memory offset = refl
of_access kind flags memory offset = refl

of_value : (kind : Kind) (v : RawVal) → is_of kind (raw.Value raw_val.I32) ≡ is_of kind (raw.Value v)
of_value kinds.Block v = refl
of_value kind v = refl

of_heap : (kind : Kind) (h : RawHeap) → HeapStands h → is_of kind (raw.Heap (raw_heap.Index 0)) ≡ is_of kind (raw.Heap h)
of_heap kinds.Heap h s = sym (heap_good h s)
of_heap kind h s = refl

of_block : (kind : Kind) (b : RawBlock) → BlockStands b → is_of kind (raw.Block raw_block.NoResult) ≡ is_of kind (raw.Block b)
of_block kinds.Block b s = sym (block_good b s)
of_block kind b s = refl

pub is_of_tag : (kind : Kind) (x : RawArg) → ArgStands x → is_of kind (tag x) ≡ is_of kind x
is_of_tag kind (raw.Function n) s = of_function kind n
is_of_tag kind (raw.«Type» n) s = of_type kind n
is_of_tag kind (raw.Table n) s = of_table kind n
is_of_tag kind (raw.Memory n) s = of_memory kind n
is_of_tag kind (raw.Global n) s = of_global kind n
is_of_tag kind (raw.Tag n) s = of_tag kind n
is_of_tag kind (raw.Element n) s = of_element kind n
is_of_tag kind (raw.Data n) s = of_data kind n
is_of_tag kind (raw.Local n) s = of_local kind n
is_of_tag kind (raw.Value v) s = of_value kind v
is_of_tag kind (raw.Heap h) s = of_heap kind h s
is_of_tag kind (raw.Block b) s = of_block kind b s
is_of_tag kind (raw.Access flags memory offset) s = of_access kind flags memory offset
is_of_tag kind x s = refl

-- ---- what stands behind arguments

-- each argument stands
abbrev pub Stand : List RawArg → Type 0
Stand xs = AllByRecursion ArgStands xs

abbrev Skip : Type 0
Skip = List RawArg → Option (List RawArg)

abbrev tags_of : Option (List RawArg) → Option (List RawArg)
tags_of found = option_map (map tag) found

-- the step goes behind the same arguments without their indices, and those behind it stand
record Follows (skip : Skip) : Type 0 where
  same : (xs : List RawArg) → Stand xs → skip (map tag xs) ≡ tags_of (skip xs)
  still : (xs rest : List RawArg) → Stand xs → skip xs ≡ Some rest → Stand rest

bind_same : (f g : Skip) (xs : List RawArg) (found : Option (List RawArg)) → ((ys : List RawArg) → found ≡ Some ys → g (map tag ys) ≡ tags_of (g ys)) → f (map tag xs) ≡ tags_of found → (f (map tag xs) >>= g) ≡ tags_of (found >>= g)
bind_same f g xs None next is = ap (λ (o : Option (List RawArg)). o >>= g) is
bind_same f g xs (Some ys) next is = ap (λ (o : Option (List RawArg)). o >>= g) is ∙ next ys refl

bind_follows : (f g : Skip) → Follows f → Follows g → Follows (λ xs. f xs >>= g)
bind_follows f g one next = record {
  same = λ xs s. bind_same f g xs (f xs) (λ ys e. next.same ys (one.still xs ys s e)) (one.same xs s);
  still = λ xs rest s e. let b = bind_some (f xs) g rest e in next.still b.0 rest (one.still xs b.0 s b.1) b.2;
}

pass_follows : Follows Some
pass_follows = record { same = λ xs s. refl; still = λ xs rest s e. subst Stand (some_same _ _ e) s }

some_if : (t : Bool) (xs : List RawArg) → (if t then Some (map tag xs) else None) ≡ tags_of (if t then Some xs else None)
some_if true xs = refl
some_if false xs = refl

still_if : (t : Bool) (xs rest : List RawArg) → Stand xs → (if t then Some xs else None) ≡ Some rest → Stand rest
still_if true xs rest s e = subst Stand (some_same _ _ e) s
still_if false xs rest s e = absurd cc

one_same : (kind : Kind) (xs : List RawArg) → Stand xs → behind_one kind (map tag xs) ≡ tags_of (behind_one kind xs)
one_same kind [] s = refl
one_same kind (x ∷ xs) s = ap (λ (t : Bool). if t then Some (map tag xs) else None) (is_of_tag kind x s.0) ∙ some_if (is_of kind x) xs

one_still : (kind : Kind) (xs rest : List RawArg) → Stand xs → behind_one kind xs ≡ Some rest → Stand rest
one_still kind [] rest s e = absurd cc
one_still kind (x ∷ xs) rest s e = still_if (is_of kind x) xs rest s.1 e

one_follows : (kind : Kind) → Follows (behind_one kind)
one_follows kind = record { same = one_same kind; still = one_still kind }

entries_follow : (entry : Skip) → Follows entry → (n : ℕ) → Follows (behind_entries entry n)
unfolding behind_entries
entries_follow entry one zero = pass_follows
entries_follow entry one (suc n) = bind_follows entry (behind_entries entry n) one (entries_follow entry one n)

pair_follows : Follows (λ xs. behind_one kinds.Tag xs >>= behind_one kinds.Label)
pair_follows = bind_follows (behind_one kinds.Tag) (behind_one kinds.Label) (one_follows kinds.Tag) (one_follows kinds.Label)

caught : (t u : Bool) → Follows (λ xs. if t then (behind_one kinds.Tag xs >>= behind_one kinds.Label) else if u then behind_one kinds.Label xs else None)
caught true u = pair_follows
caught false true = one_follows kinds.Label
caught false false = record { same = λ xs s. refl; still = λ xs rest s e. absurd cc }

catch_same : (xs : List RawArg) → Stand xs → behind_catch (map tag xs) ≡ tags_of (behind_catch xs)
catch_same [] s = refl
catch_same (raw.Byte b ∷ xs) s = (caught (nat_lt b 2) (nat_lt b 4)).same xs s.1
catch_same (x ∷ xs) s = refl

catch_still : (xs rest : List RawArg) → Stand xs → behind_catch xs ≡ Some rest → Stand rest
catch_still [] rest s e = absurd cc
catch_still (raw.Byte b ∷ xs) rest s e = (caught (nat_lt b 2) (nat_lt b 4)).still xs rest s.1 e
catch_still (x ∷ xs) rest s e = absurd cc

value_same : (xs : List RawArg) → Stand xs → behind_value (map tag xs) ≡ tags_of (behind_value xs)
value_same [] s = refl
value_same (raw.Value v ∷ xs) s = sym (ap (λ (t : Bool). tags_of (if t then Some xs else None)) (value_good v s.0))
value_same (x ∷ xs) s = refl

value_still : (xs rest : List RawArg) → Stand xs → behind_value xs ≡ Some rest → Stand rest
value_still [] rest s e = absurd cc
value_still (raw.Value v ∷ xs) rest s e = still_if (value_spells v) xs rest s.1 e
value_still (x ∷ xs) rest s e = absurd cc

module _ (entry : Skip) (one : Follows entry) where
  counted_same : (xs : List RawArg) → Stand xs → behind_counted entry (map tag xs) ≡ tags_of (behind_counted entry xs)
  counted_same [] s = refl
  counted_same (raw.Count n ∷ xs) s = (entries_follow entry one n).same xs s.1
  counted_same (x ∷ xs) s = refl

  counted_still : (xs rest : List RawArg) → Stand xs → behind_counted entry xs ≡ Some rest → Stand rest
  counted_still [] rest s e = absurd cc
  counted_still (raw.Count n ∷ xs) rest s e = (entries_follow entry one n).still xs rest s.1 e
  counted_still (x ∷ xs) rest s e = absurd cc

  counted_follows : Follows (behind_counted entry)
  counted_follows = record { same = counted_same; still = counted_still }

catch_follows : Follows behind_catch
catch_follows = record { same = catch_same; still = catch_still }

value_follows : Follows behind_value
value_follows = record { same = value_same; still = value_still }

kind_follows : (kind : Kind) → Follows (behind_kind kind)
kind_follows kinds.Nothing = pass_follows
kind_follows kinds.Catches = counted_follows behind_catch catch_follows
kind_follows kinds.Labels = counted_follows (behind_one kinds.Label) (one_follows kinds.Label)
kind_follows kinds.Values = counted_follows behind_value value_follows
kind_follows kinds.SixteenBytes = entries_follow (behind_one kinds.Byte) (one_follows kinds.Byte) 16
kind_follows kinds.Block = one_follows kinds.Block
kind_follows kinds.Label = one_follows kinds.Label
kind_follows kinds.Function = one_follows kinds.Function
kind_follows kinds.«Type» = one_follows kinds.«Type»
kind_follows kinds.Table = one_follows kinds.Table
kind_follows kinds.Memory = one_follows kinds.Memory
kind_follows kinds.Global = one_follows kinds.Global
kind_follows kinds.Tag = one_follows kinds.Tag
kind_follows kinds.Element = one_follows kinds.Element
kind_follows kinds.Data = one_follows kinds.Data
kind_follows kinds.Local = one_follows kinds.Local
kind_follows kinds.Access = one_follows kinds.Access
kind_follows kinds.Heap = one_follows kinds.Heap
kind_follows kinds.Number = one_follows kinds.Number
kind_follows kinds.Byte = one_follows kinds.Byte
kind_follows kinds.S32 = one_follows kinds.S32
kind_follows kinds.S64 = one_follows kinds.S64
kind_follows kinds.F32 = one_follows kinds.F32
kind_follows kinds.F64 = one_follows kinds.F64

kinds_follow : (ks : List Kind) → Follows (behind_kinds ks)
kinds_follow [] = pass_follows
kinds_follow (kind ∷ ks) = bind_follows (behind_kind kind) (behind_kinds ks) (kind_follows kind) (kinds_follow ks)

-- ---- operators

done_same : (found : Option (List RawArg)) → is_done (tags_of found) ≡ is_done found
done_same None = refl
done_same (Some []) = refl
done_same (Some (x ∷ xs)) = refl

by_same : (k : Option (List Kind)) (xs : List RawArg) → Stand xs → spelled_by k (map tag xs) ≡ spelled_by k xs
by_same None xs s = refl
by_same (Some ks) xs s = ap is_done ((kinds_follow ks).same xs s) ∙ done_same (behind_kinds ks xs)

abbrev pub tagged : ℕ → List RawArg → wire.Op
tagged op xs = record { op = op; args = map tag xs }

pub spells_same : (o : wire.Op) → Stand o.args → spells (tagged o.op o.args) ≡ spells o
unfolding spells
spells_same o s = by_same (kinds_of o.op) o.args s
