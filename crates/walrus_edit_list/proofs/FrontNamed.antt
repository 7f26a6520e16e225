-- Operators that were looked up among fewer items are found among more.
use Rattle.std.proofs.Common.{◌≡◌, ℕ, List, [], ◌∷◌, ◌++◌, map, Option, Some, replicate, refl, sym, ap, ap₂, ◌∙◌}
use Rattle.wasm_forms.specs.Reading.{◌>>=◌}
use Rattle.wasm_forms.specs.declared.types.RawVal.{RawVal}
use Rattle.wasm_forms.proofs.Bind.{bind_at, bind_some, some_same}
use Rattle.walrus_base.specs.Types.{HeapType, OfHeap, Concrete, Exact, ValType, I32, I64, F32, F64, V128, Ref}
use Rattle.walrus_base.specs.Operators.{Space, Op, BlockType, NoResult, OneResult, OfType, Arg, Index, Label, Local, Number, Count, Byte, S32, S64, Bits32, Bits64, Value, Heap, Block, Access}
use Rattle.walrus_code.specs.FromRaw.{val_of}
use Rattle.walrus_code.specs.Names.{Lookup, named_arg, named_args, named_block, named_heap, named_op, named_ops, named_val}
use Rattle.walrus_code.proofs.Named.{ops_again, val_again}
use Rattle.walrus_bodies.specs.Body.{declared_types}
use Rattle.walrus_edit_list.specs.Joined.{itself}

pub itself_is : (space : Space) (n found : ℕ) → itself space n ≡ Some found → found ≡ n
itself_is space n found is = cc

heap_itself : (h : HeapType ℕ) → named_heap itself h ≡ Some h
heap_itself (OfHeap h) = refl
heap_itself (Concrete t) = refl
heap_itself (Exact t) = refl

pub val_itself : (v : ValType ℕ) → named_val itself v ≡ Some v
val_itself (Ref r) = ap (λ (o : Option (HeapType ℕ)). o >>= λ heap. Some (Ref (record { nullable = r.nullable; heap = heap }))) (heap_itself r.heap)
val_itself I32 = refl
val_itself I64 = refl
val_itself F32 = refl
val_itself F64 = refl
val_itself V128 = refl

block_itself : (b : BlockType) → named_block itself b ≡ Some b
block_itself NoResult = refl
block_itself (OneResult v) = ap (λ (o : Option (ValType ℕ)). o >>= λ found. Some (OneResult found)) (val_itself v)
block_itself (OfType t) = refl

abbrev own : ℕ → Option ℕ
own n = Some n

arg_itself : (a : Arg) → named_arg itself own a ≡ Some a
arg_itself (Index x) = refl
arg_itself (Local n) = refl
arg_itself (Value v) = ap (λ (o : Option (ValType ℕ)). o >>= λ found. Some (Value found)) (val_itself v)
arg_itself (Heap h) = ap (λ (o : Option (HeapType ℕ)). o >>= λ found. Some (Heap found)) (heap_itself h)
arg_itself (Block b) = ap (λ (o : Option BlockType). o >>= λ found. Some (Block found)) (block_itself b)
arg_itself (Access flags memory offset) = refl
arg_itself (Label n) = refl
arg_itself (Number n) = refl
arg_itself (Count n) = refl
arg_itself (Byte n) = refl
arg_itself (S32 n) = refl
arg_itself (S64 n) = refl
arg_itself (Bits32 n) = refl
arg_itself (Bits64 n) = refl

args_itself : (args : List Arg) → named_args itself own args ≡ Some args
args_itself [] = refl
args_itself (a ∷ args) = ap₂ (λ (o : Option Arg) (os : Option (List Arg)). o >>= λ found. os >>= λ others. Some (found ∷ others)) (arg_itself a) (args_itself args)

ops_itself : (ops : List Op) → named_ops itself own ops ≡ Some ops
ops_itself [] = refl
ops_itself (o ∷ ops) = ap₂ (λ (args : Option (List Arg)) (os : Option (List Op)). (args >>= λ found. let q : Op = record { op = o.op; args = found } in Some q) >>= λ found. os >>= λ others. Some (found ∷ others)) (args_itself o.args) (ops_itself ops)

-- ---- in place

module _ (names : Lookup) (in_place : (space : Space) (n found : ℕ) → names space n ≡ Some found → found ≡ n) where
  same : (space : Space) (n found : ℕ) → names space n ≡ Some found → itself space found ≡ itself space n
  same space n found is = ap (λ (k : ℕ). Some k) (in_place space n found is)

  val_grows : (v found : ValType ℕ) → named_val names v ≡ Some found → named_val itself v ≡ Some found
  val_grows v found is = sym (val_again names itself itself same v found is) ∙ val_itself found

  pub types_grow : (ds : List (ℕ × RawVal)) (types : List (ValType ℕ)) → declared_types names ds ≡ Some types → declared_types itself ds ≡ Some types
  types_grow [] types is = is
  types_grow (d ∷ ds) types is =
      let one = bind_some (named_val names (val_of d.1)) (λ (v : ValType ℕ). declared_types names ds >>= λ (others : List (ValType ℕ)). Some (replicate d.0 v ++ others)) types is in
      let rest = bind_some (declared_types names ds) (λ (others : List (ValType ℕ)). Some (replicate d.0 one.0 ++ others)) types one.2 in
      ap₂ (λ (o : Option (ValType ℕ)) (os : Option (List (ValType ℕ))). o >>= λ v. os >>= λ others. Some (replicate d.0 v ++ others)) (val_grows (val_of d.1) one.0 one.1) (types_grow ds rest.0 rest.1)
      ∙ rest.2

  pub ops_grow : (few more : ℕ → Option ℕ) → ((n found : ℕ) → few n ≡ Some found → more n ≡ Some found) → (ops found : List Op) → named_ops names few ops ≡ Some found → named_ops itself more ops ≡ Some found
  ops_grow few more locals ops found is = sym (ops_again names itself itself same few own more (λ n k at. sym (locals n k at)) ops found is) ∙ ops_itself found

-- ---- lists of operators

module _ (names : Lookup) (locals : ℕ → Option ℕ) where
  pub ops_append : (a b found others : List Op) → named_ops names locals a ≡ Some found → named_ops names locals b ≡ Some others → named_ops names locals (a ++ b) ≡ Some (found ++ others)
  ops_append [] b found others is rest = rest ∙ ap (λ (xs : List Op). Some (xs ++ others)) (some_same [] found is)
  ops_append (o ∷ a) b found others is rest =
      let one = bind_some (named_op names locals o) (λ (y : Op). named_ops names locals a >>= λ (ys : List Op). Some (y ∷ ys)) found is in
      let more = bind_some (named_ops names locals a) (λ (ys : List Op). Some (one.0 ∷ ys)) found one.2 in
      bind_at (named_op names locals o) (λ (y : Op). named_ops names locals (a ++ b) >>= λ (ys : List Op). Some (y ∷ ys)) one.0 one.1
      ∙ bind_at (named_ops names locals (a ++ b)) (λ (ys : List Op). Some (one.0 ∷ ys)) (more.0 ++ others) (ops_append a b more.0 others more.1 rest)
      ∙ ap (λ (xs : List Op). Some (xs ++ others)) (some_same (one.0 ∷ more.0) found more.2)

  -- what is found up to a last one is found of all but a last one
  pub ops_but_last : {A : Type 0} (view : A → Op) (texts : List A) (front : List Op) (last : Op) → named_ops names locals (map view texts) ≡ Some (front ++ last ∷ [])
      → (ts : List A) × ((t : A) × (texts ≡ ts ++ t ∷ []) × (named_ops names locals (map view ts) ≡ Some front))
  ops_but_last view [] [] last is = absurd (cc)
  ops_but_last view [] (f ∷ front) last is = absurd (cc)
  ops_but_last view (t ∷ []) [] last is = ([], (t, refl, refl))
  ops_but_last view (t ∷ u ∷ texts) [] last is =
      let one = bind_some (named_op names locals (view t)) (λ (y : Op). named_ops names locals (map view (u ∷ texts)) >>= λ (ys : List Op). Some (y ∷ ys)) (last ∷ []) is in
      let more = bind_some (named_ops names locals (map view (u ∷ texts))) (λ (ys : List Op). Some (one.0 ∷ ys)) (last ∷ []) one.2 in
      let two = bind_some (named_op names locals (view u)) (λ (y : Op). named_ops names locals (map view texts) >>= λ (ys : List Op). Some (y ∷ ys)) more.0 more.1 in
      let rest = bind_some (named_ops names locals (map view texts)) (λ (ys : List Op). Some (two.0 ∷ ys)) more.0 two.2 in
      let long : one.0 ∷ two.0 ∷ rest.0 ≡ last ∷ [] = ap (λ (ys : List Op). one.0 ∷ ys) (some_same (two.0 ∷ rest.0) more.0 rest.2) ∙ some_same (one.0 ∷ more.0) (last ∷ []) more.2 in
      absurd (cc)
  ops_but_last view (t ∷ texts) (f ∷ front) last is =
      let one = bind_some (named_op names locals (view t)) (λ (y : Op). named_ops names locals (map view texts) >>= λ (ys : List Op). Some (y ∷ ys)) (f ∷ front ++ last ∷ []) is in
      let more = bind_some (named_ops names locals (map view texts)) (λ (ys : List Op). Some (one.0 ∷ ys)) (f ∷ front ++ last ∷ []) one.2 in
      let whole : one.0 ∷ more.0 ≡ f ∷ (front ++ last ∷ []) = some_same _ _ more.2 in
      let head : one.0 ≡ f = cc in
      let tail : more.0 ≡ front ++ last ∷ [] = cc in
      let others = ops_but_last view texts front last (more.1 ∙ ap (λ (xs : List Op). Some xs) tail) in (
        t ∷ others.0,
        (
          others.1.0,
          ap (λ xs. t ∷ xs) others.1.1,
          bind_at (named_op names locals (view t)) (λ (y : Op). named_ops names locals (map view others.0) >>= λ (ys : List Op). Some (y ∷ ys)) one.0 one.1
              ∙ bind_at (named_ops names locals (map view others.0)) (λ (ys : List Op). Some (one.0 ∷ ys)) front others.1.2
              ∙ ap (λ (o : Op). Some (o ∷ front)) head,
        ),
      )
