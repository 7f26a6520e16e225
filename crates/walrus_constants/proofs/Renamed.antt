-- What is put through a look-up is put through each renaming that agrees with it.
use Rattle.std.proofs.Common.{◌≡◌, ◌∙◌, ℕ, List, [], ◌∷◌, map, Option, Some, None, refl, sym, ap, subst}
use Rattle.std.specs.Prelude.{option_map}
use Rattle.wasm_forms.specs.Reading.{◌>>=◌}
use Rattle.walrus_base.specs.Types.{HeapType, OfHeap, Concrete, Exact, RefType, ValType, I32, I64, F32, F64, V128, Ref, map_heap, map_ref, map_val}
use Rattle.walrus_base.specs.Operators.{Space, Types, Memories, BlockType, NoResult, OneResult, OfType, Arg, Index, Label, Local, Number, Count, Byte, S32, S64, Bits32, Bits64, Value, Heap, Block, Access, Op, names_of}
use Rattle.walrus_code.specs.Names.{Lookup, LeadsBack, named_heap, named_val, named_block, named_arg, named_args, named_ops}
use Rattle.walrus_code.proofs.BackLemmas.{ops_back}
use Rattle.walrus_model.specs.Renaming.{Renaming, renamed, unchanged, renamed_block, renamed_arg, renamed_op, renamed_const}
use Rattle.walrus_model.proofs.OpsFollow.{const_follows}
use Rattle.walrus_model.proofs.PipelineSame.{ops_stay}
use Rattle.walrus_constants.specs.Named.{named_const_op, named_const, named_initialiser, named_ref}
use Rattle.walrus_constants.specs.Laws.{AgreesWith, IsInPlace}

-- it is this, where something is found
abbrev pub Agrees : {X : Type 0} → X → Option X → Type 0
Agrees x None = Unit {0}
Agrees x (Some y) = x ≡ y

pub agreed : {X : Type 0} (x y : X) (o : Option X) → Agrees x o → o ≡ Some y → x ≡ y
agreed x y None h e = absurd cc
agreed x y (Some z) h e = let same : z ≡ y = cc in h ∙ same

pub agrees_last : {X Y : Type 0} (x : X) (o : Option X) (f : X → Y) → Agrees x o → Agrees (f x) (o >>= λ y. Some (f y))
agrees_last x None f h = tt
agrees_last x (Some y) f h = ap f h

pub agrees_then : {X Y : Type 0} (x : X) (o : Option X) (k : X → Option Y) (z : Y) → Agrees x o → Agrees z (k x) → Agrees z (o >>= k)
agrees_then x None k z h a = tt
agrees_then x (Some y) k z h a = subst (λ w. Agrees z (k w)) h a

module _ (r : Renaming) (names : Lookup) (agrees : AgreesWith r names) where
  pub number_agrees : (space : Space) (n : ℕ) (o : Option ℕ) → names space n ≡ o → Agrees (r.numbers space n) o
  number_agrees space n None e = tt
  number_agrees space n (Some k) e = agrees space n k e

  one : {Y : Type 0} (space : Space) (n : ℕ) (f : ℕ → Y) → Agrees (f (r.numbers space n)) (names space n >>= λ k. Some (f k))
  one space n f = agrees_last (r.numbers space n) (names space n) f (number_agrees space n (names space n) refl)

  heap_agrees : (h : HeapType ℕ) → Agrees (map_heap (r.numbers Types) h) (named_heap names h)
  heap_agrees (OfHeap h) = refl
  heap_agrees (Concrete t) = one Types t (λ k. Concrete k)
  heap_agrees (Exact t) = one Types t (λ k. Exact k)

  pub ref_agrees : (t : RefType ℕ) → Agrees (map_ref (r.numbers Types) t) (named_ref names t)
  ref_agrees t = agrees_last (map_heap (r.numbers Types) t.heap) (named_heap names t.heap) (λ heap. let made : RefType ℕ = record { nullable = t.nullable; heap = heap } in made) (heap_agrees t.heap)

  pub val_agrees : (v : ValType ℕ) → Agrees (map_val (r.numbers Types) v) (named_val names v)
  val_agrees (Ref t) = agrees_last (map_heap (r.numbers Types) t.heap) (named_heap names t.heap) (λ heap. Ref (record { nullable = t.nullable; heap = heap })) (heap_agrees t.heap)
  val_agrees I32 = refl
  val_agrees I64 = refl
  val_agrees F32 = refl
  val_agrees F64 = refl
  val_agrees V128 = refl

  block_agrees : (b : BlockType) → Agrees (renamed_block r b) (named_block names b)
  block_agrees NoResult = refl
  block_agrees (OneResult v) = agrees_last (map_val (r.numbers Types) v) (named_val names v) (λ w. OneResult w) (val_agrees v)
  block_agrees (OfType t) = one Types t (λ k. OfType k)

  abbrev arg_renamed : Arg → Arg
  arg_renamed a = renamed_arg r (λ x. x) a

  abbrev arg_found : Arg → Option Arg
  arg_found a = named_arg names (λ x. Some x) a

  abbrev args_found : List Arg → Option (List Arg)
  args_found args = named_args names (λ x. Some x) args

  arg_agrees : (a : Arg) → Agrees (arg_renamed a) (arg_found a)
  arg_agrees (Index x) = one x.0 x.1 (λ k. Index (x.0, k))
  arg_agrees (Value v) = agrees_last (map_val (r.numbers Types) v) (named_val names v) (λ w. Value w) (val_agrees v)
  arg_agrees (Heap h) = agrees_last (map_heap (r.numbers Types) h) (named_heap names h) (λ k. Heap k) (heap_agrees h)
  arg_agrees (Block b) = agrees_last (renamed_block r b) (named_block names b) (λ c. Block c) (block_agrees b)
  arg_agrees (Access flags memory offset) = one Memories memory (λ k. Access flags k offset)
  arg_agrees (Local n) = refl
  arg_agrees (Label n) = refl
  arg_agrees (Number n) = refl
  arg_agrees (Count n) = refl
  arg_agrees (Byte n) = refl
  arg_agrees (S32 n) = refl
  arg_agrees (S64 n) = refl
  arg_agrees (Bits32 n) = refl
  arg_agrees (Bits64 n) = refl

  args_agree : (args : List Arg) → Agrees (map arg_renamed args) (args_found args)
  args_agree [] = refl
  args_agree (a ∷ rest) =
      agrees_then (arg_renamed a) (arg_found a) (λ b. args_found rest >>= λ others. Some (b ∷ others)) (arg_renamed a ∷ map arg_renamed rest) (arg_agrees a)
      (agrees_last (map arg_renamed rest) (args_found rest) (λ others. arg_renamed a ∷ others) (args_agree rest))

  op_agrees : (o : Op) → Agrees (renamed_op r (λ x. x) o) (named_const_op names o)
  op_agrees o = agrees_last (map arg_renamed o.args) (args_found o.args) (λ args. let made : Op = record { op = o.op; args = args } in made) (args_agree o.args)

  pub const_agrees : (ops : List Op) → Agrees (renamed_const r ops) (named_const names ops)
  const_agrees [] = refl
  const_agrees (o ∷ rest) =
      agrees_then (renamed_op r (λ x. x) o) (named_const_op names o) (λ p. named_const names rest >>= λ others. Some (p ∷ others)) (renamed_op r (λ x. x) o ∷ renamed_const r rest) (op_agrees o)
      (agrees_last (renamed_const r rest) (named_const names rest) (λ others. renamed_op r (λ x. x) o ∷ others) (const_agrees rest))

  pub initialiser_agrees : (i : Option (List Op)) → Agrees (option_map (renamed_const r) i) (named_initialiser names i)
  initialiser_agrees None = refl
  initialiser_agrees (Some ops) = agrees_last (renamed_const r ops) (named_const names ops) (λ found. Some found) (const_agrees ops)

  pub const_renamed : (ops found : List Op) → named_const names ops ≡ Some found → renamed_const r ops ≡ found
  const_renamed ops found e = agreed (renamed_const r ops) found (named_const names ops) (const_agrees ops) e

  pub const_names : (ops found : List Op) → named_const names ops ≡ Some found → names_of found ≡ map (renamed r) (names_of ops)
  const_names ops found e = ap names_of (sym (const_renamed ops found e)) ∙ const_follows r ops

-- ---- where each item is found under its own number

pub in_place : (names : Lookup) → IsInPlace names → AgreesWith unchanged names
in_place names h = λ space n found e. sym (h space n found e)

pub const_in_place : (names : Lookup) → IsInPlace names → (ops found : List Op) → named_const names ops ≡ Some found → found ≡ ops
const_in_place names h ops found e =
    sym (const_renamed unchanged names (in_place names h) ops found e) ∙ ops_stay unchanged (λ space n. refl) (λ n. refl) (λ x. x) (λ x. refl) ops

-- ---- there and back

each_op : (names : Lookup) (ops : List Op) → named_const names ops ≡ named_ops names (λ x. Some x) ops
each_op names [] = refl
each_op names (o ∷ ops) = ap (λ (found : Option (List Op)). named_const_op names o >>= λ p. found >>= λ others. Some (p ∷ others)) (each_op names ops)

local_back : (n found : ℕ) → Some n ≡ Some found → Some found ≡ Some n
local_back n found e = sym e

pub const_back : (there back : Lookup) → LeadsBack there back → (ops found : List Op) → named_const there ops ≡ Some found → named_const back found ≡ Some ops
const_back there back leads ops found e = each_op back found ∙ ops_back there back leads (λ x. Some x) (λ x. Some x) local_back ops found (sym (each_op there ops) ∙ e)
