-- A body whose locals alone get other numbers reads from the same bytes.
use Rattle.std.proofs.Common.{◌≡◌, ℕ, Bool, List, [], ◌∷◌, map, refl, ap, ap₂, ◌∙◌}
use Rattle.std.specs.Prelude.{◌&&◌, if◌then◌else◌, Option, Some, None, option_map}
use Rattle.std.specs.List.{list_all}
use Rattle.wasm_forms.specs.Reading.{◌>>=◌}
use Rattle.walrus_base.specs.Types.{ValType}
use Rattle.walrus_base.specs.Operators.{Space, Memories, NoResult, OneResult, OfType, Arg, Index, Local, Value, Heap, Block, Access, Label, Number, Count, Byte, S32, S64, Bits32, Bits64, Op}
use Rattle.walrus_functions.specs.Names.{Lookup, named_heap, named_val, named_block, named_arg, named_args, named_op, named_ops}
use Rattle.walrus_functions.specs.FromRaw.{ops_of}
use Rattle.walrus_functions.specs.Opened.{Opened}
use Rattle.walrus_functions.specs.Opened.TheVariants.{Plain}
use Rattle.walrus_functions.specs.Features.{Features}
use Rattle.walrus_functions.specs.Blocks.{label_below, blocks_meant, blocks_behind, blocks_after, nests, block_holds, blocks_hold}
use Rattle.walrus_functions.specs.AllowedFeatures.{is_allowed, are_allowed}
use Rattle.walrus_functions.specs.Body.{Context, OperatorsRead, BodyReads}
use Rattle.walrus_model.specs.Renaming.{Renaming, renamed_arg, renamed_op, renamed_ops}
use Rattle.walrus_base.proofs.Lists.{map-same}
use Rattle.walrus_model.proofs.PipelineSame.{item_stays, heap_stays, value_stays, block_stays}
use Rattle.walrus_functions.proofs.LawMoves.{stays, goes, each_goes}

-- an argument with its local put through l
abbrev pub moved_arg : (ℕ → ℕ) → Arg → Arg
moved_arg l (Local n) = Local (l n)
moved_arg l x = x

abbrev pub moved_op : (ℕ → ℕ) → Op → Op
moved_op l o = record { op = o.op; args = map (moved_arg l) o.args }

-- under a renaming that changes locals alone
module _ (r : Renaming) (in_place : (space : Space) (i : ℕ) → r.numbers space i ≡ i) (imports_in_place : (i : ℕ) → r.imports i ≡ i) (l : ℕ → ℕ) where
  arg_is : (a : Arg) → renamed_arg r l a ≡ moved_arg l a
  arg_is (Index x) = ap Index (item_stays r in_place imports_in_place x)
  arg_is (Local x) = refl
  arg_is (Value v) = ap Value (value_stays r in_place imports_in_place v)
  arg_is (Heap h) = ap Heap (heap_stays r in_place imports_in_place h)
  arg_is (Block b) = ap Block (block_stays r in_place imports_in_place b)
  arg_is (Access flags memory offset) = ap (λ n. Access flags n offset) (in_place Memories memory)
  arg_is (Label n) = refl
  arg_is (Number n) = refl
  arg_is (Count n) = refl
  arg_is (Byte n) = refl
  arg_is (S32 n) = refl
  arg_is (S64 n) = refl
  arg_is (Bits32 n) = refl
  arg_is (Bits64 n) = refl

  op_is : (o : Op) → renamed_op r l o ≡ moved_op l o
  op_is o = ap (λ (args : List Arg). let x : Op = record { op = o.op; args = args } in x) (map-same (renamed_arg r l) (moved_arg l) o.args arg_is)

  pub ops_are : (ops : List Op) → renamed_ops r l ops ≡ map (moved_op l) ops
  ops_are ops = map-same (renamed_op r l) (moved_op l) ops op_is

-- ---- what the look-ups find

module _ (names : Lookup) (l : ℕ → ℕ) (locals others : ℕ → Option ℕ) (move : (n : ℕ) → others n ≡ option_map l (locals n)) where
  arg_moved : (x : Arg) → named_arg names others x ≡ option_map (moved_arg l) (named_arg names locals x)
  arg_moved (Local n) = ap (λ (o : Option ℕ). o >>= λ k. Some (Local k)) (move n) ∙ goes l (moved_arg l) (locals n) Local (λ k. refl)
  arg_moved (Index x) = stays (moved_arg l) (names x.0 x.1) (λ k. Index (x.0, k)) (λ k. refl)
  arg_moved (Value v) = stays (moved_arg l) (named_val names v) Value (λ k. refl)
  arg_moved (Heap h) = stays (moved_arg l) (named_heap names h) Heap (λ k. refl)
  arg_moved (Block b) = stays (moved_arg l) (named_block names b) Block (λ k. refl)
  arg_moved (Access flags memory offset) = stays (moved_arg l) (names Memories memory) (λ k. Access flags k offset) (λ k. refl)
  arg_moved x = refl

  args_moved : (xs : List Arg) → named_args names others xs ≡ option_map (map (moved_arg l)) (named_args names locals xs)
  args_moved [] = refl
  args_moved (x ∷ xs) =
      ap₂ (λ (o : Option Arg) (rest : Option (List Arg)). o >>= λ y. rest >>= λ ys. Some (y ∷ ys)) (arg_moved x) (args_moved xs)
      ∙ each_goes (moved_arg l) (named_arg names locals x) (named_args names locals xs)

  op_moved : (o : Op) → named_op names others o ≡ option_map (moved_op l) (named_op names locals o)
  op_moved o =
      ap (λ (found : Option (List Arg)). found >>= λ args. Some (record { op = o.op; args = args })) (args_moved o.args)
      ∙ goes (map (moved_arg l)) (moved_op l) (named_args names locals o.args) (λ args. record { op = o.op; args = args }) (λ args. refl)

  ops_moved : (os : List Op) → named_ops names others os ≡ option_map (map (moved_op l)) (named_ops names locals os)
  ops_moved [] = refl
  ops_moved (o ∷ os) =
      ap₂ (λ (one : Option Op) (rest : Option (List Op)). one >>= λ y. rest >>= λ ys. Some (y ∷ ys)) (op_moved o) (ops_moved os)
      ∙ each_goes (moved_op l) (named_op names locals o) (named_ops names locals os)

-- ---- what isn't said of locals

test_moved : (l : ℕ → ℕ) (test : Arg → Bool) → ((x : Arg) → test (moved_arg l x) ≡ test x) → (xs : List Arg) → list_all test (map (moved_arg l) xs) ≡ list_all test xs
test_moved l test same [] = refl
test_moved l test same (x ∷ xs) = ap₂ (λ (s t : Bool). s && t) (same x) (test_moved l test same xs)

label_moved : (l : ℕ → ℕ) (count : ℕ) (x : Arg) → label_below count (moved_arg l x) ≡ label_below count x
label_moved l count (Local n) = refl
label_moved l count x = refl

block_moved : (l : ℕ → ℕ) (is_function_type : ℕ → Bool) (x : Arg) → block_holds is_function_type (moved_arg l x) ≡ block_holds is_function_type x
block_moved l is_function_type (Block NoResult) = refl
block_moved l is_function_type (Block (OneResult v)) = refl
block_moved l is_function_type (Block (OfType t)) = refl
block_moved l is_function_type (Local n) = refl
block_moved l is_function_type x = refl

after_moved : (l : ℕ → ℕ) (op : ℕ) (xs : List Arg) (blocks : List Opened) → blocks_after op (map (moved_arg l) xs) blocks ≡ blocks_after op xs blocks
after_moved l op xs [] = refl
after_moved l op xs (block ∷ around) =
    let count = blocks_meant op (block ∷ around) in
    ap (λ (t : Bool). if t then blocks_behind op (block ∷ around) else None) (test_moved l (label_below count) (label_moved l count) xs)

nests_moved : (l : ℕ → ℕ) (os : List Op) (open_blocks : Option (List Opened)) → nests open_blocks (map (moved_op l) os) ≡ nests open_blocks os
nests_moved l os None = refl
nests_moved l [] (Some blocks) = refl
nests_moved l (o ∷ os) (Some blocks) =
    ap (λ (found : Option (List Opened)). nests found (map (moved_op l) os)) (after_moved l o.op o.args blocks) ∙ nests_moved l os (blocks_after o.op o.args blocks)

allowed_moved : (l : ℕ → ℕ) (features : Features) (os : List Op) → are_allowed features (map (moved_op l) os) ≡ are_allowed features os
allowed_moved l features [] = refl
allowed_moved l features (o ∷ os) = ap (λ (t : Bool). is_allowed features o.op && t) (allowed_moved l features os)

blocks_moved : (l : ℕ → ℕ) (is_function_type : ℕ → Bool) (os : List Op) → blocks_hold is_function_type (map (moved_op l) os) ≡ blocks_hold is_function_type os
blocks_moved l is_function_type [] = refl
blocks_moved l is_function_type (o ∷ os) = ap₂ (λ (s t : Bool). s && t) (test_moved l (block_holds is_function_type) (block_moved l is_function_type) o.args) (blocks_moved l is_function_type os)

-- ---- bodies

module _ (c : Context) (l : ℕ → ℕ) (locals others : ℕ → Option ℕ) (move : (n : ℕ) → others n ≡ option_map l (locals n)) where
  moved_ops : (bytes : List ℕ) (ops : List Op) → OperatorsRead c locals bytes ops → OperatorsRead c others bytes (map (moved_op l) ops)
  moved_ops bytes ops r = record {
    texts = r.texts;
    spelled = r.spelled;
    named = ops_moved c.names l locals others move (ops_of r.texts) ∙ ap (option_map (map (moved_op l))) r.named;
    nested = nests_moved l ops (Some (Plain ∷ [])) ∙ r.nested;
    allowed = allowed_moved l c.features ops ∙ r.allowed;
    blocks = blocks_moved l c.is_function_type ops ∙ r.blocks;
  }

  pub moved_reads : (bytes : List ℕ) (types : List (ValType ℕ)) (ops : List Op) → BodyReads c locals bytes types ops → BodyReads c others bytes types (map (moved_op l) ops)
  moved_reads bytes types ops body = record {
    front = body.front;
    back = body.back;
    parts = body.parts;
    declared = body.declared;
    declares = body.declares;
    typed = body.typed;
    operators = moved_ops body.back ops body.operators;
  }
