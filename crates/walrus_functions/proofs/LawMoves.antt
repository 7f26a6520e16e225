-- A body over locals from another place on.
use Rattle.std.proofs.Common.{◌≡◌, ℕ, zero, suc, ◌+◌, Bool, List, [], ◌∷◌, map, Option, Some, None, option_map, slice_get, refl, sym, ap, ap₂, ◌∙◌, arith}
use Rattle.std.specs.Prelude.{◌&&◌, if◌then◌else◌}
use Rattle.std.specs.List.{range_with_len, list_all}
use Rattle.std.proofs.lemmas.Option.{slice_get-map}
use Rattle.wasm_forms.specs.Reading.{◌>>=◌}
use Rattle.walrus_base.specs.Operators.{Memories, NoResult, OneResult, OfType, Arg, Index, Local, Value, Heap, Block, Access, Op}
use Rattle.walrus_code.specs.Names.{Lookup, named_heap, named_val, named_block, named_arg, named_args, named_op, named_ops}
use Rattle.walrus_code.specs.FromRaw.{ops_of}
use Rattle.walrus_bodies.specs.declared.blocks.Opened.{Opened}
use Rattle.walrus_bodies.specs.declared.blocks.Opened.TheVariants.{Plain}
use Rattle.walrus_bodies.specs.declared.features.Features.{Features}
use Rattle.walrus_bodies.specs.Blocks.{label_below, blocks_meant, blocks_behind, blocks_after, nests, block_holds, blocks_hold}
use Rattle.walrus_bodies.specs.Features.{is_allowed, are_allowed}
use Rattle.walrus_bodies.specs.Body.{Context, OperatorsRead, BodyReads}
use Rattle.walrus_functions.specs.ReadFunction.{locals_from}
use Rattle.walrus_functions.specs.Laws.{moved_arg, moved_op, LocalsMove, LocalsMoveBack}

-- ---- places from a first one on

pub range_moved : (by first count : ℕ) → range_with_len (by + first) count ≡ map (λ (n : ℕ). by + n) (range_with_len first count)
range_moved by first zero = refl
range_moved by first (suc count) =
    let next : by + first + 1 ≡ by + (first + 1) = omega arith in
    ap (λ (ns : List ℕ). (by + first) ∷ ns) (ap (λ (n : ℕ). range_with_len n count) next ∙ range_moved by (first + 1) count)

from_first : (first count index : ℕ) → locals_from first count index ≡ option_map (λ (n : ℕ). first + n) (locals_from 0 count index)
from_first first count index =
    let start : first ≡ first + 0 = omega arith in
    ap (λ (n : ℕ). slice_get (range_with_len n count) index) start
    ∙ ap (λ (ns : List ℕ). slice_get ns index) (range_moved first 0 count)
    ∙ slice_get-map (λ (n : ℕ). first + n) (range_with_len 0 count) index

-- ---- what the look-ups find

pub stays : {A B : Type 0} (g : B → B) (o : Option A) (f : A → B) → ((x : A) → g (f x) ≡ f x) → (o >>= λ x. Some (f x)) ≡ option_map g (o >>= λ x. Some (f x))
stays g None f same = refl
stays g (Some x) f same = ap Some (sym (same x))

pub goes : {A B : Type 0} (h : A → A) (g : B → B) (o : Option A) (f : A → B) → ((x : A) → g (f x) ≡ f (h x)) → (option_map h o >>= λ x. Some (f x)) ≡ option_map g (o >>= λ x. Some (f x))
goes h g None f same = refl
goes h g (Some x) f same = ap Some (sym (same x))

pub each_goes : {A : Type 0} (g : A → A) (o : Option A) (rest : Option (List A)) → (option_map g o >>= λ x. option_map (map g) rest >>= λ xs. Some (x ∷ xs)) ≡ option_map (map g) (o >>= λ x. rest >>= λ xs. Some (x ∷ xs))
each_goes g None rest = refl
each_goes g (Some x) None = refl
each_goes g (Some x) (Some xs) = refl

module _ (names : Lookup) (by : ℕ) (locals others : ℕ → Option ℕ) (move : (n : ℕ) → others n ≡ option_map (λ (k : ℕ). by + k) (locals n)) where
  arg_moved : (x : Arg) → named_arg names others x ≡ option_map (moved_arg by) (named_arg names locals x)
  arg_moved (Local n) = ap (λ (o : Option ℕ). o >>= λ k. Some (Local k)) (move n) ∙ goes (λ (k : ℕ). by + k) (moved_arg by) (locals n) Local (λ k. refl)
  arg_moved (Index x) = stays (moved_arg by) (names x.0 x.1) (λ k. Index (x.0, k)) (λ k. refl)
  arg_moved (Value v) = stays (moved_arg by) (named_val names v) Value (λ k. refl)
  arg_moved (Heap h) = stays (moved_arg by) (named_heap names h) Heap (λ k. refl)
  arg_moved (Block b) = stays (moved_arg by) (named_block names b) Block (λ k. refl)
  arg_moved (Access flags memory offset) = stays (moved_arg by) (names Memories memory) (λ k. Access flags k offset) (λ k. refl)
  arg_moved x = refl

  args_moved : (xs : List Arg) → named_args names others xs ≡ option_map (map (moved_arg by)) (named_args names locals xs)
  args_moved [] = refl
  args_moved (x ∷ xs) =
      ap₂ (λ (o : Option Arg) (rest : Option (List Arg)). o >>= λ y. rest >>= λ ys. Some (y ∷ ys)) (arg_moved x) (args_moved xs)
      ∙ each_goes (moved_arg by) (named_arg names locals x) (named_args names locals xs)

  op_moved : (o : Op) → named_op names others o ≡ option_map (moved_op by) (named_op names locals o)
  op_moved o =
      ap (λ (found : Option (List Arg)). found >>= λ args. Some (record { op = o.op; args = args })) (args_moved o.args)
      ∙ goes (map (moved_arg by)) (moved_op by) (named_args names locals o.args) (λ args. record { op = o.op; args = args }) (λ args. refl)

  ops_moved : (os : List Op) → named_ops names others os ≡ option_map (map (moved_op by)) (named_ops names locals os)
  ops_moved [] = refl
  ops_moved (o ∷ os) =
      ap₂ (λ (one : Option Op) (rest : Option (List Op)). one >>= λ y. rest >>= λ ys. Some (y ∷ ys)) (op_moved o) (ops_moved os)
      ∙ each_goes (moved_op by) (named_op names locals o) (named_ops names locals os)

-- ---- what isn't said of locals

test_moved : (by : ℕ) (test : Arg → Bool) → ((x : Arg) → test (moved_arg by x) ≡ test x) → (xs : List Arg) → list_all test (map (moved_arg by) xs) ≡ list_all test xs
test_moved by test same [] = refl
test_moved by test same (x ∷ xs) = ap₂ (λ (s t : Bool). s && t) (same x) (test_moved by test same xs)

label_moved : (by count : ℕ) (x : Arg) → label_below count (moved_arg by x) ≡ label_below count x
label_moved by count (Local n) = refl
label_moved by count x = refl

block_moved : (by : ℕ) (is_function_type : ℕ → Bool) (x : Arg) → block_holds is_function_type (moved_arg by x) ≡ block_holds is_function_type x
block_moved by is_function_type (Block NoResult) = refl
block_moved by is_function_type (Block (OneResult v)) = refl
block_moved by is_function_type (Block (OfType t)) = refl
block_moved by is_function_type (Local n) = refl
block_moved by is_function_type x = refl

after_moved : (by op : ℕ) (xs : List Arg) (blocks : List Opened) → blocks_after op (map (moved_arg by) xs) blocks ≡ blocks_after op xs blocks
after_moved by op xs [] = refl
after_moved by op xs (block ∷ around) =
    let count = blocks_meant op (block ∷ around) in
    ap (λ (t : Bool). if t then blocks_behind op (block ∷ around) else None) (test_moved by (label_below count) (label_moved by count) xs)

nests_moved : (by : ℕ) (os : List Op) (open_blocks : Option (List Opened)) → nests open_blocks (map (moved_op by) os) ≡ nests open_blocks os
nests_moved by os None = refl
nests_moved by [] (Some blocks) = refl
nests_moved by (o ∷ os) (Some blocks) =
    ap (λ (found : Option (List Opened)). nests found (map (moved_op by) os)) (after_moved by o.op o.args blocks) ∙ nests_moved by os (blocks_after o.op o.args blocks)

allowed_moved : (by : ℕ) (features : Features) (os : List Op) → are_allowed features (map (moved_op by) os) ≡ are_allowed features os
allowed_moved by features [] = refl
allowed_moved by features (o ∷ os) = ap (λ (t : Bool). is_allowed features o.op && t) (allowed_moved by features os)

blocks_moved : (by : ℕ) (is_function_type : ℕ → Bool) (os : List Op) → blocks_hold is_function_type (map (moved_op by) os) ≡ blocks_hold is_function_type os
blocks_moved by is_function_type [] = refl
blocks_moved by is_function_type (o ∷ os) = ap₂ (λ (s t : Bool). s && t) (test_moved by (block_holds is_function_type) (block_moved by is_function_type) o.args) (blocks_moved by is_function_type os)

-- ---- bodies

there_ops : (c : Context) (first count : ℕ) (bytes : List ℕ) (ops : List Op) → OperatorsRead c (locals_from 0 count) bytes ops → OperatorsRead c (locals_from first count) bytes (map (moved_op first) ops)
there_ops c first count bytes ops r = record {
  texts = r.texts;
  spelled = r.spelled;
  named = ops_moved c.names first (locals_from 0 count) (locals_from first count) (from_first first count) (ops_of r.texts) ∙ ap (option_map (map (moved_op first))) r.named;
  nested = nests_moved first ops (Some (Plain ∷ [])) ∙ r.nested;
  allowed = allowed_moved first c.features ops ∙ r.allowed;
  blocks = blocks_moved first c.is_function_type ops ∙ r.blocks;
}

pub there : LocalsMove
there c first count bytes types ops body = record {
  front = body.front;
  back = body.back;
  parts = body.parts;
  declared = body.declared;
  declares = body.declares;
  typed = body.typed;
  operators = there_ops c first count body.back ops body.operators;
}

some_made : {A : Type 0} (f : A → A) (o : Option A) (y : A) → option_map f o ≡ Some y → (x : A) × ((o ≡ Some x) × (y ≡ f x))
some_made f (Some x) y is = (x, (refl, cc))
some_made f None y is = absurd cc

back_ops : (c : Context) (first count : ℕ) (bytes : List ℕ) (ops found : List Op) (r : OperatorsRead c (locals_from first count) bytes ops) → named_ops c.names (locals_from 0 count) (ops_of r.texts) ≡ Some found → ops ≡ map (moved_op first) found → OperatorsRead c (locals_from 0 count) bytes found
back_ops c first count bytes ops found r named is = record {
  texts = r.texts;
  spelled = r.spelled;
  named = named;
  nested = sym (nests_moved first found (Some (Plain ∷ []))) ∙ ap (nests (Some (Plain ∷ []))) (sym is) ∙ r.nested;
  allowed = sym (allowed_moved first c.features found) ∙ ap (are_allowed c.features) (sym is) ∙ r.allowed;
  blocks = sym (blocks_moved first c.is_function_type found) ∙ ap (blocks_hold c.is_function_type) (sym is) ∙ r.blocks;
}

pub back : LocalsMoveBack
back c first count bytes types ops body =
    let r = body.operators in
    let made = some_made (map (moved_op first)) (named_ops c.names (locals_from 0 count) (ops_of r.texts)) ops (sym (ops_moved c.names first (locals_from 0 count) (locals_from first count) (from_first first count) (ops_of r.texts)) ∙ r.named) in
    let found = made.0 in
    let body_too : BodyReads c (locals_from 0 count) bytes types found = record {
      front = body.front;
      back = body.back;
      parts = body.parts;
      declared = body.declared;
      declares = body.declares;
      typed = body.typed;
      operators = back_ops c first count body.back ops found r made.1.0 made.1.1;
    } in
    (found, (body_too, made.1.1))
