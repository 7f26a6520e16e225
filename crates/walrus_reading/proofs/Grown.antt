-- Types that grew behind those that were there: a body is read under them as it was before, and its handlers need the same types.
use Rattle.std.proofs.Common.{◌≡◌, ℕ, ◌<◌, Bool, true, false, List, [], ◌∷◌, ◌++◌, length, map, refl, sym, ap, ap₂, ◌∙◌}
use Rattle.std.specs.Prelude.{Option, Some, None, ◌==◌, if◌then◌else◌}
use Rattle.wasm_forms.specs.Reading.{◌>>=◌}
use Rattle.wasm_forms.proofs.Bind.{bind_some}
use Rattle.walrus_base.specs.Arena.{item_at}
use Rattle.walrus_base.specs.Types.{ValType}
use Rattle.walrus_base.specs.Operators.{Types, Memories, BlockType, NoResult, OneResult, OfType, Arg, Index, Local, Value, Heap, Block, Access, Op}
use Rattle.walrus_base.specs.TypeDef.{TypeDef}
use Rattle.walrus_code.specs.Names.{Lookup, named_heap, named_val, named_block, named_arg, named_args, named_op, named_ops}
use Rattle.walrus_code.specs.FromRaw.{ops_of}
use Rattle.walrus_bodies.specs.Blocks.{blocks_hold}
use Rattle.walrus_bodies.specs.Body.{BodyReads, context}
use Rattle.walrus_bodies.specs.FunctionTypes.{is_function_def}
use Rattle.walrus_bodies.specs.declared.features.Features.{Features}
use Rattle.walrus_functions.specs.Handlers.{OpenBlock, Try, OtherBlock, opens_other, closes, without_innermost, catch_type, catch_all_type, tag_params, opened_results, caught_params, blocks_after, handler_at, handlers_from, handlers_of, params_of, results_of}
use Rattle.walrus_functions.specs.Laws.{moved_arg, moved_op}
use Rattle.walrus_functions.specs.ReadFunction.{StaysInFront}
use Rattle.walrus_bodies.proofs.LawNamed.{via, plain}
use Rattle.walrus_model.proofs.NamedFound.{blocks_found}
use Rattle.walrus_reading.specs.Taken.{AreThere}
use Rattle.walrus_functions.proofs.KnownLemmas.{same_in_front as in_front}

pub same_there : {T : Type 0} (old new : List (Option T)) → StaysInFront old new → (k : ℕ) → k < length old → item_at new k ≡ item_at old k
same_there old new stays k lt = ap (λ l. item_at l k) stays.1 ∙ in_front old stays.0 k lt

-- ---- the handlers of a body don't depend on where its locals stand

module _ (types : ℕ → Option TypeDef) (tags : ℕ → Option ℕ) (by : ℕ) where
  opened_moved : (args : List Arg) → opened_results types tags (map (moved_arg by) args) ≡ opened_results types tags args
  opened_moved [] = refl
  opened_moved (Block b ∷ args) = refl
  opened_moved (Local n ∷ args) = refl
  opened_moved (x ∷ args) = refl

  caught_moved : (args : List Arg) → caught_params types tags (map (moved_arg by) args) ≡ caught_params types tags args
  caught_moved [] = refl
  caught_moved (Index x ∷ args) = refl
  caught_moved (Local n ∷ args) = refl
  caught_moved (x ∷ args) = refl

  handler_moved : (blocks : List OpenBlock) (o : Op) → handler_at types tags blocks (moved_op by o) ≡ handler_at types tags blocks o
  handler_moved [] o = refl
  handler_moved (OtherBlock ∷ around) o = refl
  handler_moved (Try r ∷ around) o = ap (λ (p : List (ValType ℕ)). if o.op == 0x07 then catch_type p r else (if o.op == 0x19 then catch_all_type r else [])) (caught_moved o.args)

  after_moved : (blocks : List OpenBlock) (o : Op) → blocks_after types tags blocks (moved_op by o) ≡ blocks_after types tags blocks o
  after_moved blocks o =
      ap (λ (r : List (ValType ℕ)). if o.op == 0x06 then Try r ∷ blocks else (if opens_other o.op then OtherBlock ∷ blocks else (if closes o.op then without_innermost blocks else blocks))) (opened_moved o.args)

  from_moved : (blocks : List OpenBlock) (ops : List Op) → handlers_from types tags blocks (map (moved_op by) ops) ≡ handlers_from types tags blocks ops
  from_moved blocks [] = refl
  from_moved blocks (o ∷ ops) =
      ap₂ ◌++◌ (handler_moved blocks o) (ap (λ (bs : List OpenBlock). handlers_from types tags bs (map (moved_op by) ops)) (after_moved blocks o) ∙ from_moved (blocks_after types tags blocks o) ops)

  pub handlers_moved : (ops : List Op) → handlers_of types tags (map (moved_op by) ops) ≡ handlers_of types tags ops
  handlers_moved ops = from_moved (OtherBlock ∷ []) ops

-- ---- the same under types that grew

module _ (names : Lookup) (tags : ℕ → Option ℕ) (old new : List (Option TypeDef)) (there : AreThere names tags old) (stays : StaysInFront old new) (locals : ℕ → Option ℕ) where
  -- what is a function type, by its place
  abbrev are_functions : List (Option TypeDef) → ℕ → Bool
  are_functions slots t = is_function_def (item_at slots t)

  abbrev found_one : Option ℕ → Bool
  found_one None = false
  found_one (Some found) = are_functions old found

  blocks_same : (os found : List Op) → named_ops names locals os ≡ Some found → blocks_hold (are_functions new) found ≡ blocks_hold (are_functions old) found
  blocks_same os found is =
      let before : ℕ → Bool = λ t. found_one (names Types t) in
      blocks_found names locals (are_functions new) before (λ t k e. ap is_function_def (same_there old new stays k (there.indexed t k e)) ∙ sym (ap found_one e)) os found is
      ∙ sym (blocks_found names locals (are_functions old) before (λ t k e. sym (ap found_one e)) os found is)

  module _ (features : Features) (bytes : List ℕ) (declared : List (ValType ℕ)) (ops : List Op) where
    with_types : (p q : ℕ → Bool) → (r : BodyReads (context names p features) locals bytes declared ops) → blocks_hold q ops ≡ true → BodyReads (context names q features) locals bytes declared ops
    with_types p q r hold = record {
      front = r.front;
      back = r.back;
      parts = r.parts;
      declared = r.declared;
      declares = r.declares;
      typed = r.typed;
      operators = record {
        texts = r.operators.texts;
        spelled = r.operators.spelled;
        named = r.operators.named;
        nested = r.operators.nested;
        allowed = r.operators.allowed;
        blocks = hold;
      };
    }

    pub read_before : BodyReads (context names (are_functions new) features) locals bytes declared ops → BodyReads (context names (are_functions old) features) locals bytes declared ops
    read_before r = with_types (are_functions new) (are_functions old) r (sym (blocks_same (ops_of r.operators.texts) ops r.operators.named) ∙ r.operators.blocks)

    pub read_after : BodyReads (context names (are_functions old) features) locals bytes declared ops → BodyReads (context names (are_functions new) features) locals bytes declared ops
    read_after r = with_types (are_functions old) (are_functions new) r (blocks_same (ops_of r.operators.texts) ops r.operators.named ∙ r.operators.blocks)

  -- ---- the results of blocks

  abbrev Opened : List Arg → Type 0
  Opened args = opened_results (item_at new) tags args ≡ opened_results (item_at old) tags args

  abbrev OpenedBy : Arg → Type 0
  OpenedBy x = (rest : List Arg) → Opened (x ∷ rest)

  block_opened : (b found : BlockType) → named_block names b ≡ Some found → OpenedBy (Block found)
  block_opened NoResult found is = plain (λ (x : BlockType). OpenedBy (Block x)) NoResult found (λ rest. refl) is
  block_opened (OneResult v) found is = via (λ (x : BlockType). OpenedBy (Block x)) (named_val names v) OneResult found (λ k e rest. refl) is
  block_opened (OfType t) found is = via (λ (x : BlockType). OpenedBy (Block x)) (names Types t) OfType found (λ k e rest. ap results_of (same_there old new stays k (there.indexed t k e))) is

  arg_opened : (x found : Arg) → named_arg names locals x ≡ Some found → OpenedBy found
  arg_opened (Block b) found is = via OpenedBy (named_block names b) Block found (λ k e. block_opened b k e) is
  arg_opened (Index x) found is = via OpenedBy (names x.0 x.1) (λ k. Index (x.0, k)) found (λ k e rest. refl) is
  arg_opened (Local n) found is = via OpenedBy (locals n) Local found (λ k e rest. refl) is
  arg_opened (Value v) found is = via OpenedBy (named_val names v) Value found (λ k e rest. refl) is
  arg_opened (Heap h) found is = via OpenedBy (named_heap names h) Heap found (λ k e rest. refl) is
  arg_opened (Access flags memory offset) found is = via OpenedBy (names Memories memory) (λ k. Access flags k offset) found (λ k e rest. refl) is
  arg_opened x found is = plain OpenedBy x found (λ rest. refl) is

  args_opened : (xs found : List Arg) → named_args names locals xs ≡ Some found → Opened found
  args_opened [] found is = plain Opened [] found refl is
  args_opened (x ∷ xs) found is =
      let b = bind_some (named_arg names locals x) (λ y. named_args names locals xs >>= λ ys. Some (y ∷ ys)) found is in
      via Opened (named_args names locals xs) (λ ys. b.0 ∷ ys) found (λ ys e. arg_opened x b.0 b.1 ys) b.2

  -- ---- the parameters of tags

  tag_same : (tag : ℕ) (o : Option ℕ) → tags tag ≡ o → tag_params (item_at new) tags o ≡ tag_params (item_at old) tags o
  tag_same tag None e = refl
  tag_same tag (Some t) e = ap params_of (same_there old new stays t (there.of_tags tag t e))

  caught_same : (args : List Arg) → caught_params (item_at new) tags args ≡ caught_params (item_at old) tags args
  caught_same [] = refl
  caught_same (Index x ∷ args) = tag_same x.1 (tags x.1) refl
  caught_same (x ∷ args) = refl

  -- ---- handlers

  handler_same : (blocks : List OpenBlock) (o : Op) → handler_at (item_at new) tags blocks o ≡ handler_at (item_at old) tags blocks o
  handler_same [] o = refl
  handler_same (OtherBlock ∷ around) o = refl
  handler_same (Try r ∷ around) o = ap (λ (p : List (ValType ℕ)). if o.op == 0x07 then catch_type p r else (if o.op == 0x19 then catch_all_type r else [])) (caught_same o.args)

  after_same : (blocks : List OpenBlock) (o : Op) → Opened o.args → blocks_after (item_at new) tags blocks o ≡ blocks_after (item_at old) tags blocks o
  after_same blocks o same =
      ap (λ (r : List (ValType ℕ)). if o.op == 0x06 then Try r ∷ blocks else (if opens_other o.op then OtherBlock ∷ blocks else (if closes o.op then without_innermost blocks else blocks))) same

  op_opened : (o found : Op) → named_op names locals o ≡ Some found → Opened found.args
  op_opened o found is = via (λ (x : Op). Opened x.args) (named_args names locals o.args) (λ args. record { op = o.op; args = args }) found (λ args e. args_opened o.args args e) is

  from_same : (blocks : List OpenBlock) (os found : List Op) → named_ops names locals os ≡ Some found → handlers_from (item_at new) tags blocks found ≡ handlers_from (item_at old) tags blocks found
  from_same blocks [] found is = plain (λ (l : List Op). handlers_from (item_at new) tags blocks l ≡ handlers_from (item_at old) tags blocks l) [] found refl is
  from_same blocks (o ∷ os) found is =
      let b = bind_some (named_op names locals o) (λ y. named_ops names locals os >>= λ ys. Some (y ∷ ys)) found is in
      via (λ (l : List Op). handlers_from (item_at new) tags blocks l ≡ handlers_from (item_at old) tags blocks l) (named_ops names locals os) (λ ys. b.0 ∷ ys) found
      (λ ys e. ap₂ ◌++◌ (handler_same blocks b.0) (from_same (blocks_after (item_at new) tags blocks b.0) os ys e ∙ ap (λ (bs : List OpenBlock). handlers_from (item_at old) tags bs ys) (after_same blocks b.0 (op_opened o b.0 b.1)))) b.2

  pub handlers_same : (os found : List Op) → named_ops names locals os ≡ Some found → handlers_of (item_at new) tags found ≡ handlers_of (item_at old) tags found
  handlers_same os found is = from_same (OtherBlock ∷ []) os found is
