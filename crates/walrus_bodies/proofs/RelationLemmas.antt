-- What the function on lists reads is what the relation says.
use Rattle.std.proofs.Common.{◌≡◌, ℕ, zero, suc, ◌+◌, ◌≤◌, ◌&&◌, Bool, true, false, List, [], ◌∷◌, ◌++◌, length, Option, Some, None, Result, Ok, Err, cond, refl, ap, ◌∙◌, sym, subst, arith, length-append}
use Rattle.wasm_forms.specs.Reading.{◌>>=◌}
use Rattle.wasm_forms.specs.Grammar.{Is, IsRow, at}
use Rattle.wasm_forms.proofs.Bind.{bind_some, bind_at, some_same}
use Rattle.wasm_forms.proofs.Exact.{exact}
use Rattle.wasm_operators.specs.Operators as wire
use Rattle.wasm_operators.specs.Forms.{operator}
use Rattle.walrus_base.specs.Operators.{Op}
use Rattle.walrus_code.specs.Names.{named_op, named_ops}
use Rattle.walrus_code.specs.FromRaw.{op_of, ops_of}
use Rattle.walrus_code.specs.declared.error.IrError.{IrError}
use Rattle.walrus_code.specs.declared.error.IrError.TheVariants.{Malformed, Memory, NoIndex, NotWritable, TooLarge}
use Rattle.walrus_bodies.specs.declared.blocks.Opened.{Opened}
use Rattle.walrus_bodies.specs.declared.blocks.Opened.TheVariants.{Plain}
use Rattle.walrus_bodies.specs.Blocks.{is_none_open, blocks_after, args_hold, blocks_hold, nests}
use Rattle.walrus_bodies.specs.Features.{is_allowed, are_allowed}
use Rattle.walrus_bodies.specs.Body.{Context, OperatorsRead}
use Rattle.walrus_bodies.specs.Reader.{Gives, op_at, next_at, ops_at, ended}
use Rattle.walrus_bodies.specs.Results.{ReadsOperators}
use Rattle.walrus_bodies.proofs.LocatedLemmas.{Front, front_of, and_left, and_right}
use Rattle.walrus_bodies.proofs.ReadLemmas.{ops_at-next}

-- an operator has a first byte
led : (front : List ℕ) (text : wire.Op) → Is operator front text → 1 ≤ length front
unfolding operator
led front text (b, (first, (back, (parts, one, rest)))) =
    let long : length front ≡ length first + length back = ap length parts ∙ length-append first back in
    let single : length first ≡ 1 = ap length one in
    omega arith

module _ (c : Context) (locals : ℕ → Option ℕ) where
  -- the same relation from any open blocks on
  record ReadIn (blocks : List Opened) (bytes : List ℕ) (ops : List Op) : Type 0 where
    texts : List wire.Op
    spelled : IsRow (Is operator) bytes texts
    named : named_ops c.names locals (ops_of texts) ≡ Some ops
    nested : nests (Some blocks) ops ≡ true
    allowed : are_allowed c.features ops ≡ true
    holds : blocks_hold c.is_function_type ops ≡ true

  nothing_left : (blocks : List Opened) (bytes : List ℕ) → is_none_open blocks ≡ true → bytes ≡ [] → ReadIn blocks bytes []
  nothing_left blocks bytes closed none = record { texts = []; spelled = none; named = refl; nested = closed; allowed = refl; holds = refl }

  one_before : (blocks : List Opened) (bytes : List ℕ) (x : Op × List Opened × List ℕ) (ops : List Op) → Front c locals blocks bytes x → ReadIn x.1 x.2 ops → ReadIn blocks bytes (x.0 ∷ ops)
  one_before blocks bytes x ops here rest = record {
    texts = here.text ∷ rest.texts;
    spelled = (here.front, (x.2, (here.parts, here.spelled, rest.spelled)));
    named = rw (here.named, rest.named) refl;
    nested = ap (λ (found : Option (List Opened)). nests found ops) here.stands ∙ rest.nested;
    allowed = rw here.allowed rest.allowed;
    holds = rw here.holds rest.holds;
  }

  ended_is : (o : Op) (rest : List ℕ) (ops : List Op) → ended (o ∷ []) rest ≡ Some ops → (rest ≡ []) × (ops ≡ o ∷ [])
  ended_is o [] ops is = (refl, sym (some_same _ _ is))
  ended_is o (b ∷ rest) ops is = absurd cc

  sound : (most : ℕ) (blocks : List Opened) (bytes : List ℕ) (ops : List Op) → ops_at c locals most blocks bytes ≡ Some ops → ReadIn blocks bytes ops
  unfolding ops_at
  sound zero blocks bytes ops is = absurd cc
  sound (suc most) blocks bytes ops is =
      let b = bind_some (next_at c locals blocks bytes) (λ x. cond (is_none_open x.1) (ended (x.0 ∷ []) x.2) (ops_at c locals most x.1 x.2 >>= λ rest. Some (x.0 ∷ rest))) ops is in
      go (sound most) b.0 (is_none_open b.0.1) refl (front_of c locals blocks bytes b.0 b.1) b.2
    where
      go : ((blocks : List Opened) (bytes : List ℕ) (ops : List Op) → ops_at c locals most blocks bytes ≡ Some ops → ReadIn blocks bytes ops) → (x : Op × List Opened × List ℕ) (closed : Bool) → is_none_open x.1 ≡ closed → Front c locals blocks bytes x → cond closed (ended (x.0 ∷ []) x.2) (ops_at c locals most x.1 x.2 >>= λ rest. Some (x.0 ∷ rest)) ≡ Some ops → ReadIn blocks bytes ops
      go later x true closed here is =
          let last = ended_is x.0 x.2 ops is in
          subst (λ (os : List Op). ReadIn blocks bytes os) (sym last.1) (one_before blocks bytes x [] here (nothing_left x.1 x.2 closed last.0))
      go later x false closed here is =
          let more = bind_some (ops_at c locals most x.1 x.2) (λ rest. Some (x.0 ∷ rest)) ops is in
          subst (λ (os : List Op). ReadIn blocks bytes os) (some_same _ _ more.2) (one_before blocks bytes x more.0 here (later x.1 x.2 more.0 more.1))

  -- ---- the other way

  op_read : (bytes front back : List ℕ) (text : wire.Op) (o : Op) → bytes ≡ front ++ back → Is operator front text → named_op c.names locals (op_of text) ≡ Some o → (is_allowed c.features o.op && args_hold c.is_function_type o.args) ≡ true → op_at c locals bytes ≡ Some (o, back)
  op_read bytes front back text o parts is named both =
      let read : at operator bytes ≡ Some (text, back) = ap (at operator) parts ∙ (exact operator).again front back text is in
      rw (read, named, both) refl

  next_read : (blocks behind : List Opened) (bytes front back : List ℕ) (text : wire.Op) (o : Op) → bytes ≡ front ++ back → Is operator front text → named_op c.names locals (op_of text) ≡ Some o → (is_allowed c.features o.op && args_hold c.is_function_type o.args) ≡ true → blocks_after o.op o.args blocks ≡ Some behind → next_at c locals blocks bytes ≡ Some (o, behind, back)
  next_read blocks behind bytes front back text o parts is named both stands =
      bind_at (op_at c locals bytes) (λ x. blocks_after x.0.op x.0.args blocks >>= λ found. Some (x.0, found, x.1)) (o, back) (op_read bytes front back text o parts is named both)
      ∙ bind_at (blocks_after o.op o.args blocks) (λ found. Some (o, found, back)) behind stands

  stands_at : (found : Option (List Opened)) (ops : List Op) → nests found ops ≡ true → (behind : List Opened) × (found ≡ Some behind)
  stands_at None ops is = absurd cc
  stands_at (Some behind) ops is = (behind, refl)

  -- behind the end of the function stands nothing
  none_behind : (blocks : List Opened) (ops : List Op) → is_none_open blocks ≡ true → nests (Some blocks) ops ≡ true → ops ≡ []
  none_behind [] [] closed is = refl
  none_behind [] (o ∷ ops) closed is = absurd cc
  none_behind (block ∷ around) ops closed is = absurd cc

  no_texts : (texts : List wire.Op) → named_ops c.names locals (ops_of texts) ≡ Some [] → texts ≡ []
  no_texts [] is = refl
  no_texts (text ∷ texts) is =
      let b = bind_some (named_op c.names locals (op_of text)) (λ o. named_ops c.names locals (ops_of texts) >>= λ others. Some (o ∷ others)) [] is in
      let d = bind_some (named_ops c.names locals (ops_of texts)) (λ others. Some (b.0 ∷ others)) [] b.2 in
      let wrong : b.0 ∷ d.0 ≡ [] = some_same _ _ d.2 in
      absurd cc

  no_bytes : (texts : List wire.Op) (bytes : List ℕ) → texts ≡ [] → IsRow (Is operator) bytes texts → bytes ≡ []
  no_bytes texts bytes none row = subst (λ (ts : List wire.Op). IsRow (Is operator) bytes ts) none row

  complete : (texts : List wire.Op) (most : ℕ) (blocks : List Opened) (bytes : List ℕ) (ops : List Op) → IsRow (Is operator) bytes texts → named_ops c.names locals (ops_of texts) ≡ Some ops → nests (Some blocks) ops ≡ true → are_allowed c.features ops ≡ true → blocks_hold c.is_function_type ops ≡ true → is_none_open blocks ≡ false → length bytes ≤ most → ops_at c locals most blocks bytes ≡ Some ops
  complete [] most blocks bytes ops row named nested allowed holds more long =
      let none : ops ≡ [] = sym (some_same _ _ named) in
      let closed : is_none_open blocks ≡ true = ap (λ (os : List Op). nests (Some blocks) os) (sym none) ∙ nested in
      absurd cc
  complete (text ∷ texts) most blocks bytes ops (front, (back, (parts, is, row))) named nested allowed holds more long =
      let b = bind_some (named_op c.names locals (op_of text)) (λ o. named_ops c.names locals (ops_of texts) >>= λ others. Some (o ∷ others)) ops named in
      let d = bind_some (named_ops c.names locals (ops_of texts)) (λ others. Some (b.0 ∷ others)) ops b.2 in
      let same : b.0 ∷ d.0 ≡ ops = some_same _ _ d.2 in
      let nested_too : nests (blocks_after b.0.op b.0.args blocks) d.0 ≡ true = ap (λ (os : List Op). nests (Some blocks) os) same ∙ nested in
      let allowed_too : (is_allowed c.features b.0.op && are_allowed c.features d.0) ≡ true = ap (are_allowed c.features) same ∙ allowed in
      let holds_too : (args_hold c.is_function_type b.0.args && blocks_hold c.is_function_type d.0) ≡ true = ap (blocks_hold c.is_function_type) same ∙ holds in
      let stands = stands_at (blocks_after b.0.op b.0.args blocks) d.0 nested_too in
      let both : (is_allowed c.features b.0.op && args_hold c.is_function_type b.0.args) ≡ true = rw (and_left (is_allowed c.features b.0.op) _ allowed_too) (and_left (args_hold c.is_function_type b.0.args) _ holds_too) in
      let next = next_read blocks stands.0 bytes front back text b.0 parts is b.1 both stands.1 in
      let nested_behind : nests (Some stands.0) d.0 ≡ true = ap (λ (found : Option (List Opened)). nests found d.0) (sym stands.1) ∙ nested_too in
      let size : length bytes ≡ length front + length back = ap length parts ∙ length-append front back in
      let first : 1 ≤ length front = led front text is in
      go (λ most behind others named nested allowed holds more long. complete texts most behind back others row named nested allowed holds more long) most b.0 d.0 stands.0 (is_none_open stands.0) refl next nested_behind b.1 d.1 (and_right (is_allowed c.features b.0.op) _ allowed_too) (and_right (args_hold c.is_function_type b.0.args) _ holds_too) (omega arith) ∙ ap Some same
    where
      go : ((most : ℕ) (blocks : List Opened) (ops : List Op) → named_ops c.names locals (ops_of texts) ≡ Some ops → nests (Some blocks) ops ≡ true → are_allowed c.features ops ≡ true → blocks_hold c.is_function_type ops ≡ true → is_none_open blocks ≡ false → length back ≤ most → ops_at c locals most blocks back ≡ Some ops) → (most : ℕ) (o : Op) (others : List Op) (behind : List Opened) (closed : Bool) → is_none_open behind ≡ closed → next_at c locals blocks bytes ≡ Some (o, behind, back) → nests (Some behind) others ≡ true → named_op c.names locals (op_of text) ≡ Some o → named_ops c.names locals (ops_of texts) ≡ Some others → are_allowed c.features others ≡ true → blocks_hold c.is_function_type others ≡ true → suc (length back) ≤ most → ops_at c locals most blocks bytes ≡ Some (o ∷ others)
      go so zero o others behind closed test next nested here later allowed holds room = absurd (omega arith)
      go so (suc most) o others behind true test next nested here later allowed holds room =
          let none : others ≡ [] = none_behind behind others test nested in
          let no_more : texts ≡ [] = no_texts texts (later ∙ ap Some none) in
          let no_rest : back ≡ [] = no_bytes texts back no_more row in
          ops_at-next c locals most blocks bytes (o, behind, back) next ∙ rw (test, no_rest, none) refl
      go so (suc most) o others behind false test next nested here later allowed holds room =
          let rest : ops_at c locals most behind back ≡ Some others = so most behind others later nested allowed holds test (omega arith) in
          ops_at-next c locals most blocks bytes (o, behind, back) next ∙ rw (test, rest) refl

  -- ---- both

  read_back : (bytes : List ℕ) (ops : List Op) → OperatorsRead c locals bytes ops → ops_at c locals (length bytes) (Plain ∷ []) bytes ≡ Some ops
  read_back bytes ops read = complete read.texts (length bytes) (Plain ∷ []) bytes ops read.spelled read.named read.nested read.allowed read.blocks refl (omega arith)

  read_forth : (bytes : List ℕ) (ops : List Op) → ops_at c locals (length bytes) (Plain ∷ []) bytes ≡ Some ops → OperatorsRead c locals bytes ops
  read_forth bytes ops is =
      let read = sound (length bytes) (Plain ∷ []) bytes ops is in
      record { texts = read.texts; spelled = read.spelled; named = read.named; nested = read.nested; allowed = read.allowed; blocks = read.holds }

  -- what the function on lists says is what the relation says
  pub reads_operators : {X : Type 0} (view : X → List Op) (bytes : List ℕ) (result : Result X IrError) → Gives view result (ops_at c locals (length bytes) (Plain ∷ []) bytes) → ReadsOperators c locals view bytes result
  reads_operators view bytes (Ok x) gives = read_forth bytes (view x) gives
  reads_operators view bytes (Err Malformed) gives = λ ops read. let both : Some ops ≡ None = sym (read_back bytes ops read) ∙ gives in absurd cc
  reads_operators view bytes (Err (Memory e)) gives = tt
  reads_operators view bytes (Err NoIndex) gives = gives
  reads_operators view bytes (Err NotWritable) gives = gives
  reads_operators view bytes (Err TooLarge) gives = gives
