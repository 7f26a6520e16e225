-- Looking up what operators name keeps how they nest, and whether they are allowed.
use Rattle.std.proofs.Common.{◌≡◌, ℕ, ◌&&◌, Bool, cond, List, [], ◌∷◌, Option, Some, None, refl, sym, ap, ap₂, ◌∙◌}
use Rattle.wasm_forms.specs.Reading.{◌>>=◌}
use Rattle.wasm_forms.proofs.Bind.{bind_some, some_same}
use Rattle.walrus_base.specs.Operators.{Memories, Arg, Index, Label, Local, Number, Count, Byte, S32, S64, Bits32, Bits64, Value, Heap, Block, Access, Op}
use Rattle.walrus_code.specs.Names.{Lookup, named_heap, named_val, named_block, named_arg, named_args, named_op, named_ops}
use Rattle.walrus_bodies.specs.declared.blocks.Opened.{Opened}
use Rattle.walrus_bodies.specs.declared.blocks.Opened.TheVariants.{Plain}
use Rattle.walrus_bodies.specs.declared.features.Features.{Features}
use Rattle.walrus_bodies.specs.Blocks.{blocks_behind, blocks_meant, blocks_after, label_below, labels_below, nests, are_nested}
use Rattle.walrus_bodies.specs.Features.{is_allowed, are_allowed}

module _ (names : Lookup) (locals : ℕ → Option ℕ) where
  -- an argument's label stays
  label_same : (count : ℕ) (x found : Arg) → named_arg names locals x ≡ Some found → label_below count x ≡ label_below count found
  label_same count (Index x) found is =
      let b = bind_some (names x.0 x.1) (λ k. Some (Index (x.0, k))) found is in
      ap (label_below count) (some_same (Index (x.0, b.0)) found b.2)
  label_same count (Local n) found is =
      let b = bind_some (locals n) (λ k. Some (Local k)) found is in
      ap (label_below count) (some_same (Local b.0) found b.2)
  label_same count (Value v) found is =
      let b = bind_some (named_val names v) (λ w. Some (Value w)) found is in
      ap (label_below count) (some_same (Value b.0) found b.2)
  label_same count (Heap h) found is =
      let b = bind_some (named_heap names h) (λ w. Some (Heap w)) found is in
      ap (label_below count) (some_same (Heap b.0) found b.2)
  label_same count (Block t) found is =
      let b = bind_some (named_block names t) (λ w. Some (Block w)) found is in
      ap (label_below count) (some_same (Block b.0) found b.2)
  label_same count (Access flags memory offset) found is =
      let b = bind_some (names Memories memory) (λ k. Some (Access flags k offset)) found is in
      ap (label_below count) (some_same (Access flags b.0 offset) found b.2)
  label_same count (Label n) found is = ap (label_below count) (some_same (Label n) found is)
  label_same count (Number n) found is = ap (label_below count) (some_same (Number n) found is)
  label_same count (Count n) found is = ap (label_below count) (some_same (Count n) found is)
  label_same count (Byte n) found is = ap (label_below count) (some_same (Byte n) found is)
  label_same count (S32 n) found is = ap (label_below count) (some_same (S32 n) found is)
  label_same count (S64 n) found is = ap (label_below count) (some_same (S64 n) found is)
  label_same count (Bits32 n) found is = ap (label_below count) (some_same (Bits32 n) found is)
  label_same count (Bits64 n) found is = ap (label_below count) (some_same (Bits64 n) found is)

  labels_same : (count : ℕ) (xs found : List Arg) → named_args names locals xs ≡ Some found → labels_below count xs ≡ labels_below count found
  labels_same count [] found is = ap (labels_below count) (some_same [] found is)
  labels_same count (x ∷ xs) found is =
      let b = bind_some (named_arg names locals x) (λ y. named_args names locals xs >>= λ ys. Some (y ∷ ys)) found is in
      let d = bind_some (named_args names locals xs) (λ ys. Some (b.0 ∷ ys)) found b.2 in
      ap₂ (λ (p q : Bool). p && q) (label_same count x b.0 b.1) (labels_same count xs d.0 d.1) ∙ ap (labels_below count) (some_same (b.0 ∷ d.0) found d.2)

  -- the operator stays, and its labels
  op_same : (o found : Op) → named_op names locals o ≡ Some found → (found.op ≡ o.op) × ((count : ℕ) → labels_below count o.args ≡ labels_below count found.args)
  op_same o found is =
      let b = bind_some (named_args names locals o.args) (λ args. Some (record { op = o.op; args = args })) found is in
      let same : record { op = o.op; args = b.0 } ≡ found = some_same _ _ b.2 in
      (ap (λ (p : Op). p.op) (sym same), λ count. labels_same count o.args b.0 b.1 ∙ ap (λ (p : Op). labels_below count p.args) same)

  after_same : (o found : Op) (blocks : List Opened) → named_op names locals o ≡ Some found → blocks_after o.op o.args blocks ≡ blocks_after found.op found.args blocks
  after_same o found [] is = refl
  after_same o found (block ∷ around) is =
      let same = op_same o found is in
      go (labels_below (blocks_meant o.op (block ∷ around)) o.args) (labels_below (blocks_meant found.op (block ∷ around)) found.args)
      (same.1 (blocks_meant o.op (block ∷ around)) ∙ ap (λ (op : ℕ). labels_below (blocks_meant op (block ∷ around)) found.args) (sym same.0)) (sym same.0)
    where
      go : (s t : Bool) → s ≡ t → o.op ≡ found.op → cond s (blocks_behind o.op (block ∷ around)) None ≡ cond t (blocks_behind found.op (block ∷ around)) None
      go s t labels op = ap₂ (λ (r : Bool) (p : ℕ). cond r (blocks_behind p (block ∷ around)) None) labels op

  nests_same : (blocks : Option (List Opened)) (ops found : List Op) → named_ops names locals ops ≡ Some found → nests blocks ops ≡ nests blocks found
  nests_same None ops found is = refl
  nests_same (Some blocks) [] found is = ap (nests (Some blocks)) (some_same [] found is)
  nests_same (Some blocks) (o ∷ ops) found is =
      let b = bind_some (named_op names locals o) (λ y. named_ops names locals ops >>= λ ys. Some (y ∷ ys)) found is in
      let d = bind_some (named_ops names locals ops) (λ ys. Some (b.0 ∷ ys)) found b.2 in
      nests_same (blocks_after o.op o.args blocks) ops d.0 d.1
      ∙ ap (λ (after : Option (List Opened)). nests after d.0) (after_same o b.0 blocks b.1)
      ∙ ap (nests (Some blocks)) (some_same (b.0 ∷ d.0) found d.2)

  pub nested_same : (ops found : List Op) → named_ops names locals ops ≡ Some found → are_nested ops ≡ are_nested found
  nested_same ops found is = nests_same (Some (Plain ∷ [])) ops found is

  pub allowed_same : (features : Features) (ops found : List Op) → named_ops names locals ops ≡ Some found → are_allowed features ops ≡ are_allowed features found
  allowed_same features [] found is = ap (are_allowed features) (some_same [] found is)
  allowed_same features (o ∷ ops) found is =
      let b = bind_some (named_op names locals o) (λ y. named_ops names locals ops >>= λ ys. Some (y ∷ ys)) found is in
      let d = bind_some (named_ops names locals ops) (λ ys. Some (b.0 ∷ ys)) found b.2 in
      let same = op_same o b.0 b.1 in
      ap₂ (λ (p q : Bool). p && q) (ap (is_allowed features) (sym same.0)) (allowed_same features ops d.0 d.1) ∙ ap (are_allowed features) (some_same (b.0 ∷ d.0) found d.2)
