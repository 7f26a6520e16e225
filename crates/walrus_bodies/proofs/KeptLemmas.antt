-- A plain body is written the same under look-ups that agree on its locals.
use Rattle.std.proofs.Common.{◌≡◌, inl, inr, ℕ, zero, suc, ◌+◌, ◌-◌, ◌<◌, ◌≤◌, Bool, true, List, [], ◌∷◌, Option, Some, None, Result, Ok, Err, refl, sym, ap, ap₂, subst, ◌∙◌, arith}
use Rattle.std.specs.Prelude.{Contains, nat_le, nat_lt}
use Rattle.std.specs.List.{list_all}
use Rattle.wasm_forms.specs.Reading.{◌>>=◌}
use Rattle.wasm_text.specs.Classes.{is_plain}
use Rattle.walrus_base.specs.Operators.{Arg, Index, Label, Local, Number, Count, Byte, S32, S64, Bits32, Bits64, Value, Heap, Block, Access, Op}
use Rattle.walrus_code.specs.Names.{Lookup, named_arg, named_args, named_op, named_ops}
use Rattle.walrus_code.specs.declared.error.IrError.{IrError}
use Rattle.walrus_code.specs.declared.error.IrError.TheVariants.{Malformed, Memory, NoIndex, NotWritable, TooLarge}
use Rattle.walrus_bodies.specs.declared.features.Features.{Features}
use Rattle.walrus_bodies.specs.Blocks.{are_nested}
use Rattle.walrus_bodies.specs.Emitting.{EmitsOperators, IsUnspelled, OperatorsWritten}
use Rattle.walrus_bodies.proofs.EmitLemmas.{emits}
use Rattle.walrus_bodies.specs.Placed.{placed_ops}
use Rattle.walrus_bodies.specs.Plain.{is_plain_arg, is_plain_op}
use Rattle.walrus_bodies.specs.Text.{bytes_of, entry_of, ops_in, texts_of, first_local_of, local_count_of}
use Rattle.walrus_bodies.specs.Texts.{texts_at}
use Rattle.walrus_bodies.specs.declared.text.Text.{Text}
use Rattle.walrus_bodies.proofs.HeldLemmas.{plain}
use Rattle.std.proofs.lemmas.Bool.{leb-true, ltb-true, and_parts as parts}

each_passes : {X : Type 0} (p : X → Bool) (xs : List X) (x : X) → list_all p xs ≡ true → Contains xs x → p x ≡ true
each_passes p [] x all (k, low, is) = absurd (omega (arith, low))
each_passes {X} p (y ∷ xs) x all (zero, low, is) = subst (λ (z : X). p z ≡ true) is (parts (p y) (list_all p xs) all).0
each_passes p (y ∷ xs) x all (suc k, low, is) = each_passes p xs x (parts (p y) (list_all p xs) all).1 (k, omega (arith, low), is)

-- ---- look-ups of locals that agree on those of a body

module _ (names : Lookup) (locals other : ℕ → Option ℕ) (first count : ℕ) (agree : (x : ℕ) → first ≤ x → x < first + count → locals x ≡ other x) where
  same_arg : (a : Arg) → is_plain_arg first count a ≡ true → named_arg names locals a ≡ named_arg names other a
  same_arg (Index x) plain = refl
  same_arg (Local n) plain =
      let p = parts (nat_le first n) (nat_lt n (first + count)) plain in
      ap (λ o. o >>= λ found. Some (Local found)) (agree n (leb-true first n p.0) (ltb-true n (first + count) p.1))
  same_arg (Label n) plain = refl
  same_arg (Number n) plain = refl
  same_arg (Count n) plain = refl
  same_arg (Byte n) plain = refl
  same_arg (S32 z) plain = refl
  same_arg (S64 z) plain = refl
  same_arg (Bits32 n) plain = refl
  same_arg (Bits64 n) plain = refl
  same_arg (Value v) plain = refl
  same_arg (Heap h) plain = refl
  same_arg (Block b) plain = refl
  same_arg (Access flags memory offset) plain = refl

  same_args : (xs : List Arg) → list_all (is_plain_arg first count) xs ≡ true → named_args names locals xs ≡ named_args names other xs
  same_args [] plain = refl
  same_args (a ∷ xs) plain =
      let p = parts (is_plain_arg first count a) (list_all (is_plain_arg first count) xs) plain in
      ap₂ (λ (o : Option Arg) (rest : Option (List Arg)). o >>= λ found. rest >>= λ others. Some (found ∷ others)) (same_arg a p.0) (same_args xs p.1)

  same_op : (o : Op) → is_plain_op first count o ≡ true → named_op names locals o ≡ named_op names other o
  same_op o plain =
      ap (λ (args : Option (List Arg)). args >>= λ found. Some (record { op = o.op; args = found })) (same_args o.args (parts (is_plain o.op) (list_all (is_plain_arg first count) o.args) plain).1)

  same_ops : (ops : List Op) → list_all (is_plain_op first count) ops ≡ true → named_ops names locals ops ≡ named_ops names other ops
  same_ops [] plain = refl
  same_ops (o ∷ ops) plain =
      let p = parts (is_plain_op first count o) (list_all (is_plain_op first count) ops) plain in
      ap₂ (λ (one : Option Op) (rest : Option (List Op)). one >>= λ found. rest >>= λ others. Some (found ∷ others)) (same_op o p.0) (same_ops ops p.1)

  -- one that no bytes spell
  unspelled_as_well : (ops : List Op) → list_all (is_plain_op first count) ops ≡ true → (o : Op) → Contains ops o → IsUnspelled names locals o → IsUnspelled names other o
  unspelled_as_well ops each o among (inl exact) = inl exact
  unspelled_as_well ops each o among (inr none) =
      inr (record { text = none.text; named = sym (same_op o (each_passes (is_plain_op first count) ops o each among)) ∙ none.named; stands = none.stands; unspelled = none.unspelled })

-- ---- a body

module _ (t : Text) (names : Lookup) (given locals : ℕ → Option ℕ) (agree : (i : ℕ) → i < local_count_of t → given (first_local_of t + i) ≡ locals (first_local_of t + i)) where
  at_place : (x : ℕ) → first_local_of t ≤ x → x < first_local_of t + local_count_of t → given x ≡ locals x
  at_place x low high =
      let behind : x - first_local_of t < local_count_of t = omega (arith, low, high) in
      let back : first_local_of t + (x - first_local_of t) ≡ x = omega (arith, low) in
      sym (ap given back) ∙ agree (x - first_local_of t) behind ∙ ap locals back

  same : named_ops names given (ops_in t) ≡ named_ops names locals (ops_in t)
  unfolding texts_of first_local_of local_count_of
  same =
      let ops : List Op = placed_ops t.first_local (texts_at (entry_of t).count (bytes_of t)) in
      let p = parts (list_all (is_plain_op t.first_local (entry_of t).locals) ops) (are_nested ops) (plain t) in
      same_ops names given locals t.first_local (entry_of t).locals at_place ops p.0

  pub none_as_well : named_ops names given (ops_in t) ≡ None → named_ops names locals (ops_in t) ≡ None
  none_as_well none = sym same ∙ none

  pub written_as_well : (features : Features) (old new places : List ℕ) → OperatorsWritten names given features (ops_in t) old new places → OperatorsWritten names locals features (ops_in t) old new places
  written_as_well features old new places w = emits {X = Unit {0}} names locals features (ops_in t) old new (λ _. places) (Ok tt) w.nested w.allowed (record {
    texts = w.texts;
    named = sym same ∙ w.named;
    spelled = w.spelled;
    placed = w.placed;
    stand = w.stand;
  })

  -- whatever is answered
  pub emitted_as_well : (features : Features) (old new places : List ℕ) (result : Result (Unit {0}) IrError) → EmitsOperators names given features (ops_in t) old new (λ _. places) result
      → EmitsOperators names locals features (ops_in t) old new (λ _. places) result
  unfolding texts_of first_local_of local_count_of
  emitted_as_well features old new places (Ok x) w = written_as_well features old new places w
  emitted_as_well features old new places (Err Malformed) w = w
  emitted_as_well features old new places (Err (Memory e)) w = tt
  emitted_as_well features old new places (Err NoIndex) w = none_as_well w
  emitted_as_well features old new places (Err TooLarge) w = w
  emitted_as_well features old new places (Err NotWritable) (inl w) = inl w
  emitted_as_well features old new places (Err NotWritable) (inr (inl w)) = inr (inl w)
  emitted_as_well features old new places (Err NotWritable) (inr (inr w)) =
      let ops : List Op = placed_ops t.first_local (texts_at (entry_of t).count (bytes_of t)) in
      let p = parts (list_all (is_plain_op t.first_local (entry_of t).locals) ops) (are_nested ops) (plain t) in
      inr (inr (w.0, (w.1.0, unspelled_as_well names given locals t.first_local (entry_of t).locals at_place ops p.0 w.0 w.1.0 w.1.1)))
