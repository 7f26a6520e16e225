-- A plain body with new numbers is written.
use Rattle.std.proofs.Common.{◌≡◌, inl, inr, ℕ, ◌+◌, ◌<◌, ◌≤◌, true, false, List, [], ◌∷◌, ◌++◌, length, map, Option, Some, None, Result, Ok, Err, IsErrAnd, refl, sym, ap, subst, ◌∙◌}
use Rattle.std.specs.Prelude.{◌&&◌}
use Rattle.std.specs.List.{list_all}
use Rattle.wasm_forms.specs.Number.{AreBytes}
use Rattle.wasm_forms.specs.Writing.{EachFits}
use Rattle.wasm_text.specs.Operators as wire
use Rattle.wasm_text.specs.Marks.{args_at, fill, with}
use Rattle.wasm_text.specs.Filling.{Numbering, anew, HasNumber, SomeLacks}
use Rattle.wasm_text.specs.Classes.{is_plain}
use Rattle.walrus_base.specs.Operators.{Memories, Op}
use Rattle.walrus_code.specs.Names.{Lookup, named_ops}
use Rattle.walrus_code.specs.declared.error.IrError.{IrError}
use Rattle.walrus_code.specs.declared.error.IrError.TheVariants.{Malformed, Memory, NoIndex, NotWritable, TooLarge}
use Rattle.walrus_bodies.specs.declared.features.Features.{Features}
use Rattle.walrus_bodies.specs.Blocks.{are_nested}
use Rattle.walrus_bodies.specs.Features.{are_allowed}
use Rattle.walrus_bodies.specs.Emitting.{places_from, EmitsOperators, OperatorsWritten}
use Rattle.walrus_bodies.proofs.EmitLemmas.{emits}
use Rattle.walrus_bodies.specs.Numbers.{numbering}
use Rattle.walrus_bodies.specs.Placed.{placed_ops}
use Rattle.walrus_bodies.specs.Plain.{is_plain_arg, is_plain_op}
use Rattle.walrus_bodies.specs.Text.{bytes_of, entry_of, left_out_of, marks_of, ops_in, texts_of, first_local_of, local_count_of}
use Rattle.walrus_bodies.specs.Texts.{texts_at}
use Rattle.walrus_bodies.specs.declared.text.Text.{Text}
use Rattle.walrus_bodies.proofs.OrderLemmas.{shown_of}
use Rattle.walrus_bodies.proofs.TextLemmas.{row_of}
use Rattle.walrus_bodies.proofs.RenamedLemmas.{ops_named, ops_unnamed}
use Rattle.walrus_bodies.proofs.StandLemmas.{all_stand}
use Rattle.walrus_bodies.proofs.UnmarkedLemmas.{ops_kept, all_have, filled_anew, lacks_as_well}
use Rattle.walrus_bodies.proofs.HeldLemmas.{plain, whole}
use Rattle.std.proofs.lemmas.Bool.{and_parts as parts}
use Rattle.walrus_bodies.proofs.PlainLemmas.{op_allowed as one_allowed}

-- ---- plain operators may be used whatever the features are

allowed : (features : Features) (first count : ℕ) (ops : List Op) → list_all (is_plain_op first count) ops ≡ true → are_allowed features ops ≡ true
allowed features first count [] e = refl
allowed features first count (o ∷ ops) e =
    let p = parts (is_plain_op first count o) (list_all (is_plain_op first count) ops) e in
    let q = parts (is_plain o.op) (list_all (is_plain_arg first count) o.args) p.0 in
    ap (λ t. t && are_allowed features ops) (one_allowed features o.op q.0) ∙ allowed features first count ops p.1

-- ---- a body whose operators are listed: they may be used under any features

module _ (t : Text) (names : Lookup) (locals : ℕ → Option ℕ) where
  allowed_in : (features : Features) → are_allowed features (ops_in t) ≡ true
  unfolding texts_of first_local_of
  allowed_in features =
      let ops : List Op = placed_ops t.first_local (texts_at (entry_of t).count (bytes_of t)) in
      allowed features t.first_local (entry_of t).locals ops (parts (list_all (is_plain_op t.first_local (entry_of t).locals) ops) (are_nested ops) (plain t)).0

  module _ (some features : Features) (old new places : List ℕ) where
    pub written_under : (ops : List Op) → ops ≡ ops_in t → OperatorsWritten names locals some ops old new places → OperatorsWritten names locals features (ops_in t) old new places
    written_under ops are given =
        let w = subst (λ (os : List Op). OperatorsWritten names locals some os old new places) are given in
        emits {X = Unit {0}} names locals features (ops_in t) old new (λ _. places) (Ok tt) w.nested (allowed_in features) (record {
          texts = w.texts;
          named = w.named;
          spelled = w.spelled;
          placed = w.placed;
          stand = w.stand;
        })

    refused_so : (X : Type 0) (e : IrError) → EmitsOperators {X = X} names locals some (ops_in t) old new (λ _. places) (Err e) → EmitsOperators {X = Unit {0}} names locals features (ops_in t) old new (λ _. places) (Err e)
    refused_so X Malformed w = w
    refused_so X (Memory e) w = tt
    refused_so X NoIndex w = w
    refused_so X TooLarge w = w
    refused_so X NotWritable (inl w) = inl w
    refused_so X NotWritable (inr (inl w)) = let wrong : false ≡ true = sym w ∙ allowed_in some in absurd cc
    refused_so X NotWritable (inr (inr w)) = inr (inr w)

    pub refused_under : (X : Type 0) (ops : List Op) → ops ≡ ops_in t → (result : Result (Unit {0}) IrError) (e : IrError) → IsErrAnd result (λ x. x ≡ e) → EmitsOperators {X = X} names locals some ops old new (λ _. places) (Err e)
        → EmitsOperators {X = Unit {0}} names locals features (ops_in t) old new (λ _. places) result
    refused_under X ops are (Ok x) e is w = absurd is
    refused_under X ops are (Err x) e is w =
        subst (λ (d : IrError). EmitsOperators {X = Unit {0}} names locals features (ops_in t) old new (λ _. places) (Err d)) (sym is)
        (refused_so X e (subst (λ (os : List Op). EmitsOperators {X = X} names locals some os old new (λ _. places) (Err e)) are w))

-- ---- a body

-- what needs no mark in it keeps its number
pub record Keeps (t : Text) (names : Lookup) (locals : ℕ → Option ℕ) : Type 0 where
  pub locals_kept : (n : ℕ) → (left_out_of t).first ≤ n → n < local_count_of t → locals (first_local_of t + n) ≡ Some n
  pub memory_kept : (left_out_of t).accessed ≡ true → names Memories 0 ≡ Some 0

pub written : (t : Text) (names : Lookup) (locals : ℕ → Option ℕ) (features : Features) (old new : List ℕ) → Keeps t names locals → AreBytes (bytes_of t)
    → EachFits (HasNumber (numbering names locals t.first_local)) (args_at (bytes_of t) (marks_of t)) → new ≡ old ++ fill (anew (numbering names locals t.first_local)) (bytes_of t) 0 (marks_of t)
    → OperatorsWritten names locals features (ops_in t) old new (places_from (length old) (map (with (anew (numbering names locals t.first_local))) (texts_of t)))
unfolding texts_of first_local_of local_count_of
written t names locals features old new keeps bytes each filled =
    let number : Numbering = numbering names locals t.first_local in
    let texts : List wire.Op = texts_at (entry_of t).count (bytes_of t) in
    let after : List wire.Op = map (with (anew number)) texts in
    let ops : List Op = placed_ops t.first_local texts in
    let p = parts (list_all (is_plain_op t.first_local (entry_of t).locals) ops) (are_nested ops) (plain t) in
    let kept = ops_kept (left_out_of t) names locals t.first_local (entry_of t).locals keeps.locals_kept keeps.memory_kept texts p.0 in
    let have = all_have (left_out_of t) number (bytes_of t) (marks_of t) texts (shown_of t) kept each in
    emits {X = Unit {0}} names locals features ops old new (λ _. places_from (length old) after) (Ok tt) p.1 (allowed features t.first_local (entry_of t).locals ops p.0) (record {
      texts = after;
      named = ops_named names locals t.first_local texts have;
      spelled = filled ∙ ap (λ bs. old ++ bs) (filled_anew (left_out_of t) number (bytes_of t) (marks_of t) texts (shown_of t) kept);
      placed = refl;
      stand = all_stand number texts (bytes_of t) have bytes (row_of (entry_of t).count (bytes_of t) (whole t)).0;
    })

pub unnamed : (t : Text) (names : Lookup) (locals : ℕ → Option ℕ) → SomeLacks (numbering names locals t.first_local) (args_at (bytes_of t) (marks_of t)) → named_ops names locals (ops_in t) ≡ None
unfolding texts_of first_local_of
unnamed t names locals some =
    let texts : List wire.Op = texts_at (entry_of t).count (bytes_of t) in
    let ops : List Op = placed_ops t.first_local texts in
    let p = parts (list_all (is_plain_op t.first_local (entry_of t).locals) ops) (are_nested ops) (plain t) in
    ops_unnamed names locals t.first_local (entry_of t).locals texts p.0
    (lacks_as_well (left_out_of t) (numbering names locals t.first_local) (bytes_of t) (marks_of t) texts (shown_of t) some)
