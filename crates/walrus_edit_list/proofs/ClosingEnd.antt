-- The last operator of a body is `end`, which is one byte.
use Rattle.std.proofs.Common.{◌≡◌, ℕ, ◌+◌, ◌*◌, Bool, true, false, List, [], ◌∷◌, ◌++◌, Option, Some, None, cond, map, refl, sym, ap, ◌∙◌, subst, arith, append_assoc}
use Rattle.std.proofs.lemmas.Bool.{false≢true as untrue, eqb-true}
use Rattle.std.proofs.lemmas.List.{append-nil, append_cancel_right}
use Rattle.std.specs.Prelude.{nat_eq, nat_lt}
use Rattle.wasm_opcodes.specs.declared.one_byte.TheConstants.{IF, ELSE, TRY, CATCH, END, DELEGATE, CATCH_ALL}
use Rattle.wasm_forms.specs.Reading.{◌>>=◌}
use Rattle.wasm_forms.specs.Grammar.{Is, IsRow, Led, Where, U32, choose}
use Rattle.wasm_forms.proofs.Bind.{bind_some, some_same}
use Rattle.wasm_operators.specs.declared.kind.Kind.{Kind}
use Rattle.wasm_operators.specs.declared.operator.RawArg.{RawArg}
use Rattle.wasm_operators.specs.Operators as wire
use Rattle.wasm_operators.specs.Table.{kinds_of}
use Rattle.wasm_operators.specs.Forms.{args_form, behind, operator_of, is_prefix, operator_from, operator}
use Rattle.walrus_base.specs.Operators.{Arg, Op}
use Rattle.walrus_bodies.specs.Blocks.{are_nested, blocks_after, blocks_behind, blocks_meant, labels_below, nests, opens_plain}
use Rattle.walrus_bodies.specs.declared.blocks.Opened.{Opened}
use Rattle.walrus_bodies.specs.declared.blocks.Opened.TheVariants.{Plain}
use Rattle.walrus_code.specs.FromRaw.{op_of}
use Rattle.walrus_code.specs.Names.{Lookup, named_args, named_op, named_ops}
use Rattle.walrus_edit_list.proofs.FrontNests.{InFunction, after_is, after_open, closes_all}

-- ---- what closes the function

by_cases : (P : Option (List Opened) → Type 0) (t : Bool) (a b : Option (List Opened)) → (t ≡ true → P a) → P b → P (cond t a b)
by_cases P true a b p q = p refl
by_cases P false a b p q = q

abbrev Closes : ℕ → Option (List Opened) → Type 0
Closes op state = nests state [] ≡ true → op ≡ END

behind_closes : (op : ℕ) → Closes op (blocks_behind op (Plain ∷ []))
behind_closes op =
    by_cases (Closes op) (opens_plain op) _ _ (λ is h. absurd (untrue h))
    (by_cases (Closes op) (nat_eq op IF) _ _ (λ is h. absurd (untrue h))
    (by_cases (Closes op) (nat_eq op TRY) _ _ (λ is h. absurd (untrue h))
    (by_cases (Closes op) (nat_eq op ELSE) _ _ (λ is h. absurd (untrue h))
    (by_cases (Closes op) (nat_eq op CATCH) _ _ (λ is h. absurd (untrue h))
    (by_cases (Closes op) (nat_eq op CATCH_ALL) _ _ (λ is h. absurd (untrue h))
    (by_cases (Closes op) (nat_eq op DELEGATE) _ _ (λ is h. absurd (untrue h))
    (by_cases (Closes op) (nat_eq op END) _ _ (λ is h. eqb-true op END is) (λ h. absurd (untrue h)))))))))

after_closes : (op : ℕ) (args : List Arg) (b : Opened) → b ≡ Plain → Closes op (blocks_after op args (b ∷ []))
after_closes op args b is =
    subst (λ (x : Opened). Closes op (blocks_after op args (x ∷ []))) (sym is)
    (by_cases (Closes op) (labels_below (blocks_meant op (Plain ∷ [])) args) _ _ (λ low. behind_closes op) (λ h. absurd (untrue h)))

closes_on : (state : Option (List Opened)) (front : List Op) (last : Op) → InFunction state → nests state (front ++ last ∷ []) ≡ true → last.op ≡ END
closes_on None front last h closed = absurd (untrue closed)
closes_on (Some blocks) (o ∷ front) last h closed = closes_on (blocks_after o.op o.args blocks) front last (after_is o.op o.args blocks h) closed
closes_on (Some []) [] last h closed = absurd (untrue closed)
closes_on (Some (b ∷ [])) [] last h closed = after_closes last.op last.args b h closed
closes_on (Some (b ∷ c ∷ around)) [] last h closed = absurd (closes_all (blocks_after last.op last.args (b ∷ c ∷ around)) (after_open last.op last.args b c around) closed)

pub last_is_end : (front : List Op) (last : Op) → are_nested (front ++ last ∷ []) ≡ true → last.op ≡ END
last_is_end front last closed = closes_on (Some (Plain ∷ [])) front last refl closed

-- ---- its byte

end_kinds : kinds_of END ≡ Some []
unfolding kinds_of
end_kinds = refl

no_bytes : (bytes : List ℕ) (xs : List RawArg) (ks : List Kind) → ks ≡ [] → Is (args_form ks) bytes xs → bytes ≡ []
unfolding args_form
no_bytes bytes xs [] none is = is.0
no_bytes bytes xs (k ∷ ks) none is = absurd (cc)

behind_op : (k : ℕ) (o : Option (List Kind)) (bytes : List ℕ) (t : wire.Op) → Is (behind k o) bytes t → t.op ≡ k
behind_op k None bytes t is = absurd is
behind_op k (Some ks) bytes t (xs, (made, are)) = ap (λ (x : wire.Op). x.op) made

behind_end : (k : ℕ) (o : Option (List Kind)) → kinds_of k ≡ o → (bytes : List ℕ) (t : wire.Op) → Is (behind k o) bytes t → k ≡ END → bytes ≡ []
behind_end k None at bytes t is closing = absurd is
behind_end k (Some ks) at bytes t (xs, (made, are)) closing = no_bytes bytes xs ks (some_same ks [] (sym at ∙ ap kinds_of closing ∙ end_kinds)) are

of_op : (k : ℕ) (bytes : List ℕ) (t : wire.Op) → Is (operator_of k) bytes t → t.op ≡ k
unfolding operator_of
of_op k bytes t is = behind_op k (kinds_of k) bytes t is

of_end : (k : ℕ) (bytes : List ℕ) (t : wire.Op) → Is (operator_of k) bytes t → k ≡ END → bytes ≡ []
unfolding operator_of
of_end k bytes t is closing = behind_end k (kinds_of k) refl bytes t is closing

-- what stands behind the first byte of an `end`, and this byte
abbrev IsAlone : ℕ → List ℕ → Type 0
IsAlone b bytes = (b ≡ END) × (bytes ≡ [])

no_prefix : (b n : ℕ) → 11 ≡ b * 65536 + n → b ≡ 0
no_prefix b n is = omega arith

from_end_by : (b : ℕ) (p : Bool) → is_prefix b ≡ p → (bytes : List ℕ) (t : wire.Op) → Is (choose p (Led (Where (λ n. nat_lt n 65536) U32) (λ n. operator_of (b * 65536 + n))) (operator_of b)) bytes t → t.op ≡ END → IsAlone b bytes
from_end_by b true at bytes t (n, (front, (rest, (parts, number, arguments)))) closing =
    let zero_is : b ≡ 0 = no_prefix b n (sym closing ∙ of_op (b * 65536 + n) rest t arguments) in
    absurd (untrue (ap is_prefix (sym zero_is) ∙ at))
from_end_by b false at bytes t arguments closing =
    let is : b ≡ END = sym (of_op b bytes t arguments) ∙ closing in
    (is, of_end b bytes t arguments is)

from_end : (b : ℕ) (bytes : List ℕ) (t : wire.Op) → Is (operator_from b) bytes t → t.op ≡ END → IsAlone b bytes
unfolding operator_from
from_end b bytes t is closing = from_end_by b (is_prefix b) refl bytes t is closing

alone : (bytes front rest : List ℕ) (b : ℕ) → bytes ≡ front ++ rest → front ≡ b ∷ [] → IsAlone b rest → bytes ≡ END ∷ []
alone bytes front rest b parts one (is, none) = parts ∙ ap (λ (l : List ℕ). l ++ rest) one ∙ ap (λ (l : List ℕ). b ∷ l) none ∙ ap (λ (n : ℕ). n ∷ []) is

end_alone : (bytes : List ℕ) (t : wire.Op) → Is operator bytes t → t.op ≡ END → bytes ≡ END ∷ []
unfolding operator
end_alone bytes t (b, (front, (rest, (parts, one, behind_it)))) closing = alone bytes front rest b parts one (from_end b rest t behind_it closing)

-- ---- rows

row_last : {A : Type 0} (R : List ℕ → A → Type 0) (bytes : List ℕ) (xs : List A) (x : A) → IsRow R bytes (xs ++ x ∷ []) → (front : List ℕ) × ((back : List ℕ) × ((bytes ≡ front ++ back) × IsRow R front xs × R back x))
row_last R bytes [] x (front, (back, (parts, first, rest))) = ([], (front, (parts ∙ ap (λ (l : List ℕ). front ++ l) rest ∙ append-nil front, refl, first)))
row_last R bytes (y ∷ xs) x (front, (back, (parts, first, rest))) =
    let others = row_last R back xs x rest in (
      front ++ others.0,
      (
        others.1.0,
        (parts ∙ ap (λ (l : List ℕ). front ++ l) others.1.1.0 ∙ sym (append_assoc front others.0 others.1.0), (front, (others.0, (refl, first, others.1.1.1))), others.1.1.2),
      ),
    )

-- what stands in front of a closing `end`
pub row_closed : (bytes : List ℕ) (ts : List wire.Op) (t : wire.Op) → IsRow (Is operator) (bytes ++ END ∷ []) (ts ++ t ∷ []) → t.op ≡ END → IsRow (Is operator) bytes ts
row_closed bytes ts t row closing =
    let parts = row_last (Is operator) (bytes ++ END ∷ []) ts t row in
    let one = end_alone parts.1.0 t parts.1.1.2 closing in
    let whole : bytes ++ END ∷ [] ≡ parts.0 ++ END ∷ [] = parts.1.1.0 ∙ ap (λ (l : List ℕ). parts.0 ++ l) one in
    subst (λ (l : List ℕ). IsRow (Is operator) l ts) (sym (append_cancel_right bytes parts.0 (END ∷ []) whole)) parts.1.1.1

-- ---- an operator that was looked up is the same operator

module _ (names : Lookup) (locals : ℕ → Option ℕ) where
  named_same : (o found : Op) → named_op names locals o ≡ Some found → found.op ≡ o.op
  named_same o found is =
      let args = bind_some (named_args names locals o.args) (λ xs. Some (let p : Op = record { op = o.op; args = xs } in p)) found is in
      ap (λ (p : Op). p.op) (sym (some_same (let p : Op = record { op = o.op; args = args.0 } in p) found args.2))

  -- the last one of those that were looked up
  pub last_same : (ts : List wire.Op) (t : wire.Op) (front : List Op) (last : Op) → named_ops names locals (map op_of (ts ++ t ∷ [])) ≡ Some (front ++ last ∷ []) → t.op ≡ last.op
  last_same [] t [] last is =
      let one = bind_some (named_op names locals (op_of t)) (λ (y : Op). Some (y ∷ [])) (last ∷ []) is in
      let head : one.0 ≡ last = heads (some_same (one.0 ∷ []) (last ∷ []) one.2) in
      sym (named_same (op_of t) one.0 one.1) ∙ ap (λ (p : Op). p.op) head
    where
      heads : {x y : Op} → x ∷ [] ≡ y ∷ [] → x ≡ y
      heads same = cc
  last_same [] t (f ∷ front) last is =
      let one = bind_some (named_op names locals (op_of t)) (λ (y : Op). Some (y ∷ [])) (f ∷ front ++ last ∷ []) is in
      absurd (short front last f one.0 (some_same (one.0 ∷ []) (f ∷ front ++ last ∷ []) one.2))
    where
      short : (front : List Op) (last f x : Op) → x ∷ [] ≡ f ∷ front ++ last ∷ [] → ⊥
      short [] last f x same = cc
      short (y ∷ ys) last f x same = cc
  last_same (u ∷ ts) t [] last is =
      let one = bind_some (named_op names locals (op_of u)) (λ (y : Op). named_ops names locals (map op_of (ts ++ t ∷ [])) >>= λ (ys : List Op). Some (y ∷ ys)) (last ∷ []) is in
      let more = bind_some (named_ops names locals (map op_of (ts ++ t ∷ []))) (λ (ys : List Op). Some (one.0 ∷ ys)) (last ∷ []) one.2 in
      absurd (some_left ts t more.0 more.1 (tails (some_same (one.0 ∷ more.0) (last ∷ []) more.2)))
    where
      tails : {x y : Op} {xs : List Op} → x ∷ xs ≡ y ∷ [] → xs ≡ []
      tails same = cc

      some_left : (ts : List wire.Op) (t : wire.Op) (found : List Op) → named_ops names locals (map op_of (ts ++ t ∷ [])) ≡ Some found → found ≡ [] → ⊥
      some_left [] t found is none =
          let one = bind_some (named_op names locals (op_of t)) (λ (y : Op). Some (y ∷ [])) found is in
          let same : one.0 ∷ [] ≡ [] = some_same (one.0 ∷ []) found one.2 ∙ none in
          cc
      some_left (u ∷ ts) t found is none =
          let one = bind_some (named_op names locals (op_of u)) (λ (y : Op). named_ops names locals (map op_of (ts ++ t ∷ [])) >>= λ (ys : List Op). Some (y ∷ ys)) found is in
          let more = bind_some (named_ops names locals (map op_of (ts ++ t ∷ []))) (λ (ys : List Op). Some (one.0 ∷ ys)) found one.2 in
          let same : one.0 ∷ more.0 ≡ [] = some_same (one.0 ∷ more.0) found more.2 ∙ none in
          cc
  last_same (u ∷ ts) t (f ∷ front) last is =
      let one = bind_some (named_op names locals (op_of u)) (λ (y : Op). named_ops names locals (map op_of (ts ++ t ∷ [])) >>= λ (ys : List Op). Some (y ∷ ys)) (f ∷ front ++ last ∷ []) is in
      let more = bind_some (named_ops names locals (map op_of (ts ++ t ∷ []))) (λ (ys : List Op). Some (one.0 ∷ ys)) (f ∷ front ++ last ∷ []) one.2 in
      let whole : one.0 ∷ more.0 ≡ f ∷ (front ++ last ∷ []) = some_same _ _ more.2 in
      let tail : more.0 ≡ front ++ last ∷ [] = cc in
      last_same ts t front last (more.1 ∙ ap (λ (xs : List Op). Some xs) tail)
