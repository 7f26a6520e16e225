-- The bytes of bodies are read in one way.
use Rattle.std.proofs.Common.{◌≡◌, ℕ, ◌+◌, ◌≤◌, List, [], ◌∷◌, ◌++◌, length, refl, sym, ap, ap₂, ◌∙◌, subst, arith, length-append}
use Rattle.std.specs.Prelude.{Option, Some}
use Rattle.std.specs.List.{AllZip}
use Rattle.wasm_forms.specs.Grammar.{Is, IsRow}
use Rattle.wasm_forms.proofs.Bind.{some_same}
use Rattle.wasm_forms.proofs.Exact.{one_reading}
use Rattle.wasm_frames.specs.Record as wire
use Rattle.wasm_operators.specs.Operators as wire_ops
use Rattle.wasm_operators.specs.Forms.{operator}
use Rattle.walrus_base.specs.Types.{ValType}
use Rattle.walrus_base.specs.Operators.{Op}
use Rattle.walrus_functions.specs.Names.{named_ops}
use Rattle.walrus_functions.specs.FromRaw.{ops_of}
use Rattle.walrus_functions.specs.Features.{Features}
use Rattle.walrus_functions.specs.Body.{Context, BodyReads, declarations, declared_types}
use Rattle.walrus_functions.specs.ReadFunction.{locals_from}
use Rattle.walrus_model.specs.Reads.{arity, context_with, ReadsBodyWith}
use Rattle.walrus_model.specs.Sections.{Said}

-- ---- the operators of a body: one behind another, each with a first byte

led : (front : List ℕ) (text : wire_ops.Op) → Is operator front text → 1 ≤ length front
unfolding operator
led front text (b, (first, (back, (parts, one, rest)))) =
    let long : length front ≡ length first + length back = ap length parts ∙ length-append first back in
    let single : length first ≡ 1 = ap length one in
    omega arith

none_is_one : (bytes front back : List ℕ) (text : wire_ops.Op) → bytes ≡ [] → bytes ≡ front ++ back → Is operator front text → ⊥
none_is_one bytes front back text none parts is =
    let long : length bytes ≡ length front + length back = ap length parts ∙ length-append front back in
    let short : length bytes ≡ 0 = ap length none in
    let first = led front text is in
    omega (arith, first)

row_once : (xs ys : List wire_ops.Op) (bytes : List ℕ) → IsRow (Is operator) bytes xs → IsRow (Is operator) bytes ys → xs ≡ ys
row_once [] [] bytes row other = refl
row_once [] (y ∷ ys) bytes none (front, (back, (parts, is, rest))) = absurd (none_is_one bytes front back y none parts is)
row_once (x ∷ xs) [] bytes (front, (back, (parts, is, rest))) none = absurd (none_is_one bytes front back x none parts is)
row_once (x ∷ xs) (y ∷ ys) bytes (front, (back, (parts, is, rest))) (front', (back', (parts', is', rest'))) =
    let one = one_reading operator front back front' back' x y (sym parts ∙ parts') is is' in
    ap₂ ◌∷◌ one.0 (row_once xs ys back rest (subst (λ (bs : List ℕ). IsRow (Is operator) bs ys) (sym one.1) rest'))

-- ---- a body says one thing

module _ (c : Context) (locals others : ℕ → Option ℕ) (bytes : List ℕ) (ts us : List (ValType ℕ)) (xs ys : List Op) (p : BodyReads c locals bytes ts xs) (q : BodyReads c others bytes us ys) where
  -- whatever its locals are, its declarations are the same, and so is what stands behind them
  declarations_once : (p.declared ≡ q.declared) × (p.back ≡ q.back)
  declarations_once = one_reading declarations p.front p.back q.front q.back p.declared q.declared (sym p.parts ∙ q.parts) p.declares q.declares

  pub types_once : ts ≡ us
  types_once =
      let same : Some ts ≡ Some us = sym p.typed ∙ ap (declared_types c.names) declarations_once.0 ∙ q.typed in
      some_same _ _ same

  texts_once : p.operators.texts ≡ q.operators.texts
  texts_once = row_once p.operators.texts q.operators.texts p.back p.operators.spelled (subst (λ (bs : List ℕ). IsRow (Is operator) bs q.operators.texts) (sym declarations_once.1) q.operators.spelled)

  pub operators_once : locals ≡ others → xs ≡ ys
  operators_once same_locals =
      let same : Some xs ≡ Some ys = sym p.operators.named ∙ ap₂ (λ (l : ℕ → Option ℕ) (texts : List wire_ops.Op). named_ops c.names l (ops_of texts)) same_locals texts_once ∙ q.operators.named in
      some_same _ _ same

body_once : (c : Features) (r : wire.Module) (f : ℕ × wire.Body) (x y : Said) → ReadsBodyWith c r f x → ReadsBodyWith c r f y → x ≡ y
body_once c r f (ts, xs) (us, ys) p q =
    let locals : List (ValType ℕ) → ℕ → Option ℕ = λ l. locals_from 0 (arity r f.0 + length l) in
    let types = types_once (context_with c r) (locals ts) (locals us) f.1.bytes ts us xs ys p q in
    ap₂ (λ (l : List (ValType ℕ)) (o : List Op). (l, o)) types (operators_once (context_with c r) (locals ts) (locals us) f.1.bytes ts us xs ys p q (ap locals types))

pub bodies_once : (c : Features) (r : wire.Module) (fs : List (ℕ × wire.Body)) (xs ys : List Said) → AllZip (ReadsBodyWith c r) fs xs → AllZip (ReadsBodyWith c r) fs ys → xs ≡ ys
bodies_once c r [] [] [] p q = refl
bodies_once c r [] [] (y ∷ ys) p q = absurd q
bodies_once c r [] (x ∷ xs) ys p q = absurd p
bodies_once c r (f ∷ fs) [] ys p q = absurd p
bodies_once c r (f ∷ fs) (x ∷ xs) [] p q = absurd q
bodies_once c r (f ∷ fs) (x ∷ xs) (y ∷ ys) p q = ap₂ ◌∷◌ (body_once c r f x y p.0 q.0) (bodies_once c r fs xs ys p.1 q.1)
