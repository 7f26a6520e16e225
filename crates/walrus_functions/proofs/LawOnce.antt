-- No bytes are two bodies.
use Rattle.std.proofs.Common.{◌≡◌, ℕ, ◌+◌, ◌≤◌, List, [], ◌∷◌, ◌++◌, length, Some, refl, sym, ap, ap₂, ◌∙◌, subst, arith, length-append}
use Rattle.wasm_forms.specs.Grammar.{Is, IsRow}
use Rattle.wasm_forms.proofs.Bind.{some_same}
use Rattle.wasm_forms.proofs.Exact.{one_reading}
use Rattle.wasm_operators.specs.Operators as wire
use Rattle.wasm_operators.specs.Forms.{operator}
use Rattle.walrus_code.specs.Names.{named_ops}
use Rattle.walrus_code.specs.FromRaw.{ops_of}
use Rattle.walrus_bodies.specs.Body.{declarations, declared_types}
use Rattle.walrus_functions.specs.Laws.{BodiesReadOnce}

-- an operator has a first byte
led : (front : List ℕ) (text : wire.Op) → Is operator front text → 1 ≤ length front
unfolding operator
led front text (b, (first, (back, (parts, one, rest)))) =
    let long : length front ≡ length first + length back = ap length parts ∙ length-append first back in
    let single : length first ≡ 1 = ap length one in
    omega arith

none_is_one : (bytes front back : List ℕ) (text : wire.Op) → bytes ≡ [] → bytes ≡ front ++ back → Is operator front text → ⊥
none_is_one bytes front back text none parts is =
    let long : length bytes ≡ length front + length back = ap length parts ∙ length-append front back in
    let short : length bytes ≡ 0 = ap length none in
    let first = led front text is in
    omega (arith, first)

one_row : (xs ys : List wire.Op) (bytes : List ℕ) → IsRow (Is operator) bytes xs → IsRow (Is operator) bytes ys → ys ≡ xs
one_row [] [] bytes row other = refl
one_row [] (y ∷ ys) bytes none (front, (back, (parts, is, rest))) = absurd (none_is_one bytes front back y none parts is)
one_row (x ∷ xs) [] bytes (front, (back, (parts, is, rest))) none = absurd (none_is_one bytes front back x none parts is)
one_row (x ∷ xs) (y ∷ ys) bytes (front, (back, (parts, is, rest))) (front', (back', (parts', is', rest'))) =
    let one = one_reading operator front back front' back' x y (sym parts ∙ parts') is is' in
    ap₂ ◌∷◌ (sym one.0) (one_row xs ys back rest (subst (λ (bs : List ℕ). IsRow (Is operator) bs ys) (sym one.1) rest'))

pub once : BodiesReadOnce
once c locals bytes types others ops found a b =
    let front = one_reading declarations a.front a.back b.front b.back a.declared b.declared (sym a.parts ∙ b.parts) a.declares b.declares in
    let row = one_row a.operators.texts b.operators.texts a.back a.operators.spelled (subst (λ (bs : List ℕ). IsRow (Is operator) bs b.operators.texts) (sym front.1) b.operators.spelled) in
    let same_types : Some others ≡ Some types = sym b.typed ∙ ap (declared_types c.names) (sym front.0) ∙ a.typed in
    let same_ops : Some found ≡ Some ops = sym b.operators.named ∙ ap (λ (ts : List wire.Op). named_ops c.names locals (ops_of ts)) row ∙ a.operators.named in
    (some_same _ _ same_types, some_same _ _ same_ops)
