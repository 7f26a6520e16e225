-- The operators of a body stand at one row of places.
use Rattle.std.proofs.Common.{◌≡◌, ℕ, List, [], ◌∷◌, ◌++◌, length, refl, sym, ap, ap₂, ◌∙◌, arith, length-append}
use Rattle.std.specs.Prelude.{None}
use Rattle.wasm_forms.specs.Grammar.{Is, at}
use Rattle.wasm_forms.specs.Spelling.{row_bytes}
use Rattle.wasm_forms.proofs.Bind.{some_not_none}
use Rattle.wasm_forms.proofs.Exact.{exact, one_reading}
use Rattle.wasm_operators.specs.Forms.{operator}
use Rattle.wasm_operators.specs.Operators as operators
use Rattle.wasm_operators.specs.Spelling.{op_bytes}
use Rattle.walrus_bodies.specs.Body as bodies
use Rattle.walrus_bodies.specs.Emitting.{AllStand, places_from}
use Rattle.walrus_writing.specs.Transform.{OperatorsStandAt}

abbrev Text : Type 0
Text = operators.Op

-- no operator has no bytes
none_at : at operator [] ≡ None
unfolding operator
none_at = refl

not_empty : (o : Text) (rest : List ℕ) → Is operator (op_bytes o) o → [] ≡ op_bytes o ++ rest → ⊥
not_empty o rest stands e =
    some_not_none (o, rest) (sym ((exact operator).again (op_bytes o) rest o stands) ∙ ap (at operator) (sym e) ∙ none_at)

-- bytes are one row of operators
one_row : (texts others : List Text) → AllStand texts → AllStand others → row_bytes op_bytes texts ≡ row_bytes op_bytes others → texts ≡ others
one_row [] [] h k e = refl
one_row [] (o ∷ others) h k e = absurd (not_empty o (row_bytes op_bytes others) k.0 e)
one_row (o ∷ texts) [] h k e = absurd (not_empty o (row_bytes op_bytes texts) h.0 (sym e))
one_row (o ∷ texts) (p ∷ others) h k e =
    let both = one_reading operator (op_bytes o) (row_bytes op_bytes texts) (op_bytes p) (row_bytes op_bytes others) o p e h.0 k.0 in
    ap₂ ◌∷◌ both.0 (one_row texts others h.1 k.1 both.1)

pub one_places : (bytes ps qs : List ℕ) → OperatorsStandAt bytes ps → OperatorsStandAt bytes qs → ps ≡ qs
one_places bytes ps qs a b =
    let same : a.front ++ row_bytes op_bytes a.texts ≡ b.front ++ row_bytes op_bytes b.texts = sym a.spelled ∙ b.spelled in
    let both = one_reading bodies.declarations a.front (row_bytes op_bytes a.texts) b.front (row_bytes op_bytes b.texts) a.declared b.declared same a.declares b.declares in
    let texts : a.texts ≡ b.texts = one_row a.texts b.texts a.stand b.stand both.1 in
    let long : length a.front ≡ length b.front = omega (arith, ap length same, ap length both.1, length-append a.front (row_bytes op_bytes a.texts), length-append b.front (row_bytes op_bytes b.texts)) in
    a.placed ∙ ap₂ places_from long texts ∙ sym b.placed
