-- What is written for element and data segments stands in the grammar.
use Rattle.std.proofs.Common.{◌≡◌, ℕ, ◌<◌, Bool, true, false, List, [], ◌∷◌, ◌++◌, length, refl, sym, subst, arith, append_assoc, eqb-true}
use Rattle.std.specs.Prelude.{Some, None, nat_eq, if◌then◌else◌}
use Rattle.std.specs.List.{All}
use Rattle.std.proofs.lemmas.List.Elements.{All-head, All-tail}
use Rattle.wasm_forms.specs.Grammar.{Form, Is, IsRow, U32, Vector, ◌then◌}
use Rattle.wasm_forms.specs.Spelling.{number_bytes, block_bytes, row_bytes, vector_bytes}
use Rattle.wasm_forms.specs.Types.{reference_bytes, HeapStands}
use Rattle.wasm_forms.specs.Writing.{FitsLength}
use Rattle.wasm_forms.specs.declared.types.RawRef.{RawRef}
use Rattle.wasm_forms.proofs.Spelled.{number_stands, block_stands}
use Rattle.wasm_entries.specs.Record.{Expression, ElementMode, ActiveElements, PassiveElements, DeclaredElements, Items, Functions, Expressions, Element, DataMode, ActiveData, PassiveData, Segment}
use Rattle.wasm_entries.specs.Forms.{any_function, expression_form, functions_form, kinded, typed, of_functions, in_first, in_table, segment_of, element_from, element_form, data_with, data_from, data_form}
use Rattle.wasm_entries.specs.Spelling.{expression_bytes, element_spelled, element_bytes, data_mode_bytes, data_bytes, ItemsFit, ElementFits, DataFits, IsIndex, ExpressionStands, ElementsStand, ElementStands, DataModeStands, DataStands}
use Rattle.wasm_forms.proofs.Stands.{reference_stands}
use Rattle.wasm_entries.proofs.Constants.{byte_stands, expression_stands}

-- ---- lists

row_of : {A : Type 0} (f : Form A) (spell : A → List ℕ) (P : A → Type 0) → ((x : A) → P x → Is f (spell x) x) → (xs : List A) → All P xs → IsRow (Is f) (row_bytes spell xs) xs
row_of f spell P stands [] h = refl
row_of f spell P stands (x ∷ xs) h = (spell x, (row_bytes spell xs, (refl, stands x (All-head P x xs h), row_of f spell P stands xs (All-tail P x xs h))))

-- items of which each stands in its form, in a number that fits
pub list_stands : {A : Type 0} (f : Form A) (spell : A → List ℕ) (P : A → Type 0) → ((x : A) → P x → Is f (spell x) x) → (xs : List A) → FitsLength xs → All P xs → Is (Vector f) (vector_bytes spell xs) xs
list_stands f spell P stands xs short h = (length xs, (number_bytes (length xs), (row_bytes spell xs, (refl, number_stands (length xs) short, (row_of f spell P stands xs h, refl)))))

indices_stand : (fs : List ℕ) → FitsLength fs → All IsIndex fs → Is (Vector U32) (vector_bytes number_bytes fs) fs
indices_stand fs short h = list_stands U32 number_bytes IsIndex number_stands fs short h

expressions_stand : (es : List Expression) → FitsLength es → All ExpressionStands es → Is (Vector expression_form) (vector_bytes expression_bytes es) es
expressions_stand es short h = list_stands expression_form expression_bytes ExpressionStands expression_stands es short h

-- ---- what a segment lists

functions_stand : (fs : List ℕ) → FitsLength fs → All IsIndex fs → Is functions_form (vector_bytes number_bytes fs) (Functions fs)
unfolding functions_form
functions_stand fs short h = (fs, (refl, indices_stand fs short h))

kinded_stands : (fs : List ℕ) → FitsLength fs → All IsIndex fs → Is kinded (0 ∷ vector_bytes number_bytes fs) (Functions fs)
unfolding kinded
kinded_stands fs short h = (0, (0 ∷ [], (vector_bytes number_bytes fs, (refl, (refl, refl), functions_stand fs short h))))

typed_stands : (ty : RawRef) (es : List Expression) → FitsLength es → HeapStands ty.heap → All ExpressionStands es → Is typed (reference_bytes ty ++ vector_bytes expression_bytes es) (Expressions ty es)
unfolding typed
typed_stands ty es short k h = ((ty, es), (refl, (reference_bytes ty, (vector_bytes expression_bytes es, (refl, reference_stands ty k, expressions_stand es short h)))))

of_functions_stand : (es : List Expression) → FitsLength es → All ExpressionStands es → Is of_functions (vector_bytes expression_bytes es) (Expressions any_function es)
unfolding of_functions
of_functions_stand es short h = (es, (refl, expressions_stand es short h))

-- ---- where it stands

in_first_stands : (offset : Expression) → ExpressionStands offset → Is in_first (expression_bytes offset) (ActiveElements None offset)
unfolding in_first
in_first_stands offset h = (offset, (refl, expression_stands offset h))

in_table_stands : (table : ℕ) (offset : Expression) → IsIndex table → ExpressionStands offset → Is in_table (number_bytes table ++ expression_bytes offset) (ActiveElements (Some table) offset)
unfolding in_table
in_table_stands table offset k h = ((table, offset), (refl, (number_bytes table, (expression_bytes offset, (refl, number_stands table k, expression_stands offset h)))))

-- ---- the segment

-- behind its flags: where it stands, and what it lists
parts_stand : (m : Form ElementMode) (i : Form Items) (mode : ElementMode) (items : Items) (bytes front back : List ℕ) → bytes ≡ front ++ back → Is m front mode → Is i back items → Is (segment_of m i) bytes (record { mode = mode; items = items })
unfolding segment_of
parts_stand m i mode items bytes front back e h k = ((mode, items), (refl, (front, (back, (e, h, k)))))

flagged : (flags : ℕ) (bytes : List ℕ) (e : Element) → flags < 128 → Is (element_from flags) bytes e → Is element_form (flags ∷ bytes) e
unfolding element_form
flagged flags bytes e l h = (flags, (flags ∷ [], (bytes, (refl, byte_stands flags l, h))))

elements_stand : (mode : ElementMode) (items : Items) → ItemsFit items → ElementsStand mode items → Is element_form (element_spelled mode items) (record { mode = mode; items = items })
unfolding element_from
elements_stand (ActiveElements None offset) (Functions fs) f h =
    let back = vector_bytes number_bytes fs in
    flagged 0 (expression_bytes offset ++ back) _ (omega arith) (parts_stand in_first functions_form (ActiveElements None offset) (Functions fs) (expression_bytes offset ++ back) (expression_bytes offset) back refl (in_first_stands offset h.0) (functions_stand fs f h.1))
elements_stand PassiveElements (Functions fs) f h =
    let back = 0 ∷ vector_bytes number_bytes fs in
    flagged 1 back _ (omega arith) (parts_stand _ kinded PassiveElements (Functions fs) back [] back refl (refl, refl) (kinded_stands fs f h))
elements_stand (ActiveElements (Some table) offset) (Functions fs) f h =
    let front = number_bytes table ++ expression_bytes offset in
    let back = 0 ∷ vector_bytes number_bytes fs in
    flagged 2 (front ++ back) _ (omega arith) (parts_stand in_table kinded (ActiveElements (Some table) offset) (Functions fs) (front ++ back) front back refl (in_table_stands table offset h.0 h.1) (kinded_stands fs f h.2))
elements_stand DeclaredElements (Functions fs) f h =
    let back = 0 ∷ vector_bytes number_bytes fs in
    flagged 3 back _ (omega arith) (parts_stand _ kinded DeclaredElements (Functions fs) back [] back refl (refl, refl) (kinded_stands fs f h))
elements_stand (ActiveElements None offset) (Expressions ty es) f h =
    let back = vector_bytes expression_bytes es in
    let k = parts_stand in_first of_functions (ActiveElements None offset) (Expressions any_function es) (expression_bytes offset ++ back) (expression_bytes offset) back refl (in_first_stands offset h.0) (of_functions_stand es f h.2) in
    subst (λ r. Is element_form (4 ∷ (expression_bytes offset ++ back)) (record { mode = ActiveElements None offset; items = Expressions r es })) (sym h.1) (flagged 4 (expression_bytes offset ++ back) _ (omega arith) k)
elements_stand PassiveElements (Expressions ty es) f h =
    let back = reference_bytes ty ++ vector_bytes expression_bytes es in
    flagged 5 back _ (omega arith) (parts_stand _ typed PassiveElements (Expressions ty es) back [] back refl (refl, refl) (typed_stands ty es f h.0 h.1))
elements_stand (ActiveElements (Some table) offset) (Expressions ty es) f h =
    let front = number_bytes table ++ expression_bytes offset in
    let back = reference_bytes ty ++ vector_bytes expression_bytes es in
    flagged 6 _ _ (omega arith)
    (parts_stand in_table typed (ActiveElements (Some table) offset) (Expressions ty es) _ front back (append_assoc front (reference_bytes ty) (vector_bytes expression_bytes es)) (in_table_stands table offset h.0 h.1) (typed_stands ty es f h.2 h.3))
elements_stand DeclaredElements (Expressions ty es) f h =
    let back = reference_bytes ty ++ vector_bytes expression_bytes es in
    flagged 7 back _ (omega arith) (parts_stand _ typed DeclaredElements (Expressions ty es) back [] back refl (refl, refl) (typed_stands ty es f h.0 h.1))

pub element_stands : (e : Element) → ElementFits e → ElementStands e → Is element_form (element_bytes e) e
element_stands e f h = elements_stand e.mode e.items f h

-- ---- data segments

-- behind its flags: where it stands, and its bytes
content_stands : (m : Form DataMode) (mode : DataMode) (bytes front content : List ℕ) → FitsLength content → bytes ≡ front ++ block_bytes content → Is m front mode → Is (data_with m) bytes (record { mode = mode; bytes = content })
unfolding data_with
content_stands m mode bytes front content f e h = ((mode, content), (refl, (front, (block_bytes content, (e, h, block_stands content f)))))

data_flagged : (flags : ℕ) (bytes : List ℕ) (d : Segment) → flags < 128 → Is (data_from flags) bytes d → Is data_form (flags ∷ bytes) d
unfolding data_form
data_flagged flags bytes d l h = (flags, (flags ∷ [], (bytes, (refl, byte_stands flags l, h))))

active_stands : (memory : ℕ) (offset : Expression) (content : List ℕ) → FitsLength content → IsIndex memory → ExpressionStands offset → (first : Bool) → nat_eq memory 0 ≡ first
    → Is data_form ((if first then 0 ∷ expression_bytes offset else 2 ∷ (number_bytes memory ++ expression_bytes offset)) ++ block_bytes content) (record { mode = ActiveData memory offset; bytes = content })
unfolding data_from
active_stands memory offset content f k h true e =
    let front = expression_bytes offset in
    subst (λ m. Is data_form ((0 ∷ front) ++ block_bytes content) (record { mode = ActiveData m offset; bytes = content })) (sym (eqb-true memory 0 e))
    (data_flagged 0 (front ++ block_bytes content) _ (omega arith) (content_stands _ (ActiveData 0 offset) (front ++ block_bytes content) front content f refl (offset, (refl, expression_stands offset h))))
active_stands memory offset content f k h false e =
    let front = number_bytes memory ++ expression_bytes offset in
    data_flagged 2 (front ++ block_bytes content) _ (omega arith)
    (content_stands _ (ActiveData memory offset) (front ++ block_bytes content) front content f refl ((memory, offset), (refl, (number_bytes memory, (expression_bytes offset, (refl, number_stands memory k, expression_stands offset h))))))

mode_stands : (mode : DataMode) (content : List ℕ) → FitsLength content → DataModeStands mode → Is data_form (data_mode_bytes mode ++ block_bytes content) (record { mode = mode; bytes = content })
unfolding data_from
mode_stands PassiveData content f h = data_flagged 1 (block_bytes content) _ (omega arith) (content_stands _ PassiveData (block_bytes content) [] content f refl (refl, refl))
mode_stands (ActiveData memory offset) content f h = active_stands memory offset content f h.0 h.1 (nat_eq memory 0) refl

pub data_stands : (d : Segment) → DataFits d → DataStands d → Is data_form (data_bytes d) d
data_stands d f h = mode_stands d.mode d.bytes f h
