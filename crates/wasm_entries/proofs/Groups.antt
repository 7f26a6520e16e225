-- Function types and groups of types, as they are written.
use Rattle.std.proofs.Common.{◌≡◌, ℕ, ◌≤◌, List, [], ◌∷◌, ◌++◌, length, map, Vec, vec_capacity, refl, sym, ap, ap₂, subst, ◌∙◌}
use Rattle.std.specs.Prelude.{Result}
use Rattle.std.proofs.lemmas.List.{length-map}
use Rattle.wasm_forms.specs.declared.error.WireError.{WireError}
use Rattle.wasm_forms.specs.declared.types.RawVal.{RawVal}
use Rattle.wasm_forms.specs.Writing.{Adds, TakesRoom, FitsLength, FitsVector}
use Rattle.wasm_forms.specs.Spelling.{number_bytes, row_bytes, vector_bytes}
use Rattle.wasm_forms.specs.Types.{value_bytes}
use Rattle.wasm_forms.proofs.Adding.{adds_as, adds_behind, adds_vector, fits_free, vector_map}
use Rattle.wasm_forms.proofs.Room.{room_as, room_behind}
use Rattle.wasm_entries.specs.declared.record.RawSub.{RawSub}
use Rattle.wasm_entries.specs.Record.{FuncType, Group, sub}
use Rattle.wasm_entries.specs.TypeSpelling.{func_type_bytes, sub_bytes, group_bytes, FuncTypeFits, SubFits, GroupFits}

-- the parameters stand there, and the results behind them
pub wrote_signature : {U : Type 0} (t : FuncType) (params results : List RawVal) (r : Result U WireError) (old between new : List ℕ) → params ≡ t.params → results ≡ t.results → between ≡ old ++ vector_bytes value_bytes params → FitsLength params
    → Adds r between new (vector_bytes value_bytes results) (FitsVector (λ v. Unit {0}) results) → Adds r old new (func_type_bytes t) (FuncTypeFits t)
wrote_signature t params results r old between new p q e l w =
    let same : vector_bytes value_bytes params ++ vector_bytes value_bytes results ≡ func_type_bytes t = ap₂ (λ (x y : List RawVal). vector_bytes value_bytes x ++ vector_bytes value_bytes y) p q in
    let few : FitsLength t.params = subst (λ (x : List RawVal). FitsLength x) p l in
    adds_as r old new (vector_bytes value_bytes params ++ vector_bytes value_bytes results) (func_type_bytes t) (FuncTypeFits t) (FuncTypeFits t) same (λ h. h) (λ h. h)
    (adds_behind r old between new (vector_bytes value_bytes params) (vector_bytes value_bytes results) (FitsVector (λ v. Unit {0}) results) (FuncTypeFits t) e
    (λ h. (few, subst (λ (x : List RawVal). FitsLength x) q h.0)) (λ h. fits_free results (subst (λ (x : List RawVal). FitsLength x) (sym q) h.1)) w)

pub group_many : (g : Group) → (length g ≡ 1 → ⊥) → 0x4E ∷ vector_bytes sub_bytes g ≡ group_bytes g
group_many [] h = refl
group_many (s ∷ []) h = absurd (h refl)
group_many (s ∷ t ∷ rest) h = refl

-- a group that isn't one type
pub wrote_many : {U : Type 0} (types xs : List RawSub) (r : Result U WireError) (old between new : List ℕ) → xs ≡ types → (length types ≡ 1 → ⊥) → between ≡ old ++ 0x4E ∷ []
    → Adds r between new (vector_bytes (λ x. sub_bytes (sub x)) xs) (FitsVector (λ x. SubFits (sub x)) xs) → Adds r old new (group_bytes (map sub types)) (GroupFits (map sub types))
wrote_many types xs r old between new s h e w =
    let w' : Adds r between new (vector_bytes (λ x. sub_bytes (sub x)) types) (FitsVector (λ x. SubFits (sub x)) types) = subst (λ (ys : List RawSub). Adds r between new (vector_bytes (λ x. sub_bytes (sub x)) ys) (FitsVector (λ x. SubFits (sub x)) ys)) s w in
    adds_as r old new (0x4E ∷ vector_bytes sub_bytes (map sub types)) (group_bytes (map sub types)) (GroupFits (map sub types)) (GroupFits (map sub types))
    (group_many (map sub types) (λ l. h (sym (length-map types sub) ∙ l))) (λ k. k) (λ k. k) (adds_vector sub SubFits sub_bytes types r old between new (0x4E ∷ []) e w')

pub room_many : {U A : Type 0} (types xs : List RawSub) (r : Result U WireError) (old between new : Vec ℕ A) → xs ≡ types → (length types ≡ 1 → ⊥) → between.items ≡ old.items ++ 0x4E ∷ [] → vec_capacity old ≤ vec_capacity between
    → TakesRoom r between new (vector_bytes (λ x. sub_bytes (sub x)) xs) → TakesRoom r old new (group_bytes (map sub types))
room_many types xs r old between new s h e c w =
    let one : vector_bytes (λ x. sub_bytes (sub x)) xs ≡ vector_bytes sub_bytes (map sub types) = ap (λ (ys : List RawSub). vector_bytes (λ x. sub_bytes (sub x)) ys) s ∙ vector_map sub sub_bytes types in
    room_as r old new (0x4E ∷ vector_bytes (λ x. sub_bytes (sub x)) xs) (group_bytes (map sub types)) (ap (λ l. 0x4E ∷ l) one ∙ group_many (map sub types) (λ l. h (sym (length-map types sub) ∙ l)))
    (room_behind r old between new (0x4E ∷ []) (vector_bytes (λ x. sub_bytes (sub x)) xs) e c w)

-- the count of records, and then these
pub room_counted : {U X Y A : Type 0} (view : X → Y) (spell : Y → List ℕ) (xs : List X) (r : Result U WireError) (old between new : Vec ℕ A) (count : ℕ) → count ≡ length xs → between.items ≡ old.items ++ number_bytes count → vec_capacity old ≤ vec_capacity between
    → TakesRoom r between new (row_bytes (λ x. spell (view x)) xs) → TakesRoom r old new (vector_bytes spell (map view xs))
room_counted view spell xs r old between new count n e c w =
    room_as r old new (number_bytes count ++ row_bytes (λ x. spell (view x)) xs) (vector_bytes spell (map view xs)) (ap (λ k. number_bytes k ++ row_bytes (λ x. spell (view x)) xs) n ∙ vector_map view spell xs)
    (room_behind r old between new (number_bytes count) (row_bytes (λ x. spell (view x)) xs) e c w)
