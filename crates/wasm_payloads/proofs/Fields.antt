-- A field that is written behind its name.
use Rattle.std.proofs.Common.{◌≡◌, ℕ, ◌≤◌, List, ◌++◌, map, sym, ap, subst, ◌∙◌, Vec, vec_capacity}
use Rattle.std.specs.Prelude.{Result}
use Rattle.std.specs.Borrow.{Bor}
use Rattle.wasm_forms.specs.declared.error.WireError.{WireError}
use Rattle.wasm_forms.specs.Spelling.{block_bytes, vector_bytes}
use Rattle.wasm_forms.specs.Writing.{Adds, TakesRoom, FitsLength, FitsVector}
use Rattle.wasm_forms.proofs.Adding.{adds_as, adds_vector, vector_map, fits_map, fits_unmap}
use Rattle.wasm_forms.proofs.Room.{room_as, room_behind}
use Rattle.wasm_payloads.specs.declared.producers.RawField.{RawField}
use Rattle.wasm_payloads.specs.Producers.{value_record, field_record}
use Rattle.wasm_payloads.specs.Spelling.{value_bytes, field_bytes, ValueFits, FieldFits, producers_bytes, ProducersFit}

abbrev Values : Type 0
Values = List (Bor (List ℕ) × Bor (List ℕ))

pub field_adds : {X : Type 0} (r : Result X WireError) (f : RawField) (vs : Values) (old between new : List ℕ) → vs ≡ f.values.items → between ≡ old ++ block_bytes f.name.now → FitsLength f.name.now
    → Adds r between new (vector_bytes (λ v. value_bytes (value_record v)) vs) (FitsVector (λ v. ValueFits (value_record v)) vs) → Adds r old new (field_bytes (field_record f)) (FieldFits (field_record f))
field_adds r f vs old between new same e small w =
    adds_as r old new (block_bytes f.name.now ++ vector_bytes value_bytes (map value_record vs)) (field_bytes (field_record f)) (FitsVector ValueFits (map value_record vs)) (FieldFits (field_record f))
    (ap (λ (l : Values). block_bytes f.name.now ++ vector_bytes value_bytes (map value_record l)) same)
    (λ h. (small, subst (λ (l : Values). FitsVector ValueFits (map value_record l)) same h)) (λ h. subst (λ (l : Values). FitsVector ValueFits (map value_record l)) (sym same) h.1)
    (adds_vector value_record ValueFits value_bytes vs r old between new (block_bytes f.name.now) e w)

pub field_room : {X A : Type 0} (r : Result X WireError) (f : RawField) (vs : Values) (old between new : Vec ℕ A) → vs ≡ f.values.items → between.items ≡ old.items ++ block_bytes f.name.now → vec_capacity old ≤ vec_capacity between
    → TakesRoom r between new (vector_bytes (λ v. value_bytes (value_record v)) vs) → TakesRoom r old new (field_bytes (field_record f))
field_room r f vs old between new same e k w =
    room_as r old new (block_bytes f.name.now ++ vector_bytes (λ v. value_bytes (value_record v)) vs) (field_bytes (field_record f))
    (ap (λ (l : List ℕ). block_bytes f.name.now ++ l) (vector_map value_record value_bytes vs ∙ ap (λ (l : Values). vector_bytes value_bytes (map value_record l)) same))
    (room_behind r old between new (block_bytes f.name.now) (vector_bytes (λ v. value_bytes (value_record v)) vs) e k w)

pub fields_add : {X : Type 0} (r : Result X WireError) (fs : List RawField) (old new : List ℕ)
    → Adds r old new (vector_bytes (λ f. field_bytes (field_record f)) fs) (FitsVector (λ f. FieldFits (field_record f)) fs) → Adds r old new (producers_bytes (map field_record fs)) (ProducersFit (map field_record fs))
fields_add r fs old new w = adds_as r old new (vector_bytes (λ f. field_bytes (field_record f)) fs) (producers_bytes (map field_record fs)) (FitsVector (λ f. FieldFits (field_record f)) fs) (ProducersFit (map field_record fs))
    (vector_map field_record field_bytes fs) (fits_map field_record FieldFits fs) (fits_unmap field_record FieldFits fs) w
