-- Names that are written, by what they say.
use Rattle.std.proofs.Common.{◌≡◌, ℕ, ◌≤◌, List, [], ◌∷◌, ◌++◌, map, refl, sym, ap, subst, ◌∙◌, Vec, vec_capacity}
use Rattle.std.specs.Prelude.{Result}
use Rattle.wasm_forms.specs.declared.error.WireError.{WireError}
use Rattle.wasm_forms.specs.Spelling.{number_bytes, block_bytes, vector_bytes}
use Rattle.wasm_forms.specs.Writing.{Adds, TakesRoom, FitsLength, FitsVector}
use Rattle.wasm_forms.proofs.Adding.{adds_as, adds_vector, vector_map, fits_map, fits_unmap}
use Rattle.wasm_forms.proofs.Room.{room_as, room_behind}
use Rattle.wasm_payloads.specs.declared.spell_names.RawName.{RawName}
use Rattle.wasm_payloads.specs.declared.spell_names.RawLocals.{RawLocals}
use Rattle.wasm_payloads.specs.Lent.{entry, locals_entry, EntryFits, FunctionFits, PartFits}
use Rattle.wasm_payloads.specs.Spelling.{entry_bytes, function_bytes, part_bytes}

-- the names of a function's locals, behind its index

pub locals_add : {X : Type 0} (r : Result X WireError) (l : RawLocals) (ns : List RawName) (old between new : List ℕ) → ns ≡ l.names.items → between ≡ old ++ number_bytes l.function
    → Adds r between new (vector_bytes (λ n. entry_bytes (entry n)) ns) (FitsVector (λ n. EntryFits (entry n)) ns) → Adds r old new (function_bytes (locals_entry l)) (FunctionFits (locals_entry l))
locals_add r l ns old between new same e w =
    subst (λ (xs : List RawName). Adds r old new (number_bytes l.function ++ vector_bytes entry_bytes (map entry xs)) (FitsVector EntryFits (map entry xs))) same
    (adds_vector entry EntryFits entry_bytes ns r old between new (number_bytes l.function) e w)

pub locals_room : {X A : Type 0} (r : Result X WireError) (l : RawLocals) (ns : List RawName) (old between new : Vec ℕ A) → ns ≡ l.names.items → between.items ≡ old.items ++ number_bytes l.function → vec_capacity old ≤ vec_capacity between
    → TakesRoom r between new (vector_bytes (λ n. entry_bytes (entry n)) ns) → TakesRoom r old new (function_bytes (locals_entry l))
locals_room r l ns old between new same e k w =
    room_as r old new (number_bytes l.function ++ vector_bytes (λ n. entry_bytes (entry n)) ns) (function_bytes (locals_entry l))
    (ap (λ (b : List ℕ). number_bytes l.function ++ b) (vector_map entry entry_bytes ns ∙ ap (λ (xs : List RawName). vector_bytes entry_bytes (map entry xs)) same))
    (room_behind r old between new (number_bytes l.function) (vector_bytes (λ n. entry_bytes (entry n)) ns) e k w)

-- a subsection of what the records say

module _ {X A : Type 0} (view : X → A) (spell : A → List ℕ) (F : A → Type 0) where
  part_same : (id : ℕ) (xs : List X) → part_bytes id (λ x. spell (view x)) xs ≡ part_bytes id spell (map view xs)
  part_same id [] = refl
  part_same id (x ∷ xs) = ap (λ (b : List ℕ). id ∷ block_bytes b) (vector_map view spell (x ∷ xs))

  into : (xs : List X) → PartFits (λ x. spell (view x)) (λ x. F (view x)) xs → PartFits spell F (map view xs)
  into [] h = tt
  into (x ∷ xs) h = (fits_map view F (x ∷ xs) h.0, subst (λ (b : List ℕ). FitsLength b) (vector_map view spell (x ∷ xs)) h.1)

  back : (xs : List X) → PartFits spell F (map view xs) → PartFits (λ x. spell (view x)) (λ x. F (view x)) xs
  back [] h = tt
  back (x ∷ xs) h = (fits_unmap view F (x ∷ xs) h.0, subst (λ (b : List ℕ). FitsLength b) (sym (vector_map view spell (x ∷ xs))) h.1)

  pub part_adds : {U : Type 0} (r : Result U WireError) (id : ℕ) (xs : List X) (old new : List ℕ) → Adds r old new (part_bytes id (λ x. spell (view x)) xs) (PartFits (λ x. spell (view x)) (λ x. F (view x)) xs)
      → Adds r old new (part_bytes id spell (map view xs)) (PartFits spell F (map view xs))
  part_adds r id xs old new w = adds_as r old new (part_bytes id (λ x. spell (view x)) xs) (part_bytes id spell (map view xs)) (PartFits (λ x. spell (view x)) (λ x. F (view x)) xs) (PartFits spell F (map view xs)) (part_same id xs) (into xs) (back xs) w
