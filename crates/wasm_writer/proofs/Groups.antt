-- A group of types that isn't one type alone.
use Rattle.std.proofs.Common.{◌≡◌, ℕ, ◌<◌, List, ◌∷◌, length, map, sym, ap, subst, ◌∙◌}
use Rattle.std.specs.Prelude.{Result, Ok, Err}
use Rattle.std.proofs.lemmas.List.{length-map}
use Rattle.wasm_forms.specs.declared.error.WireError.{WireError}
use Rattle.wasm_forms.specs.declared.error.WireError.TheVariants.{Malformed, Memory, TooLarge}
use Rattle.wasm_forms.specs.Spelling.{vector_bytes}
use Rattle.wasm_forms.specs.Writing.{FitsVector}
use Rattle.wasm_forms.proofs.Adding.{vector_map, fits_map, fits_unmap}
use Rattle.wasm_entries.specs.declared.record.RawSub.{RawSub}
use Rattle.wasm_entries.specs.Record.{Group, sub}
use Rattle.wasm_entries.specs.TypeSpelling.{sub_bytes, group_bytes, SubFits, GroupFits}
use Rattle.wasm_writer.specs.Measures.{Measures}
use Rattle.wasm_entries.proofs.Groups.{group_many as many}

-- the same measuring, said in other words
pub measures_as : (r : Result ℕ WireError) (bytes bytes' : List ℕ) (fits fits' : Type 0) → bytes ≡ bytes' → (fits → fits') → (fits' → fits) → Measures r bytes fits → Measures r bytes' fits'
measures_as (Ok n) bytes bytes' f f' e g h w = (w.0 ∙ ap length e, w.1, g w.2)
measures_as (Err Malformed) bytes bytes' f f' e g h w = w
measures_as (Err (Memory m)) bytes bytes' f f' e g h w = w
measures_as (Err TooLarge) bytes bytes' f f' e g h w = λ k short. w (h k) (subst (λ (l : List ℕ). length l < 4294967296) (sym e) short)

pub measures_many : (types xs : List RawSub) (r : Result ℕ WireError) → xs ≡ types → (length types ≡ 1 → ⊥)
    → Measures r (0x4E ∷ vector_bytes (λ x. sub_bytes (sub x)) xs) (FitsVector (λ x. SubFits (sub x)) xs) → Measures r (group_bytes (map sub types)) (GroupFits (map sub types))
measures_many types xs r s h w =
    let w' : Measures r (0x4E ∷ vector_bytes (λ x. sub_bytes (sub x)) types) (FitsVector (λ x. SubFits (sub x)) types) = subst (λ (ys : List RawSub). Measures r (0x4E ∷ vector_bytes (λ x. sub_bytes (sub x)) ys) (FitsVector (λ x. SubFits (sub x)) ys)) s w in
    measures_as r (0x4E ∷ vector_bytes (λ x. sub_bytes (sub x)) types) (group_bytes (map sub types)) (FitsVector (λ x. SubFits (sub x)) types) (GroupFits (map sub types))
    (ap (λ (l : List ℕ). 0x4E ∷ l) (vector_map sub sub_bytes types) ∙ many (map sub types) (λ l. h (sym (length-map types sub) ∙ l)))
    (fits_map sub SubFits types) (fits_unmap sub SubFits types) w'
