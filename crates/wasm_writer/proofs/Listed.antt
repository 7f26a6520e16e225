-- The section that lists records, by the records and by what they hold, and what was appended over a vector of its own.
use Rattle.std.proofs.Common.{◌≡◌, ℕ, zero, suc, ◌+◌, ◌<◌, ◌^◌, List, [], ◌∷◌, ◌++◌, length, get_or, take, map, refl, sym, ap, subst, ◌∙◌, arith, lit<, append_assoc}
use Rattle.std.specs.Prelude.{Result, Ok, Err}
use Rattle.std.proofs.lemmas.List.{append-nil}
use Rattle.wasm_forms.specs.declared.error.WireError.{WireError}
use Rattle.wasm_forms.specs.declared.error.WireError.TheVariants.{Malformed, Memory, TooLarge}
use Rattle.wasm_forms.specs.Writing.{Wrote, FitsLength, FitsVector}
use Rattle.wasm_forms.specs.Spelling.{groups, number_bytes, row_bytes, vector_bytes}
use Rattle.wasm_forms.proofs.Adding.{vector_map}
use Rattle.wasm_forms.proofs.Items.{row_push}
use Rattle.wasm_frames.specs.Frames.{Section}
use Rattle.wasm_writer.specs.declared.writer.Writer.{Writer}
use Rattle.wasm_writer.specs.Writing.{unless_empty, UsesRoom}
use Rattle.wasm_writer.specs.Spelling.{listed, spelled, section_bytes, content_bytes, EntriesFit, SectionFits}

-- the same writing, said in other words
pub wrote_as : {X : Type 0} (r : Result X WireError) (old new spelled spelled' : List ℕ) (fits fits' : Type 0) → spelled ≡ spelled' → (fits → fits') → (fits' → fits)
    → Wrote r old new spelled fits → Wrote r old new spelled' fits'
wrote_as (Ok x) old new s s' f f' e g h w = (w.0 ∙ ap (λ l. old ++ l) e, g w.1)
wrote_as (Err Malformed) old new s s' f f' e g h w = w
wrote_as (Err (Memory m)) old new s s' f f' e g h w = w
wrote_as (Err TooLarge) old new s s' f f' e g h w = (w.0, λ k. w.1 (h k))

zero_short : length (number_bytes 0 ++ []) < 2 ^ 32
unfolding number_bytes groups
zero_short = lit< tt

pub fits_none : {X : Type 0} (F : X → Type 0) (spell : X → List ℕ) → FitsVector F [] × FitsLength (vector_bytes spell [])
fits_none F spell = ((lit< tt, tt), zero_short)

-- where there are none, nothing is written
pub listed_none : {X : Type 0} (F : X → Type 0) (spell : X → List ℕ) (xs : List X) (old bytes : List ℕ) → length xs ≡ 0 → (old ≡ old ++ unless_empty xs bytes) × (FitsVector F xs × FitsLength (vector_bytes spell xs))
listed_none F spell [] old bytes e = (sym (append-nil old), fits_none F spell)
listed_none F spell (x ∷ xs) old bytes e = absurd (omega arith)

pub no_section : {A : Type 0} (make : List A → Section) (F : A → Type 0) (spell : A → List ℕ) (ys : List A) (old : List ℕ) → length ys ≡ 0 → (old ≡ old ++ listed make ys) × (FitsVector F ys × FitsLength (vector_bytes spell ys))
no_section make F spell [] old e = (sym (append-nil old), fits_none F spell)
no_section make F spell (y ∷ ys) old e = absurd (omega arith)

listed_map : {X A : Type 0} (make : List A → Section) (view : X → A) (bytes : List ℕ) (xs : List X) → bytes ≡ spelled (make (map view xs)) → unless_empty xs bytes ≡ listed make (map view xs)
listed_map make view bytes [] e = refl
listed_map make view bytes (x ∷ xs) e = e

-- what was written of the records was written of what they hold
pub wrote_listed : {U X A : Type 0} (make : List A → Section) (view : X → A) (F : X → Type 0) (spell : A → List ℕ) (id : ℕ) (xs : List X) (r : Result U WireError) (old new : List ℕ)
    → spelled (make (map view xs)) ≡ section_bytes id (content_bytes (make (map view xs))) → content_bytes (make (map view xs)) ≡ vector_bytes spell (map view xs)
    → (FitsVector F xs → EntriesFit (make (map view xs))) → (EntriesFit (make (map view xs)) → FitsVector F xs)
    → Wrote r old new (unless_empty xs (section_bytes id (vector_bytes (λ x. spell (view x)) xs))) (FitsVector F xs × FitsLength (vector_bytes (λ x. spell (view x)) xs))
    → Wrote r old new (listed make (map view xs)) (SectionFits (make (map view xs)))
wrote_listed make view F spell id xs r old new same held into back w =
    let far : vector_bytes (λ x. spell (view x)) xs ≡ content_bytes (make (map view xs)) = vector_map view spell xs ∙ sym held in
    wrote_as r old new (unless_empty xs (section_bytes id (vector_bytes (λ x. spell (view x)) xs))) (listed make (map view xs)) (FitsVector F xs × FitsLength (vector_bytes (λ x. spell (view x)) xs)) (SectionFits (make (map view xs)))
    (listed_map make view (section_bytes id (vector_bytes (λ x. spell (view x)) xs)) xs (ap (section_bytes id) far ∙ sym same))
    (λ h. (into h.0, subst (λ (l : List ℕ). FitsLength l) far h.1)) (λ h. (back h.0, subst (λ (l : List ℕ). FitsLength l) (sym far) h.1)) w

-- and so was its room
pub room_listed : {U X A : Type 0} (make : List A → Section) (view : X → A) (spell : A → List ℕ) (id : ℕ) (xs : List X) (r : Result U WireError) (old new : Writer)
    → spelled (make (map view xs)) ≡ section_bytes id (content_bytes (make (map view xs))) → content_bytes (make (map view xs)) ≡ vector_bytes spell (map view xs)
    → UsesRoom r old new (unless_empty xs (section_bytes id (vector_bytes (λ x. spell (view x)) xs))) → UsesRoom r old new (listed make (map view xs))
room_listed make view spell id xs r old new same held w =
    let far : vector_bytes (λ x. spell (view x)) xs ≡ content_bytes (make (map view xs)) = vector_map view spell xs ∙ sym held in
    subst (λ (l : List ℕ). UsesRoom r old new l) (listed_map make view (section_bytes id (vector_bytes (λ x. spell (view x)) xs)) xs (ap (section_bytes id) far ∙ sym same)) w

-- one more number that is written

any_default : (xs : List ℕ) (i d e : ℕ) → i < length xs → get_or xs i d ≡ get_or xs i e
any_default [] i d e l = absurd (omega arith)
any_default (x ∷ xs) zero d e l = refl
any_default (x ∷ xs) (suc i) d e l = any_default xs i d e (omega arith)

pub written_more : (spell : ℕ → List ℕ) (xs : List ℕ) (i d : ℕ) (front now new : List ℕ) → i < length xs → now ≡ front ++ row_bytes spell (take i xs) → new ≡ now ++ spell (get_or xs i d) → new ≡ front ++ row_bytes spell (take (i + 1) xs)
written_more spell xs i d front now new l h k =
    let x : ℕ = get_or xs i d in
    k ∙ ap (λ y. y ++ spell x) h ∙ append_assoc front (row_bytes spell (take i xs)) (spell x) ∙ ap (λ y. front ++ y) (row_push spell xs i x l (any_default xs i d x l))
