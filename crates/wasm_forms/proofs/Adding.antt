-- What was appended: behind what was appended before, and of records in place of what they hold.
use Rattle.std.proofs.Common.{◌≡◌, ℕ, ◌<◌, ◌^◌, List, [], ◌∷◌, ◌++◌, length, map, refl, sym, ap, ap₂, ◌∙◌, arith, append_assoc}
use Rattle.std.specs.Prelude.{Result, Ok, Err}
use Rattle.std.proofs.lemmas.List.{length-map}
use Rattle.wasm_forms.specs.declared.error.WireError.{WireError}
use Rattle.wasm_forms.specs.declared.error.WireError.TheVariants.{Malformed, Memory, TooLarge}
use Rattle.wasm_forms.specs.Writing.{Adds, EachFits, FitsLength, FitsVector}
use Rattle.wasm_forms.specs.Spelling.{number_bytes, row_bytes, vector_bytes}

-- behind what was appended before
pub adds_behind : {X : Type 0} (r : Result X WireError) (old between new front back : List ℕ) (fits fits' : Type 0) → between ≡ old ++ front → (fits → fits') → (fits' → fits)
    → Adds r between new back fits → Adds r old new (front ++ back) fits'
adds_behind (Ok x) old between new front back fits fits' e g h w = (w.0 ∙ ap (λ l. l ++ back) e ∙ append_assoc old front back, g w.1)
adds_behind (Err Malformed) old between new front back fits fits' e g h w = w
adds_behind (Err (Memory m)) old between new front back fits fits' e g h w = w
adds_behind (Err TooLarge) old between new front back fits fits' e g h w = λ k. w (h k)

-- the same bytes under another name
pub adds_as : {X : Type 0} (r : Result X WireError) (old new spelled spelled' : List ℕ) (fits fits' : Type 0) → spelled ≡ spelled' → (fits → fits') → (fits' → fits) → Adds r old new spelled fits → Adds r old new spelled' fits'
adds_as (Ok x) old new spelled spelled' fits fits' e g h w = (w.0 ∙ ap (λ l. old ++ l) e, g w.1)
adds_as (Err Malformed) old new spelled spelled' fits fits' e g h w = w
adds_as (Err (Memory m)) old new spelled spelled' fits fits' e g h w = w
adds_as (Err TooLarge) old new spelled spelled' fits fits' e g h w = λ k. w (h k)

-- items of which nothing is asked
each_free : {X : Type 0} (xs : List X) → EachFits (λ x. Unit {0}) xs
each_free [] = tt
each_free (x ∷ xs) = (tt, each_free xs)

pub fits_free : {X : Type 0} (xs : List X) → FitsLength xs → FitsVector (λ x. Unit {0}) xs
fits_free xs h = (h, each_free xs)

-- records, and what they hold
row_map : {X A : Type 0} (view : X → A) (spell : A → List ℕ) (xs : List X) → row_bytes (λ x. spell (view x)) xs ≡ row_bytes spell (map view xs)
row_map view spell [] = refl
row_map view spell (x ∷ xs) = ap (λ l. spell (view x) ++ l) (row_map view spell xs)

pub vector_map : {X A : Type 0} (view : X → A) (spell : A → List ℕ) (xs : List X) → vector_bytes (λ x. spell (view x)) xs ≡ vector_bytes spell (map view xs)
vector_map view spell xs = ap₂ (λ (n : ℕ) (l : List ℕ). number_bytes n ++ l) (sym (length-map xs view)) (row_map view spell xs)

each_map : {X A : Type 0} (view : X → A) (F : A → Type 0) (xs : List X) → EachFits (λ x. F (view x)) xs → EachFits F (map view xs)
each_map view F [] h = tt
each_map view F (x ∷ xs) h = (h.0, each_map view F xs h.1)

each_unmap : {X A : Type 0} (view : X → A) (F : A → Type 0) (xs : List X) → EachFits F (map view xs) → EachFits (λ x. F (view x)) xs
each_unmap view F [] h = tt
each_unmap view F (x ∷ xs) h = (h.0, each_unmap view F xs h.1)

pub fits_map : {X A : Type 0} (view : X → A) (F : A → Type 0) (xs : List X) → FitsVector (λ x. F (view x)) xs → FitsVector F (map view xs)
fits_map view F xs h = (omega (arith, h.0, length-map xs view), each_map view F xs h.1)

pub fits_unmap : {X A : Type 0} (view : X → A) (F : A → Type 0) (xs : List X) → FitsVector F (map view xs) → FitsVector (λ x. F (view x)) xs
fits_unmap view F xs h = (omega (arith, h.0, length-map xs view), each_unmap view F xs h.1)

-- a vector of records, behind what was appended before
pub adds_vector : {U X A : Type 0} (view : X → A) (F : A → Type 0) (spell : A → List ℕ) (xs : List X) (r : Result U WireError) (old between new front : List ℕ) → between ≡ old ++ front
    → Adds r between new (vector_bytes (λ x. spell (view x)) xs) (FitsVector (λ x. F (view x)) xs) → Adds r old new (front ++ vector_bytes spell (map view xs)) (FitsVector F (map view xs))
adds_vector view F spell xs r old between new front e w =
    let e' : front ++ vector_bytes (λ x. spell (view x)) xs ≡ front ++ vector_bytes spell (map view xs) = ap (λ l. front ++ l) (vector_map view spell xs) in
    adds_as r old new _ _ _ _ e' (fits_map view F xs) (fits_unmap view F xs)
    (adds_behind r old between new front (vector_bytes (λ x. spell (view x)) xs) (FitsVector (λ x. F (view x)) xs) (FitsVector (λ x. F (view x)) xs) e (λ h. h) (λ h. h) w)

-- the count of records, and then these
pub adds_counted : {U X A : Type 0} (view : X → A) (F : A → Type 0) (spell : A → List ℕ) (xs : List X) (r : Result U WireError) (old between new : List ℕ) (count : ℕ) → count ≡ length xs → count < 2 ^ 32 → between ≡ old ++ number_bytes count
    → Adds r between new (row_bytes (λ x. spell (view x)) xs) (EachFits (λ x. F (view x)) xs) → Adds r old new (vector_bytes spell (map view xs)) (FitsVector F (map view xs))
adds_counted view F spell xs r old between new count n l e w =
    let small : length xs < 2 ^ 32 = omega (arith, n, l) in
    adds_as r old new (vector_bytes (λ x. spell (view x)) xs) (vector_bytes spell (map view xs)) (FitsVector (λ x. F (view x)) xs) (FitsVector F (map view xs)) (vector_map view spell xs) (fits_map view F xs) (fits_unmap view F xs)
    (adds_behind r old between new (number_bytes (length xs)) (row_bytes (λ x. spell (view x)) xs) (EachFits (λ x. F (view x)) xs) (FitsVector (λ x. F (view x)) xs) (e ∙ ap (λ k. old ++ number_bytes k) n) (λ h. (small, h)) (λ h. h.1) w)
