-- What the lengths of bodies say of the bodies, and what was measured of records of what they hold.
use Rattle.std.proofs.Common.{◌≡◌, ℕ, ◌+◌, ◌<◌, List, [], ◌∷◌, ◌++◌, length, get_or, take, map, refl, sym, ap, subst, ◌∙◌, arith}
use Rattle.std.specs.Prelude.{Result, Ok, Err, sum_by}
use Rattle.std.proofs.lemmas.List.{length-append, length-map}
use Rattle.std.proofs.lemmas.List.Sums.{sum_by-cons, sum_by_more_le}
use Rattle.wasm_forms.specs.declared.error.WireError.{WireError}
use Rattle.wasm_forms.specs.declared.error.WireError.TheVariants.{Malformed, Memory, TooLarge}
use Rattle.wasm_forms.specs.Writing.{FitsLength, EachFits, FitsVector}
use Rattle.wasm_forms.specs.Spelling.{number_bytes, row_bytes, vector_bytes}
use Rattle.wasm_forms.proofs.Adding.{vector_map}
use Rattle.wasm_writer.specs.Measures.{Measures, Sums}
use Rattle.wasm_writer.proofs.Groups.{measures_as}
use Rattle.wasm_frames.specs.Record.{Body}
use Rattle.wasm_frames.specs.Spelling.{body_bytes}
use Rattle.wasm_frames.specs.Frames as frames
use Rattle.wasm_writer.specs.Spelling.{content_bytes, EntriesFit}
use Rattle.wasm_writer.specs.Measuring.{body_len, size_with_count, IsOf}
use Rattle.wasm_writer.specs.declared.measuring.Section.{Section}

-- ---- bodies

-- the sum so far and the next size are too large
pub sum_over : (f : ℕ → ℕ) (xs : List ℕ) (i total n d : ℕ) (e : WireError) → i < length xs → total ≡ sum_by f (take i xs) → n ≡ f (get_or xs i d) → Sums (Err e) (total + n) → Sums (Err e) (sum_by f xs)
sum_over f xs i total n d Malformed l t m w = w
sum_over f xs i total n d (Memory a) l t m w = w
sum_over f xs i total n d TooLarge l t m w = let s = sum_by_more_le f xs i d l in omega (arith, t, m, w, s)

body_size : (b : Body) → size_with_count (body_len b) ≡ length (body_bytes b)
body_size b = sym (length-append (number_bytes (length b.bytes)) b.bytes)

bodies_sum : (bs : List Body) → sum_by size_with_count (map body_len bs) ≡ length (row_bytes body_bytes bs)
bodies_sum [] = refl
bodies_sum (b ∷ bs) =
    let e : sum_by size_with_count (map body_len (b ∷ bs)) ≡ size_with_count (body_len b) + sum_by size_with_count (map body_len bs) = sum_by-cons size_with_count (body_len b) (map body_len bs) in
    let one : size_with_count (body_len b) ≡ length (body_bytes b) = body_size b in
    let more : sum_by size_with_count (map body_len bs) ≡ length (row_bytes body_bytes bs) = bodies_sum bs in
    e ∙ ap (λ n. n + sum_by size_with_count (map body_len bs)) one ∙ ap (λ n. length (body_bytes b) + n) more ∙ sym (length-append (body_bytes b) (row_bytes body_bytes bs))

bodies_fit : (bs : List Body) → length (row_bytes body_bytes bs) < 4294967296 → EachFits (λ b. FitsLength b.bytes) bs
bodies_fit [] h = tt
bodies_fit (b ∷ bs) h =
    let split : length (body_bytes b ++ row_bytes body_bytes bs) ≡ length (body_bytes b) + length (row_bytes body_bytes bs) = length-append (body_bytes b) (row_bytes body_bytes bs) in
    let one : length (body_bytes b) ≡ length (number_bytes (length b.bytes)) + length b.bytes = length-append (number_bytes (length b.bytes)) b.bytes in
    (omega (arith, h, split, one), bodies_fit bs (omega (arith, h, split)))

sizes : (lengths : List ℕ) (bs : List Body) → map body_len bs ≡ lengths → sum_by size_with_count lengths ≡ length (row_bytes body_bytes bs)
sizes lengths bs e = ap (sum_by size_with_count) (sym e) ∙ bodies_sum bs

-- bodies of these lengths are too long
pub bodies_over : (lengths : List ℕ) (bs : List Body) (e : WireError) → map body_len bs ≡ lengths → Sums (Err e) (sum_by size_with_count lengths) → Measures (Err e) (vector_bytes body_bytes bs) (FitsVector (λ b. FitsLength b.bytes) bs)
bodies_over lengths bs Malformed e w = w
bodies_over lengths bs (Memory m) e w = w
bodies_over lengths bs TooLarge e w = λ fits short. absurd (omega (arith, w, sizes lengths bs e, short, length-append (number_bytes (length bs)) (row_bytes body_bytes bs)))

as_many : (lengths : List ℕ) (bs : List Body) (count : ℕ) → map body_len bs ≡ lengths → count ≡ length lengths → count ≡ length bs
as_many lengths bs count e n = n ∙ ap length (sym e) ∙ length-map bs body_len

-- the count of bodies of these lengths, and these
pub bodies_told : (lengths : List ℕ) (bs : List Body) (count front behind : ℕ) (r : Result ℕ WireError) → map body_len bs ≡ lengths → count ≡ length lengths → count < 4294967296 → front ≡ length (number_bytes count)
    → Sums (Ok behind) (sum_by size_with_count lengths) → Sums r (front + behind) → Measures r (vector_bytes body_bytes bs) (FitsVector (λ b. FitsLength b.bytes) bs)
bodies_told lengths bs count front behind (Err Malformed) e n l f s w = w
bodies_told lengths bs count front behind (Err (Memory m)) e n l f s w = w
bodies_told lengths bs count front behind (Err TooLarge) e n l f s w = λ fits short.
    let same = as_many lengths bs count e n in
    absurd (omega (arith, w, s.0, sizes lengths bs e, short, f, ap (λ k. length (number_bytes k)) same, length-append (number_bytes (length bs)) (row_bytes body_bytes bs)))
bodies_told lengths bs count front behind (Ok x) e n l f s w =
    let same = as_many lengths bs count e n in (
      omega (arith, w.0, s.0, sizes lengths bs e, f, ap (λ k. length (number_bytes k)) same, length-append (number_bytes (length bs)) (row_bytes body_bytes bs)),
      omega (arith, w.0, w.1),
      (omega (arith, l, same), bodies_fit bs (omega (arith, s.1, sizes lengths bs e))),
    )

-- ---- sections

-- what was measured of records was measured of what they hold
pub measures_held : {X A : Type 0} (view : X → A) (spell : A → List ℕ) (F : X → Type 0) (fits : Type 0) (xs : List X) (r : Result ℕ WireError) → (FitsVector F xs → fits) → (fits → FitsVector F xs)
    → Measures r (vector_bytes (λ x. spell (view x)) xs) (FitsVector F xs) → Measures r (vector_bytes spell (map view xs)) fits
measures_held view spell F fits xs r into back w = measures_as r (vector_bytes (λ x. spell (view x)) xs) (vector_bytes spell (map view xs)) (FitsVector F xs) fits (vector_map view spell xs) into back w

-- a section that is the one of the records that were given
pub of_one : (given given' : Section) (one : frames.Section) (r : Result ℕ WireError) → given ≡ given' → ((s : frames.Section) → IsOf given' s → s ≡ one) → Measures r (content_bytes one) (EntriesFit one)
    → (s : frames.Section) → IsOf given s → Measures r (content_bytes s) (EntriesFit s)
of_one given given' one r e only w s h =
    let same : s ≡ one = only s (subst (λ (g : Section). IsOf g s) e h) in
    subst (λ (t : frames.Section). Measures r (content_bytes t) (EntriesFit t)) (sym same) w
