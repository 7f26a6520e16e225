-- Forms: what stands in bytes, put together from few parts (Binary Format > Conventions > Grammar).
use Rattle.std.specs.Prelude.{◌≡◌, ℕ, zero, suc, ◌^◌, List, [], ◌∷◌, ◌++◌, length, take, drop, Option, Some, None, nat_lt, nat_eq, if◌then◌else◌, Bool, true, false, ℤ, Result, Ok, Err}
use Rattle.std.specs.Str.{is_utf8}
use Rattle.wasm_forms.specs.declared.error.WireError.{WireError}
use Rattle.wasm_forms.specs.declared.error.WireError.TheVariants.{Malformed, Memory, TooLarge}
use Rattle.wasm_forms.specs.Reading.{◌>>=◌, byte_at}
use Rattle.wasm_forms.specs.Number.{IsNumber, IsInteger, IsU32, number_at, integer_at, IsIndex, index_at, little}

infixr 30 ◌then◌
-- A form says which bytes are a text of it, and which value a text has; the Form of A has values in A. No bytes are a text of Fails;
-- no byte at all is the one text of Gives x, and x its value. Byte: any one. Number, Integer: at most `most` bytes, below `top`, or from
-- - `half` to `half` - 1. IndexFrom b: what stands behind the byte b of an index. Bytes n: any n bytes. Block: a count of bytes, and
-- these. f then g: one behind the other. Led f g: what f's value says stands behind it. Made make f: f, with another value. Where test
-- f: f, with such a value alone. Row f n: n texts of f. Until stop f: texts, each led by its first byte, up to the byte stop.
pub data Form : Type 0 → Type 1 where
  Fails : {A : Type 0} → Form A
  Gives : {A : Type 0} → A → Form A
  Byte : Form ℕ
  Number : (most top : ℕ) → Form ℕ
  Integer : (most half : ℕ) → Form ℤ
  IndexFrom : ℕ → Form ℕ
  Bytes : ℕ → Form (List ℕ)
  Block : Form (List ℕ)
  ◌then◌ : {A B : Type 0} → Form A → Form B → Form (A × B)
  Led : {A B : Type 0} → Form A → (A → Form B) → Form B
  Made : {A B : Type 0} → (A → B) → Form A → Form B
  Where : {A : Type 0} → (A → Bool) → Form A → Form A
  Row : {A : Type 0} → Form A → ℕ → Form (List A)
  Until : {A : Type 0} → ℕ → (ℕ → Form A) → Form (List A)

-- values one after another
abbrev pub IsRow : {A : Type 0} → (List ℕ → A → Type 0) → List ℕ → List A → Type 0
IsRow R bytes [] = bytes ≡ []
IsRow R bytes (x ∷ xs) = (front : List ℕ) × ((back : List ℕ) × ((bytes ≡ front ++ back) × R front x × IsRow R back xs))

unfoldable pub row_at : {A : Type 0} → (List ℕ → Option (A × List ℕ)) → ℕ → List ℕ → Option (List A × List ℕ)
row_at p zero bytes = Some ([], bytes)
row_at p (suc n) bytes = p bytes >>= λ x. row_at p n x.1 >>= λ xs. Some (x.0 ∷ xs.0, xs.1)

-- further values behind these
abbrev pub behind : {A : Type 0} → List A → List A × List ℕ → Option (List A × List ℕ)
behind done xs = Some (done ++ xs.0, xs.1)

-- so many bytes
unfoldable pub bytes_at : ℕ → List ℕ → Option (List ℕ × List ℕ)
bytes_at n bytes = if nat_lt (length bytes) n then None else Some (take n bytes, drop n bytes)

-- a count of bytes, and these (Binary Format > Conventions > Lists)
abbrev pub IsBlock : List ℕ → List ℕ → Type 0
IsBlock bytes content = (count : List ℕ) × ((bytes ≡ count ++ content) × IsU32 count (length content))

unfoldable pub block_at : List ℕ → Option (List ℕ × List ℕ)
block_at bytes = number_at 5 (2 ^ 32) bytes >>= λ n. if nat_lt (length n.1) n.0 then None else Some (take n.0 n.1, drop n.0 n.1)

-- values, each chosen by its first byte, and then the byte stop (Binary Format > Instructions > Expressions)
abbrev pub IsUntil : {A : Type 0} → (ℕ → List ℕ → A → Type 0) → ℕ → List ℕ → List A → Type 0
IsUntil R stop bytes [] = bytes ≡ stop ∷ []
IsUntil R stop bytes (x ∷ xs) = (b : ℕ) × ((front : List ℕ) × ((back : List ℕ) × ((bytes ≡ b ∷ (front ++ back)) × (nat_eq b stop ≡ false) × R b front x × IsUntil R stop back xs)))

unfoldable pub until_at : {A : Type 0} → (ℕ → List ℕ → Option (A × List ℕ)) → ℕ → ℕ → List ℕ → Option (List A × List ℕ)
until_at p stop zero bytes = None
until_at p stop (suc most) bytes = byte_at bytes >>= λ b.
    if nat_eq b.0 stop then Some ([], b.1) else (p b.0 b.1 >>= λ x. until_at p stop most x.1 >>= λ xs. Some (x.0 ∷ xs.0, xs.1))

-- the bytes, all of them, are a text of the form, and its value is this
abbrev pub Is : {A : Type 0} → Form A → List ℕ → A → Type 0
Is Fails bytes a = ⊥
Is (Gives x) bytes a = (bytes ≡ []) × (a ≡ x)
Is Byte bytes a = bytes ≡ a ∷ []
Is (Number most top) bytes a = IsNumber most top bytes a
Is (Integer most half) bytes a = IsInteger most half bytes a
Is (IndexFrom b) bytes a = IsIndex (b ∷ bytes) a
Is (Bytes n) bytes a = (a ≡ bytes) × (length bytes ≡ n)
Is Block bytes a = IsBlock bytes a
Is (f then g) bytes a = (front : List ℕ) × ((back : List ℕ) × ((bytes ≡ front ++ back) × Is f front a.0 × Is g back a.1))
Is (Led {A = B} f g) bytes a = (b : B) × ((front : List ℕ) × ((back : List ℕ) × ((bytes ≡ front ++ back) × Is f front b × Is (g b) back a)))
Is (Made {A = B} make f) bytes a = (b : B) × ((a ≡ make b) × Is f bytes b)
Is (Where test f) bytes a = Is f bytes a × (test a ≡ true)
Is (Row f n) bytes a = IsRow (Is f) bytes a × (length a ≡ n)
Is (Until stop f) bytes a = IsUntil (λ b. Is (f b)) stop bytes a

-- reading one in front: its value, and the bytes after it
abbrev pub at : {A : Type 0} → Form A → List ℕ → Option (A × List ℕ)
at Fails bytes = None
at (Gives x) bytes = Some (x, bytes)
at Byte bytes = byte_at bytes
at (Number most top) bytes = number_at most top bytes
at (Integer most half) bytes = integer_at most half bytes
at (IndexFrom b) bytes = index_at (b ∷ bytes)
at (Bytes n) bytes = bytes_at n bytes
at Block bytes = block_at bytes
at (f then g) bytes = at f bytes >>= λ x. at g x.1 >>= λ y. Some ((x.0, y.0), y.1)
at (Led f g) bytes = at f bytes >>= λ x. at (g x.0) x.1
at (Made make f) bytes = at f bytes >>= λ x. Some (make x.0, x.1)
at (Where test f) bytes = at f bytes >>= λ x. if test x.0 then Some x else None
at (Row f n) bytes = row_at (at f) n bytes
at (Until stop f) bytes = until_at (λ b. at (f b)) stop (length bytes) bytes

-- an unsigned number of 32 bits, in at most five bytes (Binary Format > Values > Integers, u32)
abbrev pub U32 : Form ℕ
U32 = Number 5 (2 ^ 32)

-- a signed number of 32 bits, in at most five bytes (Binary Format > Values > Integers, s32)
abbrev pub S32 : Form ℤ
S32 = Integer 5 (2 ^ 31)

-- an unsigned number of 64 bits, in at most ten bytes (Binary Format > Values > Integers, u64)
abbrev pub U64 : Form ℕ
U64 = Number 10 (2 ^ 64)

-- a signed number of 64 bits, in at most ten bytes (Binary Format > Values > Integers, s64)
abbrev pub S64 : Form ℤ
S64 = Integer 10 (2 ^ 63)

-- an index from its first byte on (Binary Format > Types > Heap Types)
abbrev pub Index : Form ℕ
Index = Led Byte IndexFrom

-- the bits of a float in four bytes, the lowest first (Binary Format > Values > Floating-Point)
abbrev pub F32 : Form ℕ
F32 = Made little (Bytes 4)

-- the bits of a double-precision float in eight bytes, the lowest first (Binary Format > Values > Floating-Point, f64)
abbrev pub F64 : Form ℕ
F64 = Made little (Bytes 8)

-- a count, and that many texts (Binary Format > Conventions > Lists)
abbrev pub Vector : {A : Type 0} → Form A → Form (List A)
Vector f = Led (Number 5 (2 ^ 32)) (λ n. Row f n)

-- a block that is UTF-8 (Binary Format > Values > Names)
abbrev pub name : Form (List ℕ)
name = Where is_utf8 Block

-- one of two forms: the first where the condition is true, else the second
abbrev pub choose : {A : Type 0} → Bool → Form A → Form A → Form A
choose true f g = f
choose false f g = g

-- what f reads in front is what F spells, and it reads each such front, whatever stands behind it
pub record IsExact {A : Type 0} (F : List ℕ → A → Type 0) (f : List ℕ → Option (A × List ℕ)) : Type 0 where
  pub takes : (bytes : List ℕ) (x : A × List ℕ) → f bytes ≡ Some x → (front : List ℕ) × ((bytes ≡ front ++ x.1) × F front x.0)
  pub again : (front rest : List ℕ) (a : A) → F front a → f (front ++ rest) ≡ Some (a, rest)

-- two texts of one form in front of equal bytes have the same value and the same rest
abbrev pub HasOneReading : {A : Type 0} → (List ℕ → A → Type 0) → Type 0
HasOneReading {A} F = (front rest front' rest' : List ℕ) (a b : A) → front ++ rest ≡ front' ++ rest' → F front a → F front' b → (a ≡ b) × (rest ≡ rest')

-- what a reader returned: a text of the form stands in front, with this value and this rest; refused as malformed, none stands there
abbrev pub Reads : {X A : Type 0} → Form A → (X → A × List ℕ) → List ℕ → Result X WireError → Type 0
Reads g view bytes (Ok x) = (front : List ℕ) × ((bytes ≡ front ++ (view x).1) × Is g front (view x).0)
Reads {A = A} g view bytes (Err Malformed) = (front rest : List ℕ) (a : A) → bytes ≡ front ++ rest → Is g front a → ⊥
Reads g view bytes (Err (Memory e)) = Unit {0}
Reads g view bytes (Err TooLarge) = ⊥
