-- Numbers by the places where they stand in bytes (Binary Format > Values > Integers).
use Rattle.std.specs.Prelude.{◌≡◌, ℕ, ℤ, ◌-◌, ◌<◌, ◌≤◌, Bool, true, false, List, take, drop, length, ◌⊎◌}
use Rattle.wasm_forms.specs.Number.{IsUnsigned, IsSigned}
use Rattle.wasm_forms.specs.Spelling.{number_bytes, integer_bytes}
use Rattle.wasm_forms.specs.Grammar.{Form, Is}
use Rattle.wasm_text.specs.declared.places.TheConstants.{NO_PLACE}

-- the bytes from one place up to another
abbrev pub between : (at behind : ℕ) → List ℕ → List ℕ
between at behind bytes = take (behind - at) (drop at bytes)

-- from one place up to another stands a text of this form, with this value
pub record Stands {A : Type 0} (form : Form A) (bytes : List ℕ) (at behind : ℕ) (value : A) : Type 0 where
  pub forward : at < behind
  pub within : behind ≤ length bytes
  pub text : Is form (between at behind bytes) value

-- from one place up to another stands an unsigned number of at most so many bytes
pub record StandsNumber (most : ℕ) (bytes : List ℕ) (at behind : ℕ) (n : ℕ) : Type 0 where
  pub forward : at < behind
  pub within : behind ≤ length bytes
  pub short : behind - at ≤ most
  pub spelled : IsUnsigned (between at behind bytes) n

-- bytes, at most ten, are the one spelling of the number that they spell, be it unsigned or signed
pub record IsShortest (bytes : List ℕ) : Type 0 where
  pub unsigned : (n : ℕ) → length bytes ≤ 10 → IsUnsigned bytes n → number_bytes n ≡ bytes
  pub signed : (z : ℤ) → length bytes ≤ 10 → IsSigned bytes z → integer_bytes z ≡ bytes

abbrev pub IfShortest : List ℕ → Bool → Type 0
IfShortest bytes true = IsShortest bytes
IfShortest bytes false = Unit {0}

-- a place, or the one that stands for none
abbrev pub IfPlace : ℕ → Type 0 → Type 0
IfPlace place claim = (place ≡ NO_PLACE) ⊎ claim

-- behind a number
abbrev pub IsPast : List ℕ → (at most : ℕ) → ℕ → Type 0
IsPast bytes at most behind = IfPlace behind ((n : ℕ) × StandsNumber most bytes at behind n)

-- behind a text of this form
abbrev pub IsBehind : {A : Type 0} → Form A → List ℕ → (at : ℕ) → ℕ → Type 0
IsBehind {A} form bytes at behind = IfPlace behind ((value : A) × Stands form bytes at behind value)

-- the number that stands there, if one does
abbrev pub IsNumberAt : List ℕ → ℕ → ℕ → Type 0
IsNumberAt bytes at value = (behind n : ℕ) → StandsNumber 5 bytes at behind n → value ≡ n
