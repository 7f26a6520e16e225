-- The number that a word says, as a test of its digits.
use Rattle.std.proofs.Common.{◌≡◌, ◌<◌, ◌^◌, ℕ, Bool, true, false, ◌&&◌, List, [], ◌∷◌, length, ltb, Option, Some, None, refl, sym, ap, ap₂, ◌∙◌, lt-ltb, ltb-true}
use Rattle.std.specs.Prelude.{if◌then◌else◌}
use Rattle.std.specs.Char.{digit_value}
use Rattle.std.specs.List.{list_all}
use Rattle.std.specs.Str.Parse.{AllDigits, IsNumeral, digits_value, without_leading_plus}
use Rattle.walrus_tools.specs.FunctionMeaning.{SaysIndex}
use Rattle.mulkavesh.specs.Steps.{digits_said, number_said}

abbrev is_digit : ℕ → Bool
is_digit c = ltb (digit_value c) 10

both_true : (a b : Bool) → (a && b) ≡ true → (a ≡ true) × (b ≡ true)
both_true true b is = (refl, is)
both_true false b is = absurd (cc)

all_digits : (ds : List ℕ) → list_all is_digit ds ≡ true → AllDigits 10 ds
all_digits [] is = tt
all_digits (c ∷ cs) is = let t = both_true (is_digit c) (list_all is_digit cs) is in (ltb-true (digit_value c) 10 t.0, all_digits cs t.1)

digits_all : (ds : List ℕ) → AllDigits 10 ds → list_all is_digit ds ≡ true
digits_all [] are = refl
digits_all (c ∷ cs) are = ap₂ (λ (a b : Bool). a && b) (lt-ltb (digit_value c) 10 are.0) (digits_all cs are.1)

-- the digits are a numeral of so many bits
abbrev IsShort : (bits : ℕ) → List ℕ → Type 0
IsShort bits ds = IsNumeral 10 ds × (digits_value 10 ds < 2 ^ bits)

short_said : (bits : ℕ) (ds : List ℕ) → IsShort bits ds → digits_said bits ds ≡ Some (digits_value 10 ds)
short_said bits ds short =
    let some = lt-ltb 0 (length ds) short.0.0 in
    let all = digits_all ds short.0.1 in
    let fits = lt-ltb (digits_value 10 ds) (2 ^ bits) short.1 in
    ap (λ (b : Bool). if b then Some (digits_value 10 ds) else None) (ap₂ (λ (a b : Bool). a && b) (ap₂ (λ (a b : Bool). a && b) some all) fits)

said_short : (bits : ℕ) (ds : List ℕ) (n : ℕ) → digits_said bits ds ≡ Some n → IsShort bits ds × (n ≡ digits_value 10 ds)
said_short bits ds n is = by _ refl is
  where
    by : (b : Bool) → (ltb 0 (length ds) && list_all is_digit ds && ltb (digits_value 10 ds) (2 ^ bits)) ≡ b
        → ◌≡◌ {A = Option ℕ} (if b then Some (digits_value 10 ds) else None) (Some n) → IsShort bits ds × (n ≡ digits_value 10 ds)
    by true tests same =
        let t = both_true _ _ tests in
        let u = both_true _ _ t.0 in
        (((ltb-true 0 (length ds) u.0, all_digits ds u.1), ltb-true (digits_value 10 ds) (2 ^ bits) t.1), (let e : n ≡ digits_value 10 ds = cc in e))
    by false _ same = absurd (cc)

-- where the digits are no such numeral, none is said
none_said : (bits : ℕ) (ds : List ℕ) → (IsShort bits ds → ⊥) → digits_said bits ds ≡ None
none_said bits ds never = by _ refl
  where
    by : (o : Option ℕ) → digits_said bits ds ≡ o → digits_said bits ds ≡ None
    by None is = is
    by (Some n) is = absurd (never (said_short bits ds n is).0)

-- ---- a word

pub parsed : (word : List ℕ) (n : ℕ) → SaysIndex word n → number_said word ≡ Some n
parsed word n says = short_said 32 (without_leading_plus word) says.0 ∙ ap (λ (m : ℕ). Some m) (sym says.1)

pub unparsed : (word : List ℕ) → (IsShort 32 (without_leading_plus word) → ⊥) → number_said word ≡ None
unparsed word never = none_said 32 (without_leading_plus word) never

pub said_index : (word : List ℕ) (n : ℕ) → number_said word ≡ Some n → SaysIndex word n
said_index word n is = said_short 32 (without_leading_plus word) n is
