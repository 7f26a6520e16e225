-- What is written stands in the grammar.
use Rattle.std.proofs.Common.{◌≡◌, ℕ, zero, suc, ◌+◌, ◌-◌, ◌*◌, ◌/◌, ◌%◌, ◌^◌, ◌<◌, ◌≤◌, Bool, true, false, List, [], ◌∷◌, length, map, refl, sym, ap, subst, ◌∙◌, arith, ltb, ltb-true, ltb-false, inl, inr, ℤ, pos, negsuc, ◌+ℤ◌, ◌-ℤ◌, ◌*ℤ◌}
use lib.Signed.{mag}
use Rattle.std.proofs.lemmas.List.{length-map}
use Rattle.std.proofs.lemmas.Nat.{pow-add}
use Rattle.std.proofs.lemmas.Int.{ints}
use Rattle.std.proofs.lemmas.Str.{is_utf8-from_IsUtf8}
use Rattle.std.specs.Str.{IsUtf8}
use Rattle.wasm_forms.specs.Number.{AreBytes, IsUnsigned, IsSigned, Fits, IsIndex}
use Rattle.wasm_forms.specs.Grammar.{Form, Is, IsRow, Block, U32, S32, U64, S64, Index, Vector, name}
use Rattle.wasm_forms.specs.Spelling.{shown, groups, number_bytes, integer_bytes, index_bytes, block_bytes, name_bytes, row_bytes, vector_bytes}
use Rattle.wasm_forms.specs.Writing.{FitsLength, EachFits, FitsVector}
use Rattle.wasm_forms.proofs.Groups.{groups-last, groups-more}
use Rattle.wasm_forms.proofs.Leb.{unsigned_more, signed_more}
use Rattle.wasm_forms.proofs.Turns.{lacks}

-- seven bits fewer
room_next : (stop most n : ℕ) → n < stop * 128 ^ suc most → n / 128 < stop * 128 ^ most
room_next stop most n h = let e : most + 1 ≡ suc most = omega arith in omega (arith, ap (λ k. stop * k) (pow-add 128 most 1), ap (λ k. stop * 128 ^ k) e)

-- the bytes are no more than the room that the number needs
short_at : (below : Bool) (stop most k n : ℕ) → ((j m : ℕ) → m < stop * 128 ^ j → length (groups below stop most m) ≤ suc j) → n < stop * 128 ^ k → (t : Bool) → ltb n stop ≡ t → length (groups below stop (suc most) n) ≤ suc k
short_at below stop most k n more h true e = omega (arith, ap length (groups-last below stop most n (ltb-true n stop e)))
short_at below stop most zero n more h false e = absurd (let l : stop ≤ n = ltb-false n stop e in omega arith)
short_at below stop most (suc k) n more h false e = omega (arith, ap length (groups-more below stop most n (ltb-false n stop e)), more k (n / 128) (room_next stop k n h))

pub groups_short : (below : Bool) (stop most k n : ℕ) → n < stop * 128 ^ k → length (groups below stop most n) ≤ suc k
unfolding groups
groups_short below stop zero k n h = omega arith
groups_short below stop (suc most) k n h = short_at below stop most k n (groups_short below stop most) h (ltb n stop) refl

-- the groups spell an unsigned number
split : (n : ℕ) → (128 + n % 128 - 128) + 128 * (n / 128) ≡ n
split n = omega arith

unsigned_at : (most n : ℕ) → ((m : ℕ) → m < 128 * 128 ^ most → IsUnsigned (groups false 128 most m) m) → n < 128 * 128 ^ suc most → (t : Bool) → ltb n 128 ≡ t → IsUnsigned (groups false 128 (suc most) n) n
unsigned_at most n more h true e = let l : n < 128 = ltb-true n 128 e in subst (λ bytes. IsUnsigned bytes n) (sym (groups-last false 128 most n l)) (l, refl)
unsigned_at most n more h false e =
    let u = unsigned_more (128 + n % 128) (groups false 128 most (n / 128)) (n / 128) (omega arith) (more (n / 128) (room_next 128 most n h)) in
    subst (λ bytes. IsUnsigned bytes n) (sym (groups-more false 128 most n (ltb-false n 128 e))) (subst (λ k. IsUnsigned ((128 + n % 128) ∷ groups false 128 most (n / 128)) k) (split n) u)

unsigned_groups : (most n : ℕ) → n < 128 * 128 ^ most → IsUnsigned (groups false 128 most n) n
unfolding groups
unsigned_groups zero n h = (omega arith, refl)
unsigned_groups (suc most) n h = unsigned_at most n (unsigned_groups most) h (ltb n 128) refl

-- the groups spell a signed number
abbrev signed_of : Bool → ℕ → ℤ
signed_of false n = pos n
signed_of true n = negsuc n

signed_lone : (below : Bool) (n : ℕ) → n < 64 → IsSigned (shown below n ∷ []) (signed_of below n)
signed_lone false n h = inl (h, refl)
signed_lone true n h = let e : negsuc n ≡ pos (127 - n) -ℤ pos 128 = omega (arith, ints) in inr (omega arith, omega arith, e)

signed_join : (below : Bool) (n : ℕ) → pos (128 + shown below (n % 128) - 128) +ℤ pos 128 *ℤ signed_of below (n / 128) ≡ signed_of below n
signed_join false n = ap pos (split n)
signed_join true n =
    let e : 128 + (127 - n % 128) - 128 ≡ 127 - n % 128 = omega arith in
    let l : 127 - n % 128 < 128 = omega arith in
    let m : (128 - suc (127 - n % 128)) + 128 * (n / 128) ≡ n = omega arith in
    ap (λ k. pos k +ℤ pos 128 *ℤ negsuc (n / 128)) e ∙ lacks (127 - n % 128) 128 (n / 128) l ∙ ap negsuc m

signed_at : (below : Bool) (most n : ℕ) → ((m : ℕ) → m < 64 * 128 ^ most → IsSigned (groups below 64 most m) (signed_of below m)) → n < 64 * 128 ^ suc most → (t : Bool) → ltb n 64 ≡ t → IsSigned (groups below 64 (suc most) n) (signed_of below n)
signed_at below most n more h true e = let l : n < 64 = ltb-true n 64 e in subst (λ bytes. IsSigned bytes (signed_of below n)) (sym (groups-last below 64 most n l)) (signed_lone below n l)
signed_at below most n more h false e =
    let u = signed_more (128 + shown below (n % 128)) (groups below 64 most (n / 128)) (signed_of below (n / 128)) (omega arith) (more (n / 128) (room_next 64 most n h)) in
    subst (λ bytes. IsSigned bytes (signed_of below n)) (sym (groups-more below 64 most n (ltb-false n 64 e))) (subst (λ z. IsSigned ((128 + shown below (n % 128)) ∷ groups below 64 most (n / 128)) z) (signed_join below n) u)

signed_groups : (below : Bool) (most n : ℕ) → n < 64 * 128 ^ most → IsSigned (groups below 64 most n) (signed_of below n)
unfolding groups
signed_groups below zero n h = signed_lone below n (omega arith)
signed_groups below (suc most) n h = signed_at below most n (signed_groups below most) h (ltb n 64) refl

-- ---- the laws

pub number_stands : (n : ℕ) → n < 4294967296 → Is U32 (number_bytes n) n
unfolding number_bytes
number_stands n h = record { spelled = unsigned_groups 9 n (omega arith); short = groups_short false 128 9 4 n (omega arith); small = h }

pub integer_stands : (z : ℤ) → Fits 2147483648 z → Is S32 (integer_bytes z) z
unfolding integer_bytes
integer_stands (pos n) h = record { spelled = signed_groups false 9 n (omega arith); short = groups_short false 64 9 4 n (omega arith); small = h }
integer_stands (negsuc n) h = record { spelled = signed_groups true 9 n (omega arith); short = groups_short true 64 9 4 n (omega arith); small = h }

pub long_number_stands : (n : ℕ) → n < 18446744073709551616 → Is U64 (number_bytes n) n
unfolding number_bytes
long_number_stands n h = record { spelled = unsigned_groups 9 n (omega arith); short = groups_short false 128 9 9 n (omega arith); small = h }

pub long_integer_stands : (z : ℤ) → Fits 9223372036854775808 z → Is S64 (integer_bytes z) z
unfolding integer_bytes
long_integer_stands (pos n) h = record { spelled = signed_groups false 9 n (omega arith); short = groups_short false 64 9 9 n (omega arith); small = h }
long_integer_stands (negsuc n) h = record { spelled = signed_groups true 9 n (omega arith); short = groups_short true 64 9 9 n (omega arith); small = h }

spells_index : (n : ℕ) → n < 4294967296 → IsIndex (index_bytes n) n
unfolding integer_bytes
spells_index n h = record { spelled = signed_groups false 9 n (omega arith); short = groups_short false 64 9 4 n (omega arith); small = h }

-- an index has a first byte
pub index_led : (bytes : List ℕ) (n : ℕ) → IsIndex bytes n → Is Index bytes n
index_led [] n h = absurd h.spelled
index_led (b ∷ bytes) n h = (b, (b ∷ [], (bytes, (refl, refl, h))))

pub index_stands : (n : ℕ) → n < 4294967296 → Is Index (index_bytes n) n
index_stands n h = index_led (index_bytes n) n (spells_index n h)

pub block_stands : (content : List ℕ) → FitsLength content → Is Block (block_bytes content) content
block_stands content h = (number_bytes (length content), (refl, number_stands (length content) h))

pub name_stands : (text : List ℕ) → IsUtf8 text → FitsLength text → Is name (name_bytes text) text
name_stands text u h = (block_stands text h, is_utf8-from_IsUtf8 text u)

pub row_stands : {X A : Type 0} (f : Form A) (spell : X → List ℕ) (view : X → A) (F : X → Type 0) → ((x : X) → F x → Is f (spell x) (view x)) → (xs : List X) → EachFits F xs → IsRow (Is f) (row_bytes spell xs) (map view xs)
row_stands f spell view F law [] h = refl
row_stands f spell view F law (x ∷ xs) h = (spell x, (row_bytes spell xs, (refl, law x h.0, row_stands f spell view F law xs h.1)))

pub vector_stands : {X A : Type 0} (f : Form A) (spell : X → List ℕ) (view : X → A) (F : X → Type 0) → ((x : X) → F x → Is f (spell x) (view x)) → (xs : List X) → FitsVector F xs → Is (Vector f) (vector_bytes spell xs) (map view xs)
vector_stands f spell view F law xs h = (length xs, (number_bytes (length xs), (row_bytes spell xs, (refl, number_stands (length xs) h.0, (row_stands f spell view F law xs h.1, length-map xs view)))))

pub fits_from_mag : (half : ℕ) (z : ℤ) → mag z < half → Fits half z
fits_from_mag half (pos n) h = h
fits_from_mag half (negsuc n) h = h

-- ---- no spelling is shorter

-- a number of so many bytes is no larger than these hold
pub unsigned_bound : (bytes : List ℕ) (n : ℕ) → AreBytes bytes → IsUnsigned bytes n → n < 128 ^ length bytes
unsigned_bound [] n a h = absurd h
unsigned_bound (b ∷ []) n a h = omega (arith, h.0, h.1)
unsigned_bound (b ∷ c ∷ bs) n a h =
    let r = unsigned_bound (c ∷ bs) h.1.0 a.1 h.1.2 in
    let e : length (c ∷ bs) + 1 ≡ length (b ∷ c ∷ bs) = omega arith in
    omega (arith, a.0, h.0, h.1.1, pow-add 128 (length (c ∷ bs)) 1, ap (λ k. 128 ^ k) e)

pub number_least : (bytes : List ℕ) (n : ℕ) → AreBytes bytes → IsUnsigned bytes n → length (number_bytes n) ≤ length bytes
unfolding number_bytes
number_least [] n a h = absurd h
number_least (b ∷ bs) n a h =
    let e : length bs + 1 ≡ length (b ∷ bs) = omega arith in
    groups_short false 128 9 (length bs) n (omega (arith, unsigned_bound (b ∷ bs) n a h, pow-add 128 (length bs) 1, ap (λ k. 128 ^ k) e))

pub least_of : (n k : ℕ) → k ≡ length (number_bytes n) → (spelling : List ℕ) → AreBytes spelling → IsUnsigned spelling n → k ≤ length spelling
least_of n k e spelling a h = omega (arith, number_least spelling n a h)
