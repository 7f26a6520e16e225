-- What is spelled stands in its form: lists, choices, and value, reference and heap types.
use Rattle.std.proofs.Common.{◌≡◌, ℕ, ◌<◌, ◌≤◌, Bool, true, false, List, [], ◌∷◌, length, refl, ap, ap₂, arith, ◌⊎◌, inl, inr, pos, ◌-ℤ◌}
use Rattle.std.specs.Prelude.{All, nat_le, nat_eq, ◌&&◌}
use Rattle.wasm_opcodes.specs.declared.types.TheConstants.{HEAP_EXN, HEAP_NO_EXN}
use Rattle.std.proofs.lemmas.Int.{ints}
use Rattle.std.proofs.lemmas.Bool.{ne_eqb, le-leb, lt-leb, leb-true, and_parts as and_both}
use Rattle.std.proofs.lemmas.List.Elements.{All-head, All-tail}
use Rattle.wasm_forms.specs.declared.types.RawHeap.{RawHeap}
use Rattle.wasm_forms.specs.declared.types.RawHeap.TheVariants.{Abstract, Index}
use Rattle.wasm_forms.specs.declared.types.RawRef.{RawRef}
use Rattle.wasm_forms.specs.declared.types.RawVal.{RawVal}
use Rattle.wasm_forms.specs.declared.types.RawVal.TheVariants.{I32, I64, F32, F64, V128, Ref}
use Rattle.wasm_forms.specs.Number.{IsSigned}
use Rattle.wasm_forms.specs.Grammar.{Form, Is, IsRow, Fails, Gives, Byte, Led, Made, IndexFrom, Vector, choose}
use Rattle.wasm_forms.specs.Spelling.{number_bytes, index_bytes, row_bytes, vector_bytes}
use Rattle.wasm_forms.specs.Writing.{EachFits, FitsVector}
use Rattle.wasm_forms.specs.Types.{is_abstract, heap_from, heap_type, reference, reference_from, reference_type, value_from, value_type, heap_bytes, reference_spelled, reference_bytes, value_bytes, HeapStands, ValueStands}
use Rattle.wasm_forms.proofs.Spelled.{number_stands, index_stands}

-- ---- lists

each_from_all : {X : Type 0} (S : X → Type 0) (xs : List X) → All S xs → EachFits S xs
each_from_all S [] h = tt
each_from_all S (x ∷ xs) h = (All-head S x xs h, each_from_all S xs (All-tail S x xs h))

items_stand : {A : Type 0} (f : Form A) (spell : A → List ℕ) (F S : A → Type 0) → ((x : A) → F x → S x → Is f (spell x) x) → (xs : List A) → EachFits F xs → EachFits S xs → IsRow (Is f) (row_bytes spell xs) xs
items_stand f spell F S law [] h k = refl
items_stand f spell F S law (x ∷ xs) h k = (spell x, (row_bytes spell xs, (refl, law x h.0 k.0, items_stand f spell F S law xs h.1 k.1)))

-- a list whose length and items fit, and of which each item stands in the items' form
pub list_stands : {A : Type 0} (f : Form A) (spell : A → List ℕ) (F S : A → Type 0) → ((x : A) → F x → S x → Is f (spell x) x) → (xs : List A) → FitsVector F xs → All S xs → Is (Vector f) (vector_bytes spell xs) xs
list_stands f spell F S law xs h k = (length xs, (number_bytes (length xs), (row_bytes spell xs, (refl, number_stands (length xs) h.0, (items_stand f spell F S law xs h.1 (each_from_all S xs k), refl)))))

-- ---- choices

pub first_stands : {A : Type 0} (t : Bool) (f g : Form A) (bytes : List ℕ) (a : A) → t ≡ true → Is f bytes a → Is (choose t f g) bytes a
first_stands true f g bytes a e h = h
first_stands false f g bytes a e h = cc

pub second_stands : {A : Type 0} (t : Bool) (f g : Form A) (bytes : List ℕ) (a : A) → t ≡ false → Is g bytes a → Is (choose t f g) bytes a
second_stands true f g bytes a e h = cc
second_stands false f g bytes a e h = h

-- a first byte of this kind, and what it says stands behind it
abbrev pub LedBy : {A : Type 0} → (ℕ → Type 0) → (ℕ → Form A) → List ℕ → A → Type 0
LedBy K f bytes a = (b : ℕ) × ((back : List ℕ) × ((bytes ≡ b ∷ back) × K b × Is (f b) back a))

pub led_stands : {A : Type 0} (K : ℕ → Type 0) (f : ℕ → Form A) (bytes : List ℕ) (a : A) → LedBy K f bytes a → Is (Led Byte f) bytes a
led_stands K f bytes a h = (h.0, (h.0 ∷ [], (h.1.0, (h.1.1.0, refl, h.1.1.2))))

-- ---- heap types

low_byte : (b : ℕ) → b ≤ 0x68 → is_abstract b ≡ false
low_byte b h = ap (λ t. t && nat_le b HEAP_NO_EXN) (lt-leb HEAP_EXN b (omega (arith, h)))

high_byte : (b : ℕ) → 0x75 ≤ b → is_abstract b ≡ false
high_byte b h = ap₂ (λ s t. s && t) (le-leb HEAP_EXN b (omega (arith, h))) (lt-leb b HEAP_NO_EXN (omega (arith, h)))

pub not_minus : (b n : ℕ) → b < 128 → pos n ≡ pos b -ℤ pos 128 → ⊥
not_minus b n h e = omega (arith, ints)

index_byte : (b n : ℕ) (back : List ℕ) → IsSigned (b ∷ back) (pos n) → is_abstract b ≡ false
index_byte b n [] (inl h) = low_byte b (omega (arith, h.0))
index_byte b n [] (inr h) = absurd (not_minus b n h.1 h.2)
index_byte b n (c ∷ bs) h = high_byte b (omega (arith, h.0))

pub abstract_range : (b : ℕ) → is_abstract b ≡ true → (0x68 < b) × (b < 0x75)
abstract_range b e =
    let p = and_both (nat_le HEAP_EXN b) (nat_le b HEAP_NO_EXN) e in
    let high : b ≤ 0x74 = leb-true b HEAP_NO_EXN p.1 in
    (leb-true HEAP_EXN b p.0, omega (arith, high))

pub heap_stands : (h : RawHeap) → HeapStands h → Is heap_type (heap_bytes h) h
unfolding heap_type heap_from
heap_stands (Abstract b) k = (b, (b ∷ [], ([], (refl, refl, first_stands (is_abstract b) (Gives (Abstract b)) (Made Index (IndexFrom b)) [] (Abstract b) k (refl, refl)))))
heap_stands (Index n) k =
    let i = index_stands n k in
    let b = i.0 in
    let back = i.1.1.0 in
    (b, (i.1.0, (back, (i.1.1.1.0, i.1.1.1.1, second_stands (is_abstract b) (Gives (Abstract b)) (Made Index (IndexFrom b)) back (Index n) (index_byte b n back i.1.1.1.2.spelled) (n, (refl, i.1.1.1.2))))))

-- ---- reference types

-- their first byte
abbrev pub LeadsReference : ℕ → Type 0
LeadsReference b = b < 0x75

pub reference_led_at : (nullable : Bool) (heap : RawHeap) → HeapStands heap → LedBy LeadsReference reference_from (reference_spelled nullable heap) (reference nullable heap)
unfolding reference_from
reference_led_at true (Abstract b) k =
    let r = abstract_range b k in
    let here : Is (choose (is_abstract b) (Gives (reference true (Abstract b))) Fails) [] (reference true (Abstract b)) = first_stands (is_abstract b) (Gives (reference true (Abstract b))) Fails [] (reference true (Abstract b)) k (refl, refl) in (
      b,
      (
        [],
        (
          refl,
          r.1,
          second_stands (nat_eq b 0x63) (Made (reference true) heap_type) _ [] (reference true (Abstract b)) (ne_eqb b 0x63 (λ e. omega (arith, e, r.0)))
              (second_stands (nat_eq b 0x64) (Made (reference false) heap_type) _ [] (reference true (Abstract b)) (ne_eqb b 0x64 (λ e. omega (arith, e, r.0))) here),
        ),
      ),
    )
reference_led_at true (Index n) k = (0x63, (index_bytes n, (refl, omega arith, (Index n, (refl, heap_stands (Index n) k)))))
reference_led_at false heap k = (0x64, (heap_bytes heap, (refl, omega arith, (heap, (refl, heap_stands heap k)))))

pub reference_led : (r : RawRef) → HeapStands r.heap → LedBy LeadsReference reference_from (reference_bytes r) r
reference_led r k = reference_led_at r.nullable r.heap k

pub reference_stands : (r : RawRef) → HeapStands r.heap → Is reference_type (reference_bytes r) r
unfolding reference_type
reference_stands r k = led_stands LeadsReference reference_from (reference_bytes r) r (reference_led r k)

-- ---- value types

-- their first byte
abbrev pub LeadsValue : ℕ → Type 0
LeadsValue b = (b < 0x75) ⊎ (0x7B ≤ b)

pub value_led : (v : RawVal) → ValueStands v → LedBy LeadsValue value_from (value_bytes v) v
unfolding value_from
value_led I32 k = (0x7F, ([], (refl, inr (omega arith), (refl, refl))))
value_led I64 k = (0x7E, ([], (refl, inr (omega arith), (refl, refl))))
value_led F32 k = (0x7D, ([], (refl, inr (omega arith), (refl, refl))))
value_led F64 k = (0x7C, ([], (refl, inr (omega arith), (refl, refl))))
value_led V128 k = (0x7B, ([], (refl, inr (omega arith), (refl, refl))))
value_led (Ref r) k =
    let l = reference_led r k in
    let b = l.0 in
    let back = l.1.0 in
    let small : b < 0x75 = l.1.1.1 in
    let here : Is (Made Ref (reference_from b)) back (Ref r) = (r, (refl, l.1.1.2)) in (
      b,
      (
        back,
        (
          l.1.1.0,
          inl small,
          second_stands (nat_eq b 0x7F) (Gives I32) _ back (Ref r) (ne_eqb b 0x7F (λ e. omega (arith, e, small)))
              (second_stands (nat_eq b 0x7E) (Gives I64) _ back (Ref r) (ne_eqb b 0x7E (λ e. omega (arith, e, small)))
              (second_stands (nat_eq b 0x7D) (Gives F32) _ back (Ref r) (ne_eqb b 0x7D (λ e. omega (arith, e, small)))
              (second_stands (nat_eq b 0x7C) (Gives F64) _ back (Ref r) (ne_eqb b 0x7C (λ e. omega (arith, e, small)))
              (second_stands (nat_eq b 0x7B) (Gives V128) _ back (Ref r) (ne_eqb b 0x7B (λ e. omega (arith, e, small))) here)))),
        ),
      ),
    )

pub value_stands : (v : RawVal) → ValueStands v → Is value_type (value_bytes v) v
unfolding value_type
value_stands v k = led_stands LeadsValue value_from (value_bytes v) v (value_led v k)
