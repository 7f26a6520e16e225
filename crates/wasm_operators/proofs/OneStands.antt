-- One argument that is spelled stands in the form of its kind.
use Rattle.std.proofs.Common.{◌≡◌, ℕ, ◌+◌, ◌-◌, ◌/◌, ◌%◌, ◌<◌, ◌≤◌, Bool, true, false, List, [], ◌∷◌, ◌++◌, refl, sym, ap, ap₂, ◌∙◌, arith, append_assoc, lt-ltb, le-ltb, eqb, eqb-true, eq-eqb, ◌⊎◌, inl, inr, pos}
use Rattle.std.specs.Prelude.{nat_lt, nat_eq, ◌&&◌, not, if◌then◌else◌}
use Rattle.std.proofs.lemmas.Bool.{ne_eqb, false≢true as untrue}
use Rattle.wasm_forms.specs.declared.types.RawHeap.{RawHeap}
use Rattle.wasm_forms.specs.declared.types.RawHeap.TheVariants.{Abstract, Index}
use Rattle.wasm_forms.specs.declared.types.RawVal.{RawVal}
use Rattle.wasm_forms.specs.declared.types.RawVal.TheVariants.{I32, I64, F32, F64, V128, Ref}
use Rattle.wasm_forms.specs.Number.{IsSigned}
use Rattle.wasm_forms.specs.Grammar.{Is, Gives, IndexFrom, ◌then◌, Made, U32, U64}
use Rattle.wasm_forms.specs.Spelling.{number_bytes, index_bytes}
use Rattle.wasm_forms.specs.Types.{value_from, value_bytes, heap_bytes, reference_spelled, HeapStands, ValueStands}
use Rattle.wasm_forms.proofs.Spelled.{number_stands, integer_stands, long_number_stands, long_integer_stands, index_stands}
use Rattle.wasm_forms.proofs.Floats.{f32_stands, f64_stands}
use Rattle.wasm_forms.proofs.Stands.{abstract_range, heap_stands, value_led, first_stands, second_stands, not_minus}
use Rattle.wasm_operators.specs.declared.kind.Kind.{Kind}
use Rattle.wasm_operators.specs.declared.kind.Kind.TheVariants as kinds
use Rattle.wasm_operators.specs.declared.operator.RawArg.{RawArg}
use Rattle.wasm_operators.specs.declared.operator.RawArg.TheVariants as args
use Rattle.wasm_operators.specs.declared.operator.RawBlock.{RawBlock}
use Rattle.wasm_operators.specs.declared.operator.RawBlock.TheVariants.{NoResult, OneResult, OfType}
use Rattle.wasm_operators.specs.Forms.{block_from, block_type, has_memory, access_from, access, arg_form}
use Rattle.wasm_operators.specs.Spelling.{block_bytes, access_bytes, arg_bytes}
use Rattle.wasm_operators.specs.Standing.{heap_spells, value_spells, block_spells, is_of, HeapHeld, ValueHeld, BlockHeld, ArgHeld}

-- ---- heap types and value types

pub heap_made : (h : RawHeap) → heap_spells h ≡ true → HeapHeld h → HeapStands h
heap_made (Abstract b) s h = s
heap_made (Index n) s h = h

pub value_made : (v : RawVal) → value_spells v ≡ true → ValueHeld v → ValueStands v
value_made (Ref r) s h = heap_made r.heap s h
value_made I32 s h = tt
value_made I64 s h = tt
value_made F32 s h = tt
value_made F64 s h = tt
value_made V128 s h = tt

-- ---- block types: the first byte of a value type is above 40 and below 80, that of an index isn't

abbrev LeadsBlock : ℕ → Type 0
LeadsBlock b = (64 < b) × (b < 128)

leads : (a b : ℕ) (back back' : List ℕ) → 64 < a → a < 128 → a ∷ back' ≡ b ∷ back → LeadsBlock b
leads a b back back' l h e =
    let same : a ≡ b = cc in
    (omega (arith, same, l), omega (arith, same, h))

reference_leads : (nullable : Bool) (heap : RawHeap) (b : ℕ) (back : List ℕ) → HeapStands heap → reference_spelled nullable heap ≡ b ∷ back → LeadsBlock b
reference_leads true (Abstract a) b back k e =
    let p = abstract_range a k in
    leads a b back [] (omega (arith, p.0)) (omega (arith, p.1)) e
reference_leads true (Index n) b back k e = leads 0x63 b back (index_bytes n) (omega arith) (omega arith) e
reference_leads false heap b back k e = leads 0x64 b back (heap_bytes heap) (omega arith) (omega arith) e

value_leads : (v : RawVal) (b : ℕ) (back : List ℕ) → ValueStands v → value_bytes v ≡ b ∷ back → LeadsBlock b
value_leads I32 b back k e = leads 0x7F b back [] (omega arith) (omega arith) e
value_leads I64 b back k e = leads 0x7E b back [] (omega arith) (omega arith) e
value_leads F32 b back k e = leads 0x7D b back [] (omega arith) (omega arith) e
value_leads F64 b back k e = leads 0x7C b back [] (omega arith) (omega arith) e
value_leads V128 b back k e = leads 0x7B b back [] (omega arith) (omega arith) e
value_leads (Ref r) b back k e = reference_leads r.nullable r.heap b back k e

index_leads : (b n : ℕ) (back : List ℕ) → IsSigned (b ∷ back) (pos n) → (b < 64) ⊎ (128 ≤ b)
index_leads b n [] (inl h) = inl h.0
index_leads b n [] (inr h) = absurd (not_minus b n h.1 h.2)
index_leads b n (c ∷ bs) h = inr h.0

no_value : (b : ℕ) → (b < 64) ⊎ (128 ≤ b) → (nat_eq b 0x40 ≡ false) × ((nat_lt 0x40 b && nat_lt b 0x80) ≡ false)
no_value b (inl h) = (ne_eqb b 0x40 (λ e. omega (arith, e, h)), ap (λ t. t && nat_lt b 0x80) (le-ltb 0x40 b (omega arith)))
no_value b (inr h) = (ne_eqb b 0x40 (λ e. omega (arith, e, h)), ap₂ (λ s t. s && t) (lt-ltb 0x40 b (omega arith)) (le-ltb b 0x80 h))

some_value : (b : ℕ) → LeadsBlock b → (nat_eq b 0x40 ≡ false) × ((nat_lt 0x40 b && nat_lt b 0x80) ≡ true)
some_value b h = (ne_eqb b 0x40 (λ e. omega (arith, e, h.0)), ap₂ (λ s t. s && t) (lt-ltb 0x40 b h.0) (lt-ltb b 0x80 h.1))

pub block_stands : (b : RawBlock) → block_spells b ≡ true → BlockHeld b → Is block_type (block_bytes b) b
unfolding block_type block_from
block_stands NoResult s h = (0x40, (0x40 ∷ [], ([], (refl, refl, (refl, refl)))))
block_stands (OneResult v) s h =
    let k = value_made v s h in
    let led = value_led v k in
    let b = led.0 in
    let back = led.1.0 in
    let t = some_value b (value_leads v b back k led.1.1.0) in (
      b,
      (
        b ∷ [],
        (
          back,
          (
            led.1.1.0,
            refl,
            second_stands (nat_eq b 0x40) (Gives NoResult) _ back (OneResult v) t.0
                (first_stands (nat_lt 0x40 b && nat_lt b 0x80) (Made OneResult (value_from b)) (Made OfType (IndexFrom b)) back (OneResult v) t.1 (v, (refl, led.1.1.2))),
          ),
        ),
      ),
    )
block_stands (OfType n) s h =
    let i = index_stands n h in
    let b = i.0 in
    let back = i.1.1.0 in
    let t = no_value b (index_leads b n back i.1.1.1.2.spelled) in (
      b,
      (
        i.1.0,
        (
          back,
          (
            i.1.1.1.0,
            i.1.1.1.1,
            second_stands (nat_eq b 0x40) (Gives NoResult) _ back (OfType n) t.0
                (second_stands (nat_lt 0x40 b && nat_lt b 0x80) (Made OneResult (value_from b)) (Made OfType (IndexFrom b)) back (OfType n) t.1 (n, (refl, i.1.1.1.2))),
          ),
        ),
      ),
    )

-- ---- accesses: bit 40 of the flags

pub true_not_false : true ≡ false → ⊥
true_not_false e = cc

pub bit_down_at : (t : Bool) → not t ≡ true → t ≡ false
bit_down_at true e = cc
bit_down_at false e = refl

bit_down : (flags : ℕ) → not (has_memory flags) ≡ true → has_memory flags ≡ false
bit_down flags e = bit_down_at (has_memory flags) e

low_bit : (flags : ℕ) → has_memory flags ≡ false → (flags / 64) % 2 ≡ 0
low_bit flags e =
    let other : (flags / 64) % 2 ≡ 1 → ⊥ = λ h. true_not_false (sym (eq-eqb ((flags / 64) % 2) 1 h) ∙ e) in
    omega (arith, other)

bit_up : (flags : ℕ) → (flags / 64) % 2 ≡ 0 → has_memory (flags + 64) ≡ true
bit_up flags e = let h : ((flags + 64) / 64) % 2 ≡ 1 = omega arith in eq-eqb (((flags + 64) / 64) % 2) 1 h

bit_room : (flags : ℕ) → (flags / 64) % 2 ≡ 0 → flags < 4294967296 → flags + 64 < 4294967296
bit_room flags e h = omega arith

access_at : (flags memory offset : ℕ) → has_memory flags ≡ false → flags < 4294967296 → memory < 4294967296 → offset < 18446744073709551616 → (t : Bool) → eqb memory 0 ≡ t
    → Is access (if t then number_bytes flags ++ number_bytes offset else number_bytes (flags + 64) ++ number_bytes memory ++ number_bytes offset) (args.Access flags memory offset)
unfolding access access_from
access_at flags memory offset b f m o true e =
    let none : memory ≡ 0 = eqb-true memory 0 e in (
      flags,
      (
        number_bytes flags,
        (
          number_bytes offset,
          (
            refl,
            number_stands flags f,
            second_stands (has_memory flags) (Made (λ x. args.Access (flags - 64) x.0 x.1) (U32 then U64)) (Made (λ offset. args.Access flags 0 offset) U64) (number_bytes offset) (args.Access flags memory offset) b
                (offset, (ap (λ k. args.Access flags k offset) none, long_number_stands offset o)),
          ),
        ),
      ),
    )
access_at flags memory offset b f m o false e =
    let low = low_bit flags b in
    let back : flags ≡ flags + 64 - 64 = omega arith in (
      flags + 64,
      (
        number_bytes (flags + 64),
        (
          number_bytes memory ++ number_bytes offset,
          (
            append_assoc (number_bytes (flags + 64)) (number_bytes memory) (number_bytes offset),
            number_stands (flags + 64) (bit_room flags low f),
            first_stands (has_memory (flags + 64)) (Made (λ x. args.Access (flags + 64 - 64) x.0 x.1) (U32 then U64)) (Made (λ offset. args.Access (flags + 64) 0 offset) U64) (number_bytes memory ++ number_bytes offset) (args.Access flags memory offset) (bit_up flags low)
                ((memory, offset), (ap (λ k. args.Access k memory offset) back, (number_bytes memory, (number_bytes offset, (refl, number_stands memory m, long_number_stands offset o))))),
          ),
        ),
      ),
    )

pub access_stands : (flags memory offset : ℕ) → not (has_memory flags) ≡ true → flags < 4294967296 → memory < 4294967296 → offset < 18446744073709551616 → Is access (access_bytes flags memory offset) (args.Access flags memory offset)
access_stands flags memory offset b f m o = access_at flags memory offset (bit_down flags b) f m o (eqb memory 0) refl

-- ---- an argument of a kind that is one

pub one_stands : (kind : Kind) (arg : RawArg) → is_of kind arg ≡ true → ArgHeld arg → Is (arg_form kind) (arg_bytes arg) (arg ∷ [])
unfolding arg_form
one_stands kinds.Block (args.Block b) s h = (b, (refl, block_stands b s h))
one_stands kinds.Label (args.Label n) s h = (n, (refl, number_stands n h))
one_stands kinds.Function (args.Function n) s h = (n, (refl, number_stands n h))
one_stands kinds.«Type» (args.«Type» n) s h = (n, (refl, number_stands n h))
one_stands kinds.Table (args.Table n) s h = (n, (refl, number_stands n h))
one_stands kinds.Memory (args.Memory n) s h = (n, (refl, number_stands n h))
one_stands kinds.Global (args.Global n) s h = (n, (refl, number_stands n h))
one_stands kinds.Tag (args.Tag n) s h = (n, (refl, number_stands n h))
one_stands kinds.Element (args.Element n) s h = (n, (refl, number_stands n h))
one_stands kinds.Data (args.Data n) s h = (n, (refl, number_stands n h))
one_stands kinds.Local (args.Local n) s h = (n, (refl, number_stands n h))
one_stands kinds.Access (args.Access flags memory offset) s h = (args.Access flags memory offset, (refl, access_stands flags memory offset s h.0 h.1 h.2))
one_stands kinds.Heap (args.Heap x) s h = (x, (refl, heap_stands x (heap_made x s h)))
one_stands kinds.Number (args.Number n) s h = (n, (refl, number_stands n h))
one_stands kinds.Byte (args.Byte b) s h = (b, (refl, refl))
one_stands kinds.S32 (args.S32 z) s h = (z, (refl, integer_stands z h))
one_stands kinds.S64 (args.S64 z) s h = (z, (refl, long_integer_stands z h))
one_stands kinds.F32 (args.F32 bits) s h = (bits, (refl, f32_stands bits h))
one_stands kinds.F64 (args.F64 bits) s h = (bits, (refl, f64_stands bits h))
one_stands kind arg s h = absurd (untrue s)
