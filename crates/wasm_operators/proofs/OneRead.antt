-- What stands in the form of one argument is spelled, and its numbers are in their ranges.
use Rattle.std.proofs.Common.{◌≡◌, ℕ, suc, ◌+◌, ◌-◌, ◌/◌, ◌%◌, ◌^◌, ◌<◌, Bool, true, false, List, [], ◌∷◌, length, refl, sym, ap, subst, arith, eqb-true, ◌⊎◌, inl, inr}
use Rattle.std.specs.Prelude.{nat_lt, nat_eq, ◌&&◌, not}
use Rattle.std.proofs.lemmas.Nat.{pow-add}
use Rattle.std.proofs.lemmas.Bool.{ne_eqb}
use Rattle.wasm_forms.specs.declared.types.RawHeap.{RawHeap}
use Rattle.wasm_forms.specs.declared.types.RawHeap.TheVariants.{Abstract, Index}
use Rattle.wasm_forms.specs.declared.types.RawRef.{RawRef}
use Rattle.wasm_forms.specs.declared.types.RawVal.{RawVal}
use Rattle.wasm_forms.specs.declared.types.RawVal.TheVariants.{I32, I64, F32, F64, V128, Ref}
use Rattle.wasm_forms.specs.Number.{AreBytes, little}
use Rattle.wasm_forms.specs.Grammar as grammar
use Rattle.wasm_forms.specs.Grammar.{Form, Is, Fails, Gives, IndexFrom, ◌then◌, Made, choose, U32, U64}
use Rattle.wasm_forms.specs.Types.{is_abstract, heap_from, heap_type, reference, reference_from, value_from, value_type}
use Rattle.wasm_operators.specs.declared.kind.Kind.{Kind}
use Rattle.wasm_operators.specs.declared.kind.Kind.TheVariants as kinds
use Rattle.wasm_operators.specs.declared.operator.RawArg.{RawArg}
use Rattle.wasm_operators.specs.declared.operator.RawArg.TheVariants as args
use Rattle.wasm_operators.specs.declared.operator.RawBlock.{RawBlock}
use Rattle.wasm_operators.specs.declared.operator.RawBlock.TheVariants.{NoResult, OneResult, OfType}
use Rattle.wasm_operators.specs.Forms.{block_from, block_type, has_memory, access_from, access}
use Rattle.wasm_operators.specs.Standing.{heap_spells, value_spells, block_spells, is_of, HeapHeld, ValueHeld, BlockHeld, ArgHeld}
use Rattle.wasm_forms.proofs.Stands.{abstract_range}

-- ---- choices

pub chosen : {A : Type 0} (t : Bool) (f g : Form A) (bytes : List ℕ) (a : A) → Is (choose t f g) bytes a → ((t ≡ true) × Is f bytes a) ⊎ ((t ≡ false) × Is g bytes a)
chosen true f g bytes a h = inl (refl, h)
chosen false f g bytes a h = inr (refl, h)

-- ---- types

abbrev HeapRead : RawHeap → Type 0
HeapRead h = (heap_spells h ≡ true) × HeapHeld h

abstract_small : (b : ℕ) → is_abstract b ≡ true → b < 256
abstract_small b e = let l = (abstract_range b e).1 in omega (arith, l)

heap_as : (h h' : RawHeap) → h ≡ h' → HeapRead h' → HeapRead h
heap_as h h' e r = subst HeapRead (sym e) r

heap_from_read : (b : ℕ) (bytes : List ℕ) (h : RawHeap) → ((is_abstract b ≡ true) × Is (Gives (Abstract b)) bytes h) ⊎ ((is_abstract b ≡ false) × Is (Made Index (IndexFrom b)) bytes h) → HeapRead h
heap_from_read b bytes h (inl c) = heap_as h (Abstract b) c.1.1 (c.0, abstract_small b c.0)
heap_from_read b bytes h (inr c) = heap_as h (Index c.1.0) c.1.1.0 (refl, c.1.1.1.small)

heap_read : (bytes : List ℕ) (h : RawHeap) → Is heap_type bytes h → HeapRead h
unfolding heap_type heap_from
heap_read bytes h i = let b = i.0 in heap_from_read b i.1.1.0 h (chosen (is_abstract b) (Gives (Abstract b)) (Made Index (IndexFrom b)) i.1.1.0 h i.1.1.1.2)

abbrev ValueRead : RawVal → Type 0
ValueRead v = (value_spells v ≡ true) × ValueHeld v

value_as : (v v' : RawVal) → v ≡ v' → ValueRead v' → ValueRead v
value_as v v' e r = subst ValueRead (sym e) r

nullable_read : (nullable : Bool) (bytes : List ℕ) (r : RawRef) → Is (Made (reference nullable) heap_type) bytes r → ValueRead (Ref r)
nullable_read nullable bytes r i = value_as (Ref r) (Ref (reference nullable i.0)) (ap Ref i.1.0) (heap_read bytes i.0 i.1.1)

reference_read : (b : ℕ) (bytes : List ℕ) (v : RawVal) → Is (Made Ref (reference_from b)) bytes v → ValueRead v
unfolding reference_from
reference_read b bytes v i =
    let r = i.0 in
    value_as v (Ref r) i.1.0 (elim (chosen (nat_eq b 0x63) (Made (reference true) heap_type) _ bytes r i.1.1) as (λ _. ValueRead (Ref r)) [
      | inl c ↦ nullable_read true bytes r c.1
      | inr c ↦ elim (chosen (nat_eq b 0x64) (Made (reference false) heap_type) _ bytes r c.1) as (λ _. ValueRead (Ref r)) [
        | inl d ↦ nullable_read false bytes r d.1
        | inr d ↦ elim (chosen (is_abstract b) (Gives (reference true (Abstract b))) Fails bytes r d.1) as (λ _. ValueRead (Ref r)) [
          | inl e ↦ value_as (Ref r) (Ref (reference true (Abstract b))) (ap Ref e.1.1) (e.0, abstract_small b e.0)
          | inr e ↦ absurd e.1
        ]
      ]
    ])

value_read : (b : ℕ) (bytes : List ℕ) (v : RawVal) → Is (value_from b) bytes v → ValueRead v
unfolding value_from
value_read b bytes v i =
    elim (chosen (nat_eq b 0x7F) (Gives I32) _ bytes v i) as (λ _. ValueRead v) [
      | inl c ↦ value_as v I32 c.1.1 (refl, tt)
      | inr c ↦ elim (chosen (nat_eq b 0x7E) (Gives I64) _ bytes v c.1) as (λ _. ValueRead v) [
        | inl d ↦ value_as v I64 d.1.1 (refl, tt)
        | inr d ↦ elim (chosen (nat_eq b 0x7D) (Gives F32) _ bytes v d.1) as (λ _. ValueRead v) [
          | inl e ↦ value_as v F32 e.1.1 (refl, tt)
          | inr e ↦ elim (chosen (nat_eq b 0x7C) (Gives F64) _ bytes v e.1) as (λ _. ValueRead v) [
            | inl f ↦ value_as v F64 f.1.1 (refl, tt)
            | inr f ↦ elim (chosen (nat_eq b 0x7B) (Gives V128) (Made Ref (reference_from b)) bytes v f.1) as (λ _. ValueRead v) [
              | inl g ↦ value_as v V128 g.1.1 (refl, tt)
              | inr g ↦ reference_read b bytes v g.1
            ]
          ]
        ]
      ]
    ]

pub value_type_read : (bytes : List ℕ) (v : RawVal) → Is value_type bytes v → ValueRead v
unfolding value_type
value_type_read bytes v i = value_read i.0 i.1.1.0 v i.1.1.1.2

-- ---- block types

abbrev BlockRead : RawBlock → Type 0
BlockRead b = (block_spells b ≡ true) × BlockHeld b

block_as : (b b' : RawBlock) → b ≡ b' → BlockRead b' → BlockRead b
block_as b b' e r = subst BlockRead (sym e) r

block_from_read : (b : ℕ) (bytes : List ℕ) (x : RawBlock) → Is (block_from b) bytes x → BlockRead x
unfolding block_from
block_from_read b bytes x i =
    elim (chosen (nat_eq b 0x40) (Gives NoResult) _ bytes x i) as (λ _. BlockRead x) [
      | inl c ↦ block_as x NoResult c.1.1 (refl, tt)
      | inr c ↦ elim (chosen (nat_lt 0x40 b && nat_lt b 0x80) (Made OneResult (value_from b)) (Made OfType (IndexFrom b)) bytes x c.1) as (λ _. BlockRead x) [
        | inl d ↦ block_as x (OneResult d.1.0) d.1.1.0 (value_read b bytes d.1.0 d.1.1.1)
        | inr d ↦ block_as x (OfType d.1.0) d.1.1.0 (refl, d.1.1.1.small)
      ]
    ]

block_read : (bytes : List ℕ) (x : RawBlock) → Is block_type bytes x → BlockRead x
unfolding block_type
block_read bytes x i = block_from_read i.0 i.1.1.0 x i.1.1.1.2

-- ---- accesses

abbrev AccessRead : RawArg → Type 0
AccessRead x = (is_of kinds.Access x ≡ true) × ArgHeld x

access_as : (x x' : RawArg) → x ≡ x' → AccessRead x' → AccessRead x
access_as x x' e r = subst AccessRead (sym e) r

no_bit : (flags : ℕ) → ((flags / 64) % 2 ≡ 1 → ⊥) → not (has_memory flags) ≡ true
no_bit flags h = ap not (ne_eqb ((flags / 64) % 2) 1 h)

bit_off : (flags : ℕ) → has_memory flags ≡ true → not (has_memory (flags - 64)) ≡ true
bit_off flags e =
    let one : (flags / 64) % 2 ≡ 1 = eqb-true ((flags / 64) % 2) 1 e in
    no_bit (flags - 64) (λ h. omega (arith, one, h))

access_from_read : (flags : ℕ) (bytes : List ℕ) (x : RawArg) → flags < 4294967296 → Is (access_from flags) bytes x → AccessRead x
unfolding access_from
access_from_read flags bytes x f i =
    elim (chosen (has_memory flags) (Made (λ y. args.Access (flags - 64) y.0 y.1) (U32 then U64)) (Made (λ offset. args.Access flags 0 offset) U64) bytes x i) as (λ _. AccessRead x) [
      | inl c ↦ access_as x (args.Access (flags - 64) c.1.0.0 c.1.0.1) c.1.1.0 (bit_off flags c.0, (omega arith, c.1.1.1.1.1.1.small, c.1.1.1.1.1.2.small))
      | inr c ↦ access_as x (args.Access flags 0 c.1.0) c.1.1.0 (ap not c.0, (f, omega arith, c.1.1.1.small))
    ]

access_read : (bytes : List ℕ) (x : RawArg) → Is access bytes x → AccessRead x
unfolding access
access_read bytes x i = access_from_read i.0 i.1.1.0 x i.1.1.1.1.small i.1.1.1.2

-- ---- floats

little_small : (bytes : List ℕ) → AreBytes bytes → little bytes < 256 ^ length bytes
little_small [] h = omega arith
little_small (b ∷ bs) h =
    let e : length bs + 1 ≡ suc (length bs) = omega arith in
    omega (arith, h.0, little_small bs h.1, pow-add 256 (length bs) 1, ap (λ k. 256 ^ k) e)

little_held : (n most : ℕ) (bytes xs : List ℕ) → AreBytes bytes → xs ≡ bytes → length bytes ≡ n → 256 ^ n ≡ most → little xs < most
little_held n most bytes xs h e l p = omega (arith, little_small bytes h, ap little e, ap (λ k. 256 ^ k) l, p)

-- ---- an argument of a kind that is one

abbrev pub OneRead : Kind → List RawArg → Type 0
OneRead kind xs = (arg : RawArg) × ((xs ≡ arg ∷ []) × (is_of kind arg ≡ true) × ArgHeld arg)

pub block_one : (bytes : List ℕ) (xs : List RawArg) → Is (Made (λ x. args.Block x ∷ []) block_type) bytes xs → OneRead kinds.Block xs
block_one bytes xs i = let r = block_read bytes i.0 i.1.1 in (args.Block i.0, (i.1.0, r.0, r.1))

pub heap_one : (bytes : List ℕ) (xs : List RawArg) → Is (Made (λ x. args.Heap x ∷ []) heap_type) bytes xs → OneRead kinds.Heap xs
heap_one bytes xs i = let r = heap_read bytes i.0 i.1.1 in (args.Heap i.0, (i.1.0, r.0, r.1))

pub access_one : (bytes : List ℕ) (xs : List RawArg) → Is (Made (λ x. x ∷ []) access) bytes xs → OneRead kinds.Access xs
access_one bytes xs i = let r = access_read bytes i.0 i.1.1 in (i.0, (i.1.0, r.0, r.1))

pub byte_held : (bytes : List ℕ) (b : ℕ) → AreBytes bytes → bytes ≡ b ∷ [] → b < 256
byte_held bytes b h e = (subst AreBytes e h).0

pub f32_one : (bytes : List ℕ) (xs : List RawArg) → AreBytes bytes → Is (Made (λ x. args.F32 x ∷ []) grammar.F32) bytes xs → OneRead kinds.F32 xs
f32_one bytes xs h i =
    let bits = i.0 in
    let f = i.1.1 in
    (args.F32 bits, (i.1.0, refl, subst (λ n. n < 4294967296) (sym f.1.0) (little_held 4 4294967296 bytes f.0 h f.1.1.0 f.1.1.1 refl)))

pub f64_one : (bytes : List ℕ) (xs : List RawArg) → AreBytes bytes → Is (Made (λ x. args.F64 x ∷ []) grammar.F64) bytes xs → OneRead kinds.F64 xs
f64_one bytes xs h i =
    let bits = i.0 in
    let f = i.1.1 in
    (args.F64 bits, (i.1.0, refl, subst (λ n. n < 18446744073709551616) (sym f.1.0) (little_held 8 18446744073709551616 bytes f.0 h f.1.1.0 f.1.1.1 refl)))
