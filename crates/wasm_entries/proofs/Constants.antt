-- What is written for a constant expression stands in the grammar.
use Rattle.std.proofs.Common.{◌≡◌, ◌≢◌, ℕ, ◌<◌, true, false, List, [], ◌∷◌, ◌++◌, refl, ap, ◌∙◌, arith, append_assoc}
use Rattle.std.specs.Prelude.{nat_eq}
use Rattle.std.specs.List.{All}
use Rattle.std.proofs.lemmas.List.Elements.{All-head, All-tail}
use Rattle.wasm_forms.specs.Grammar.{Is, IsUntil, U32}
use Rattle.wasm_forms.specs.Spelling.{number_bytes, integer_bytes, f32_bytes, f64_bytes, row_bytes}
use Rattle.wasm_forms.specs.Types.{heap_bytes}
use Rattle.wasm_forms.proofs.Spelled.{number_stands, integer_stands, long_integer_stands}
use Rattle.wasm_forms.proofs.Floats.{f32_stands, f64_stands}
use Rattle.wasm_entries.specs.declared.record.RawConst.{RawConst}
use Rattle.wasm_entries.specs.declared.record.RawConst.TheVariants as ops
use Rattle.wasm_entries.specs.Record.{Expression}
use Rattle.wasm_entries.specs.Forms.{prefixed, vector_op, const_from, is_some_there, expression_form}
use Rattle.wasm_entries.specs.Spelling.{const_bytes, expression_bytes, ConstStands, ExpressionStands}
use Rattle.wasm_forms.proofs.Stands.{heap_stands}

-- a number that is one byte
pub byte_stands : (b : ℕ) → b < 128 → Is U32 (b ∷ []) b
byte_stands b h = record { spelled = (h, refl); short = omega arith; small = omega arith }

-- the byte of the operator, which is not the one that ends an expression, and what stands behind it
abbrev Leads : RawConst → List ℕ → Type 0
Leads op bytes = (b : ℕ) × ((front : List ℕ) × ((bytes ≡ b ∷ front) × (nat_eq b 11 ≡ false) × Is (const_from b) front op))

const_leads : (op : RawConst) → ConstStands op → Leads op (const_bytes op)
unfolding const_from prefixed vector_op
const_leads (ops.GlobalGet g) h = (0x23, (number_bytes g, (refl, refl, (g, (refl, number_stands g h)))))
const_leads (ops.I32Const z) h = (0x41, (integer_bytes z, (refl, refl, (z, (refl, integer_stands z h)))))
const_leads (ops.I64Const z) h = (0x42, (integer_bytes z, (refl, refl, (z, (refl, long_integer_stands z h)))))
const_leads (ops.F32Const bits) h = (0x43, (f32_bytes bits, (refl, refl, (bits, (refl, f32_stands bits h)))))
const_leads (ops.F64Const bits) h = (0x44, (f64_bytes bits, (refl, refl, (bits, (refl, f64_stands bits h)))))
const_leads (ops.V128Const bytes) h = (0xFD, (0x0C ∷ bytes, (refl, refl, (0x0C, (0x0C ∷ [], (bytes, (refl, byte_stands 0x0C (omega arith), (bytes, (refl, (refl, h))))))))))
const_leads ops.I32Add h = (0x6A, ([], (refl, refl, (refl, refl))))
const_leads ops.I32Sub h = (0x6B, ([], (refl, refl, (refl, refl))))
const_leads ops.I32Mul h = (0x6C, ([], (refl, refl, (refl, refl))))
const_leads ops.I64Add h = (0x7C, ([], (refl, refl, (refl, refl))))
const_leads ops.I64Sub h = (0x7D, ([], (refl, refl, (refl, refl))))
const_leads ops.I64Mul h = (0x7E, ([], (refl, refl, (refl, refl))))
const_leads (ops.RefNull heap) h = (0xD0, (heap_bytes heap, (refl, refl, (heap, (refl, heap_stands heap h)))))
const_leads (ops.RefFunc f) h = (0xD2, (number_bytes f, (refl, refl, (f, (refl, number_stands f h)))))
const_leads (ops.StructNew t) h = (0xFB, (0x00 ∷ number_bytes t, (refl, refl, (0x00, (0x00 ∷ [], (number_bytes t, (refl, byte_stands 0x00 (omega arith), (t, (refl, number_stands t h)))))))))
const_leads (ops.StructNewDefault t) h = (0xFB, (0x01 ∷ number_bytes t, (refl, refl, (0x01, (0x01 ∷ [], (number_bytes t, (refl, byte_stands 0x01 (omega arith), (t, (refl, number_stands t h)))))))))
const_leads (ops.ArrayNew t) h = (0xFB, (0x06 ∷ number_bytes t, (refl, refl, (0x06, (0x06 ∷ [], (number_bytes t, (refl, byte_stands 0x06 (omega arith), (t, (refl, number_stands t h)))))))))
const_leads (ops.ArrayNewDefault t) h = (0xFB, (0x07 ∷ number_bytes t, (refl, refl, (0x07, (0x07 ∷ [], (number_bytes t, (refl, byte_stands 0x07 (omega arith), (t, (refl, number_stands t h)))))))))
const_leads (ops.ArrayNewFixed t n) h = (
  0xFB,
  (
    0x08 ∷ (number_bytes t ++ number_bytes n),
    (
      refl,
      refl,
      (
        0x08,
        (
          0x08 ∷ [],
          (
            number_bytes t ++ number_bytes n,
            (
              refl,
              byte_stands 0x08 (omega arith),
              ((t, n), (refl, (number_bytes t, (number_bytes n, (refl, number_stands t h.0, number_stands n h.1))))),
            ),
          ),
        ),
      ),
    ),
  ),
)
const_leads ops.AnyConvertExtern h = (0xFB, (0x1A ∷ [], (refl, refl, (0x1A, (0x1A ∷ [], ([], (refl, byte_stands 0x1A (omega arith), (refl, refl))))))))
const_leads ops.ExternConvertAny h = (0xFB, (0x1B ∷ [], (refl, refl, (0x1B, (0x1B ∷ [], ([], (refl, byte_stands 0x1B (omega arith), (refl, refl))))))))
const_leads ops.RefI31 h = (0xFB, (0x1C ∷ [], (refl, refl, (0x1C, (0x1C ∷ [], ([], (refl, byte_stands 0x1C (omega arith), (refl, refl))))))))

operators_stand : (e : Expression) → All ConstStands e → IsUntil (λ b. Is (const_from b)) 11 (row_bytes const_bytes e ++ 11 ∷ []) e
operators_stand [] h = refl
operators_stand (op ∷ e) h =
    let led = const_leads op (All-head ConstStands op e h) in
    let back = row_bytes const_bytes e ++ 11 ∷ [] in
    (led.0, (led.1.0, (back, (append_assoc (const_bytes op) (row_bytes const_bytes e) (11 ∷ []) ∙ ap (λ l. l ++ back) led.1.1.0, led.1.1.1, led.1.1.2, operators_stand e (All-tail ConstStands op e h)))))

some_there : (e : Expression) → e ≢ [] → is_some_there e ≡ true
some_there [] h = absurd (h refl)
some_there (op ∷ e) h = refl

-- what is written for an expression is a text of the grammar with that value
pub expression_stands : (e : Expression) → ExpressionStands e → Is expression_form (expression_bytes e) e
unfolding expression_form
expression_stands e h = (operators_stand e h.1, some_there e h.0)
