-- Types of blocks.
use Rattle.std.proofs.Common.{◌≡◌, ℕ, zero, suc, ◌+◌, ◌-◌, ◌<◌, ◌≤◌, Bool, true, false, List, [], ◌∷◌, ◌++◌, length, drop, refl, sym, ap, subst, ◌∙◌, arith, inl, inr, ◌⊎◌, le-ltb}
use Rattle.std.specs.Prelude.{nat_eq, nat_lt, ◌&&◌}
use Rattle.std.proofs.lemmas.Bool.{ne_eqb}
use Rattle.wasm_forms.specs.Grammar.{Is, Gives, Made, IndexFrom, choose}
use Rattle.wasm_forms.specs.Types.{value_from}
use Rattle.wasm_forms.specs.declared.types.RawVal.TheVariants.{I32, I64, F32, F64, V128}
use Rattle.wasm_forms.proofs.Stands.{second_stands}
use Rattle.wasm_operators.specs.declared.operator.RawArg.TheVariants as args
use Rattle.wasm_operators.specs.declared.operator.RawBlock.{RawBlock}
use Rattle.wasm_operators.specs.declared.operator.RawBlock.TheVariants.{NoResult, OneResult, OfType}
use Rattle.wasm_operators.specs.declared.kind.Kind.TheVariants as kinds
use Rattle.wasm_operators.specs.Forms.{arg_form, args_form, block_from, block_type}
use Rattle.wasm_operators.specs.Spelling.{arg_bytes}
use Rattle.wasm_text.specs.declared.limits.Limits.{Limits}
use Rattle.wasm_text.specs.Places.{between, Stands}
use Rattle.wasm_text.specs.Marks.{form_of, arg_names}
use Rattle.wasm_text.specs.Scans.{IsWithin, IsMarked, HasArgs, ScansArgs}
use Rattle.wasm_text.proofs.Between.{one_byte}
use Rattle.wasm_text.proofs.Forms.{stands_read}
use Rattle.wasm_text.proofs.Scans.{of_one, marked_arg, plain_arg}

-- ---- one byte

-- the type of a block that is this byte and names nothing
record PlainBlock (b : ℕ) : Type 0 where
  block : RawBlock
  is : Is block_type (b ∷ []) block
  once : arg_bytes (args.Block block) ≡ b ∷ []
  none : arg_names (args.Block block) ≡ false
  fits : (limits : Limits) → IsWithin limits (args.Block block)

no_result : PlainBlock 64
unfolding block_type block_from
no_result = record { block = NoResult; is = (64, (64 ∷ [], ([], (refl, refl, (refl, refl))))); once = refl; none = refl; fits = λ limits. tt }

value_block : (k : ℕ) → k < 5 → PlainBlock (123 + k)
unfolding block_type block_from value_from
value_block zero h = record { block = OneResult V128; is = (123, (123 ∷ [], ([], (refl, refl, (V128, (refl, (refl, refl))))))); once = refl; none = refl; fits = λ limits. refl }
value_block (suc zero) h = record { block = OneResult F64; is = (124, (124 ∷ [], ([], (refl, refl, (F64, (refl, (refl, refl))))))); once = refl; none = refl; fits = λ limits. refl }
value_block (suc (suc zero)) h = record { block = OneResult F32; is = (125, (125 ∷ [], ([], (refl, refl, (F32, (refl, (refl, refl))))))); once = refl; none = refl; fits = λ limits. refl }
value_block (suc (suc (suc zero))) h = record { block = OneResult I64; is = (126, (126 ∷ [], ([], (refl, refl, (I64, (refl, (refl, refl))))))); once = refl; none = refl; fits = λ limits. refl }
value_block (suc (suc (suc (suc zero)))) h = record { block = OneResult I32; is = (127, (127 ∷ [], ([], (refl, refl, (I32, (refl, (refl, refl))))))); once = refl; none = refl; fits = λ limits. refl }
value_block (suc (suc (suc (suc (suc k))))) h = absurd (omega arith)

plain_block : (b : ℕ) → (b ≡ 64) ⊎ ((123 ≤ b) × (b < 128)) → PlainBlock b
plain_block b (inl e) = subst PlainBlock (sym e) no_result
plain_block b (inr h) = let e : 123 + (b - 123) ≡ b = omega (arith, h.0) in subst PlainBlock e (value_block (b - 123) (omega (arith, h.0, h.1)))

block_arg : (b : ℕ) (limits : Limits) (bytes : List ℕ) (at : ℕ) (old : List ℕ) → drop at bytes ≡ b ∷ drop (at + 1) bytes → at < length bytes → PlainBlock b
    → HasArgs (args_form (kinds.Block ∷ [])) limits bytes at (at + 1) old old
unfolding arg_form
block_arg b limits bytes at old first there p =
    let here : between at (at + 1) bytes ≡ b ∷ [] = one_byte bytes at b first in
    plain_arg (args_form (kinds.Block ∷ [])) limits bytes at (at + 1) old (args.Block p.block) (omega arith) (omega (arith, there))
    (of_one kinds.Block (between at (at + 1) bytes) (args.Block p.block ∷ []) (p.block, (refl, subst (λ (m : List ℕ). Is block_type m p.block) (sym here) p.is)))
    p.none (p.once ∙ sym here) (p.fits limits)

pub block_scans : (b : ℕ) (limits : Limits) (bytes : List ℕ) (at : ℕ) (old : List ℕ) → drop at bytes ≡ b ∷ drop (at + 1) bytes → at < length bytes → (b ≡ 64) ⊎ ((123 ≤ b) × (b < 128))
    → ScansArgs (args_form (kinds.Block ∷ [])) limits bytes at old old (at + 1)
block_scans b limits bytes at old first there which = inr (block_arg b limits bytes at old first there (plain_block b which))

-- ---- the index of a type

low_first : (b : ℕ) → b < 64 → (nat_lt 64 b && nat_lt b 128) ≡ false
low_first b h = ap (λ t. t && nat_lt b 128) (le-ltb 64 b (omega arith))

high_at : (b : ℕ) (t : Bool) → nat_lt b 128 ≡ false → (t && nat_lt b 128) ≡ false
high_at b true e = e
high_at b false e = refl

high_first : (b : ℕ) → 128 ≤ b → (nat_lt 64 b && nat_lt b 128) ≡ false
high_first b h = high_at b (nat_lt 64 b) (le-ltb b 128 h)

no_value : (b : ℕ) → (b < 64) ⊎ (128 ≤ b) → (nat_eq b 64 ≡ false) × ((nat_lt 64 b && nat_lt b 128) ≡ false)
no_value b (inl h) = (ne_eqb b 64 (λ e. omega (arith, e, h)), low_first b h)
no_value b (inr h) = (ne_eqb b 64 (λ e. omega (arith, e, h)), high_first b h)

type_block : (b n : ℕ) (front : List ℕ) → (b < 64) ⊎ (128 ≤ b) → Is (IndexFrom b) front n → Is block_type (b ∷ front) (OfType n)
unfolding block_type block_from
type_block b n front which is =
    let no = no_value b which in (
      b,
      (
        b ∷ [],
        (
          front,
          (
            refl,
            refl,
            second_stands (nat_eq b 64) (Gives NoResult) (choose (nat_lt 64 b && nat_lt b 128) (Made OneResult (value_from b)) (Made OfType (IndexFrom b))) front (OfType n) no.0
                (second_stands (nat_lt 64 b && nat_lt b 128) (Made OneResult (value_from b)) (Made OfType (IndexFrom b)) front (OfType n) no.1 (n, (refl, is))),
          ),
        ),
      ),
    )

pub type_block_scans : (b n : ℕ) (limits : Limits) (bytes front after : List ℕ) (at : ℕ) (old new : List ℕ) (place : ℕ) → (b < 64) ⊎ (128 ≤ b) → n < limits.types
    → drop at bytes ≡ b ∷ drop (at + 1) bytes → drop (at + 1) bytes ≡ front ++ after → Is (IndexFrom b) front n → IsMarked at 10 (length bytes - length after) old new place
    → ScansArgs (args_form (kinds.Block ∷ [])) limits bytes at old new place
unfolding form_of arg_form
type_block_scans b n limits bytes front after at old new place which small first rest is (e, put) =
    let whole : drop at bytes ≡ (b ∷ front) ++ after = first ∙ ap (λ k. b ∷ k) rest in
    let s : Stands block_type bytes at (length bytes - length after) (OfType n) = stands_read block_type bytes (b ∷ front) after at (OfType n) whole (omega arith) (type_block b n front which is) in
    inr (subst (λ (k : ℕ). HasArgs (args_form (kinds.Block ∷ [])) limits bytes at k old new) (sym e)
    (marked_arg (args_form (kinds.Block ∷ [])) limits bytes at (length bytes - length after) 10 old new (args.Block (OfType n)) (args.Block (OfType n)) (omega arith)
    (record { forward = s.forward; within = s.within; text = (OfType n, (refl, s.text)) })
    (of_one kinds.Block (between at (length bytes - length after) bytes) (args.Block (OfType n) ∷ []) (OfType n, (refl, s.text))) (λ f l. refl) refl small put))
