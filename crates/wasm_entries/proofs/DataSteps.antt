-- Data segments by their flags, and what stands behind a type.
use Rattle.std.proofs.Common.{◌≡◌, ℕ, List, ap}
use Rattle.std.specs.Prelude.{Some, None}
use Rattle.wasm_forms.specs.Grammar.{Form, Made, ◌then◌, Vector, U32, Block, at}
use Rattle.wasm_forms.specs.Grammar as grammar
use Rattle.wasm_forms.specs.declared.types.RawRef.{RawRef}
use Rattle.wasm_forms.specs.Types.{reference_type}
use Rattle.wasm_entries.specs.Record.{Expression, DataMode, ActiveData, PassiveData, Expressions}
use Rattle.wasm_entries.specs.Forms.{expression_form, typed, data_with, data_from}
use Rattle.wasm_entries.proofs.Steps.{made_gives, made_none, then_gives, then_first, then_second}

-- data segments by their flags
pub data_gives : (m : Form DataMode) (bytes mid rest b : List ℕ) (mode : DataMode) → at m bytes ≡ Some (mode, mid) → at Block mid ≡ Some (b, rest) → at (data_with m) bytes ≡ Some (record { mode = mode; bytes = b }, rest)
unfolding data_with
data_gives m bytes mid rest b mode e h = made_gives (λ (x : DataMode × List ℕ). record { mode = x.0; bytes = x.1 }) (m then Block) bytes rest (mode, b) (then_gives m Block bytes mid rest mode b e h)

pub data_first : (m : Form DataMode) (bytes : List ℕ) → at m bytes ≡ None → at (data_with m) bytes ≡ None
unfolding data_with
data_first m bytes e = made_none _ (m then Block) bytes (then_first m Block bytes e)

pub data_second : (m : Form DataMode) (bytes mid : List ℕ) (mode : DataMode) → at m bytes ≡ Some (mode, mid) → at Block mid ≡ None → at (data_with m) bytes ≡ None
unfolding data_with
data_second m bytes mid mode e h = made_none _ (m then Block) bytes (then_second m Block bytes mid mode e h)

pub data_at0 : (flags : ℕ) (bytes : List ℕ) → flags ≡ 0 → at (data_from flags) bytes ≡ at (data_with (Made (ActiveData 0) expression_form)) bytes
unfolding data_from
data_at0 flags bytes e = ap (λ n. at (data_from n) bytes) e

pub data_at1 : (flags : ℕ) (bytes : List ℕ) → flags ≡ 1 → at (data_from flags) bytes ≡ at (data_with (grammar.Gives PassiveData)) bytes
unfolding data_from
data_at1 flags bytes e = ap (λ n. at (data_from n) bytes) e

pub data_at2 : (flags : ℕ) (bytes : List ℕ) → flags ≡ 2 → at (data_from flags) bytes ≡ at (data_with (Made (λ x. ActiveData x.0 x.1) (U32 then expression_form))) bytes
unfolding data_from
data_at2 flags bytes e = ap (λ n. at (data_from n) bytes) e

-- where it stands
pub active0_gives : (bytes mid : List ℕ) (e : Expression) → at expression_form bytes ≡ Some (e, mid) → at (Made (ActiveData 0) expression_form) bytes ≡ Some (ActiveData 0 e, mid)
active0_gives bytes mid e h = made_gives (ActiveData 0) expression_form bytes mid e h

pub active_gives : (bytes mid rest : List ℕ) (n : ℕ) (e : Expression) → at U32 bytes ≡ Some (n, mid) → at expression_form mid ≡ Some (e, rest) → at (Made (λ x. ActiveData x.0 x.1) (U32 then expression_form)) bytes ≡ Some (ActiveData n e, rest)
active_gives bytes mid rest n e h k = made_gives (λ x. ActiveData x.0 x.1) (U32 then expression_form) bytes rest (n, e) (then_gives U32 expression_form bytes mid rest n e h k)

pub active_first : (bytes : List ℕ) → at U32 bytes ≡ None → at (Made (λ x. ActiveData x.0 x.1) (U32 then expression_form)) bytes ≡ None
active_first bytes h = made_none (λ x. ActiveData x.0 x.1) (U32 then expression_form) bytes (then_first U32 expression_form bytes h)

pub active_second : (bytes mid : List ℕ) (n : ℕ) → at U32 bytes ≡ Some (n, mid) → at expression_form mid ≡ None → at (Made (λ x. ActiveData x.0 x.1) (U32 then expression_form)) bytes ≡ None
active_second bytes mid n h k = made_none (λ x. ActiveData x.0 x.1) (U32 then expression_form) bytes (then_second U32 expression_form bytes mid n h k)

-- expressions behind their type
pub typed_gives : (bytes mid rest : List ℕ) (ty : RawRef) (es : List Expression) → at reference_type bytes ≡ Some (ty, mid) → at (Vector expression_form) mid ≡ Some (es, rest) → at typed bytes ≡ Some (Expressions ty es, rest)
unfolding typed
typed_gives bytes mid rest ty es h k = made_gives (λ x. Expressions x.0 x.1) (reference_type then Vector expression_form) bytes rest (ty, es) (then_gives reference_type (Vector expression_form) bytes mid rest ty es h k)

pub typed_first : (bytes : List ℕ) → at reference_type bytes ≡ None → at typed bytes ≡ None
unfolding typed
typed_first bytes h = made_none (λ x. Expressions x.0 x.1) (reference_type then Vector expression_form) bytes (then_first reference_type (Vector expression_form) bytes h)

pub typed_second : (bytes mid : List ℕ) (ty : RawRef) → at reference_type bytes ≡ Some (ty, mid) → at (Vector expression_form) mid ≡ None → at typed bytes ≡ None
unfolding typed
typed_second bytes mid ty h k = made_none (λ x. Expressions x.0 x.1) (reference_type then Vector expression_form) bytes (then_second reference_type (Vector expression_form) bytes mid ty h k)
