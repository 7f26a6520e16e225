-- An operator by its first byte and its arguments.
use Rattle.std.proofs.Common.{◌≡◌, ℕ, zero, suc, ◌+◌, ◌-◌, ◌*◌, ◌/◌, ◌%◌, ◌<◌, ◌≤◌, true, List, [], ◌∷◌, ◌++◌, length, take, map, drop, refl, sym, ap, ap₂, subst, ◌∙◌, arith, inl, inr, lt-ltb, le-ltb, append-nil}
use Rattle.std.specs.Prelude.{Option, Some, nat_lt, if◌then◌else◌}
use Rattle.wasm_forms.specs.Grammar.{Is, U32, Where, Led}
use Rattle.wasm_forms.specs.Spelling.{row_bytes, number_bytes}
use Rattle.wasm_forms.proofs.Stands.{second_stands}
use Rattle.wasm_opcodes.specs.Prefixed.{opcode_behind}
use Rattle.wasm_operators.specs.declared.operator.RawArg.{RawArg}
use Rattle.wasm_operators.specs.declared.kind.Kind.{Kind}
use Rattle.wasm_operators.specs.declared.kind.Kind.TheVariants as kinds
use Rattle.wasm_operators.specs.Table.{kinds_of}
use Rattle.wasm_operators.specs.Forms.{args_form, behind, with_args, is_prefix, operator_of, operator_from, operator}
use Rattle.wasm_operators.specs.Spelling.{arg_bytes, code_bytes, op_bytes}
use Rattle.wasm_text.specs.declared.limits.Limits.{Limits}
use Rattle.wasm_text.specs.declared.class.Class.{Class}
use Rattle.wasm_text.specs.declared.class.Class.TheVariants as class
use Rattle.wasm_text.specs.Places.{between, IfPlace}
use Rattle.wasm_text.specs.Marks.{shifted, Shows, HoldsOne, with}
use Rattle.wasm_text.specs.Classes.{is_plain, HasKinds, IsOneByte}
use Rattle.wasm_text.specs.Scans.{HasArgs, ScansArgs, HasPrefixed, ScansClass, Begins, HasOperator}
use Rattle.wasm_text.proofs.Between.{join, one_byte}
use Rattle.wasm_text.proofs.Forms.{unsigned_byte, number_lone}
use Rattle.wasm_text.proofs.Showing.{shows_append, shows_plain}
use Rattle.wasm_text.proofs.Scans.{place_as}
use Rattle.wasm_text.proofs.Together.{put_twice, bare_args}

-- ---- what stands behind an operator's number

op_stands : (op : ℕ) (listed : List Kind) (bytes : List ℕ) (xs : List RawArg) → kinds_of op ≡ Some listed → Is (args_form listed) bytes xs → Is (operator_of op) bytes (with_args op xs)
unfolding operator_of
op_stands op listed bytes xs e is = subst (λ (k : Option (List Kind)). Is (behind op k) bytes (with_args op xs)) (sym e) (xs, (refl, is))

one_stands : (b : ℕ) (listed : List Kind) (bytes : List ℕ) (xs : List RawArg) → IsOneByte b listed → Is (args_form listed) bytes xs → Is operator (b ∷ bytes) (with_args b xs)
unfolding operator operator_from
one_stands b listed bytes xs o is =
    (b, (b ∷ [], (bytes, (refl, refl, second_stands (is_prefix b) (Led (Where (λ n. nat_lt n 65536) U32) (λ n. operator_of (b * 65536 + n))) (operator_of b) bytes (with_args b xs) o.alone (op_stands b listed bytes xs o.has.kinds is)))))

two_stands : (n : ℕ) (listed : List Kind) (bytes : List ℕ) (xs : List RawArg) → n < 128 → HasKinds (opcode_behind 252 n) listed → Is (args_form listed) bytes xs → Is operator (252 ∷ n ∷ bytes) (with_args (opcode_behind 252 n) xs)
unfolding operator operator_from
two_stands n listed bytes xs small has is =
    (252, (252 ∷ [], (n ∷ bytes, (refl, refl, (n, (n ∷ [], (bytes, (refl, (unsigned_byte 5 4294967296 n (omega arith) small (omega (arith, small)), lt-ltb n 65536 (omega (arith, small))), op_stands (opcode_behind 252 n) listed bytes xs has.kinds is))))))))

-- ---- the spelling of its number

one_code : (b : ℕ) → b < 256 → code_bytes b ≡ b ∷ []
one_code b h =
    let e : b % 256 ≡ b = omega arith in
    ap (λ t. if t then (b % 256) ∷ [] else ((b / 65536) % 256) ∷ number_bytes (b % 65536)) (lt-ltb b 65536 (omega arith)) ∙ ap (λ k. k ∷ []) e

two_code : (n : ℕ) → n < 128 → code_bytes (opcode_behind 252 n) ≡ 252 ∷ n ∷ []
two_code n h =
    let op = opcode_behind 252 n in
    let lead : (op / 65536) % 256 ≡ 252 = omega arith in
    let low : op % 65536 ≡ n = omega arith in
    ap (λ t. if t then (op % 256) ∷ [] else ((op / 65536) % 256) ∷ number_bytes (op % 65536)) (le-ltb op 65536 (omega arith))
    ∙ ap₂ (λ (x : ℕ) (y : List ℕ). x ∷ y) lead (ap number_bytes low ∙ number_lone (n ∷ []) n (omega arith) (h, refl))

-- ---- together

-- an operator whose number is so many bytes, and its arguments behind it
coded : (code : List ℕ) (op : ℕ) (limits : Limits) (bytes : List ℕ) (at mid behind : ℕ) (old new : List ℕ) (listed : List Kind) → at < mid → between at mid bytes ≡ code → length code ≡ mid - at
    → code_bytes op ≡ code → is_plain op ≡ true → Begins bytes at op → (h : HasArgs (args_form listed) limits bytes mid behind old new) → Is operator (code ++ between mid behind bytes) (with_args op h.args) → HasOperator limits bytes at behind old new
coded code op limits bytes at mid behind old new listed forward here long spelled plain begins h is =
    let joined : code ++ between mid behind bytes ≡ between at behind bytes = ap (λ k. k ++ between mid behind bytes) (sym here) ∙ join bytes at mid behind (omega (arith, forward)) h.forward in
    let both = shows_append code [] (between mid behind bytes) h.marks [] h.args (λ f. code_bytes op) (λ f. row_bytes arg_bytes (map f h.args)) (shows_plain code [] (λ f. code_bytes op) (λ f l. spelled) refl) h.shown in
    let marks : List ℕ = map (shifted (mid - at)) h.marks in
    let shown : Shows (code ++ between mid behind bytes) marks h.args (λ f. op_bytes (with f (with_args op h.args))) =
    subst (λ (n : ℕ). Shows (code ++ between mid behind bytes) (map (shifted n) h.marks) h.args (λ f. op_bytes (with f (with_args op h.args)))) long both in
    record {
      text = with_args op h.args;
      marks = marks;
      holds = subst (λ (b : List ℕ). HoldsOne b marks (with_args op h.args)) joined (record { is = is; shown = shown });
      put = put_twice at mid old old new [] h.marks (omega (arith, forward)) (sym (append-nil old)) h.put;
      fit = h.fit;
      plain = plain;
      begins = begins;
      forward = omega (arith, forward, h.forward);
      within = h.within;
    }

pub one_byte_found : (b : ℕ) (limits : Limits) (bytes : List ℕ) (at behind : ℕ) (old new : List ℕ) (listed : List Kind) → b < 256 → drop at bytes ≡ b ∷ drop (at + 1) bytes → IsOneByte b listed
    → HasArgs (args_form listed) limits bytes (at + 1) behind old new → HasOperator limits bytes at behind old new
one_byte_found b limits bytes at behind old new listed small first o h =
    coded (b ∷ []) b limits bytes at (at + 1) behind old new listed (omega arith) (one_byte bytes at b first) (omega arith) (one_code b small) o.has.plain (inl first) h (one_stands b listed (between (at + 1) behind bytes) h.args o h.is)

-- its arguments
pub one_byte_args : (b : ℕ) (limits : Limits) (bytes : List ℕ) (at behind : ℕ) (old new : List ℕ) (listed : List Kind) (small : b < 256) (first : drop at bytes ≡ b ∷ drop (at + 1) bytes) (o : IsOneByte b listed)
    (h : HasArgs (args_form listed) limits bytes (at + 1) behind old new) → (one_byte_found b limits bytes at behind old new listed small first o h).text.args ≡ h.args
unfolding one_byte_found coded
one_byte_args b limits bytes at behind old new listed small first o h = refl

two_bytes : (bytes : List ℕ) (at b n : ℕ) → drop at bytes ≡ b ∷ drop (at + 1) bytes → drop (at + 1) bytes ≡ n ∷ drop (at + 1 + 1) bytes → between at (at + 1 + 1) bytes ≡ b ∷ n ∷ []
two_bytes bytes at b n e f =
    let k : at + 1 + 1 - at ≡ 2 = omega arith in
    ap (λ m. take m (drop at bytes)) k ∙ ap (take 2) (e ∙ ap (λ m. b ∷ m) f)

pub prefixed_found : (b : ℕ) (limits : Limits) (bytes : List ℕ) (at behind : ℕ) (old new : List ℕ) → drop at bytes ≡ b ∷ drop (at + 1) bytes → b ≡ 252
    → HasPrefixed limits bytes (at + 1) behind old new → HasOperator limits bytes at behind old new
prefixed_found b limits bytes at behind old new first e h =
    let lead : drop at bytes ≡ 252 ∷ drop (at + 1) bytes = first ∙ ap (λ k. k ∷ drop (at + 1) bytes) e in
    coded (252 ∷ h.number ∷ []) (opcode_behind 252 h.number) limits bytes at (at + 1 + 1) behind old new h.listed (omega arith) (two_bytes bytes at 252 h.number lead h.first) (omega arith)
    (two_code h.number h.small) h.has.plain (inr (lead, omega arith)) h.args (two_stands h.number h.listed (between (at + 1 + 1) behind bytes) h.args.args h.small h.has h.args.is)

-- what is said of a class, said of a class that is this one
pub as_class : (c d : Class) (limits : Limits) (bytes : List ℕ) (at : ℕ) (old new : List ℕ) (behind : ℕ) → c ≡ d → ScansClass d limits bytes at old new behind → ScansClass c limits bytes at old new behind
as_class c d limits bytes at old new behind e h = subst (λ (k : Class). ScansClass k limits bytes at old new behind) (sym e) h

-- ---- behind the byte FC

pub fc_bare : (n : ℕ) → n < 8 → HasKinds (opcode_behind 252 n) []
unfolding kinds_of
fc_bare zero h = record { kinds = refl; plain = refl }
fc_bare (suc zero) h = record { kinds = refl; plain = refl }
fc_bare (suc (suc zero)) h = record { kinds = refl; plain = refl }
fc_bare (suc (suc (suc zero))) h = record { kinds = refl; plain = refl }
fc_bare (suc (suc (suc (suc zero)))) h = record { kinds = refl; plain = refl }
fc_bare (suc (suc (suc (suc (suc zero))))) h = record { kinds = refl; plain = refl }
fc_bare (suc (suc (suc (suc (suc (suc zero)))))) h = record { kinds = refl; plain = refl }
fc_bare (suc (suc (suc (suc (suc (suc (suc zero))))))) h = record { kinds = refl; plain = refl }
fc_bare (suc (suc (suc (suc (suc (suc (suc (suc n)))))))) h = absurd (omega arith)

fc_copy : HasKinds (opcode_behind 252 10) (kinds.Memory ∷ kinds.Memory ∷ [])
unfolding kinds_of
fc_copy = record { kinds = refl; plain = refl }

fc_fill : HasKinds (opcode_behind 252 11) (kinds.Memory ∷ [])
unfolding kinds_of
fc_fill = record { kinds = refl; plain = refl }

fc_tables : (k : ℕ) → k < 3 → HasKinds (opcode_behind 252 (15 + k)) (kinds.Table ∷ [])
unfolding kinds_of
fc_tables zero h = record { kinds = refl; plain = refl }
fc_tables (suc zero) h = record { kinds = refl; plain = refl }
fc_tables (suc (suc zero)) h = record { kinds = refl; plain = refl }
fc_tables (suc (suc (suc k))) h = absurd (omega arith)

pub fc_table : (n : ℕ) → 15 ≤ n → n ≤ 17 → HasKinds (opcode_behind 252 n) (kinds.Table ∷ [])
fc_table n l h = let e : 15 + (n - 15) ≡ n = omega arith in subst (λ (k : ℕ). HasKinds (opcode_behind 252 k) (kinds.Table ∷ [])) e (fc_tables (n - 15) (omega arith))

pub prefixed_bare : (n : ℕ) (limits : Limits) (bytes : List ℕ) (at : ℕ) (old : List ℕ) → drop at bytes ≡ n ∷ drop (at + 1) bytes → at < length bytes → n < 8 → IfPlace (at + 1) (HasPrefixed limits bytes at (at + 1) old old)
prefixed_bare n limits bytes at old first there small =
    inr (record { number = n; listed = []; first = first; small = omega (arith, small); has = fc_bare n small; args = bare_args limits bytes (at + 1) old (omega (arith, there)) })

pub prefixed_scans : (n : ℕ) (listed : List Kind) (limits : Limits) (bytes : List ℕ) (at : ℕ) (old new : List ℕ) → drop at bytes ≡ n ∷ drop (at + 1) bytes → n < 128 → HasKinds (opcode_behind 252 n) listed
    → (behind : ℕ) → ScansArgs (args_form listed) limits bytes (at + 1) old new behind → ScansClass class.Prefix limits bytes at old new behind
prefixed_scans n listed limits bytes at old new first small has behind =
    place_as behind (λ (a : HasArgs (args_form listed) limits bytes (at + 1) behind old new). record { number = n; listed = listed; first = first; small = small; has = has; args = a })

pub copy_scans : (n : ℕ) (limits : Limits) (bytes : List ℕ) (at : ℕ) (old new : List ℕ) → drop at bytes ≡ n ∷ drop (at + 1) bytes → n ≡ 10
    → (behind : ℕ) → ScansArgs (args_form (kinds.Memory ∷ kinds.Memory ∷ [])) limits bytes (at + 1) old new behind → ScansClass class.Prefix limits bytes at old new behind
copy_scans n limits bytes at old new first e = prefixed_scans n (kinds.Memory ∷ kinds.Memory ∷ []) limits bytes at old new first (omega (arith, e)) (subst (λ (k : ℕ). HasKinds (opcode_behind 252 k) (kinds.Memory ∷ kinds.Memory ∷ [])) (sym e) fc_copy)

pub fill_scans : (n : ℕ) (limits : Limits) (bytes : List ℕ) (at : ℕ) (old new : List ℕ) → drop at bytes ≡ n ∷ drop (at + 1) bytes → n ≡ 11
    → (behind : ℕ) → ScansArgs (args_form (kinds.Memory ∷ [])) limits bytes (at + 1) old new behind → ScansClass class.Prefix limits bytes at old new behind
fill_scans n limits bytes at old new first e = prefixed_scans n (kinds.Memory ∷ []) limits bytes at old new first (omega (arith, e)) (subst (λ (k : ℕ). HasKinds (opcode_behind 252 k) (kinds.Memory ∷ [])) (sym e) fc_fill)
