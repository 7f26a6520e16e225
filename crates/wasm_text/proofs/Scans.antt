-- What a scan finds, put together.
use Rattle.std.proofs.Common.{◌≡◌, ℕ, ◌-◌, ◌/◌, ◌%◌, ◌<◌, ◌≤◌, false, List, [], ◌∷◌, ◌++◌, length, refl, sym, ap, subst, ◌∙◌, arith, inl, inr}
use Rattle.std.specs.Prelude.{if◌then◌else◌}
use Rattle.std.proofs.lemmas.Bool.{ne_eqb, eq-eqb}
use Rattle.std.proofs.lemmas.List.{append-nil}
use Rattle.wasm_forms.specs.Grammar.{Form, Is, U32, U64, S32, S64, Made, ◌then◌}
use Rattle.wasm_forms.specs.Spelling.{number_bytes}
use Rattle.wasm_forms.proofs.Stands.{second_stands}
use Rattle.wasm_operators.specs.declared.operator.RawArg.{RawArg}
use Rattle.wasm_operators.specs.declared.operator.RawArg.TheVariants as args
use Rattle.wasm_operators.specs.declared.kind.Kind.{Kind}
use Rattle.wasm_operators.specs.declared.kind.Kind.TheVariants as kinds
use Rattle.wasm_operators.specs.Forms.{arg_form, args_form, access, access_from, has_memory}
use Rattle.wasm_operators.specs.Spelling.{arg_bytes}
use Rattle.wasm_text.specs.declared.limits.Limits.{Limits}
use Rattle.wasm_text.specs.declared.places.TheConstants.{NO_PLACE}
use Rattle.wasm_text.specs.Places.{between, Stands, IsShortest, IfPlace, IsPast, IsBehind, IsNumberAt}
use Rattle.wasm_text.specs.Marks.{form_of, naming, arg_names, Leaves}
use Rattle.wasm_text.specs.Scans.{IsWithin, mark_at, IsMarked, IsMarkedIfPadded, IsIndexed, HasArgs, ScansArgs, count_form}
use Rattle.wasm_text.proofs.Between.{length_between, join}
use Rattle.wasm_text.proofs.Forms.{u32_stands}
use Rattle.wasm_text.proofs.Shortest.{number_once, integer_once}
use Rattle.wasm_text.proofs.Showing.{shows_plain, shows_marked}

-- ---- one argument

-- arguments of one kind are those of a list of this kind alone
pub of_one : (kind : Kind) (bytes : List ℕ) (xs : List RawArg) → Is (arg_form kind) bytes xs → Is (args_form (kind ∷ [])) bytes xs
unfolding args_form
of_one kind bytes xs is = ((xs, []), (sym (append-nil xs), (bytes, ([], (sym (append-nil bytes), is, (refl, refl))))))

-- a marked argument: what stands there as an argument of the mark's kind, and as one of the operator's
pub marked_arg : (form : Form (List RawArg)) (limits : Limits) (bytes : List ℕ) (at behind kind : ℕ) (old new : List ℕ) (arg found : RawArg) → kind < 16
    → Stands (form_of kind) bytes at behind found → Is form (between at behind bytes) (arg ∷ []) → ((f : RawArg → RawArg) → Leaves f → arg_bytes (f arg) ≡ arg_bytes (f found))
    → naming (arg ∷ []) ≡ naming (found ∷ []) → IsWithin limits arg → new ≡ old ++ mark_at at kind ∷ [] → HasArgs form limits bytes at behind old new
marked_arg form limits bytes at behind kind old new arg found small stands is same named fits put = record {
  args = arg ∷ [];
  marks = kind ∷ [];
  is = is;
  shown = shows_marked (between at behind bytes) kind found (arg ∷ []) (λ f. arg_bytes (f arg) ++ []) small (omega (arith, length_between bytes at behind stands.within, stands.forward)) stands.text
      (λ f l. append-nil (arg_bytes (f arg)) ∙ same f l) named;
  put = put;
  fit = (fits, tt);
  forward = omega (arith, stands.forward);
  within = stands.within;
}

pub marked_args : (form : Form (List RawArg)) (limits : Limits) (bytes : List ℕ) (at behind kind : ℕ) (old new : List ℕ) (arg found : RawArg) (small : kind < 16)
    (stands : Stands (form_of kind) bytes at behind found) (is : Is form (between at behind bytes) (arg ∷ [])) (same : (f : RawArg → RawArg) → Leaves f → arg_bytes (f arg) ≡ arg_bytes (f found))
    (named : naming (arg ∷ []) ≡ naming (found ∷ [])) (fits : IsWithin limits arg) (put : new ≡ old ++ mark_at at kind ∷ []) → (marked_arg form limits bytes at behind kind old new arg found small stands is same named fits put).args ≡ arg ∷ []
unfolding marked_arg
marked_args form limits bytes at behind kind old new arg found small stands is same named fits put = refl

-- an argument in its one spelling that names nothing
pub plain_arg : (form : Form (List RawArg)) (limits : Limits) (bytes : List ℕ) (at behind : ℕ) (old : List ℕ) (arg : RawArg) → at ≤ behind → behind ≤ length bytes
    → Is form (between at behind bytes) (arg ∷ []) → arg_names arg ≡ false → arg_bytes arg ≡ between at behind bytes → IsWithin limits arg → HasArgs form limits bytes at behind old old
plain_arg form limits bytes at behind old arg forward within is none once fits = record {
  args = arg ∷ [];
  marks = [];
  is = is;
  shown = shows_plain (between at behind bytes) (arg ∷ []) (λ f. arg_bytes (f arg) ++ []) (λ f l. append-nil (arg_bytes (f arg)) ∙ ap arg_bytes (l arg none) ∙ once) (ap (λ t. if t then arg ∷ [] else []) none);
  put = sym (append-nil old);
  fit = (fits, tt);
  forward = forward;
  within = within;
}

-- ---- what is answered

pub place_as : {A B : Type 0} (place : ℕ) → (A → B) → IfPlace place A → IfPlace place B
place_as place f (inl e) = inl e
place_as place f (inr a) = inr (f a)

-- what is said of a place that isn't the one for none
pub got : {A : Type 0} (place : ℕ) → IfPlace place A → (place ≡ NO_PLACE → ⊥) → A
got place (inl e) there = absurd (there e)
got place (inr a) there = a

-- ---- indices

pub index_scans : (kind : Kind) (make : ℕ → RawArg) (limits : Limits) (bytes : List ℕ) (at below number : ℕ) (old new : List ℕ) → number < 16
    → ((b : List ℕ) (n : ℕ) → Is U32 b n → Is (form_of number) b (make n)) → ((b : List ℕ) (n : ℕ) → Is U32 b n → Is (arg_form kind) b (make n ∷ [])) → ((n : ℕ) → n < below → IsWithin limits (make n))
    → (behind : ℕ) → IfPlace behind (IsIndexed below number bytes at behind old new) → ScansArgs (args_form (kind ∷ [])) limits bytes at old new behind
index_scans kind make limits bytes at below number old new small marked formed fits behind =
    place_as behind (λ (i : IsIndexed below number bytes at behind old new).
    marked_arg (args_form (kind ∷ [])) limits bytes at behind number old new (make i.number) (make i.number) small
    (record { forward = i.stands.forward; within = i.stands.within; text = marked (between at behind bytes) i.number i.stands.text })
    (of_one kind (between at behind bytes) (make i.number ∷ []) (formed (between at behind bytes) i.number i.stands.text))
    (λ f l. refl) refl (fits i.number i.small) i.put)

pub local_scans : (limits : Limits) (bytes : List ℕ) (at : ℕ) (old new : List ℕ) (behind : ℕ) → IfPlace behind (IsIndexed limits.locals 0 bytes at behind old new)
    → ScansArgs (args_form (kinds.Local ∷ [])) limits bytes at old new behind
unfolding form_of arg_form
local_scans limits bytes at old new = index_scans kinds.Local args.Local limits bytes at limits.locals 0 old new (omega arith) (λ b n h. (n, (refl, h))) (λ b n h. (n, (refl, h))) (λ n h. h)

pub function_scans : (limits : Limits) (bytes : List ℕ) (at : ℕ) (old new : List ℕ) (behind : ℕ) → IfPlace behind (IsIndexed limits.functions 1 bytes at behind old new)
    → ScansArgs (args_form (kinds.Function ∷ [])) limits bytes at old new behind
unfolding form_of arg_form
function_scans limits bytes at old new = index_scans kinds.Function args.Function limits bytes at limits.functions 1 old new (omega arith) (λ b n h. (n, (refl, h))) (λ b n h. (n, (refl, h))) (λ n h. h)

pub global_scans : (limits : Limits) (bytes : List ℕ) (at : ℕ) (old new : List ℕ) (behind : ℕ) → IfPlace behind (IsIndexed limits.globals 2 bytes at behind old new)
    → ScansArgs (args_form (kinds.Global ∷ [])) limits bytes at old new behind
unfolding form_of arg_form
global_scans limits bytes at old new = index_scans kinds.Global args.Global limits bytes at limits.globals 2 old new (omega arith) (λ b n h. (n, (refl, h))) (λ b n h. (n, (refl, h))) (λ n h. h)

pub type_scans : (limits : Limits) (bytes : List ℕ) (at : ℕ) (old new : List ℕ) (behind : ℕ) → IfPlace behind (IsIndexed limits.types 3 bytes at behind old new)
    → ScansArgs (args_form (kinds.«Type» ∷ [])) limits bytes at old new behind
unfolding form_of arg_form
type_scans limits bytes at old new = index_scans kinds.«Type» args.«Type» limits bytes at limits.types 3 old new (omega arith) (λ b n h. (n, (refl, h))) (λ b n h. (n, (refl, h))) (λ n h. h)

pub table_scans : (limits : Limits) (bytes : List ℕ) (at : ℕ) (old new : List ℕ) (behind : ℕ) → IfPlace behind (IsIndexed limits.tables 4 bytes at behind old new)
    → ScansArgs (args_form (kinds.Table ∷ [])) limits bytes at old new behind
unfolding form_of arg_form
table_scans limits bytes at old new = index_scans kinds.Table args.Table limits bytes at limits.tables 4 old new (omega arith) (λ b n h. (n, (refl, h))) (λ b n h. (n, (refl, h))) (λ n h. h)

pub memory_scans : (limits : Limits) (bytes : List ℕ) (at : ℕ) (old new : List ℕ) (behind : ℕ) → IfPlace behind (IsIndexed limits.memories 5 bytes at behind old new)
    → ScansArgs (args_form (kinds.Memory ∷ [])) limits bytes at old new behind
unfolding form_of arg_form
memory_scans limits bytes at old new = index_scans kinds.Memory args.Memory limits bytes at limits.memories 5 old new (omega arith) (λ b n h. (n, (refl, h))) (λ b n h. (n, (refl, h))) (λ n h. h)

-- ---- arguments that get a mark where they are padded

pub padded_arg : (form : Form (List RawArg)) (limits : Limits) (bytes : List ℕ) (at behind kind : ℕ) (old new : List ℕ) (place : ℕ) (arg found : RawArg) → kind < 16
    → Stands (form_of kind) bytes at behind found → Is form (between at behind bytes) (arg ∷ []) → arg_names arg ≡ false → arg_names found ≡ false → arg_bytes arg ≡ arg_bytes found
    → (IsShortest (between at behind bytes) → arg_bytes arg ≡ between at behind bytes) → IsWithin limits arg → IsMarkedIfPadded bytes at kind behind old new place → ScansArgs form limits bytes at old new place
padded_arg form limits bytes at behind kind old new place arg found small stands is none none' same once fits (e, inl (one, kept)) =
    inr (subst (λ (k : ℕ). HasArgs form limits bytes at k old new) (sym e) (subst (λ (k : List ℕ). HasArgs form limits bytes at behind old k) (sym kept)
    (plain_arg form limits bytes at behind old arg (omega (arith, stands.forward)) stands.within is none (once one) fits)))
padded_arg form limits bytes at behind kind old new place arg found small stands is none none' same once fits (e, inr put) =
    inr (subst (λ (k : ℕ). HasArgs form limits bytes at k old new) (sym e)
    (marked_arg form limits bytes at behind kind old new arg found small stands is
    (λ f l. ap arg_bytes (l arg none) ∙ same ∙ sym (ap arg_bytes (l found none')))
    (ap (λ t. if t then arg ∷ [] else []) none ∙ sym (ap (λ t. if t then found ∷ [] else []) none')) fits put))

-- where no number stands, none is answered
no_place : {A : Type 0} (bytes : List ℕ) (at kind behind : ℕ) (old new : List ℕ) (place : ℕ) → behind ≡ NO_PLACE → IsMarkedIfPadded bytes at kind behind old new place → IfPlace place A
no_place bytes at kind behind old new place e (same, put) = inl (same ∙ e)

number_form : (kind : ℕ) → kind ≡ 7 → (b : List ℕ) (n : ℕ) → Is U32 b n → Is (form_of kind) b (args.Number n)
unfolding form_of
number_form kind e b n h = subst (λ (k : ℕ). Is (form_of k) b (args.Number n)) (sym e) (n, (refl, h))

pub number_scans : (form : Form (List RawArg)) (make : ℕ → RawArg) (limits : Limits) (bytes : List ℕ) (at behind value : ℕ) (old new : List ℕ) (place : ℕ)
    → ((b : List ℕ) → Is U32 b value → Is form b (make value ∷ [])) → arg_names (make value) ≡ false → arg_bytes (make value) ≡ number_bytes value → IsWithin limits (make value)
    → value < 4294967296 → IsNumberAt bytes at value → IsPast bytes at 5 behind → IsMarkedIfPadded bytes at 7 behind old new place → ScansArgs form limits bytes at old new place
number_scans form make limits bytes at behind value old new place formed none spelled fits small is (inl e) m = no_place bytes at 7 behind old new place e m
number_scans form make limits bytes at behind value old new place formed none spelled fits small is (inr (n, s)) m =
    let same : value ≡ n = is behind n s in
    let stands : Stands U32 bytes at behind value = subst (λ (k : ℕ). Stands U32 bytes at behind k) (sym same) (u32_stands bytes at behind n s (omega (arith, same, small))) in
    padded_arg form limits bytes at behind 7 old new place (make value) (args.Number value) (omega arith)
    (record { forward = stands.forward; within = stands.within; text = number_form 7 refl (between at behind bytes) value stands.text })
    (formed (between at behind bytes) stands.text) none refl spelled (λ e. spelled ∙ number_once 5 4294967296 bytes at behind value (omega arith) e stands) fits m

pub label_scans : (limits : Limits) (bytes : List ℕ) (at behind value : ℕ) (old new : List ℕ) (place : ℕ) → value < limits.labels
    → value < 4294967296 → IsNumberAt bytes at value → IsPast bytes at 5 behind → IsMarkedIfPadded bytes at 7 behind old new place → ScansArgs (args_form (kinds.Label ∷ [])) limits bytes at old new place
unfolding arg_form
label_scans limits bytes at behind value old new place fits =
    number_scans (args_form (kinds.Label ∷ [])) args.Label limits bytes at behind value old new place (λ b h. of_one kinds.Label b (args.Label value ∷ []) (value, (refl, h))) refl refl fits

pub count_scans : (limits : Limits) (bytes : List ℕ) (at behind value : ℕ) (old new : List ℕ) (place : ℕ)
    → value < 4294967296 → IsNumberAt bytes at value → IsPast bytes at 5 behind → IsMarkedIfPadded bytes at 7 behind old new place → ScansArgs (count_form value) limits bytes at old new place
count_scans limits bytes at behind value old new place =
    number_scans (count_form value) args.Count limits bytes at behind value old new place (λ b h. (value, (refl, (h, eq-eqb value value refl)))) refl refl tt

pub s32_scans : (limits : Limits) (bytes : List ℕ) (at behind : ℕ) (old new : List ℕ) (place : ℕ) → IsBehind S32 bytes at behind → IsMarkedIfPadded bytes at 8 behind old new place → ScansArgs (args_form (kinds.S32 ∷ [])) limits bytes at old new place
unfolding form_of arg_form
s32_scans limits bytes at behind old new place (inl e) m = no_place bytes at 8 behind old new place e m
s32_scans limits bytes at behind old new place (inr (z, s)) m =
    padded_arg (args_form (kinds.S32 ∷ [])) limits bytes at behind 8 old new place (args.S32 z) (args.S32 z) (omega arith)
    (record { forward = s.forward; within = s.within; text = (z, (refl, s.text)) })
    (of_one kinds.S32 (between at behind bytes) (args.S32 z ∷ []) (z, (refl, s.text))) refl refl refl (λ e. integer_once 5 2147483648 bytes at behind z (omega arith) e s) tt m

pub s64_scans : (limits : Limits) (bytes : List ℕ) (at behind : ℕ) (old new : List ℕ) (place : ℕ) → IsBehind S64 bytes at behind → IsMarkedIfPadded bytes at 9 behind old new place → ScansArgs (args_form (kinds.S64 ∷ [])) limits bytes at old new place
unfolding form_of arg_form
s64_scans limits bytes at behind old new place (inl e) m = no_place bytes at 9 behind old new place e m
s64_scans limits bytes at behind old new place (inr (z, s)) m =
    padded_arg (args_form (kinds.S64 ∷ [])) limits bytes at behind 9 old new place (args.S64 z) (args.S64 z) (omega arith)
    (record { forward = s.forward; within = s.within; text = (z, (refl, s.text)) })
    (of_one kinds.S64 (between at behind bytes) (args.S64 z ∷ []) (z, (refl, s.text))) refl refl refl (λ e. integer_once 10 9223372036854775808 bytes at behind z (omega arith) e s) tt m

-- ---- accesses

pub no_memory : (flags : ℕ) → flags < 64 → has_memory flags ≡ false
no_memory flags h = ne_eqb ((flags / 64) % 2) 1 (λ e. omega (arith, e, h))

pub access_text : (bytes : List ℕ) (at mid behind flags offset : ℕ) → flags < 64 → Stands U32 bytes at mid flags → Stands U64 bytes mid behind offset → Is access (between at behind bytes) (args.Access flags 0 offset)
unfolding access access_from
access_text bytes at mid behind flags offset small s t = (
  flags,
  (
    between at mid bytes,
    (
      between mid behind bytes,
      (
        sym (join bytes at mid behind (omega (arith, s.forward)) (omega (arith, t.forward))),
        s.text,
        second_stands (has_memory flags) (Made (λ x. args.Access (flags - 64) x.0 x.1) (U32 then U64)) (Made (λ o. args.Access flags 0 o) U64) (between mid behind bytes) (args.Access flags 0 offset) (no_memory flags small) (offset, (refl, t.text)),
      ),
    ),
  ),
)

pub access_scans : (limits : Limits) (bytes : List ℕ) (at mid behind flags : ℕ) (old new : List ℕ) (place : ℕ) → flags < 64 → 0 < limits.memories → behind < 18446744073709551616
    → IsNumberAt bytes at flags → IsPast bytes at 5 mid → IsBehind U64 bytes mid behind → IsMarked at 6 behind old new place → ScansArgs (args_form (kinds.Access ∷ [])) limits bytes at old new place
unfolding form_of arg_form
access_scans limits bytes at mid behind flags old new place small there fits is p (inl e) m = inl (m.0 ∙ e)
access_scans limits bytes at mid behind flags old new place small there fits is (inl e) (inr (offset, t)) m = absurd (omega (arith, e, t.forward, fits))
access_scans limits bytes at mid behind flags old new place small there fits is (inr (n, s)) (inr (offset, t)) m =
    let same : flags ≡ n = is mid n s in
    let u : Stands U32 bytes at mid flags = subst (λ (k : ℕ). Stands U32 bytes at mid k) (sym same) (u32_stands bytes at mid n s (omega (arith, same, small))) in
    let text = access_text bytes at mid behind flags offset small u t in
    inr (subst (λ (k : ℕ). HasArgs (args_form (kinds.Access ∷ [])) limits bytes at k old new) (sym m.0)
    (marked_arg (args_form (kinds.Access ∷ [])) limits bytes at behind 6 old new (args.Access flags 0 offset) (args.Access flags 0 offset) (omega arith)
    (record { forward = omega (arith, u.forward, t.forward); within = t.within; text = text })
    (of_one kinds.Access (between at behind bytes) (args.Access flags 0 offset ∷ []) (args.Access flags 0 offset, (refl, text))) (λ f l. refl) refl there m.1))
