-- What stands at a mark, by its kind.
use Rattle.std.proofs.Common.{◌≡◌, ℕ, zero, suc, ◌-◌, ◌≤◌, Bool, true, false, List, drop, length, refl, sym, ap, subst, ◌∙◌, arith, ℤ}
use Rattle.std.specs.Prelude.{Option, Some, None, nat_eq, option_map}
use Rattle.std.proofs.lemmas.Bool.{eqb-true, false≢true as untrue}
use Rattle.std.proofs.lemmas.List.{length-drop}
use Rattle.wasm_forms.specs.Grammar.{Form, Is, U32, U64, S32 as FormS32, S64 as FormS64, Made, Fails, ◌then◌, at, choose}
use Rattle.wasm_forms.proofs.Bind.{some_same, some_not_none}
use Rattle.wasm_forms.proofs.Exact.{exact}
use Rattle.wasm_operators.specs.declared.operator.RawArg.{RawArg}
use Rattle.wasm_operators.specs.declared.operator.RawArg.TheVariants as args
use Rattle.wasm_operators.specs.declared.operator.RawBlock.{RawBlock}
use Rattle.wasm_operators.specs.Forms.{block_type, access, access_from, has_memory}
use Rattle.wasm_text.specs.declared.mark.TheConstants.{MARK_LOCAL, MARK_FUNCTION, MARK_GLOBAL, MARK_TYPE, MARK_TABLE, MARK_MEMORY}
use Rattle.wasm_text.specs.Places.{Stands}
use Rattle.wasm_text.specs.Marks.{place_of, kind_of, form_of, found, HasArgument, is_marked}
use Rattle.wasm_text.specs.Filling.{Numbering, renamed, renamed_block}
use Rattle.wasm_text.proofs.Filling.{read_at, found_is}

-- ---- cases

pub made_gives : {B : Type 0} (P : RawArg → Type 0) (make : B → RawArg) (f : Form B) (bytes : List ℕ) (arg : RawArg) → ((b : B) → P (make b)) → Is (Made make f) bytes arg → P arg
made_gives P make f bytes arg all is = subst P (sym is.1.0) (all is.0)

pub choose_gives : (P : RawArg → Type 0) (t : Bool) (f g : Form RawArg) (bytes : List ℕ) (arg : RawArg) → (t ≡ true → Is f bytes arg → P arg) → (Is g bytes arg → P arg) → Is (choose t f g) bytes arg → P arg
choose_gives P true f g bytes arg first second is = first refl is
choose_gives P false f g bytes arg first second is = second is

access_gives : (P : RawArg → Type 0) (bytes : List ℕ) (arg : RawArg) → ((flags memory offset : ℕ) → P (args.Access flags memory offset)) → Is access bytes arg → P arg
unfolding access access_from
access_gives P bytes arg all is =
    let flags = is.0 in
    choose_gives P (has_memory flags) (Made (λ x. args.Access (flags - 64) x.0 x.1) (U32 then U64)) (Made (λ offset. args.Access flags 0 offset) U64) is.1.1.0 arg
    (λ e. made_gives P (λ x. args.Access (flags - 64) x.0 x.1) (U32 then U64) is.1.1.0 arg (λ x. all (flags - 64) x.0 x.1))
    (made_gives P (λ offset. args.Access flags 0 offset) U64 is.1.1.0 arg (λ offset. all flags 0 offset)) is.1.1.1.2

-- what holds of each argument that may stand at a mark of a kind
pub by_kind : (P : RawArg → Type 0) (kind : ℕ) (bytes : List ℕ) (arg : RawArg) → (kind ≡ 0 → (n : ℕ) → P (args.Local n)) → (kind ≡ 1 → (n : ℕ) → P (args.Function n)) → (kind ≡ 2 → (n : ℕ) → P (args.Global n)) → (kind ≡ 3 → (n : ℕ) → P (args.«Type» n))
    → (kind ≡ 4 → (n : ℕ) → P (args.Table n)) → (kind ≡ 5 → (n : ℕ) → P (args.Memory n)) → (kind ≡ 6 → (flags memory offset : ℕ) → P (args.Access flags memory offset)) → ((n : ℕ) → P (args.Number n)) → ((z : ℤ) → P (args.S32 z)) → ((z : ℤ) → P (args.S64 z))
    → (kind ≡ 10 → (b : RawBlock) → P (args.Block b)) → Is (form_of kind) bytes arg → P arg
unfolding form_of
by_kind P kind bytes arg p0 p1 p2 p3 p4 p5 p6 p7 p8 p9 p10 =
    choose_gives P (nat_eq kind 0) (Made args.Local U32) _ bytes arg (λ e. made_gives P args.Local U32 bytes arg (p0 (eqb-true kind 0 e)))
    (choose_gives P (nat_eq kind 1) (Made args.Function U32) _ bytes arg (λ e. made_gives P args.Function U32 bytes arg (p1 (eqb-true kind 1 e)))
    (choose_gives P (nat_eq kind 2) (Made args.Global U32) _ bytes arg (λ e. made_gives P args.Global U32 bytes arg (p2 (eqb-true kind 2 e)))
    (choose_gives P (nat_eq kind 3) (Made args.«Type» U32) _ bytes arg (λ e. made_gives P args.«Type» U32 bytes arg (p3 (eqb-true kind 3 e)))
    (choose_gives P (nat_eq kind 4) (Made args.Table U32) _ bytes arg (λ e. made_gives P args.Table U32 bytes arg (p4 (eqb-true kind 4 e)))
    (choose_gives P (nat_eq kind 5) (Made args.Memory U32) _ bytes arg (λ e. made_gives P args.Memory U32 bytes arg (p5 (eqb-true kind 5 e)))
    (choose_gives P (nat_eq kind 6) access _ bytes arg (λ e. access_gives P bytes arg (p6 (eqb-true kind 6 e)))
    (choose_gives P (nat_eq kind 7) (Made args.Number U32) _ bytes arg (λ e. made_gives P args.Number U32 bytes arg p7)
    (choose_gives P (nat_eq kind 8) (Made args.S32 FormS32) _ bytes arg (λ e. made_gives P args.S32 FormS32 bytes arg p8)
    (choose_gives P (nat_eq kind 9) (Made args.S64 FormS64) _ bytes arg (λ e. made_gives P args.S64 FormS64 bytes arg p9)
    (choose_gives P (nat_eq kind 10) (Made args.Block block_type) Fails bytes arg (λ e. made_gives P args.Block block_type bytes arg (p10 (eqb-true kind 10 e))) (λ h. absurd h)))))))))))

-- ---- arguments as they stand at marks

marked_of : (kind : ℕ) (bytes : List ℕ) (arg : RawArg) → Is (form_of kind) bytes arg → is_marked arg ≡ true
marked_of kind bytes arg =
    by_kind (λ a. is_marked a ≡ true) kind bytes arg (λ e n. refl) (λ e n. refl) (λ e n. refl) (λ e n. refl) (λ e n. refl) (λ e n. refl) (λ e flags memory offset. refl) (λ n. refl) (λ z. refl) (λ z. refl) (λ e b. refl)

mapped : {B : Type 0} (make : B → RawArg) (o : Option B) (new : RawArg) → ((b : B) → is_marked (make b) ≡ true) → option_map make o ≡ Some new → is_marked new ≡ true
mapped make None new all e = cc
mapped make (Some b) new all e = ap is_marked (sym (some_same (make b) new e)) ∙ all b

renamed_marked : (number : Numbering) (arg new : RawArg) → is_marked arg ≡ true → renamed number arg ≡ Some new → is_marked new ≡ true
renamed_marked number (args.Function n) new m e = mapped args.Function (number MARK_FUNCTION n) new (λ k. refl) e
renamed_marked number (args.«Type» n) new m e = mapped args.«Type» (number MARK_TYPE n) new (λ k. refl) e
renamed_marked number (args.Table n) new m e = mapped args.Table (number MARK_TABLE n) new (λ k. refl) e
renamed_marked number (args.Memory n) new m e = mapped args.Memory (number MARK_MEMORY n) new (λ k. refl) e
renamed_marked number (args.Global n) new m e = mapped args.Global (number MARK_GLOBAL n) new (λ k. refl) e
renamed_marked number (args.Tag n) new m e = absurd (untrue m)
renamed_marked number (args.Element n) new m e = absurd (untrue m)
renamed_marked number (args.Data n) new m e = absurd (untrue m)
renamed_marked number (args.Local n) new m e = mapped args.Local (number MARK_LOCAL n) new (λ k. refl) e
renamed_marked number (args.Label n) new m e = absurd (untrue m)
renamed_marked number (args.Count n) new m e = absurd (untrue m)
renamed_marked number (args.Number n) new m e = ap is_marked (sym (some_same (args.Number n) new e))
renamed_marked number (args.Byte b) new m e = absurd (untrue m)
renamed_marked number (args.S32 z) new m e = ap is_marked (sym (some_same (args.S32 z) new e))
renamed_marked number (args.S64 z) new m e = ap is_marked (sym (some_same (args.S64 z) new e))
renamed_marked number (args.F32 bits) new m e = absurd (untrue m)
renamed_marked number (args.F64 bits) new m e = absurd (untrue m)
renamed_marked number (args.Value v) new m e = absurd (untrue m)
renamed_marked number (args.Heap h) new m e = absurd (untrue m)
renamed_marked number (args.Block b) new m e = mapped args.Block (renamed_block number b) new (λ k. refl) e
renamed_marked number (args.Access flags memory offset) new m e = mapped (λ k. args.Access flags k offset) (number MARK_MEMORY memory) new (λ k. refl) e

-- what was found at a mark and has a new number is written as what stands at marks
pub marked_anew : (number : Numbering) (bytes : List ℕ) (mark : ℕ) (arg new : RawArg) (rest : List ℕ) → found bytes mark ≡ Some (arg, rest) → renamed number arg ≡ Some new → is_marked new ≡ true
marked_anew number bytes mark arg new rest here e =
    let t = (exact (form_of (kind_of mark))).takes (drop (place_of mark) bytes) (arg, rest) here in
    renamed_marked number arg new (marked_of (kind_of mark) t.0 arg t.1.1) e

pub argument_found : (bytes : List ℕ) (mark : ℕ) → HasArgument bytes mark → found bytes mark ≡ None → ⊥
argument_found bytes mark (arg, (behind, s)) none = some_not_none (arg, drop behind bytes) (sym (found_is bytes mark behind arg s) ∙ none)

pub argument_within : (bytes : List ℕ) (mark : ℕ) → HasArgument bytes mark → place_of mark ≤ length bytes
argument_within bytes mark (arg, (behind, s)) = omega (arith, s.forward, s.within)

-- ---- indices

index_of_kind : (kind : ℕ) (bytes : List ℕ) (at behind : ℕ) (arg : RawArg) → kind ≤ 5 → Stands (form_of kind) bytes at behind arg → (index : ℕ) × Stands U32 bytes at behind index
unfolding form_of
index_of_kind zero bytes at behind arg k s = (s.text.0, record { forward = s.forward; within = s.within; text = s.text.1.1 })
index_of_kind (suc zero) bytes at behind arg k s = (s.text.0, record { forward = s.forward; within = s.within; text = s.text.1.1 })
index_of_kind (suc (suc zero)) bytes at behind arg k s = (s.text.0, record { forward = s.forward; within = s.within; text = s.text.1.1 })
index_of_kind (suc (suc (suc zero))) bytes at behind arg k s = (s.text.0, record { forward = s.forward; within = s.within; text = s.text.1.1 })
index_of_kind (suc (suc (suc (suc zero)))) bytes at behind arg k s = (s.text.0, record { forward = s.forward; within = s.within; text = s.text.1.1 })
index_of_kind (suc (suc (suc (suc (suc zero))))) bytes at behind arg k s = (s.text.0, record { forward = s.forward; within = s.within; text = s.text.1.1 })
index_of_kind (suc (suc (suc (suc (suc (suc n)))))) bytes at behind arg k s = absurd (omega (arith, k))

pub index_of_mark : (bytes : List ℕ) (mark : ℕ) → kind_of mark ≤ 5 → HasArgument bytes mark → (behind index : ℕ) × Stands U32 bytes (place_of mark) behind index
index_of_mark bytes mark k (arg, (behind, s)) = let i = index_of_kind (kind_of mark) bytes (place_of mark) behind arg k s in (behind, i.0, i.1)

-- what is read where something stands ends where that does
pub stands_again : {A : Type 0} (form : Form A) (bytes : List ℕ) (from behind : ℕ) (value value' : A) (rest : List ℕ) → Stands form bytes from behind value → at form (drop from bytes) ≡ Some (value', rest) → Stands form bytes from (length bytes - length rest) value'
stands_again {A} form bytes from behind value value' rest s e =
    let same = some_same (value, drop behind bytes) (value', rest) (sym (read_at form bytes from behind value s) ∙ e) in
    let ends : behind ≡ length bytes - length rest = omega (arith, length-drop behind bytes, ap (λ (x : A × List ℕ). length x.1) same, s.within) in
    subst (λ (k : ℕ). Stands form bytes from k value') ends (subst (λ (x : A). Stands form bytes from behind x) (ap (λ (x : A × List ℕ). x.0) same) s)

pub standing_read : {A : Type 0} (form : Form A) (bytes : List ℕ) (from behind : ℕ) (value : A) → Stands form bytes from behind value → at form (drop from bytes) ≡ None → ⊥
standing_read form bytes from behind value s none = some_not_none (value, drop behind bytes) (sym (read_at form bytes from behind value s) ∙ none)
