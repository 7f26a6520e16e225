-- What was read has each abstract heap type by one of its bytes, and indices of locals below 2 ^ 32.
use Rattle.std.proofs.Common.{◌≡◌, ℕ, ◌*◌, ◌+◌, ◌<◌, ◌^◌, true, List, [], ◌∷◌, ◌++◌, map, subst, sym, inl, inr}
use Rattle.std.specs.Prelude.{Option, Some, None, flat_map, nat_lt}
use Rattle.std.specs.List.{AllByRecursion}
use Rattle.wasm_forms.specs.Grammar.{Form, Is, IsRow, Fails, ◌then◌, Led, Made, Where, U32}
use Rattle.wasm_forms.specs.Types.{value_type}
use Rattle.wasm_operators.specs.declared.kind.Kind.{Kind}
use Rattle.wasm_operators.specs.declared.kind.Kind.TheVariants as kinds
use Rattle.wasm_operators.specs.declared.operator.RawArg.{RawArg}
use Rattle.wasm_operators.specs.declared.operator.RawArg.TheVariants as raw
use Rattle.wasm_operators.specs.Forms.{catch_from, catch_clause, several, arg_form, args_form, behind, operator_of, is_prefix, operator_from, operator}
use Rattle.wasm_operators.specs.Operators.{Op}
use Rattle.wasm_operators.specs.Standing.{heap_spells, value_spells, block_spells, is_of}
use Rattle.wasm_operators.specs.Table.{kinds_of}
use Rattle.wasm_operators.proofs.OneRead.{chosen, value_type_read, block_one, heap_one, access_one}

-- each abstract heap type in it is spelled by one of its bytes, and an index of a local is below 2 ^ 32
abbrev pub ArgGood : RawArg → Type 0
ArgGood (raw.Value v) = value_spells v ≡ true
ArgGood (raw.Heap h) = heap_spells h ≡ true
ArgGood (raw.Block b) = block_spells b ≡ true
ArgGood (raw.Local n) = n < 2 ^ 32
ArgGood arg = Unit {0}

abbrev pub ArgsGood : List RawArg → Type 0
ArgsGood xs = AllByRecursion ArgGood xs

good_as : (xs ys : List RawArg) → xs ≡ ys → ArgsGood ys → ArgsGood xs
good_as xs ys e h = subst ArgsGood (sym e) h

good_both : (xs ys : List RawArg) → ArgsGood xs → ArgsGood ys → ArgsGood (xs ++ ys)
good_both [] ys h k = k
good_both (x ∷ xs) ys h k = (h.0, good_both xs ys h.1 k)

-- ---- entries

abbrev EntryLaw : {B : Type 0} → Form B → (B → List RawArg) → Type 0
EntryLaw {B} f make = (bytes : List ℕ) (x : B) → Is f bytes x → ArgsGood (make x)

entries_good : {B : Type 0} (f : Form B) (make : B → List RawArg) → EntryLaw f make → (ys : List B) (bytes : List ℕ) → IsRow (Is f) bytes ys → ArgsGood (flat_map make ys)
entries_good f make law [] bytes h = tt
entries_good f make law (y ∷ ys) bytes h = good_both (make y) (flat_map make ys) (law h.0 y h.1.1.1) (entries_good f make law ys h.1.0 h.1.1.2)

several_good : {B : Type 0} (f : Form B) (make : B → List RawArg) → EntryLaw f make → (bytes : List ℕ) (xs : List RawArg) → Is (several make f) bytes xs → ArgsGood xs
several_good f make law bytes xs i =
    let made = i.1.1.1.2 in
    good_as xs (raw.Count i.0 ∷ flat_map make made.0) made.1.0 (tt, entries_good f make law made.0 i.1.1.0 made.1.1.0)

catch_from_good : (b : ℕ) (bytes : List ℕ) (xs : List RawArg) → Is (catch_from b) bytes xs → ArgsGood xs
unfolding catch_from
catch_from_good b bytes xs i =
    elim (chosen (nat_lt b 2) (Made (λ x. raw.Byte b ∷ raw.Tag x.0 ∷ raw.Label x.1 ∷ []) (U32 then U32)) _ bytes xs i) as (λ _. ArgsGood xs) [
      | inl c ↦ good_as xs (raw.Byte b ∷ raw.Tag c.1.0.0 ∷ raw.Label c.1.0.1 ∷ []) c.1.1.0 (tt, (tt, (tt, tt)))
      | inr c ↦ elim (chosen (nat_lt b 4) (Made (λ l. raw.Byte b ∷ raw.Label l ∷ []) U32) Fails bytes xs c.1) as (λ _. ArgsGood xs) [
        | inl d ↦ good_as xs (raw.Byte b ∷ raw.Label d.1.0 ∷ []) d.1.1.0 (tt, (tt, tt))
        | inr d ↦ absurd d.1
      ]
    ]

catch_good : EntryLaw catch_clause (λ x. x)
unfolding catch_clause
catch_good bytes xs i = catch_from_good i.0 i.1.1.0 xs i.1.1.1.2

bytes_good : (ys : List ℕ) → ArgsGood (map raw.Byte ys)
bytes_good [] = tt
bytes_good (y ∷ ys) = (tt, bytes_good ys)

-- ---- arguments

one_good : (xs : List RawArg) (x : RawArg) → xs ≡ x ∷ [] → ArgGood x → ArgsGood xs
one_good xs x e h = good_as xs (x ∷ []) e (h, tt)

of_block : (x : RawArg) → is_of kinds.Block x ≡ true → ArgGood x
of_block (raw.Block b) is = is
of_block x is = absurd cc

of_heap : (x : RawArg) → is_of kinds.Heap x ≡ true → ArgGood x
of_heap (raw.Heap h) is = is
of_heap x is = absurd cc

of_access : (x : RawArg) → is_of kinds.Access x ≡ true → ArgGood x
of_access (raw.Access flags memory offset) is = tt
of_access x is = absurd cc

kind_good : (kind : Kind) (bytes : List ℕ) (xs : List RawArg) → Is (arg_form kind) bytes xs → ArgsGood xs
unfolding arg_form
kind_good kinds.Nothing bytes xs i = good_as xs [] i.1 tt
kind_good kinds.Catches bytes xs i = several_good catch_clause (λ x. x) catch_good bytes xs i
kind_good kinds.Labels bytes xs i = several_good U32 (λ l. raw.Label l ∷ []) (λ bs l j. (tt, tt)) bytes xs i
kind_good kinds.Values bytes xs i = several_good value_type (λ v. raw.Value v ∷ []) (λ bs v j. ((value_type_read bs v j).0, tt)) bytes xs i
kind_good kinds.SixteenBytes bytes xs i = good_as xs (map raw.Byte i.0) i.1.0 (bytes_good i.0)
kind_good kinds.Access bytes xs i = let one = access_one bytes xs i in one_good xs one.0 one.1.0 (of_access one.0 one.1.1)
kind_good kinds.Block bytes xs i = let one = block_one bytes xs i in one_good xs one.0 one.1.0 (of_block one.0 one.1.1)
kind_good kinds.Heap bytes xs i = let one = heap_one bytes xs i in one_good xs one.0 one.1.0 (of_heap one.0 one.1.1)
kind_good kinds.F32 bytes xs i = one_good xs (raw.F32 i.0) i.1.0 tt
kind_good kinds.F64 bytes xs i = one_good xs (raw.F64 i.0) i.1.0 tt
kind_good kinds.Label bytes xs i = one_good xs (raw.Label i.0) i.1.0 tt
kind_good kinds.Function bytes xs i = one_good xs (raw.Function i.0) i.1.0 tt
kind_good kinds.«Type» bytes xs i = one_good xs (raw.«Type» i.0) i.1.0 tt
kind_good kinds.Table bytes xs i = one_good xs (raw.Table i.0) i.1.0 tt
kind_good kinds.Memory bytes xs i = one_good xs (raw.Memory i.0) i.1.0 tt
kind_good kinds.Global bytes xs i = one_good xs (raw.Global i.0) i.1.0 tt
kind_good kinds.Tag bytes xs i = one_good xs (raw.Tag i.0) i.1.0 tt
kind_good kinds.Element bytes xs i = one_good xs (raw.Element i.0) i.1.0 tt
kind_good kinds.Data bytes xs i = one_good xs (raw.Data i.0) i.1.0 tt
kind_good kinds.Local bytes xs i = one_good xs (raw.Local i.0) i.1.0 i.1.1.small
kind_good kinds.Number bytes xs i = one_good xs (raw.Number i.0) i.1.0 tt
kind_good kinds.Byte bytes xs i = one_good xs (raw.Byte i.0) i.1.0 tt
kind_good kinds.S32 bytes xs i = one_good xs (raw.S32 i.0) i.1.0 tt
kind_good kinds.S64 bytes xs i = one_good xs (raw.S64 i.0) i.1.0 tt

args_good : (ks : List Kind) (bytes : List ℕ) (xs : List RawArg) → Is (args_form ks) bytes xs → ArgsGood xs
unfolding args_form
args_good [] bytes xs i = good_as xs [] i.1 tt
args_good (kind ∷ ks) bytes xs i =
    let parts = i.1.1 in
    good_as xs (i.0.0 ++ i.0.1) i.1.0 (good_both i.0.0 i.0.1 (kind_good kind parts.0 i.0.0 parts.1.1.1) (args_good ks parts.1.0 i.0.1 parts.1.1.2))

-- ---- operators

behind_good : (op : ℕ) (k : Option (List Kind)) (bytes : List ℕ) (o : Op) → Is (behind op k) bytes o → ArgsGood o.args
behind_good op None bytes o i = absurd i
behind_good op (Some ks) bytes o i = subst (λ (p : Op). ArgsGood p.args) (sym i.1.0) (args_good ks bytes i.0 i.1.1)

of_good : (op : ℕ) (bytes : List ℕ) (o : Op) → Is (operator_of op) bytes o → ArgsGood o.args
unfolding operator_of
of_good op bytes o i = behind_good op (kinds_of op) bytes o i

from_good : (b : ℕ) (bytes : List ℕ) (o : Op) → Is (operator_from b) bytes o → ArgsGood o.args
unfolding operator_from
from_good b bytes o i =
    elim (chosen (is_prefix b) (Led (Where (λ n. nat_lt n 65536) U32) (λ n. operator_of (b * 65536 + n))) (operator_of b) bytes o i) as (λ _. ArgsGood o.args) [
      | inl c ↦ of_good (b * 65536 + c.1.0) c.1.1.1.0 o c.1.1.1.1.2
      | inr c ↦ of_good b bytes o c.1
    ]

pub operator_good : (bytes : List ℕ) (o : Op) → Is operator bytes o → ArgsGood o.args
unfolding operator
operator_good bytes o i = from_good i.0 i.1.1.0 o i.1.1.1.2
