-- An operator that was read is one that is spelled, whatever numbers stand where bytes do.
use Rattle.std.proofs.Common.{◌≡◌, ℕ, ◌+◌, ◌*◌, Bool, true, false, List, [], ◌∷◌, ◌++◌, length, map, refl, sym, ap, subst, ◌∙◌, append_assoc, append-nil, inl, inr}
use Rattle.std.specs.Prelude.{Option, Some, None, flat_map, nat_lt, if◌then◌else◌}
use Rattle.std.proofs.lemmas.List.{map-append}
use Rattle.wasm_forms.specs.Reading.{◌>>=◌}
use Rattle.wasm_forms.specs.Grammar.{Form, Is, IsRow, Fails, Byte, Bytes, ◌then◌, Led, Made, Where, U32}
use Rattle.wasm_forms.specs.Types.{value_type}
use Rattle.wasm_operators.specs.declared.kind.Kind.{Kind}
use Rattle.wasm_operators.specs.declared.kind.Kind.TheVariants as kinds
use Rattle.wasm_operators.specs.declared.operator.RawArg.{RawArg}
use Rattle.wasm_operators.specs.declared.operator.RawArg.TheVariants as raw
use Rattle.wasm_operators.specs.Operators.{Op}
use Rattle.wasm_operators.specs.Table.{kinds_of}
use Rattle.wasm_operators.specs.Forms.{catch_from, catch_clause, several, arg_form, args_form, behind, operator_of, is_prefix, operator_from, operator}
use Rattle.wasm_operators.specs.Standing.{is_of, behind_one, behind_value, behind_catch, behind_entries, behind_counted, behind_kind, behind_kinds, is_done, spelled_by, spells}
use Rattle.wasm_operators.proofs.OneRead.{chosen, access_one}
use Rattle.walrus_code.proofs.LawTags.{tag, tagged}
use Rattle.wasm_operators.proofs.Taken.{row_of_bytes}

abbrev Skip : Type 0
Skip = List RawArg → Option (List RawArg)

-- what was read is skipped, whatever stands behind it
abbrev Skips : Skip → List RawArg → Type 0
Skips skip xs = (rest : List RawArg) → skip (map tag xs ++ rest) ≡ Some rest

skips_as : (skip : Skip) (xs ys : List RawArg) → xs ≡ ys → Skips skip ys → Skips skip xs
skips_as skip xs ys e h = subst (Skips skip) (sym e) h

-- ---- entries

abbrev EntryLaw : {B : Type 0} → Skip → Form B → (B → List RawArg) → Type 0
EntryLaw {B} entry f make = (bytes : List ℕ) (x : B) → Is f bytes x → Skips entry (make x)

two_parts : (xs ys rest : List RawArg) → map tag (xs ++ ys) ++ rest ≡ map tag xs ++ (map tag ys ++ rest)
two_parts xs ys rest = ap (λ (l : List RawArg). l ++ rest) (map-append tag xs ys) ∙ append_assoc (map tag xs) (map tag ys) rest

entries_skip : {B : Type 0} (entry : Skip) (f : Form B) (make : B → List RawArg) → EntryLaw entry f make → (ys : List B) (bytes : List ℕ) → IsRow (Is f) bytes ys → Skips (behind_entries entry (length ys)) (flat_map make ys)
unfolding behind_entries
entries_skip entry f make law [] bytes h = λ rest. refl
entries_skip entry f make law (y ∷ ys) bytes h = λ rest.
    ap (λ l. entry l >>= behind_entries entry (length ys)) (two_parts (make y) (flat_map make ys) rest)
    ∙ ap (λ o. o >>= behind_entries entry (length ys)) (law h.0 y h.1.1.1 (map tag (flat_map make ys) ++ rest))
    ∙ entries_skip entry f make law ys h.1.0 h.1.1.2 rest

label_law : EntryLaw (behind_one kinds.Label) U32 (λ l. raw.Label l ∷ [])
label_law bytes l h = λ rest. refl

byte_law : EntryLaw (behind_one kinds.Byte) Byte (λ b. raw.Byte b ∷ [])
byte_law bytes b h = λ rest. refl

value_law : EntryLaw behind_value value_type (λ v. raw.Value v ∷ [])
value_law bytes v h = λ rest. refl

after_byte : List RawArg → Bool → Bool → Option (List RawArg)
after_byte xs t u = if t then (behind_one kinds.Tag xs >>= behind_one kinds.Label) else if u then behind_one kinds.Label xs else None

catch_from_read : (b : ℕ) (bytes : List ℕ) (xs : List RawArg) → Is (catch_from b) bytes xs → Skips behind_catch xs
unfolding catch_from after_byte
catch_from_read b bytes xs i =
    elim (chosen (nat_lt b 2) (Made (λ x. raw.Byte b ∷ raw.Tag x.0 ∷ raw.Label x.1 ∷ []) (U32 then U32)) _ bytes xs i) as (λ _. Skips behind_catch xs) [
      | inl c ↦ skips_as behind_catch xs (raw.Byte b ∷ raw.Tag c.1.0.0 ∷ raw.Label c.1.0.1 ∷ []) c.1.1.0
          (λ rest. ap (λ t. after_byte (raw.Tag 0 ∷ raw.Label c.1.0.1 ∷ rest) t (nat_lt b 4)) c.0)
      | inr c ↦ elim (chosen (nat_lt b 4) (Made (λ l. raw.Byte b ∷ raw.Label l ∷ []) U32) Fails bytes xs c.1) as (λ _. Skips behind_catch xs) [
        | inl d ↦ skips_as behind_catch xs (raw.Byte b ∷ raw.Label d.1.0 ∷ []) d.1.1.0
            (λ rest. ap (λ t. after_byte (raw.Label d.1.0 ∷ rest) t (nat_lt b 4)) c.0 ∙ ap (λ u. after_byte (raw.Label d.1.0 ∷ rest) false u) d.0)
        | inr d ↦ absurd d.1
      ]
    ]

catch_law : EntryLaw behind_catch catch_clause (λ x. x)
unfolding catch_clause
catch_law bytes xs i = catch_from_read i.0 i.1.1.0 xs i.1.1.1.2

-- ---- arguments of one kind

counted_skip : {B : Type 0} (entry : Skip) (f : Form B) (make : B → List RawArg) → EntryLaw entry f make → (bytes : List ℕ) (xs : List RawArg) → Is (several make f) bytes xs → Skips (behind_counted entry) xs
counted_skip entry f make law bytes xs i =
    let n = i.0 in
    let made = i.1.1.1.2 in
    let ys = made.0 in
    let row = made.1.1 in
    let p = entries_skip entry f make law ys i.1.1.0 row.0 in
    skips_as (behind_counted entry) xs (raw.Count n ∷ flat_map make ys) made.1.0 (λ rest. ap (λ k. behind_entries entry k (map tag (flat_map make ys) ++ rest)) (sym row.1) ∙ p rest)

one_by_one : (ys : List ℕ) → map raw.Byte ys ≡ flat_map (λ b. raw.Byte b ∷ []) ys
one_by_one [] = refl
one_by_one (y ∷ ys) = ap (λ l. raw.Byte y ∷ l) (one_by_one ys)

sixteen_skip : (bytes : List ℕ) (xs : List RawArg) → Is (Made (map raw.Byte) (Bytes 16)) bytes xs → Skips (behind_entries (behind_one kinds.Byte) 16) xs
sixteen_skip bytes xs i =
    let ys = i.0 in
    let same : ys ≡ bytes = i.1.1.0 in
    let count : length ys ≡ 16 = ap length same ∙ i.1.1.1 in
    let p = entries_skip (behind_one kinds.Byte) Byte (λ b. raw.Byte b ∷ []) byte_law ys ys (row_of_bytes ys) in
    let q = subst (λ n. Skips (behind_entries (behind_one kinds.Byte) n) (flat_map (λ b. raw.Byte b ∷ []) ys)) count p in
    skips_as (behind_entries (behind_one kinds.Byte) 16) xs (flat_map (λ b. raw.Byte b ∷ []) ys) (i.1.0 ∙ one_by_one ys) q

one_skip : (kind : Kind) (xs : List RawArg) (x : RawArg) → xs ≡ x ∷ [] → is_of kind (tag x) ≡ true → Skips (behind_one kind) xs
one_skip kind xs x e is = skips_as (behind_one kind) xs (x ∷ []) e (λ rest. ap (λ t. if t then Some rest else None) is)

access_tag : (x : RawArg) → is_of kinds.Access x ≡ true → is_of kinds.Access (tag x) ≡ true
access_tag (raw.Access flags memory offset) is = is
access_tag x is = absurd cc

kind_skip : (kind : Kind) (bytes : List ℕ) (xs : List RawArg) → Is (arg_form kind) bytes xs → Skips (behind_kind kind) xs
unfolding arg_form
kind_skip kinds.Nothing bytes xs i = skips_as (behind_kind kinds.Nothing) xs [] i.1 (λ rest. refl)
kind_skip kinds.Catches bytes xs i = counted_skip behind_catch catch_clause (λ x. x) catch_law bytes xs i
kind_skip kinds.Labels bytes xs i = counted_skip (behind_one kinds.Label) U32 (λ l. raw.Label l ∷ []) label_law bytes xs i
kind_skip kinds.Values bytes xs i = counted_skip behind_value value_type (λ v. raw.Value v ∷ []) value_law bytes xs i
kind_skip kinds.SixteenBytes bytes xs i = sixteen_skip bytes xs i
kind_skip kinds.Access bytes xs i = let one = access_one bytes xs i in one_skip kinds.Access xs one.0 one.1.0 (access_tag one.0 one.1.1)
kind_skip kinds.Block bytes xs i = one_skip kinds.Block xs (raw.Block i.0) i.1.0 refl
kind_skip kinds.Heap bytes xs i = one_skip kinds.Heap xs (raw.Heap i.0) i.1.0 refl
kind_skip kinds.F32 bytes xs i = one_skip kinds.F32 xs (raw.F32 i.0) i.1.0 refl
kind_skip kinds.F64 bytes xs i = one_skip kinds.F64 xs (raw.F64 i.0) i.1.0 refl
kind_skip kinds.Label bytes xs i = one_skip kinds.Label xs (raw.Label i.0) i.1.0 refl
kind_skip kinds.Function bytes xs i = one_skip kinds.Function xs (raw.Function i.0) i.1.0 refl
kind_skip kinds.«Type» bytes xs i = one_skip kinds.«Type» xs (raw.«Type» i.0) i.1.0 refl
kind_skip kinds.Table bytes xs i = one_skip kinds.Table xs (raw.Table i.0) i.1.0 refl
kind_skip kinds.Memory bytes xs i = one_skip kinds.Memory xs (raw.Memory i.0) i.1.0 refl
kind_skip kinds.Global bytes xs i = one_skip kinds.Global xs (raw.Global i.0) i.1.0 refl
kind_skip kinds.Tag bytes xs i = one_skip kinds.Tag xs (raw.Tag i.0) i.1.0 refl
kind_skip kinds.Element bytes xs i = one_skip kinds.Element xs (raw.Element i.0) i.1.0 refl
kind_skip kinds.Data bytes xs i = one_skip kinds.Data xs (raw.Data i.0) i.1.0 refl
kind_skip kinds.Local bytes xs i = one_skip kinds.Local xs (raw.Local i.0) i.1.0 refl
kind_skip kinds.Number bytes xs i = one_skip kinds.Number xs (raw.Number i.0) i.1.0 refl
kind_skip kinds.Byte bytes xs i = one_skip kinds.Byte xs (raw.Byte i.0) i.1.0 refl
kind_skip kinds.S32 bytes xs i = one_skip kinds.S32 xs (raw.S32 i.0) i.1.0 refl
kind_skip kinds.S64 bytes xs i = one_skip kinds.S64 xs (raw.S64 i.0) i.1.0 refl

-- ---- operators

args_skip : (ks : List Kind) (bytes : List ℕ) (xs : List RawArg) → Is (args_form ks) bytes xs → Skips (behind_kinds ks) xs
unfolding args_form
args_skip [] bytes xs i = skips_as (behind_kinds []) xs [] i.1 (λ rest. refl)
args_skip (kind ∷ ks) bytes xs i =
    let ys = i.0.0 in
    let zs = i.0.1 in
    let parts = i.1.1 in
    let p = kind_skip kind parts.0 ys parts.1.1.1 in
    let q = args_skip ks parts.1.0 zs parts.1.1.2 in
    skips_as (behind_kinds (kind ∷ ks)) xs (ys ++ zs) i.1.0
    (λ rest. ap (λ l. behind_kind kind l >>= behind_kinds ks) (two_parts ys zs rest) ∙ ap (λ o. o >>= behind_kinds ks) (p (map tag zs ++ rest)) ∙ q rest)

abbrev Spells : Op → Type 0
Spells o = spelled_by (kinds_of o.op) (map tag o.args) ≡ true

behind_spells : (op : ℕ) (k : Option (List Kind)) (bytes : List ℕ) (o : Op) → kinds_of op ≡ k → Is (behind op k) bytes o → Spells o
behind_spells op None bytes o e i = absurd i
behind_spells op (Some ks) bytes o e i =
    let xs = i.0 in
    let p = args_skip ks bytes xs i.1.1 in
    let whole : behind_kinds ks (map tag xs) ≡ Some [] = ap (behind_kinds ks) (sym (append-nil (map tag xs))) ∙ p [] in
    subst Spells (sym i.1.0) (ap (λ k. spelled_by k (map tag xs)) e ∙ ap is_done whole)

of_spells : (op : ℕ) (bytes : List ℕ) (o : Op) → Is (operator_of op) bytes o → Spells o
unfolding operator_of
of_spells op bytes o i = behind_spells op (kinds_of op) bytes o refl i

from_spells : (b : ℕ) (bytes : List ℕ) (o : Op) → Is (operator_from b) bytes o → Spells o
unfolding operator_from
from_spells b bytes o i =
    elim (chosen (is_prefix b) (Led (Where (λ n. nat_lt n 65536) U32) (λ n. operator_of (b * 65536 + n))) (operator_of b) bytes o i) as (λ _. Spells o) [
      | inl c ↦ of_spells (b * 65536 + c.1.0) c.1.1.1.0 o c.1.1.1.1.2
      | inr c ↦ of_spells b bytes o c.1
    ]

pub read_spells : (bytes : List ℕ) (o : Op) → Is operator bytes o → spells (tagged o.op o.args) ≡ true
unfolding operator spells
read_spells bytes o i = from_spells i.0 i.1.1.0 o i.1.1.1.2
