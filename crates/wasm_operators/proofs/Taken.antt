-- An operator that was read is one that bytes spell, and its numbers are in their ranges.
use Rattle.std.proofs.Common.{◌≡◌, ℕ, ◌+◌, ◌*◌, ◌<◌, Bool, true, false, List, [], ◌∷◌, ◌++◌, length, map, refl, sym, ap, subst, ◌∙◌, append_assoc, append-nil, inl, inr}
use Rattle.std.specs.Prelude.{Option, Some, None, flat_map, nat_lt, if◌then◌else◌}
use Rattle.wasm_forms.specs.Reading.{◌>>=◌}
use Rattle.wasm_forms.specs.Number.{AreBytes}
use Rattle.wasm_forms.specs.Grammar.{Form, Is, IsRow, Fails, Byte, Bytes, ◌then◌, Led, Made, Where, U32}
use Rattle.wasm_forms.specs.Writing.{EachFits}
use Rattle.wasm_forms.specs.Types.{value_type}
use Rattle.wasm_operators.specs.declared.kind.Kind.{Kind}
use Rattle.wasm_operators.specs.declared.kind.Kind.TheVariants as kinds
use Rattle.wasm_operators.specs.declared.operator.RawArg.{RawArg}
use Rattle.wasm_operators.specs.declared.operator.RawArg.TheVariants as args
use Rattle.wasm_operators.specs.Operators.{Op}
use Rattle.wasm_operators.specs.Table.{kinds_of}
use Rattle.wasm_operators.specs.Forms.{catch_from, catch_clause, several, arg_form, args_form, behind, operator_of, is_prefix, operator_from, operator}
use Rattle.wasm_operators.specs.Standing.{behind_one, behind_value, behind_catch, behind_entries, behind_counted, behind_kind, behind_kinds, is_done, spelled_by, spells, ArgHeld, OpStands}
use Rattle.wasm_operators.proofs.OneRead.{chosen, value_type_read, OneRead, block_one, heap_one, access_one, byte_held, f32_one, f64_one}

abbrev Skip : Type 0
Skip = List RawArg → Option (List RawArg)

abbrev Held : List RawArg → Type 0
Held xs = EachFits ArgHeld xs

held_append : (xs ys : List RawArg) → Held xs → Held ys → Held (xs ++ ys)
held_append [] ys h k = k
held_append (x ∷ xs) ys h k = (h.0, held_append xs ys h.1 k)

bytes_split : (front back : List ℕ) → AreBytes (front ++ back) → AreBytes front × AreBytes back
bytes_split [] back h = (tt, h)
bytes_split (b ∷ front) back h = let p = bytes_split front back h.1 in ((h.0, p.0), p.1)

split : (bytes front back : List ℕ) → AreBytes bytes → bytes ≡ front ++ back → AreBytes front × AreBytes back
split bytes front back h e = bytes_split front back (subst AreBytes e h)

-- ---- entries

-- what was read is skipped, whatever stands behind it
abbrev Skips : Skip → List RawArg → Type 0
Skips skip xs = ((rest : List RawArg) → skip (xs ++ rest) ≡ Some rest) × Held xs

abbrev EntryLaw : {B : Type 0} → Skip → Form B → (B → List RawArg) → Type 0
EntryLaw {B} entry f make = (bytes : List ℕ) (x : B) → AreBytes bytes → Is f bytes x → Skips entry (make x)

entries_skip : {B : Type 0} (entry : Skip) (f : Form B) (make : B → List RawArg) → EntryLaw entry f make → (ys : List B) (bytes : List ℕ) → AreBytes bytes → IsRow (Is f) bytes ys → Skips (behind_entries entry (length ys)) (flat_map make ys)
unfolding behind_entries
entries_skip entry f make law [] bytes a h = (λ rest. refl, tt)
entries_skip entry f make law (y ∷ ys) bytes a h =
    let s = split bytes h.0 h.1.0 a h.1.1.0 in
    let p = law h.0 y s.0 h.1.1.1 in
    let q = entries_skip entry f make law ys h.1.0 s.1 h.1.1.2 in (
      λ rest.
          ap (λ l. entry l >>= behind_entries entry (length ys)) (append_assoc (make y) (flat_map make ys) rest) ∙ ap (λ o. o >>= behind_entries entry (length ys)) (p.0 (flat_map make ys ++ rest)) ∙ q.0 rest,
      held_append (make y) (flat_map make ys) p.1 q.1,
    )

label_law : EntryLaw (behind_one kinds.Label) U32 (λ l. args.Label l ∷ [])
label_law bytes l a h = (λ rest. refl, (h.small, tt))

byte_law : EntryLaw (behind_one kinds.Byte) Byte (λ b. args.Byte b ∷ [])
byte_law bytes b a h = (λ rest. refl, (byte_held bytes b a h, tt))

value_law : EntryLaw behind_value value_type (λ v. args.Value v ∷ [])
value_law bytes v a h =
    let r = value_type_read bytes v h in
    (λ rest. ap (λ t. if t then Some rest else None) r.0, (r.1, tt))

abbrev Catches : List RawArg → Type 0
Catches xs = Skips behind_catch xs

catches_as : (xs ys : List RawArg) → xs ≡ ys → Catches ys → Catches xs
catches_as xs ys e h = subst Catches (sym e) h

after_byte : ℕ → List RawArg → Bool → Bool → Option (List RawArg)
after_byte b xs t u = if t then (behind_one kinds.Tag xs >>= behind_one kinds.Label) else if u then behind_one kinds.Label xs else None

catch_from_read : (b : ℕ) (bytes : List ℕ) (xs : List RawArg) → b < 256 → Is (catch_from b) bytes xs → Catches xs
unfolding catch_from after_byte
catch_from_read b bytes xs h i =
    elim (chosen (nat_lt b 2) (Made (λ x. args.Byte b ∷ args.Tag x.0 ∷ args.Label x.1 ∷ []) (U32 then U32)) _ bytes xs i) as (λ _. Catches xs) [
      | inl c ↦ catches_as xs (args.Byte b ∷ args.Tag c.1.0.0 ∷ args.Label c.1.0.1 ∷ []) c.1.1.0
          (λ rest. ap (λ t. after_byte b (args.Tag c.1.0.0 ∷ args.Label c.1.0.1 ∷ rest) t (nat_lt b 4)) c.0, (h, (c.1.1.1.1.1.1.small, (c.1.1.1.1.1.2.small, tt))))
      | inr c ↦ elim (chosen (nat_lt b 4) (Made (λ l. args.Byte b ∷ args.Label l ∷ []) U32) Fails bytes xs c.1) as (λ _. Catches xs) [
        | inl d ↦ catches_as xs (args.Byte b ∷ args.Label d.1.0 ∷ []) d.1.1.0
            (λ rest. ap (λ t. after_byte b (args.Label d.1.0 ∷ rest) t (nat_lt b 4)) c.0 ∙ ap (λ u. after_byte b (args.Label d.1.0 ∷ rest) false u) d.0, (h, (d.1.1.1.small, tt)))
        | inr d ↦ absurd d.1
      ]
    ]

catch_law : EntryLaw behind_catch catch_clause (λ x. x)
unfolding catch_clause
catch_law bytes xs a i =
    let s = split bytes i.1.0 i.1.1.0 a i.1.1.1.0 in
    catch_from_read i.0 i.1.1.0 xs (byte_held i.1.0 i.0 s.0 i.1.1.1.1) i.1.1.1.2

-- ---- arguments of one kind

skips_as : (skip : Skip) (xs ys : List RawArg) → xs ≡ ys → Skips skip ys → Skips skip xs
skips_as skip xs ys e h = subst (Skips skip) (sym e) h

counted_skip : {B : Type 0} (entry : Skip) (f : Form B) (make : B → List RawArg) → EntryLaw entry f make → (bytes : List ℕ) (xs : List RawArg) → AreBytes bytes → Is (several make f) bytes xs → Skips (behind_counted entry) xs
counted_skip entry f make law bytes xs a i =
    let n = i.0 in
    let s = split bytes i.1.0 i.1.1.0 a i.1.1.1.0 in
    let made = i.1.1.1.2 in
    let ys = made.0 in
    let row = made.1.1 in
    let p = entries_skip entry f make law ys i.1.1.0 s.1 row.0 in
    skips_as (behind_counted entry) xs (args.Count n ∷ flat_map make ys) made.1.0 (λ rest. ap (λ k. behind_entries entry k (flat_map make ys ++ rest)) (sym row.1) ∙ p.0 rest, (i.1.1.1.1.small, p.1))

pub row_of_bytes : (ys : List ℕ) → IsRow (Is Byte) ys ys
row_of_bytes [] = refl
row_of_bytes (y ∷ ys) = (y ∷ [], (ys, (refl, refl, row_of_bytes ys)))

one_by_one : (ys : List ℕ) → map args.Byte ys ≡ flat_map (λ b. args.Byte b ∷ []) ys
one_by_one [] = refl
one_by_one (y ∷ ys) = ap (λ l. args.Byte y ∷ l) (one_by_one ys)

sixteen_skip : (bytes : List ℕ) (xs : List RawArg) → AreBytes bytes → Is (Made (map args.Byte) (Bytes 16)) bytes xs → Skips (behind_entries (behind_one kinds.Byte) 16) xs
sixteen_skip bytes xs a i =
    let ys = i.0 in
    let same : ys ≡ bytes = i.1.1.0 in
    let count : length ys ≡ 16 = ap length same ∙ i.1.1.1 in
    let p = entries_skip (behind_one kinds.Byte) Byte (λ b. args.Byte b ∷ []) byte_law ys ys (subst AreBytes (sym same) a) (row_of_bytes ys) in
    let q = subst (λ n. Skips (behind_entries (behind_one kinds.Byte) n) (flat_map (λ b. args.Byte b ∷ []) ys)) count p in
    skips_as (behind_entries (behind_one kinds.Byte) 16) xs (flat_map (λ b. args.Byte b ∷ []) ys) (i.1.0 ∙ one_by_one ys) q

one_skip : (kind : Kind) (xs : List RawArg) → OneRead kind xs → Skips (behind_one kind) xs
one_skip kind xs r = skips_as (behind_one kind) xs (r.0 ∷ []) r.1.0 (λ rest. ap (λ t. if t then Some rest else None) r.1.1, (r.1.2, tt))

kind_skip : (kind : Kind) (bytes : List ℕ) (xs : List RawArg) → AreBytes bytes → Is (arg_form kind) bytes xs → Skips (behind_kind kind) xs
unfolding arg_form
kind_skip kinds.Nothing bytes xs a i = skips_as (behind_kind kinds.Nothing) xs [] i.1 (λ rest. refl, tt)
kind_skip kinds.Catches bytes xs a i = counted_skip behind_catch catch_clause (λ x. x) catch_law bytes xs a i
kind_skip kinds.Labels bytes xs a i = counted_skip (behind_one kinds.Label) U32 (λ l. args.Label l ∷ []) label_law bytes xs a i
kind_skip kinds.Values bytes xs a i = counted_skip behind_value value_type (λ v. args.Value v ∷ []) value_law bytes xs a i
kind_skip kinds.SixteenBytes bytes xs a i = sixteen_skip bytes xs a i
kind_skip kinds.Block bytes xs a i = one_skip kinds.Block xs (block_one bytes xs i)
kind_skip kinds.Heap bytes xs a i = one_skip kinds.Heap xs (heap_one bytes xs i)
kind_skip kinds.Access bytes xs a i = one_skip kinds.Access xs (access_one bytes xs i)
kind_skip kinds.F32 bytes xs a i = one_skip kinds.F32 xs (f32_one bytes xs a i)
kind_skip kinds.F64 bytes xs a i = one_skip kinds.F64 xs (f64_one bytes xs a i)
kind_skip kinds.Label bytes xs a i = one_skip kinds.Label xs (args.Label i.0, (i.1.0, refl, i.1.1.small))
kind_skip kinds.Function bytes xs a i = one_skip kinds.Function xs (args.Function i.0, (i.1.0, refl, i.1.1.small))
kind_skip kinds.«Type» bytes xs a i = one_skip kinds.«Type» xs (args.«Type» i.0, (i.1.0, refl, i.1.1.small))
kind_skip kinds.Table bytes xs a i = one_skip kinds.Table xs (args.Table i.0, (i.1.0, refl, i.1.1.small))
kind_skip kinds.Memory bytes xs a i = one_skip kinds.Memory xs (args.Memory i.0, (i.1.0, refl, i.1.1.small))
kind_skip kinds.Global bytes xs a i = one_skip kinds.Global xs (args.Global i.0, (i.1.0, refl, i.1.1.small))
kind_skip kinds.Tag bytes xs a i = one_skip kinds.Tag xs (args.Tag i.0, (i.1.0, refl, i.1.1.small))
kind_skip kinds.Element bytes xs a i = one_skip kinds.Element xs (args.Element i.0, (i.1.0, refl, i.1.1.small))
kind_skip kinds.Data bytes xs a i = one_skip kinds.Data xs (args.Data i.0, (i.1.0, refl, i.1.1.small))
kind_skip kinds.Local bytes xs a i = one_skip kinds.Local xs (args.Local i.0, (i.1.0, refl, i.1.1.small))
kind_skip kinds.Number bytes xs a i = one_skip kinds.Number xs (args.Number i.0, (i.1.0, refl, i.1.1.small))
kind_skip kinds.Byte bytes xs a i = one_skip kinds.Byte xs (args.Byte i.0, (i.1.0, refl, byte_held bytes i.0 a i.1.1))
kind_skip kinds.S32 bytes xs a i = one_skip kinds.S32 xs (args.S32 i.0, (i.1.0, refl, i.1.1.small))
kind_skip kinds.S64 bytes xs a i = one_skip kinds.S64 xs (args.S64 i.0, (i.1.0, refl, i.1.1.small))

-- ---- all arguments of an operator

args_skip : (ks : List Kind) (bytes : List ℕ) (xs : List RawArg) → AreBytes bytes → Is (args_form ks) bytes xs → Skips (behind_kinds ks) xs
unfolding args_form
args_skip [] bytes xs a i = skips_as (behind_kinds []) xs [] i.1 (λ rest. refl, tt)
args_skip (kind ∷ ks) bytes xs a i =
    let ys = i.0.0 in
    let zs = i.0.1 in
    let parts = i.1.1 in
    let s = split bytes parts.0 parts.1.0 a parts.1.1.0 in
    let p = kind_skip kind parts.0 ys s.0 parts.1.1.1 in
    let q = args_skip ks parts.1.0 zs s.1 parts.1.1.2 in
    skips_as (behind_kinds (kind ∷ ks)) xs (ys ++ zs) i.1.0 (
      λ rest. ap (λ l. behind_kind kind l >>= behind_kinds ks) (append_assoc ys zs rest) ∙ ap (λ o. o >>= behind_kinds ks) (p.0 (zs ++ rest)) ∙ q.0 rest,
      held_append ys zs p.1 q.1,
    )

-- ---- operators

abbrev Good : Op → Type 0
Good o = (spelled_by (kinds_of o.op) o.args ≡ true) × OpStands o

behind_good : (op : ℕ) (k : Option (List Kind)) (bytes : List ℕ) (o : Op) → kinds_of op ≡ k → AreBytes bytes → Is (behind op k) bytes o → Good o
behind_good op None bytes o e a i = absurd i
behind_good op (Some ks) bytes o e a i =
    let xs = i.0 in
    let p = args_skip ks bytes xs a i.1.1 in
    let whole : behind_kinds ks xs ≡ Some [] = ap (behind_kinds ks) (sym (append-nil xs)) ∙ p.0 [] in
    subst Good (sym i.1.0) (ap (λ k. spelled_by k xs) e ∙ ap is_done whole, p.1)

of_good : (op : ℕ) (bytes : List ℕ) (o : Op) → AreBytes bytes → Is (operator_of op) bytes o → Good o
unfolding operator_of
of_good op bytes o a i = behind_good op (kinds_of op) bytes o refl a i

from_good : (b : ℕ) (bytes : List ℕ) (o : Op) → AreBytes bytes → Is (operator_from b) bytes o → Good o
unfolding operator_from
from_good b bytes o a i =
    elim (chosen (is_prefix b) (Led (Where (λ n. nat_lt n 65536) U32) (λ n. operator_of (b * 65536 + n))) (operator_of b) bytes o i) as (λ _. Good o) [
      | inl c ↦ of_good (b * 65536 + c.1.0) c.1.1.1.0 o (split bytes c.1.1.0 c.1.1.1.0 a c.1.1.1.1.0).1 c.1.1.1.1.2
      | inr c ↦ of_good b bytes o a c.1
    ]

pub operator_good : (bytes : List ℕ) (o : Op) → AreBytes bytes → Is operator bytes o → (spells o ≡ true) × OpStands o
unfolding operator spells
operator_good bytes o a i = from_good i.0 i.1.1.0 o (split bytes i.1.0 i.1.1.0 a i.1.1.1.0).1 i.1.1.1.2
