-- What is spelled for an operator stands in the form of operators.
use Rattle.std.proofs.Common.{◌≡◌, ℕ, zero, suc, ◌+◌, ◌*◌, ◌/◌, ◌%◌, ◌<◌, ◌≤◌, Bool, true, false, List, [], ◌∷◌, ◌++◌, length, map, refl, sym, ap, ap₂, subst, ◌∙◌, arith, append_assoc, append-nil, lt-ltb, le-ltb, ltb, ltb-true, ltb-false, ◌⊎◌, inl, inr}
use Rattle.std.specs.Prelude.{Option, Some, None, flat_map, nat_lt, nat_le, ◌&&◌, if◌then◌else◌}
use Rattle.std.proofs.lemmas.Bool.{le-leb, lt-leb, and_parts as and_both}
use Rattle.wasm_opcodes.specs.declared.one_byte.TheConstants.{PREFIX_FB, PREFIX_FE}
use Rattle.wasm_forms.specs.Reading.{◌>>=◌}
use Rattle.wasm_forms.specs.Grammar.{Form, Is, IsRow, Fails, Byte, Bytes, ◌then◌, Led, Made, Where, U32}
use Rattle.wasm_forms.specs.Writing.{EachFits}
use Rattle.wasm_forms.specs.Spelling.{number_bytes, row_bytes}
use Rattle.wasm_forms.specs.Types.{value_type}
use Rattle.wasm_forms.specs.declared.types.RawVal.{RawVal}
use Rattle.wasm_forms.proofs.Bind.{some_same, bind_some}
use Rattle.wasm_forms.proofs.Spelled.{number_stands}
use Rattle.wasm_forms.proofs.Stands.{value_stands, first_stands, second_stands}
use Rattle.wasm_operators.specs.declared.kind.Kind.{Kind}
use Rattle.wasm_operators.specs.declared.kind.Kind.TheVariants as kinds
use Rattle.wasm_operators.specs.declared.operator.RawArg.{RawArg}
use Rattle.wasm_operators.specs.declared.operator.RawArg.TheVariants as args
use Rattle.wasm_operators.specs.Operators.{Op}
use Rattle.wasm_operators.specs.Table.{Row as TableRow, table, kinds_in, kinds_of}
use Rattle.wasm_operators.specs.Forms.{catch_from, catch_clause, several, arg_form, args_form, behind, operator_of, is_prefix, operator_from, operator}
use Rattle.wasm_operators.specs.Spelling.{arg_bytes, code_bytes, op_bytes}
use Rattle.wasm_operators.specs.Standing.{value_spells, is_of, behind_one, behind_value, behind_catch, behind_entries, behind_counted, behind_kind, behind_kinds, is_done, spelled_by, spells, ArgHeld, OpStands}
use Rattle.wasm_operators.proofs.Lookup.{kinds_within, past}
use Rattle.wasm_operators.proofs.OneStands.{value_made, one_stands}

abbrev Skip : Type 0
Skip = List RawArg → Option (List RawArg)

abbrev Held : List RawArg → Type 0
Held xs = EachFits ArgHeld xs

abbrev spelled : List RawArg → List ℕ
spelled xs = row_bytes arg_bytes xs

spelled-append : (xs ys : List RawArg) → spelled (xs ++ ys) ≡ spelled xs ++ spelled ys
spelled-append [] ys = refl
spelled-append (x ∷ xs) ys = ap (λ l. arg_bytes x ++ l) (spelled-append xs ys) ∙ sym (append_assoc (arg_bytes x) (spelled xs) (spelled ys))

-- one argument is spelled as itself
spelled_one : {A : Type 0} (f : Form A) (arg : RawArg) (a : A) → Is f (arg_bytes arg) a → Is f (spelled (arg ∷ [])) a
spelled_one f arg a h = subst (λ l. Is f l a) (sym (append-nil (arg_bytes arg))) h

-- ---- an argument in front

abbrev Front : Kind → List RawArg → List RawArg → Type 0
Front kind xs rest = (arg : RawArg) × ((xs ≡ arg ∷ rest) × (is_of kind arg ≡ true))

front_at : (kind : Kind) (arg : RawArg) (xs rest : List RawArg) (t : Bool) → is_of kind arg ≡ t → (if t then Some xs else None) ≡ Some rest → Front kind (arg ∷ xs) rest
front_at kind arg xs rest true h e = (arg, (ap (λ l. arg ∷ l) (some_same xs rest e), h))
front_at kind arg xs rest false h e = cc

front : (kind : Kind) (xs rest : List RawArg) → behind_one kind xs ≡ Some rest → Front kind xs rest
front kind [] rest e = cc
front kind (arg ∷ xs) rest e = front_at kind arg xs rest (is_of kind arg) refl e

held_front : (arg : RawArg) (xs rest : List RawArg) → xs ≡ arg ∷ rest → Held xs → ArgHeld arg × Held rest
held_front arg xs rest e h = subst Held e h

label_of : (arg : RawArg) → is_of kinds.Label arg ≡ true → (l : ℕ) × (arg ≡ args.Label l)
label_of (args.Label l) h = (l, refl)
label_of arg h = cc

tag_of : (arg : RawArg) → is_of kinds.Tag arg ≡ true → (l : ℕ) × (arg ≡ args.Tag l)
tag_of (args.Tag l) h = (l, refl)
tag_of arg h = cc

byte_of : (arg : RawArg) → is_of kinds.Byte arg ≡ true → (b : ℕ) × (arg ≡ args.Byte b)
byte_of (args.Byte b) h = (b, refl)
byte_of arg h = cc

-- ---- entries

-- what is skipped as an entry is the arguments of a value that stands in the form
abbrev Stands : {B : Type 0} → Form B → (B → List RawArg) → List RawArg → List RawArg → Type 0
Stands {B} f make xs rest = (x : B) × ((xs ≡ make x ++ rest) × Is f (spelled (make x)) x × Held rest)

abbrev EntryLaw : {B : Type 0} → Skip → Form B → (B → List RawArg) → Type 0
EntryLaw entry f make = (xs rest : List RawArg) → entry xs ≡ Some rest → Held xs → Stands f make xs rest

abbrev RowStands : {B : Type 0} → Form B → (B → List RawArg) → ℕ → List RawArg → List RawArg → Type 0
RowStands {B} f make n xs rest = (ys : List B) × ((xs ≡ flat_map make ys ++ rest) × IsRow (Is f) (spelled (flat_map make ys)) ys × (length ys ≡ n) × Held rest)

entries_stand : {B : Type 0} (entry : Skip) (f : Form B) (make : B → List RawArg) → EntryLaw entry f make → (n : ℕ) (xs rest : List RawArg) → behind_entries entry n xs ≡ Some rest → Held xs → RowStands f make n xs rest
unfolding behind_entries
entries_stand entry f make law zero xs rest e h = let p : xs ≡ rest = some_same xs rest e in ([], (p, refl, refl, subst Held p h))
entries_stand entry f make law (suc n) xs rest e h =
    let p = bind_some (entry xs) (behind_entries entry n) rest e in
    let mid = p.0 in
    let l = law xs mid p.1 h in
    let m = entries_stand entry f make law n mid rest p.2 l.1.2 in
    let x = l.0 in
    let ys = m.0 in
    let whole : xs ≡ (make x ++ flat_map make ys) ++ rest = l.1.0 ∙ ap (λ l. make x ++ l) m.1.0 ∙ sym (append_assoc (make x) (flat_map make ys) rest) in
    (x ∷ ys, (whole, (spelled (make x), (spelled (flat_map make ys), (spelled-append (make x) (flat_map make ys), l.1.1, m.1.1))), ap suc m.1.2, m.1.3))

label_law : EntryLaw (behind_one kinds.Label) U32 (λ l. args.Label l ∷ [])
label_law xs rest e h =
    let p = front kinds.Label xs rest e in
    let q = label_of p.0 p.1.1 in
    let same : xs ≡ args.Label q.0 ∷ rest = p.1.0 ∙ ap (λ a. a ∷ rest) q.1 in
    let k = held_front (args.Label q.0) xs rest same h in
    (q.0, (same, spelled_one U32 (args.Label q.0) q.0 (number_stands q.0 k.0), k.1))

byte_law : EntryLaw (behind_one kinds.Byte) Byte (λ b. args.Byte b ∷ [])
byte_law xs rest e h =
    let p = front kinds.Byte xs rest e in
    let q = byte_of p.0 p.1.1 in
    let same : xs ≡ args.Byte q.0 ∷ rest = p.1.0 ∙ ap (λ a. a ∷ rest) q.1 in
    let k = held_front (args.Byte q.0) xs rest same h in
    (q.0, (same, refl, k.1))

value_at : (v : RawVal) (xs rest : List RawArg) (t : Bool) → value_spells v ≡ t → (if t then Some xs else None) ≡ Some rest → ArgHeld (args.Value v) → Held xs → Stands value_type (λ v. args.Value v ∷ []) (args.Value v ∷ xs) rest
value_at v xs rest true s e h k =
    let p : xs ≡ rest = some_same xs rest e in
    (v, (ap (λ l. args.Value v ∷ l) p, spelled_one value_type (args.Value v) v (value_stands v (value_made v s h)), subst Held p k))
value_at v xs rest false s e h k = cc

value_law : EntryLaw behind_value value_type (λ v. args.Value v ∷ [])
value_law (args.Value v ∷ xs) rest e h = value_at v xs rest (value_spells v) refl e h.0 h.1
value_law xs rest e h = cc

abbrev CatchStands : ℕ → List RawArg → List RawArg → Type 0
CatchStands b xs rest = Stands catch_clause (λ x. x) (args.Byte b ∷ xs) rest

with_tag : (b t l : ℕ) → nat_lt b 2 ≡ true → t < 4294967296 → l < 4294967296 → Is catch_clause (spelled (args.Byte b ∷ args.Tag t ∷ args.Label l ∷ [])) (args.Byte b ∷ args.Tag t ∷ args.Label l ∷ [])
unfolding catch_clause catch_from
with_tag b t l s h k =
    let back = number_bytes t ++ (number_bytes l ++ []) in
    let label : Is U32 (number_bytes l ++ []) l = subst (λ y. Is U32 y l) (sym (append-nil (number_bytes l))) (number_stands l k) in (
      b,
      (
        b ∷ [],
        (
          back,
          (
            refl,
            refl,
            first_stands (nat_lt b 2) (Made (λ x. args.Byte b ∷ args.Tag x.0 ∷ args.Label x.1 ∷ []) (U32 then U32)) _ back (args.Byte b ∷ args.Tag t ∷ args.Label l ∷ []) s
                ((t, l), (refl, (number_bytes t, (number_bytes l ++ [], (refl, number_stands t h, label))))),
          ),
        ),
      ),
    )

without_tag : (b l : ℕ) → nat_lt b 2 ≡ false → nat_lt b 4 ≡ true → l < 4294967296 → Is catch_clause (spelled (args.Byte b ∷ args.Label l ∷ [])) (args.Byte b ∷ args.Label l ∷ [])
unfolding catch_clause catch_from
without_tag b l s r k =
    let label : Is U32 (number_bytes l ++ []) l = subst (λ y. Is U32 y l) (sym (append-nil (number_bytes l))) (number_stands l k) in (
      b,
      (
        b ∷ [],
        (
          number_bytes l ++ [],
          (
            refl,
            refl,
            second_stands (nat_lt b 2) (Made (λ x. args.Byte b ∷ args.Tag x.0 ∷ args.Label x.1 ∷ []) (U32 then U32)) _ (number_bytes l ++ []) (args.Byte b ∷ args.Label l ∷ []) s
                (first_stands (nat_lt b 4) (Made (λ l. args.Byte b ∷ args.Label l ∷ []) U32) Fails (number_bytes l ++ []) (args.Byte b ∷ args.Label l ∷ []) r (l, (refl, label))),
          ),
        ),
      ),
    )

catch_at : (b : ℕ) (xs rest : List RawArg) (t u : Bool) → nat_lt b 2 ≡ t → nat_lt b 4 ≡ u
    → (if t then (behind_one kinds.Tag xs >>= behind_one kinds.Label) else if u then behind_one kinds.Label xs else None) ≡ Some rest → Held xs → CatchStands b xs rest
catch_at b xs rest true u s r e h =
    let p = bind_some (behind_one kinds.Tag xs) (behind_one kinds.Label) rest e in
    let a = front kinds.Tag xs p.0 p.1 in
    let q = tag_of a.0 a.1.1 in
    let same : xs ≡ args.Tag q.0 ∷ p.0 = a.1.0 ∙ ap (λ x. x ∷ p.0) q.1 in
    let k = held_front (args.Tag q.0) xs p.0 same h in
    let l = label_law p.0 rest p.2 k.1 in
    let m = held_front (args.Label l.0) p.0 rest l.1.0 k.1 in
    let whole : args.Byte b ∷ xs ≡ args.Byte b ∷ args.Tag q.0 ∷ args.Label l.0 ∷ rest = ap (λ y. args.Byte b ∷ y) (same ∙ ap (λ y. args.Tag q.0 ∷ y) l.1.0) in
    (args.Byte b ∷ args.Tag q.0 ∷ args.Label l.0 ∷ [], (whole, with_tag b q.0 l.0 s k.0 m.0, l.1.2))
catch_at b xs rest false true s r e h =
    let l = label_law xs rest e h in
    let m = held_front (args.Label l.0) xs rest l.1.0 h in
    let whole : args.Byte b ∷ xs ≡ args.Byte b ∷ args.Label l.0 ∷ rest = ap (λ y. args.Byte b ∷ y) l.1.0 in
    (args.Byte b ∷ args.Label l.0 ∷ [], (whole, without_tag b l.0 s r m.0, l.1.2))
catch_at b xs rest false false s r e h = cc

catch_law : EntryLaw behind_catch catch_clause (λ x. x)
catch_law (args.Byte b ∷ xs) rest e h = catch_at b xs rest (nat_lt b 2) (nat_lt b 4) refl refl e h.1
catch_law xs rest e h = cc

-- ---- arguments of one kind

abbrev FormStands : Form (List RawArg) → List RawArg → List RawArg → Type 0
FormStands f xs rest = (ys : List RawArg) × ((xs ≡ ys ++ rest) × Is f (spelled ys) ys × Held rest)

counted_stand : {B : Type 0} (entry : Skip) (f : Form B) (make : B → List RawArg) → EntryLaw entry f make → (xs rest : List RawArg) → behind_counted entry xs ≡ Some rest → Held xs → FormStands (several make f) xs rest
counted_stand entry f make law (args.Count n ∷ xs) rest e h =
    let m = entries_stand entry f make law n xs rest e h.1 in
    let ys = flat_map make m.0 in
    (args.Count n ∷ ys, (ap (λ l. args.Count n ∷ l) m.1.0, (n, (number_bytes n, (spelled ys, (refl, number_stands n h.0, (m.0, (refl, (m.1.1, m.1.2))))))), m.1.3))
counted_stand entry f make law xs rest e h = cc

bytes_of_row : (bytes ys : List ℕ) → IsRow (Is Byte) bytes ys → ys ≡ bytes
bytes_of_row bytes [] h = sym h
bytes_of_row bytes (y ∷ ys) h = sym (h.1.1.0 ∙ ap (λ l. l ++ h.1.0) h.1.1.1 ∙ ap (λ l. y ∷ l) (sym (bytes_of_row h.1.0 ys h.1.1.2)))

one_by_one : (ys : List ℕ) → flat_map (λ b. args.Byte b ∷ []) ys ≡ map args.Byte ys
one_by_one [] = refl
one_by_one (y ∷ ys) = ap (λ l. args.Byte y ∷ l) (one_by_one ys)

sixteen_stand : (xs rest : List RawArg) → behind_entries (behind_one kinds.Byte) 16 xs ≡ Some rest → Held xs → FormStands (Made (map args.Byte) (Bytes 16)) xs rest
sixteen_stand xs rest e h =
    let m = entries_stand (behind_one kinds.Byte) Byte (λ b. args.Byte b ∷ []) byte_law 16 xs rest e h in
    let same = bytes_of_row (spelled (flat_map (λ b. args.Byte b ∷ []) m.0)) m.0 m.1.1 in
    (flat_map (λ b. args.Byte b ∷ []) m.0, (m.1.0, (m.0, (one_by_one m.0, (same, ap length (sym same) ∙ m.1.2))), m.1.3))

one_stand : (kind : Kind) (xs rest : List RawArg) → behind_one kind xs ≡ Some rest → Held xs → FormStands (arg_form kind) xs rest
one_stand kind xs rest e h =
    let p = front kind xs rest e in
    let k = held_front p.0 xs rest p.1.0 h in
    (p.0 ∷ [], (p.1.0, spelled_one (arg_form kind) p.0 (p.0 ∷ []) (one_stands kind p.0 p.1.1 k.0), k.1))

none_stand : (xs rest : List RawArg) → Some xs ≡ Some rest → Held xs → (xs ≡ rest) × Held rest
none_stand xs rest e h = let p : xs ≡ rest = some_same xs rest e in (p, subst Held p h)

kind_stand : (kind : Kind) (xs rest : List RawArg) → behind_kind kind xs ≡ Some rest → Held xs → FormStands (arg_form kind) xs rest
unfolding arg_form
kind_stand kinds.Nothing xs rest e h = let p = none_stand xs rest e h in ([], (p.0, (refl, refl), p.1))
kind_stand kinds.Catches xs rest e h = counted_stand behind_catch catch_clause (λ x. x) catch_law xs rest e h
kind_stand kinds.Labels xs rest e h = counted_stand (behind_one kinds.Label) U32 (λ l. args.Label l ∷ []) label_law xs rest e h
kind_stand kinds.Values xs rest e h = counted_stand behind_value value_type (λ v. args.Value v ∷ []) value_law xs rest e h
kind_stand kinds.SixteenBytes xs rest e h = sixteen_stand xs rest e h
kind_stand kinds.Block xs rest e h = one_stand kinds.Block xs rest e h
kind_stand kinds.Label xs rest e h = one_stand kinds.Label xs rest e h
kind_stand kinds.Function xs rest e h = one_stand kinds.Function xs rest e h
kind_stand kinds.«Type» xs rest e h = one_stand kinds.«Type» xs rest e h
kind_stand kinds.Table xs rest e h = one_stand kinds.Table xs rest e h
kind_stand kinds.Memory xs rest e h = one_stand kinds.Memory xs rest e h
kind_stand kinds.Global xs rest e h = one_stand kinds.Global xs rest e h
kind_stand kinds.Tag xs rest e h = one_stand kinds.Tag xs rest e h
kind_stand kinds.Element xs rest e h = one_stand kinds.Element xs rest e h
kind_stand kinds.Data xs rest e h = one_stand kinds.Data xs rest e h
kind_stand kinds.Local xs rest e h = one_stand kinds.Local xs rest e h
kind_stand kinds.Access xs rest e h = one_stand kinds.Access xs rest e h
kind_stand kinds.Heap xs rest e h = one_stand kinds.Heap xs rest e h
kind_stand kinds.Number xs rest e h = one_stand kinds.Number xs rest e h
kind_stand kinds.Byte xs rest e h = one_stand kinds.Byte xs rest e h
kind_stand kinds.S32 xs rest e h = one_stand kinds.S32 xs rest e h
kind_stand kinds.S64 xs rest e h = one_stand kinds.S64 xs rest e h
kind_stand kinds.F32 xs rest e h = one_stand kinds.F32 xs rest e h
kind_stand kinds.F64 xs rest e h = one_stand kinds.F64 xs rest e h

-- ---- all arguments of an operator

args_stand : (ks : List Kind) (xs rest : List RawArg) → behind_kinds ks xs ≡ Some rest → Held xs → FormStands (args_form ks) xs rest
unfolding args_form
args_stand [] xs rest e h = let p = none_stand xs rest e h in ([], (p.0, (refl, refl), p.1))
args_stand (kind ∷ ks) xs rest e h =
    let p = bind_some (behind_kind kind xs) (behind_kinds ks) rest e in
    let a = kind_stand kind xs p.0 p.1 h in
    let b = args_stand ks p.0 rest p.2 a.1.2 in
    let whole : xs ≡ (a.0 ++ b.0) ++ rest = a.1.0 ∙ ap (λ l. a.0 ++ l) b.1.0 ∙ sym (append_assoc a.0 b.0 rest) in
    (a.0 ++ b.0, (whole, ((a.0, b.0), (refl, (spelled a.0, (spelled b.0, (spelled-append a.0 b.0, a.1.1, b.1.1))))), b.1.2))

done : (o : Option (List RawArg)) → is_done o ≡ true → o ≡ Some []
done None e = cc
done (Some []) e = refl
done (Some (x ∷ xs)) e = cc

whole_stands : (ks : List Kind) (xs : List RawArg) → is_done (behind_kinds ks xs) ≡ true → Held xs → Is (args_form ks) (spelled xs) xs
whole_stands ks xs e h =
    let p = args_stand ks xs [] (done (behind_kinds ks xs) e) h in
    let same : xs ≡ p.0 = p.1.0 ∙ append-nil p.0 in
    subst (λ l. Is (args_form ks) (spelled l) l) (sym same) p.1.1

-- ---- operators

behind_stands : (o : Op) (k : Option (List Kind)) → spelled_by k o.args ≡ true → Held o.args → Is (behind o.op k) (spelled o.args) o
behind_stands o None s h = cc
behind_stands o (Some ks) s h = (o.args, (refl, whole_stands ks o.args s h))

-- where the operators of the table lie: below D7, or behind the bytes FB to FE
abbrev Lies : ℕ → Type 0
Lies op = (op < 215) ⊎ ((16449536 ≤ op) × (op < 16711680))

abbrev all_below : ℕ → List TableRow → Bool
all_below n [] = true
all_below n (row ∷ rows) = nat_lt row.last n && all_below n rows

above : (n op : ℕ) (rows : List TableRow) → all_below n rows ≡ true → n ≤ op → kinds_in rows op ≡ None
above n op [] e h = refl
above n op (row ∷ rows) e h =
    let p = and_both (nat_lt row.last n) (all_below n rows) e in
    let l : row.last < n = ltb-true row.last n p.0 in
    past row rows op None (omega arith) (above n op rows p.1 h)

none_between : (op : ℕ) → 215 ≤ op → op < 16449536 → kinds_of op ≡ None
unfolding kinds_of
none_between op l h = kinds_within table op 215 16449535 None l (omega arith) refl

none_above : (op : ℕ) → 16711680 ≤ op → kinds_of op ≡ None
unfolding kinds_of
none_above op h = above 16711680 op table refl h

not_spelled : (o : Op) → kinds_of o.op ≡ None → spelled_by (kinds_of o.op) o.args ≡ true → ⊥
not_spelled o e s = let q : false ≡ true = ap (λ k. spelled_by k o.args) (sym e) ∙ s in cc

lies_at : (o : Op) → spelled_by (kinds_of o.op) o.args ≡ true → (t u v : Bool) → ltb o.op 215 ≡ t → ltb o.op 16449536 ≡ u → ltb o.op 16711680 ≡ v → Lies o.op
lies_at o s true u v p q r = inl (ltb-true o.op 215 p)
lies_at o s false true v p q r = absurd (not_spelled o (none_between o.op (ltb-false o.op 215 p) (ltb-true o.op 16449536 q)) s)
lies_at o s false false true p q r = inr (ltb-false o.op 16449536 q, ltb-true o.op 16711680 r)
lies_at o s false false false p q r = absurd (not_spelled o (none_above o.op (ltb-false o.op 16711680 r)) s)

code_low : (op : ℕ) → op < 215 → code_bytes op ≡ op ∷ []
code_low op h =
    let byte : op % 256 ≡ op = omega arith in
    ap (λ t. if t then (op % 256) ∷ [] else ((op / 65536) % 256) ∷ number_bytes (op % 65536)) (lt-ltb op 65536 (omega arith)) ∙ ap (λ b. b ∷ []) byte

code_high : (op : ℕ) → 16449536 ≤ op → op < 16711680 → code_bytes op ≡ op / 65536 ∷ number_bytes (op % 65536)
code_high op l h =
    let byte : (op / 65536) % 256 ≡ op / 65536 = omega arith in
    ap (λ t. if t then (op % 256) ∷ [] else ((op / 65536) % 256) ∷ number_bytes (op % 65536)) (le-ltb op 65536 (omega arith)) ∙ ap (λ b. b ∷ number_bytes (op % 65536)) byte

no_prefix : (b : ℕ) → b < 215 → is_prefix b ≡ false
no_prefix b h = ap (λ t. t && nat_le b PREFIX_FE) (lt-leb PREFIX_FB b (omega (arith, h)))

a_prefix : (b : ℕ) → 0xFA < b → b < 0xFF → is_prefix b ≡ true
a_prefix b l h = ap₂ (λ s t. s && t) (le-leb PREFIX_FB b l) (le-leb b PREFIX_FE (omega (arith, h)))

operator_of_stands : (o : Op) → spelled_by (kinds_of o.op) o.args ≡ true → Held o.args → Is (operator_of o.op) (spelled o.args) o
unfolding operator_of
operator_of_stands o s h = behind_stands o (kinds_of o.op) s h

low_stands : (o : Op) → o.op < 215 → Is (operator_of o.op) (spelled o.args) o → Is operator (o.op ∷ spelled o.args) o
unfolding operator operator_from
low_stands o l h = (o.op, (o.op ∷ [], (spelled o.args, (refl, refl, second_stands (is_prefix o.op) _ (operator_of o.op) (spelled o.args) o (no_prefix o.op l) h))))

high_stands : (o : Op) (lead n : ℕ) → 0xFA < lead → lead < 0xFF → n < 65536 → Is (operator_of (lead * 65536 + n)) (spelled o.args) o → Is operator (lead ∷ (number_bytes n ++ spelled o.args)) o
unfolding operator operator_from
high_stands o lead n l h m i =
    let back = number_bytes n ++ spelled o.args in (
      lead,
      (
        lead ∷ [],
        (
          back,
          (
            refl,
            refl,
            first_stands (is_prefix lead) (Led (Where (λ n. nat_lt n 65536) U32) (λ n. operator_of (lead * 65536 + n))) (operator_of lead) back o (a_prefix lead l h)
                (n, (number_bytes n, (spelled o.args, (refl, (number_stands n (omega arith), lt-ltb n 65536 m), i)))),
          ),
        ),
      ),
    )

stands_at : (o : Op) → Lies o.op → Is (operator_of o.op) (spelled o.args) o → Is operator (code_bytes o.op ++ spelled o.args) o
stands_at o (inl l) i = subst (λ c. Is operator (c ++ spelled o.args) o) (sym (code_low o.op l)) (low_stands o l i)
stands_at o (inr l) i =
    let whole : o.op ≡ (o.op / 65536) * 65536 + o.op % 65536 = omega arith in
    let from : 0xFA < o.op / 65536 = omega (arith, l.0) in
    let to : o.op / 65536 < 0xFF = omega (arith, l.1) in
    let small : o.op % 65536 < 65536 = omega arith in
    subst (λ c. Is operator (c ++ spelled o.args) o) (sym (code_high o.op l.0 l.1)) (high_stands o (o.op / 65536) (o.op % 65536) from to small (subst (λ k. Is (operator_of k) (spelled o.args) o) whole i))

pub operator_stands : (o : Op) → OpStands o → spells o ≡ true → Is operator (op_bytes o) o
unfolding spells
operator_stands o h s = stands_at o (lies_at o s (ltb o.op 215) (ltb o.op 16449536) (ltb o.op 16711680) refl refl refl) (operator_of_stands o s h)
