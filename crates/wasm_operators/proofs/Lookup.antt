-- The table of operators, looked up by number.
use Rattle.std.proofs.Common.{◌≡◌, ℕ, zero, suc, ◌+◌, ◌*◌, ◌/◌, ◌%◌, ◌<◌, ◌≤◌, Bool, true, false, List, [], ◌∷◌, map, length, get_or, ltb, refl, sym, ap, ap₂, ◌∙◌, arith, ltb-true, ltb-false, lt-ltb, le-ltb}
use Rattle.std.specs.Prelude.{Option, Some, None, nat_lt, not, ◌&&◌, ◌||◌, if◌then◌else◌}
use Rattle.wasm_operators.specs.declared.kind.Kind.{Kind}
use Rattle.wasm_operators.specs.declared.shape.Shape.{Shape}
use Rattle.wasm_operators.specs.declared.shape.Shape.TheVariants.{Free}
use Rattle.wasm_operators.specs.declared.table.TheConstants.{BYTES, BEHIND_FB, BEHIND_FC, BEHIND_FD, BEHIND_FE}
use Rattle.wasm_operators.specs.Shape.{kinds_of_shape}
use Rattle.wasm_operators.specs.Table.{Row, table, kinds_in, kinds_of}

-- ---- numbers from one to another that one row has, or none

-- what the rows say of each number from lo to hi, where one row has them all or each row has none
abbrev answers : List Row → ℕ → ℕ → Option (Option (List Kind))
answers [] lo hi = Some None
answers (row ∷ rows) lo hi =
    if not (nat_lt lo row.first) && not (nat_lt row.last hi) then Some (Some row.kinds)
    else if nat_lt hi row.first || nat_lt row.last lo then answers rows lo hi
    else None

before : (row : Row) (rows : List Row) (op : ℕ) (a : Option (List Kind)) → op < row.first → kinds_in rows op ≡ a → kinds_in (row ∷ rows) op ≡ a
before row rows op a h e = ap (λ x. if not x && not (nat_lt row.last op) then Some row.kinds else kinds_in rows op) (lt-ltb op row.first h) ∙ e

past_at : (row : Row) (rows : List Row) (op : ℕ) (a : Option (List Kind)) (t : Bool) → ltb row.last op ≡ true → kinds_in rows op ≡ a → (if not t && not (nat_lt row.last op) then Some row.kinds else kinds_in rows op) ≡ a
past_at row rows op a true h e = e
past_at row rows op a false h e = ap (λ x. if not x then Some row.kinds else kinds_in rows op) h ∙ e

pub past : (row : Row) (rows : List Row) (op : ℕ) (a : Option (List Kind)) → row.last < op → kinds_in rows op ≡ a → kinds_in (row ∷ rows) op ≡ a
past row rows op a h e = past_at row rows op a (ltb op row.first) (lt-ltb row.last op h) e

kinds_at : (row : Row) (rows : List Row) (op lo hi : ℕ) (a : Option (List Kind)) → lo ≤ op → op ≤ hi → ((b : Option (List Kind)) → answers rows lo hi ≡ Some b → kinds_in rows op ≡ b)
    → (t u v w : Bool) → ltb lo row.first ≡ t → ltb row.last hi ≡ u → ltb hi row.first ≡ v → ltb row.last lo ≡ w
    → (if not t && not u then Some (Some row.kinds) else if v || w then answers rows lo hi else None) ≡ Some a → kinds_in (row ∷ rows) op ≡ a
kinds_at row rows op lo hi a l h more false false v w p q r s e =
    let below : ltb op row.first ≡ false = le-ltb op row.first (let x : row.first ≤ lo = ltb-false lo row.first p in omega arith) in
    let above : ltb row.last op ≡ false = le-ltb row.last op (let x : hi ≤ row.last = ltb-false row.last hi q in omega arith) in
    let same : Some row.kinds ≡ a = cc in
    ap₂ (λ x y. if not x && not y then Some row.kinds else kinds_in rows op) below above ∙ same
kinds_at row rows op lo hi a l h more false true true w p q r s e = before row rows op a (let x : hi < row.first = ltb-true hi row.first r in omega arith) (more a e)
kinds_at row rows op lo hi a l h more false true false true p q r s e = past row rows op a (let x : row.last < lo = ltb-true row.last lo s in omega arith) (more a e)
kinds_at row rows op lo hi a l h more false true false false p q r s e = cc
kinds_at row rows op lo hi a l h more true u true w p q r s e = before row rows op a (let x : hi < row.first = ltb-true hi row.first r in omega arith) (more a e)
kinds_at row rows op lo hi a l h more true u false true p q r s e = past row rows op a (let x : row.last < lo = ltb-true row.last lo s in omega arith) (more a e)
kinds_at row rows op lo hi a l h more true u false false p q r s e = cc

pub kinds_within : (rows : List Row) (op lo hi : ℕ) (a : Option (List Kind)) → lo ≤ op → op ≤ hi → answers rows lo hi ≡ Some a → kinds_in rows op ≡ a
kinds_within [] op lo hi a l h e = cc
kinds_within (row ∷ rows) op lo hi a l h e =
    kinds_at row rows op lo hi a l h (λ b. kinds_within rows op lo hi b l h) (ltb lo row.first) (ltb row.last hi) (ltb hi row.first) (ltb row.last lo) refl refl refl refl e

none_within : (op lo hi : ℕ) → lo ≤ op → op ≤ hi → answers table lo hi ≡ Some None → kinds_of op ≡ None
unfolding kinds_of
none_within op lo hi l h e = kinds_within table op lo hi None l h e

-- ---- the tables of the code

-- what is said of so many numbers, from this one on
abbrev from : ℕ → ℕ → List (Option (List Kind))
from zero first = []
from (suc count) first = kinds_of first ∷ from count (suc first)

entry_stands : (entries : List Shape) (count first n : ℕ) → map kinds_of_shape entries ≡ from count first → n < length entries → kinds_of_shape (get_or entries n Free) ≡ kinds_of (first + n)
entry_stands [] count first n e h = absurd (omega arith)
entry_stands (x ∷ xs) zero first n e h = cc
entry_stands (x ∷ xs) (suc count) first zero e h =
    let p : kinds_of_shape x ≡ kinds_of first = cc in
    let q : first ≡ first + 0 = omega arith in
    p ∙ ap kinds_of q
entry_stands (x ∷ xs) (suc count) first (suc n) e h =
    let p : map kinds_of_shape xs ≡ from count (suc first) = cc in
    let q : suc first + n ≡ first + suc n = omega arith in
    entry_stands xs count (suc first) n p (omega arith) ∙ ap kinds_of q

entry_free : (entries : List Shape) (n : ℕ) → length entries ≤ n → get_or entries n Free ≡ Free
entry_free [] n h = refl
entry_free (x ∷ xs) zero h = absurd (omega arith)
entry_free (x ∷ xs) (suc n) h = entry_free xs n (omega arith)

bytes_same : map kinds_of_shape BYTES ≡ from 256 0
unfolding kinds_of
bytes_same = refl

fb_same : map kinds_of_shape BEHIND_FB ≡ from 31 (0xFB * 65536)
unfolding kinds_of
fb_same = refl

fc_same : map kinds_of_shape BEHIND_FC ≡ from 23 (0xFC * 65536)
unfolding kinds_of
fc_same = refl

fd_same : map kinds_of_shape BEHIND_FD ≡ from 276 (0xFD * 65536)
unfolding kinds_of
fd_same = refl

fe_same : map kinds_of_shape BEHIND_FE ≡ from 79 (0xFE * 65536)
unfolding kinds_of
fe_same = refl

-- the entries of a prefix byte, and none behind them
behind_at : (entries : List Shape) (lead count op : ℕ) → map kinds_of_shape entries ≡ from count (lead * 65536) → length entries ≡ count → answers table (lead * 65536 + count) (lead * 65536 + 65535) ≡ Some None → op / 65536 ≡ lead
    → (t : Bool) → ltb (op % 65536) (length entries) ≡ t → kinds_of_shape (get_or entries (op % 65536) Free) ≡ kinds_of op
behind_at entries lead count op e l n h true p =
    let whole : lead * 65536 + op % 65536 ≡ op = omega arith in
    entry_stands entries count (lead * 65536) (op % 65536) e (ltb-true (op % 65536) (length entries) p) ∙ ap kinds_of whole
behind_at entries lead count op e l n h false p =
    let far : length entries ≤ op % 65536 = ltb-false (op % 65536) (length entries) p in
    ap kinds_of_shape (entry_free entries (op % 65536) far) ∙ sym (none_within op (lead * 65536 + count) (lead * 65536 + 65535) (omega arith) (omega arith) n)

behind : (entries : List Shape) (lead count op : ℕ) → map kinds_of_shape entries ≡ from count (lead * 65536) → length entries ≡ count → answers table (lead * 65536 + count) (lead * 65536 + 65535) ≡ Some None → op / 65536 ≡ lead
    → kinds_of_shape (get_or entries (op % 65536) Free) ≡ kinds_of op
behind entries lead count op e l n h = behind_at entries lead count op e l n h (ltb (op % 65536) (length entries)) refl

pub bytes_stand : (op : ℕ) → op / 65536 ≡ 0 → kinds_of_shape (get_or BYTES (op % 65536) Free) ≡ kinds_of op
bytes_stand op h = behind BYTES 0 256 op bytes_same refl refl h

pub fb_stand : (op : ℕ) → op / 65536 ≡ 0xFB → kinds_of_shape (get_or BEHIND_FB (op % 65536) Free) ≡ kinds_of op
fb_stand op h = behind BEHIND_FB 0xFB 31 op fb_same refl refl h

pub fc_stand : (op : ℕ) → op / 65536 ≡ 0xFC → kinds_of_shape (get_or BEHIND_FC (op % 65536) Free) ≡ kinds_of op
fc_stand op h = behind BEHIND_FC 0xFC 23 op fc_same refl refl h

pub fd_stand : (op : ℕ) → op / 65536 ≡ 0xFD → kinds_of_shape (get_or BEHIND_FD (op % 65536) Free) ≡ kinds_of op
fd_stand op h = behind BEHIND_FD 0xFD 276 op fd_same refl refl h

pub fe_stand : (op : ℕ) → op / 65536 ≡ 0xFE → kinds_of_shape (get_or BEHIND_FE (op % 65536) Free) ≡ kinds_of op
fe_stand op h = behind BEHIND_FE 0xFE 79 op fe_same refl refl h

-- no other byte is a prefix
no_prefix_at : (op : ℕ) → (op / 65536 ≡ 0 → ⊥) → (op / 65536 ≡ 0xFB → ⊥) → (op / 65536 ≡ 0xFC → ⊥) → (op / 65536 ≡ 0xFD → ⊥) → (op / 65536 ≡ 0xFE → ⊥) → op < 4294967296 → (t : Bool) → ltb op 16449536 ≡ t → None ≡ kinds_of op
no_prefix_at op a b c d e h true p = let l : op < 16449536 = ltb-true op 16449536 p in sym (none_within op 65536 16449535 (omega arith) (omega arith) refl)
no_prefix_at op a b c d e h false p = let l : 16449536 ≤ op = ltb-false op 16449536 p in sym (none_within op 16711680 4294967295 (omega arith) (omega arith) refl)

pub no_prefix : (op : ℕ) → (op / 65536 ≡ 0 → ⊥) → (op / 65536 ≡ 0xFB → ⊥) → (op / 65536 ≡ 0xFC → ⊥) → (op / 65536 ≡ 0xFD → ⊥) → (op / 65536 ≡ 0xFE → ⊥) → op < 4294967296 → None ≡ kinds_of op
no_prefix op a b c d e h = no_prefix_at op a b c d e h (ltb op 16449536) refl
