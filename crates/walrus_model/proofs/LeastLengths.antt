-- How many bytes entries take at least, and so how many of them a section has.
use Rattle.std.proofs.Common.{◌≡◌, ℕ, suc, ◌+◌, ◌≤◌, ◌<◌, ◌^◌, List, [], ◌∷◌, ◌++◌, length, ap, arith, inl, inr, length-append}
use Rattle.std.specs.Prelude.{Bool, nat_eq}
use Rattle.wasm_forms.specs.Number.{IsNumber}
use Rattle.wasm_forms.specs.Grammar.{Form, Is, IsRow, Block, Vector, U32, U64}
use Rattle.wasm_entries.specs.declared.record.RawLimits.{RawLimits}
use Rattle.wasm_entries.specs.declared.record.RawGlobalType.{RawGlobalType}
use Rattle.wasm_entries.specs.Record.{Import, Table, Global, Element, Segment, Expression}
use Rattle.wasm_entries.specs.TypeForms.{memory_type, tag_type, table_limits, table_type_from, global_type, limits_of, size_form}
use Rattle.wasm_entries.specs.Forms.{import_form, table_form, table_from, global_form, expression_form, element_form, data_form}
use Rattle.wasm_operators.proofs.OneRead.{chosen}
use Rattle.wasm_frames.proofs.SectionRows.{RowOf}

-- ---- parts

pub number_long : (most top : ℕ) (bytes : List ℕ) (n : ℕ) → IsNumber most top bytes n → 1 ≤ length bytes
number_long most top [] n h = absurd h.spelled
number_long most top (b ∷ bs) n h = omega arith

pub behind_byte : (bytes front back : List ℕ) (b : ℕ) → bytes ≡ front ++ back → front ≡ b ∷ [] → length bytes ≡ suc (length back)
behind_byte bytes front back b is first = omega (arith, ap length is, length-append front back, ap length first)

pub vector_long : {A : Type 0} (f : Form A) (bytes : List ℕ) (xs : List A) → Is (Vector f) bytes xs → 1 ≤ length bytes
vector_long f bytes xs i = omega (arith, ap length i.1.1.1.0, length-append i.1.0 i.1.1.0, number_long 5 (2 ^ 32) i.1.0 i.0 i.1.1.1.1)

block_long : (bytes content : List ℕ) → Is Block bytes content → 1 ≤ length bytes
block_long bytes content i = omega (arith, ap length i.1.0, length-append i.0 content, number_long 5 (2 ^ 32) i.0 (length content) i.1.1)

expression_long : (bytes : List ℕ) (e : Expression) → Is expression_form bytes e → 1 ≤ length bytes
unfolding expression_form
expression_long bytes [] i = omega (arith, ap length i.0)
expression_long bytes (x ∷ xs) i = omega (arith, ap length i.0.1.1.1.0)

-- ---- entries of two bytes or more

import_long : (bytes : List ℕ) (x : Import) → Is import_form bytes x → 2 ≤ length bytes
unfolding import_form
import_long bytes x i =
    let p = i.1.1 in
    let q = p.1.1.2 in
    omega (arith, ap length p.1.1.0, length-append p.0 p.1.0, block_long p.0 i.0.0 p.1.1.1.0, ap length q.1.1.0, length-append q.0 q.1.0, block_long q.0 i.0.1.0 q.1.1.1.0)

size_long : (wide : Bool) (bytes : List ℕ) (n : ℕ) → Is (size_form wide) bytes n → 1 ≤ length bytes
unfolding size_form
size_long wide bytes n i =
    elim (chosen wide U64 U32 bytes n i) as (λ _. 1 ≤ length bytes) [
      | inl c ↦ number_long 10 (2 ^ 64) bytes n c.1
      | inr c ↦ number_long 5 (2 ^ 32) bytes n c.1
    ]

limits_long : (flags : ℕ) (bytes : List ℕ) (l : RawLimits) → Is (limits_of flags) bytes l → 1 ≤ length bytes
unfolding limits_of
limits_long flags bytes l i =
    let p = i.1.1 in
    omega (arith, ap length p.1.1.0, length-append p.0 p.1.0, size_long _ p.0 i.0.0 p.1.1.1)

memory_long : (bytes : List ℕ) (l : RawLimits) → Is memory_type bytes l → 2 ≤ length bytes
unfolding memory_type
memory_long bytes l i = omega (arith, behind_byte bytes i.1.0 i.1.1.0 i.0 i.1.1.1.0 i.1.1.1.1.0, limits_long i.0 i.1.1.0 l i.1.1.1.2)

table_limits_long : (bytes : List ℕ) (l : RawLimits) → Is table_limits bytes l → 1 ≤ length bytes
unfolding table_limits
table_limits_long bytes l i = omega (arith, behind_byte bytes i.1.0 i.1.1.0 i.0 i.1.1.1.0 i.1.1.1.1.0)

table_from_long : (b : ℕ) (bytes : List ℕ) (t : Table) → Is (table_from b) bytes t → 1 ≤ length bytes
unfolding table_from table_type_from
table_from_long b bytes t i =
    elim (chosen (nat_eq b 0x40) _ _ bytes t i) as (λ _. 1 ≤ length bytes) [
      | inl c ↦ let p = c.1 in omega (arith, behind_byte bytes p.1.0 p.1.1.0 p.0 p.1.1.1.0 p.1.1.1.1.0)
      | inr c ↦ let p = c.1.1.1.1.1 in omega (arith, ap length p.1.1.0, length-append p.0 p.1.0, table_limits_long p.1.0 c.1.1.1.0.1 p.1.1.2)
    ]

table_long : (bytes : List ℕ) (t : Table) → Is table_form bytes t → 2 ≤ length bytes
unfolding table_form
table_long bytes t i = omega (arith, behind_byte bytes i.1.0 i.1.1.0 i.0 i.1.1.1.0 i.1.1.1.1, table_from_long i.0 i.1.1.0 t i.1.1.1.2)

tag_long : (bytes : List ℕ) (t : ℕ) → Is tag_type bytes t → 2 ≤ length bytes
unfolding tag_type
tag_long bytes t i = omega (arith, behind_byte bytes i.1.0 i.1.1.0 i.0 i.1.1.1.0 i.1.1.1.1.0, number_long 5 (2 ^ 32) i.1.1.0 t i.1.1.1.2)

global_type_long : (bytes : List ℕ) (t : RawGlobalType) → Is global_type bytes t → 1 ≤ length bytes
unfolding global_type
global_type_long bytes t i =
    let p = i.1.1 in
    omega (arith, ap length p.1.1.0, length-append p.0 p.1.0, ap length p.1.1.2.0)

global_long : (bytes : List ℕ) (t : Global) → Is global_form bytes t → 2 ≤ length bytes
unfolding global_form
global_long bytes t i =
    let p = i.1.1 in
    omega (arith, ap length p.1.1.0, length-append p.0 p.1.0, global_type_long p.0 i.0.0 p.1.1.1, expression_long p.1.0 i.0.1 p.1.1.2)

-- ---- entries of a byte or more

element_long : (bytes : List ℕ) (e : Element) → Is element_form bytes e → 1 ≤ length bytes
unfolding element_form
element_long bytes e i = omega (arith, ap length i.1.1.1.0, length-append i.1.0 i.1.1.0, number_long 5 (2 ^ 32) i.1.0 i.0 i.1.1.1.1)

data_long : (bytes : List ℕ) (d : Segment) → Is data_form bytes d → 1 ≤ length bytes
unfolding data_form
data_long bytes d i = omega (arith, ap length i.1.1.1.0, length-append i.1.0 i.1.1.0, number_long 5 (2 ^ 32) i.1.0 i.0 i.1.1.1.1)

-- ---- rows of them

module _ {A : Type 0} (f : Form A) where
  doubled : ((bytes : List ℕ) (x : A) → Is f bytes x → 2 ≤ length bytes) → (bytes : List ℕ) (xs : List A) → IsRow (Is f) bytes xs → length xs + length xs ≤ length bytes
  doubled law bytes [] row = omega arith
  doubled law bytes (x ∷ xs) row = omega (arith, ap length row.1.1.0, length-append row.0 row.1.0, law row.0 x row.1.1.1, doubled law row.1.0 xs row.1.1.2)

  single : ((bytes : List ℕ) (x : A) → Is f bytes x → 1 ≤ length bytes) → (bytes : List ℕ) (xs : List A) → IsRow (Is f) bytes xs → length xs ≤ length bytes
  single law bytes [] row = omega arith
  single law bytes (x ∷ xs) row = omega (arith, ap length row.1.1.0, length-append row.0 row.1.0, law row.0 x row.1.1.1, single law row.1.0 xs row.1.1.2)

  twice_few : ((bytes : List ℕ) (x : A) → Is f bytes x → 2 ≤ length bytes) → (xs : List A) → RowOf f xs → length xs + length xs < 2 ^ 32
  twice_few law xs row = omega (arith, doubled law row.0 xs row.1.1, row.1.0)

  once_few : ((bytes : List ℕ) (x : A) → Is f bytes x → 1 ≤ length bytes) → (xs : List A) → RowOf f xs → length xs < 2 ^ 32
  once_few law xs row = omega (arith, single law row.0 xs row.1.1, row.1.0)

pub few_imports : (xs : List Import) → RowOf import_form xs → length xs + length xs < 2 ^ 32
few_imports xs row = twice_few import_form import_long xs row

pub few_tables : (xs : List Table) → RowOf table_form xs → length xs + length xs < 2 ^ 32
few_tables xs row = twice_few table_form table_long xs row

pub few_memories : (xs : List RawLimits) → RowOf memory_type xs → length xs + length xs < 2 ^ 32
few_memories xs row = twice_few memory_type memory_long xs row

pub few_tags : (xs : List ℕ) → RowOf tag_type xs → length xs + length xs < 2 ^ 32
few_tags xs row = twice_few tag_type tag_long xs row

pub few_globals : (xs : List Global) → RowOf global_form xs → length xs + length xs < 2 ^ 32
few_globals xs row = twice_few global_form global_long xs row

pub few_elements : (xs : List Element) → RowOf element_form xs → length xs < 2 ^ 32
few_elements xs row = once_few element_form element_long xs row

pub few_data : (xs : List Segment) → RowOf data_form xs → length xs < 2 ^ 32
few_data xs row = once_few data_form data_long xs row
