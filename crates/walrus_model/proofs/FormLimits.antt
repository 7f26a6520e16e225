-- What was read has limits that aren't wide below 2 ^ 32, and function types of fewer than 2 ^ 32 parameters.
use Rattle.std.proofs.Common.{◌≡◌, ℕ, ◌+◌, ◌≤◌, ◌<◌, ◌^◌, Bool, true, false, List, [], ◌∷◌, length, map, sym, ap, subst, ◌∙◌, arith, inl, inr, length-append}
use Rattle.std.specs.Prelude.{Option, nat_eq}
use Rattle.std.specs.List.{AllByRecursion, range_with_len}
use Rattle.std.proofs.lemmas.List.{length-map}
use Rattle.wasm_forms.specs.Grammar.{Form, Is, IsRow, Vector}
use Rattle.wasm_forms.specs.Types.{value_type}
use Rattle.wasm_entries.specs.declared.record.RawLimits.{RawLimits}
use Rattle.wasm_entries.specs.declared.record.RawTableType.{RawTableType}
use Rattle.wasm_entries.specs.declared.record.RawDesc.{RawDesc}
use Rattle.wasm_entries.specs.Record.{FuncType, Comp, Function, Struct, Array, Sub, Group, Import, Table}
use Rattle.wasm_entries.specs.TypeSpelling.{FitsWide, MaximumFits, LimitsFit}
use Rattle.wasm_entries.specs.Spelling.{DescFits}
use Rattle.wasm_entries.specs.TypeForms.{has, optional, size_form, limits_of, memory_type, table_limits, table_type, table_type_from, signature, comp_from, composite_type, sub_with, sub_from, sub_type, group_from, group_form}
use Rattle.wasm_entries.specs.Forms.{desc, desc_from, import_form, table_from, table_form}
use Rattle.wasm_operators.proofs.OneRead.{chosen}
use Rattle.walrus_base.specs.TypeDef.{TypeDef, type_params}
use Rattle.walrus_functions.specs.FromRaw.{val_of}
use Rattle.walrus_groups.specs.Groups.{comp_of, sub_of, members_of, types_from}
use Rattle.walrus_model.proofs.LeastLengths.{behind_byte}
use Rattle.walrus_functions.proofs.LawNamed.{each_append as all_append}

-- what holds of each entry of a row
pub row_all : {A : Type 0} (f : Form A) (P : A → Type 0) → ((bytes : List ℕ) (x : A) → Is f bytes x → P x) → (bytes : List ℕ) (xs : List A) → IsRow (Is f) bytes xs → AllByRecursion P xs
row_all f P law bytes [] row = tt
row_all f P law bytes (x ∷ xs) row = (law row.0 x row.1.1.1, row_all f P law row.1.0 xs row.1.1.2)

-- ---- limits

size_fits : (wide : Bool) (bytes : List ℕ) (n : ℕ) → Is (size_form wide) bytes n → FitsWide wide n
unfolding size_form
size_fits true bytes n i = tt
size_fits false bytes n i = i.small

maximum_fits : (present wide : Bool) (bytes : List ℕ) (o : Option ℕ) → Is (optional present (size_form wide)) bytes o → MaximumFits wide o
unfolding optional
maximum_fits true wide bytes o i = subst (MaximumFits wide) (sym i.1.0) (size_fits wide bytes i.0 i.1.1)
maximum_fits false wide bytes o i = subst (MaximumFits wide) (sym i.1) tt

limits_fit : (flags : ℕ) (bytes : List ℕ) (l : RawLimits) → Is (limits_of flags) bytes l → LimitsFit l
unfolding limits_of
limits_fit flags bytes l i =
    let p = i.1.1 in
    let q = p.1.1.2 in
    subst LimitsFit (sym i.1.0) (size_fits (has flags 4) p.0 i.0.0 p.1.1.1, maximum_fits (has flags 1) (has flags 4) q.0 i.0.1.0 q.1.1.1)

pub memory_fits : (bytes : List ℕ) (l : RawLimits) → Is memory_type bytes l → LimitsFit l
unfolding memory_type
memory_fits bytes l i = limits_fit i.0 i.1.1.0 l i.1.1.1.2

table_limits_fit : (bytes : List ℕ) (l : RawLimits) → Is table_limits bytes l → LimitsFit l
unfolding table_limits
table_limits_fit bytes l i = limits_fit i.0 i.1.1.0 l i.1.1.1.2

type_from_fits : (b : ℕ) (bytes : List ℕ) (t : RawTableType) → Is (table_type_from b) bytes t → LimitsFit t.limits
unfolding table_type_from
type_from_fits b bytes t i = subst (λ (y : RawTableType). LimitsFit y.limits) (sym i.1.0) (table_limits_fit i.1.1.1.0 i.0.1 i.1.1.1.1.2)

table_type_fits : (bytes : List ℕ) (t : RawTableType) → Is table_type bytes t → LimitsFit t.limits
unfolding table_type
table_type_fits bytes t i = type_from_fits i.0 i.1.1.0 t i.1.1.1.2

table_from_fits : (b : ℕ) (bytes : List ℕ) (t : Table) → Is (table_from b) bytes t → LimitsFit t.ty.limits
unfolding table_from
table_from_fits b bytes t i =
    elim (chosen (nat_eq b 0x40) _ _ bytes t i) as (λ _. LimitsFit t.ty.limits) [
      | inl c ↦ let m = c.1.1.1.1.2 in subst (λ (y : Table). LimitsFit y.ty.limits) (sym m.1.0) (table_type_fits m.1.1.0 m.0.0 m.1.1.1.1.1)
      | inr c ↦ subst (λ (y : Table). LimitsFit y.ty.limits) (sym c.1.1.0) (type_from_fits b bytes c.1.0 c.1.1.1)
    ]

pub table_fits : (bytes : List ℕ) (t : Table) → Is table_form bytes t → LimitsFit t.ty.limits
unfolding table_form
table_fits bytes t i = table_from_fits i.0 i.1.1.0 t i.1.1.1.2

desc_from_fits : (kind : ℕ) (bytes : List ℕ) (d : RawDesc) → Is (desc_from kind) bytes d → DescFits d
unfolding desc_from
desc_from_fits kind bytes d i =
    elim (chosen (nat_eq kind 0) _ _ bytes d i) as (λ _. DescFits d) [
      | inl c ↦ subst DescFits (sym c.1.1.0) tt
      | inr c ↦ elim (chosen (nat_eq kind 1) _ _ bytes d c.1) as (λ _. DescFits d) [
        | inl e ↦ subst DescFits (sym e.1.1.0) (table_type_fits bytes e.1.0 e.1.1.1)
        | inr e ↦ elim (chosen (nat_eq kind 2) _ _ bytes d e.1) as (λ _. DescFits d) [
          | inl f ↦ subst DescFits (sym f.1.1.0) (memory_fits bytes f.1.0 f.1.1.1)
          | inr f ↦ elim (chosen (nat_eq kind 3) _ _ bytes d f.1) as (λ _. DescFits d) [
            | inl g ↦ subst DescFits (sym g.1.1.0) tt
            | inr g ↦ elim (chosen (nat_eq kind 4) _ _ bytes d g.1) as (λ _. DescFits d) [
              | inl h ↦ subst DescFits (sym h.1.1.0) tt
              | inr h ↦ absurd h.1
            ]
          ]
        ]
      ]
    ]

desc_fits : (bytes : List ℕ) (d : RawDesc) → Is desc bytes d → DescFits d
unfolding desc
desc_fits bytes d i = desc_from_fits i.0 i.1.1.0 d i.1.1.1.2

pub import_fits : (bytes : List ℕ) (x : Import) → Is import_form bytes x → DescFits x.desc
unfolding import_form
import_fits bytes x i =
    let q = i.1.1.1.1.2 in
    subst (λ (y : Import). DescFits y.desc) (sym i.1.0) (desc_fits q.1.0 i.0.1.1 q.1.1.2)

-- ---- parameters

TakesFew : Comp → Type 0
TakesFew (Function t) = length t.params < 2 ^ 32
TakesFew (Struct fields) = Unit {0}
TakesFew (Array field) = Unit {0}

vector_few : {A : Type 0} (f : Form A) (bytes : List ℕ) (xs : List A) → Is (Vector f) bytes xs → length xs < 2 ^ 32
vector_few f bytes xs i = subst (λ n. n < 2 ^ 32) (sym i.1.1.1.2.1) i.1.1.1.1.small

signature_few : (bytes : List ℕ) (t : FuncType) → Is signature bytes t → length t.params < 2 ^ 32
unfolding signature
signature_few bytes t i = subst (λ (y : FuncType). length y.params < 2 ^ 32) (sym i.1.0) (vector_few value_type i.1.1.0 i.0.0 i.1.1.1.1.1)

comp_from_few : (b : ℕ) (bytes : List ℕ) (c : Comp) → Is (comp_from b) bytes c → TakesFew c
unfolding comp_from TakesFew
comp_from_few b bytes c i =
    elim (chosen (nat_eq b 0x60) _ _ bytes c i) as (λ _. TakesFew c) [
      | inl d ↦ subst TakesFew (sym d.1.1.0) (signature_few bytes d.1.0 d.1.1.1)
      | inr d ↦ elim (chosen (nat_eq b 0x5F) _ _ bytes c d.1) as (λ _. TakesFew c) [
        | inl e ↦ subst TakesFew (sym e.1.1.0) tt
        | inr e ↦ elim (chosen (nat_eq b 0x5E) _ _ bytes c e.1) as (λ _. TakesFew c) [
          | inl f ↦ subst TakesFew (sym f.1.1.0) tt
          | inr f ↦ absurd f.1
        ]
      ]
    ]

comp_few : (bytes : List ℕ) (c : Comp) → Is composite_type bytes c → TakesFew c
unfolding composite_type
comp_few bytes c i = comp_from_few i.0 i.1.1.0 c i.1.1.1.2

SubTakesFew : Sub → Type 0
SubTakesFew s = TakesFew s.comp

with_few : (is_final : Bool) (bytes : List ℕ) (s : Sub) → Is (sub_with is_final) bytes s → SubTakesFew s
unfolding sub_with SubTakesFew
with_few is_final bytes s i = subst (λ (y : Sub). TakesFew y.comp) (sym i.1.0) (comp_few i.1.1.1.0 i.0.1 i.1.1.1.1.2)

sub_from_few : (b : ℕ) (bytes : List ℕ) (s : Sub) → Is (sub_from b) bytes s → SubTakesFew s
unfolding sub_from SubTakesFew
sub_from_few b bytes s i =
    elim (chosen (nat_eq b 0x50) _ _ bytes s i) as (λ _. SubTakesFew s) [
      | inl c ↦ with_few false bytes s c.1
      | inr c ↦ elim (chosen (nat_eq b 0x4F) _ _ bytes s c.1) as (λ _. SubTakesFew s) [
        | inl d ↦ with_few true bytes s d.1
        | inr d ↦ subst (λ (y : Sub). TakesFew y.comp) (sym d.1.1.0) (comp_from_few b bytes d.1.0 d.1.1.1)
      ]
    ]

sub_few : (bytes : List ℕ) (s : Sub) → Is sub_type bytes s → SubTakesFew s
unfolding sub_type
sub_few bytes s i = sub_from_few i.0 i.1.1.0 s i.1.1.1.2

GroupTakesFew : Group → Type 0
GroupTakesFew g = AllByRecursion SubTakesFew g

group_from_few : (b : ℕ) (bytes : List ℕ) (g : Group) → Is (group_from b) bytes g → GroupTakesFew g
unfolding group_from GroupTakesFew
group_from_few b bytes g i =
    elim (chosen (nat_eq b 0x4E) _ _ bytes g i) as (λ _. GroupTakesFew g) [
      | inl c ↦ row_all sub_type SubTakesFew sub_few c.1.1.1.0 g c.1.1.1.1.2.0
      | inr c ↦ subst (AllByRecursion SubTakesFew) (sym c.1.1.0) (sub_from_few b bytes c.1.0 c.1.1.1, tt)
    ]

group_few : (bytes : List ℕ) (g : Group) → Is group_form bytes g → GroupTakesFew g
unfolding group_form
group_few bytes g i = group_from_few i.0 i.1.1.0 g i.1.1.1.2

-- a type of a module with fewer than 2 ^ 32 parameters, if it has any
abbrev pub DefTakesFew : TypeDef → Type 0
DefTakesFew d = length (type_params d.sub.comp) < 2 ^ 32

comp_of_few : (c : Comp) → TakesFew c → length (type_params (comp_of c)) < 2 ^ 32
unfolding TakesFew
comp_of_few (Function t) h = subst (λ n. n < 2 ^ 32) (sym (length-map t.params val_of)) h
comp_of_few (Struct fields) h = omega arith
comp_of_few (Array field) h = omega arith

members_few : (group : List ℕ) (g : List Sub) → AllByRecursion SubTakesFew g → AllByRecursion DefTakesFew (map (λ s. record { group = group; sub = sub_of s }) g)
unfolding SubTakesFew
members_few group [] h = tt
members_few group (s ∷ g) h = (comp_of_few s.comp h.0, members_few group g h.1)

all_few : (first : ℕ) (gs : List Group) → AllByRecursion GroupTakesFew gs → AllByRecursion DefTakesFew (types_from first gs)
unfolding GroupTakesFew
all_few first [] h = tt
all_few first (g ∷ gs) h = all_append DefTakesFew (members_of first g) (types_from (first + length g) gs) (members_few (range_with_len first (length g)) g h.0) (all_few (first + length g) gs h.1)

pub types_take_few : (bytes : List ℕ) (gs : List Group) → IsRow (Is group_form) bytes gs → AllByRecursion DefTakesFew (types_from 0 gs)
types_take_few bytes gs row = all_few 0 gs (row_all group_form GroupTakesFew group_few bytes gs row)

-- ---- as many bytes as types

sub_long : (bytes : List ℕ) (s : Sub) → Is sub_type bytes s → 1 ≤ length bytes
unfolding sub_type
sub_long bytes s i = omega (arith, behind_byte bytes i.1.0 i.1.1.0 i.0 i.1.1.1.0 i.1.1.1.1)

subs_long : (ss : List Sub) (bytes : List ℕ) → IsRow (Is sub_type) bytes ss → length ss ≤ length bytes
subs_long [] bytes row = omega arith
subs_long (s ∷ ss) bytes row = omega (arith, ap length row.1.1.0 ∙ length-append row.0 row.1.0, sub_long row.0 s row.1.1.1, subs_long ss row.1.0 row.1.1.2)

from_long : (b : ℕ) (bytes : List ℕ) (g : Group) → Is (group_from b) bytes g → length g ≤ 1 + length bytes
unfolding group_from
from_long b bytes g i =
    elim (chosen (nat_eq b 0x4E) _ _ bytes g i) as (λ _. length g ≤ 1 + length bytes) [
      | inl c ↦ omega (arith, ap length c.1.1.1.1.0 ∙ length-append c.1.1.0 c.1.1.1.0, subs_long g c.1.1.1.0 c.1.1.1.1.2.0)
      | inr c ↦ omega (arith, ap length c.1.1.0)
    ]

group_long : (bytes : List ℕ) (g : Group) → Is group_form bytes g → length g ≤ length bytes
unfolding group_form
group_long bytes g i = omega (arith, behind_byte bytes i.1.0 i.1.1.0 i.0 i.1.1.1.0 i.1.1.1.1, from_long i.0 i.1.1.0 g i.1.1.1.2)

pub types_long : (first : ℕ) (gs : List Group) (bytes : List ℕ) → IsRow (Is group_form) bytes gs → length (types_from first gs) ≤ length bytes
types_long first [] bytes row = omega arith
types_long first (g ∷ gs) bytes row =
    let one : length (members_of first g) ≡ length g = length-map g (λ s. record { group = range_with_len first (length g); sub = sub_of s }) in
    omega (arith, ap length row.1.1.0 ∙ length-append row.0 row.1.0, length-append (members_of first g) (types_from (first + length g) gs), one, group_long row.0 g row.1.1.1, types_long (first + length g) gs row.1.0 row.1.1.2)
