-- Sections that are spelled and read again fit.
use Rattle.std.proofs.Common.{◌≡◌, ℕ, zero, suc, ◌+◌, ◌-◌, ◌*◌, ◌/◌, ◌%◌, ◌≤◌, ◌<◌, ◌^◌, Bool, true, false, List, [], ◌∷◌, ◌++◌, length, map, refl, sym, ap, subst, ◌∙◌, arith, ltb, ltb-true, ltb-false, inl, inr, length-append, append_assoc}
use Rattle.std.specs.Prelude.{Option, Some, None, slice_get, option_to_list, codes}
use Rattle.std.specs.List.{AllByRecursion}
use Rattle.wasm_forms.specs.declared.types.RawHeap.{RawHeap}
use Rattle.wasm_forms.specs.declared.types.RawHeap.TheVariants as heaps
use Rattle.wasm_forms.specs.declared.types.RawRef.{RawRef}
use Rattle.wasm_forms.specs.declared.types.RawVal.{RawVal}
use Rattle.wasm_forms.specs.declared.types.RawVal.TheVariants.{I32, I64, F32, F64, V128, Ref}
use Rattle.wasm_forms.specs.Number.{IsUnsigned, IsU32}
use Rattle.wasm_forms.specs.Grammar.{U32}
use Rattle.wasm_forms.specs.Spelling.{groups, number_bytes, block_bytes, row_bytes, vector_bytes}
use Rattle.wasm_forms.specs.Types.{value_bytes, reference_bytes, reference_spelled}
use Rattle.wasm_forms.specs.Writing.{FitsLength, EachFits, FitsVector}
use Rattle.wasm_forms.proofs.Groups.{groups-last, groups-more}
use Rattle.wasm_forms.proofs.Spelled.{number_stands}
use Rattle.wasm_forms.proofs.Exact.{one_reading}
use Rattle.wasm_entries.specs.declared.record.RawLimits.{RawLimits}
use Rattle.wasm_entries.specs.declared.record.RawFieldType.{RawFieldType}
use Rattle.wasm_entries.specs.declared.record.RawDesc.{RawDesc}
use Rattle.wasm_entries.specs.declared.record.RawDesc.TheVariants as descs
use Rattle.wasm_entries.specs.Record as entries
use Rattle.wasm_entries.specs.Record.{ElementMode, ActiveElements, PassiveElements, DeclaredElements, Items}
use Rattle.wasm_entries.specs.TypeSpelling.{storage_bytes, flag_byte, field_bytes, comp_bytes, sub_spelled, sub_bytes, group_bytes, limits_bytes, table_type_bytes, global_type_bytes, FitsWide, MaximumFits, LimitsFit, CompFits, SubFits, GroupFits}
use Rattle.wasm_entries.specs.Spelling.{desc_bytes, import_bytes, const_bytes, expression_bytes, table_spelled, table_bytes, global_bytes, kind_byte, export_bytes, element_spelled, element_bytes, data_mode_bytes, data_bytes, DescFits, ImportFits, TableFits, ExportFits, ItemsFit, ElementFits, DataFits}
use Rattle.wasm_frames.specs.Record as wire
use Rattle.wasm_frames.specs.Spelling.{body_bytes}
use Rattle.wasm_frames.specs.Frames as frames
use Rattle.wasm_frames.specs.Frames.{Section, CustomSection, id_of, IsSection, AreSections, header}
use Rattle.wasm_writer.specs.Spelling.{tag_bytes, content_bytes, spelled, all_spelled, EntriesFit}
use Rattle.walrus_model.specs.Abstract.{Abstract, Table, Memory}
use Rattle.walrus_theorem.specs.OneRun.{Fits, SpelledFits}
use Rattle.walrus_theorem.specs.Refused.{PassesLimit}
use Rattle.walrus_model.specs.Sections.{limits_of, imported, imported_table, imported_memory, table_of, memory_of}
use Rattle.walrus_theorem.specs.Spelling.{written_as}
use Rattle.walrus_theorem.specs.Text.{Text, listed, if_some, custom, sections_of, unplaced, names_bytes, field_bytes as producer_bytes}
use Rattle.walrus_theorem.proofs.OneSpelling.{told, as_told}
use Rattle.walrus_theorem.proofs.ReadFits.{read_fits}
use Rattle.walrus_bodies.proofs.LawNamed.{each_append as all_append}
use Rattle.walrus_model.proofs.Parsing.{each_in}

-- ---- a number that was spelled, and read as one of 32 bits, is that number

same_number : (n high : ℕ) → high ≡ n / 128 → (128 + n % 128 - 128) + 128 * high ≡ n
same_number n high e = omega (arith, e)

by_first : (most n : ℕ) (t : Bool) → ltb n 128 ≡ t → (size rest more : List ℕ) (m : ℕ) → groups false 128 (suc most) n ++ rest ≡ size ++ more → IsUnsigned size m
    → ((k : ℕ) (size rest more : List ℕ) (m : ℕ) → groups false 128 most k ++ rest ≡ size ++ more → IsUnsigned size m → length size ≤ most → m ≡ k) → length size ≤ suc most → m ≡ n
by_first most n t e [] rest more m same is again short = absurd is
by_first most n true e (b ∷ []) rest more m same is again short =
    let row : n ∷ rest ≡ b ∷ more = ap (λ l. l ++ rest) (sym (groups-last false 128 most n (ltb-true n 128 e))) ∙ same in
    let head : n ≡ b = cc in
    is.1 ∙ sym head
by_first most n false e (b ∷ []) rest more m same is again short =
    let row : (128 + n % 128) ∷ (groups false 128 most (n / 128) ++ rest) ≡ b ∷ more = ap (λ l. l ++ rest) (sym (groups-more false 128 most n (ltb-false n 128 e))) ∙ same in
    let head : 128 + n % 128 ≡ b = cc in
    omega (arith, head, is.0)
by_first most n true e (b ∷ c ∷ bs) rest more m same is again short =
    let row : n ∷ rest ≡ b ∷ (c ∷ bs ++ more) = ap (λ l. l ++ rest) (sym (groups-last false 128 most n (ltb-true n 128 e))) ∙ same in
    let head : n ≡ b = cc in
    omega (arith, head, is.0, ltb-true n 128 e)
by_first most n false e (b ∷ c ∷ bs) rest more m same is again short =
    let row : (128 + n % 128) ∷ (groups false 128 most (n / 128) ++ rest) ≡ b ∷ ((c ∷ bs) ++ more) = ap (λ l. l ++ rest) (sym (groups-more false 128 most n (ltb-false n 128 e))) ∙ same in
    let head : 128 + n % 128 ≡ b = cc in
    let tail : groups false 128 most (n / 128) ++ rest ≡ (c ∷ bs) ++ more = cc in
    let high : is.1.0 ≡ n / 128 = again (n / 128) (c ∷ bs) rest more is.1.0 tail is.1.2 (omega (arith, short)) in
    is.1.1 ∙ ap (λ x. (x - 128) + 128 * is.1.0) (sym head) ∙ same_number n is.1.0 high

read_back : (most n : ℕ) (size rest more : List ℕ) (m : ℕ) → groups false 128 most n ++ rest ≡ size ++ more → IsUnsigned size m → length size ≤ most → m ≡ n
read_back zero n [] rest more m same is short = absurd is
read_back zero n (b ∷ bs) rest more m same is short = absurd (omega (arith, short))
read_back (suc most) n size rest more m same is short = by_first most n (ltb n 128) refl size rest more m same is (read_back most) short

number_read : (n m : ℕ) (size rest more : List ℕ) → number_bytes n ++ rest ≡ size ++ more → IsU32 size m → (m ≡ n) × (rest ≡ more)
unfolding number_bytes
number_read n m size rest more same is =
    let one : m ≡ n = read_back 9 n size rest more m same is.spelled (omega (arith, is.short)) in
    (one, (one_reading U32 (number_bytes n) rest size more n m same (number_stands n (subst (λ k. k < 2 ^ 32) one is.small)) is).1)

cut_same : (xs ys us vs : List ℕ) → length xs ≡ length ys → xs ++ us ≡ ys ++ vs → us ≡ vs
cut_same [] [] us vs long e = e
cut_same [] (y ∷ ys) us vs long e = absurd (omega (arith, long))
cut_same (x ∷ xs) [] us vs long e = absurd (omega (arith, long))
cut_same (x ∷ xs) (y ∷ ys) us vs long e = let tail : xs ++ us ≡ ys ++ vs = cc in cut_same xs ys us vs (omega (arith, long)) tail

-- ---- sections, read one behind another: the size of each fits

section_read : (s p : Section) (place : ℕ) (bytes front back rest : List ℕ) → bytes ≡ front ++ back → IsSection place front p → bytes ≡ spelled s ++ rest → (length (content_bytes s) < 2 ^ 32) × (back ≡ rest)
section_read s p place bytes front back rest parts is same =
    let row : id_of s ∷ ((number_bytes (length (content_bytes s)) ++ content_bytes s) ++ rest) ≡ id_of p ∷ ((is.size ++ is.content) ++ back) = sym same ∙ parts ∙ ap (λ l. l ++ back) is.spelled in
    let tail : (number_bytes (length (content_bytes s)) ++ content_bytes s) ++ rest ≡ (is.size ++ is.content) ++ back = cc in
    let read = number_read (length (content_bytes s)) (length is.content) is.size (content_bytes s ++ rest) (is.content ++ back)
    (sym (append_assoc (number_bytes (length (content_bytes s))) (content_bytes s) rest) ∙ tail ∙ append_assoc is.size is.content back) is.sized in
    (subst (λ n. n < 2 ^ 32) read.0 is.sized.small, cut_same is.content (content_bytes s) back rest read.0 (sym read.1))

sizes_fit : (ss : List Section) (place : ℕ) (bytes : List ℕ) (parts : List Section) → bytes ≡ all_spelled ss → AreSections place bytes parts → AllByRecursion (λ s. length (content_bytes s) < 2 ^ 32) ss
sizes_fit [] place bytes parts same are = tt
sizes_fit (s ∷ ss) place bytes [] same are = let none : [] ≡ id_of s ∷ ((block_bytes (content_bytes s)) ++ all_spelled ss) = sym are ∙ same in absurd cc
sizes_fit (s ∷ ss) place bytes (p ∷ parts) same are =
    let one = section_read s p place bytes are.0 are.1.0 (all_spelled ss) are.1.1.0 are.1.1.1 same in
    (one.0, sizes_fit ss (place + length are.0) are.1.0 parts one.1 are.1.1.2)

-- ---- entries fit where the content's size does

pub number_long : (n : ℕ) → 1 ≤ length (number_bytes n)
unfolding number_bytes
number_long n = by_test (ltb n 128) refl
  where
    by_test : (t : Bool) → ltb n 128 ≡ t → 1 ≤ length (groups false 128 9 n)
    by_test true e = omega (arith, ap length (groups-last false 128 8 n (ltb-true n 128 e)))
    by_test false e = omega (arith, ap length (groups-more false 128 8 n (ltb-false n 128 e)))

pub block_long : (bytes : List ℕ) → 1 + length bytes ≤ length (block_bytes bytes)
block_long bytes = omega (arith, number_long (length bytes), length-append (number_bytes (length bytes)) bytes)

module _ {X : Type 0} (spell : X → List ℕ) (long : (x : X) → 1 ≤ length (spell x)) where
  row_long : (xs : List X) → length xs ≤ length (row_bytes spell xs)
  row_long [] = omega arith
  row_long (x ∷ xs) = omega (arith, long x, row_long xs, length-append (spell x) (row_bytes spell xs))

  vector_long : (xs : List X) → 1 + length xs ≤ length (vector_bytes spell xs)
  vector_long xs = omega (arith, row_long xs, number_long (length xs), length-append (number_bytes (length xs)) (row_bytes spell xs))

  module _ (P F : X → Type 0) (top : ℕ) (law : (x : X) → P x → length (spell x) < top → F x) where
    each_fits : (xs : List X) → AllByRecursion P xs → length (row_bytes spell xs) < top → EachFits F xs
    each_fits [] h lt = tt
    each_fits (x ∷ xs) h lt =
        let both : length (row_bytes spell (x ∷ xs)) ≡ length (spell x) + length (row_bytes spell xs) = length-append (spell x) (row_bytes spell xs) in
        (law x h.0 (omega (arith, both, lt)), each_fits xs h.1 (omega (arith, both, lt)))

    pub vector_fits : (xs : List X) → top ≤ 2 ^ 32 → AllByRecursion P xs → length (vector_bytes spell xs) < top → FitsVector F xs
    vector_fits xs most h lt =
        let both : length (vector_bytes spell xs) ≡ length (number_bytes (length xs)) + length (row_bytes spell xs) = length-append (number_bytes (length xs)) (row_bytes spell xs) in
        (omega (arith, most, both, lt, row_long xs), each_fits xs h (omega (arith, both, lt)))

  length_fits : (xs : List X) → length (vector_bytes spell xs) < 2 ^ 32 → length xs < 2 ^ 32
  length_fits xs lt = omega (arith, lt, vector_long xs)

any : {X : Type 0} (xs : List X) → AllByRecursion (λ x. Unit {0}) xs
any [] = tt
any (x ∷ xs) = (tt, any xs)

-- types

reference_long : (r : RawRef) → 1 ≤ length (reference_bytes r)
reference_long r = by_parts r.nullable r.heap
  where
    by_parts : (nullable : Bool) (heap : RawHeap) → 1 ≤ length (reference_spelled nullable heap)
    by_parts true (heaps.Abstract b) = omega arith
    by_parts true (heaps.Index n) = omega arith
    by_parts false heap = omega arith

value_long : (v : RawVal) → 1 ≤ length (value_bytes v)
value_long (Ref r) = reference_long r
value_long I32 = omega arith
value_long I64 = omega arith
value_long F32 = omega arith
value_long F64 = omega arith
value_long V128 = omega arith

field_long : (f : RawFieldType) → 1 ≤ length (field_bytes f)
field_long f = omega (arith, length-append (storage_bytes f.storage) (flag_byte f.mutable ∷ []))

comp_fits : (c : entries.Comp) → length (comp_bytes c) < 2 ^ 32 → CompFits c
comp_fits (entries.Function t) lt =
    let both = length-append (vector_bytes value_bytes t.params) (vector_bytes value_bytes t.results) in
    (length_fits value_bytes value_long t.params (omega (arith, both, lt)), length_fits value_bytes value_long t.results (omega (arith, both, lt)))
comp_fits (entries.Struct fields) lt = length_fits field_bytes field_long fields (omega (arith, lt))
comp_fits (entries.Array field) lt = tt

sub_fits : (s : entries.Sub) → length (sub_bytes s) < 2 ^ 32 → SubFits s
sub_fits s lt = by_parts s.is_final s.supers lt
  where
    with_supers : (supers : List ℕ) → length (vector_bytes number_bytes supers ++ comp_bytes s.comp) < 2 ^ 32 → FitsLength supers × CompFits s.comp
    with_supers supers h =
        let both = length-append (vector_bytes number_bytes supers) (comp_bytes s.comp) in
        (length_fits number_bytes number_long supers (omega (arith, both, h)), comp_fits s.comp (omega (arith, both, h)))

    by_parts : (final : Bool) (supers : List ℕ) → length (sub_spelled final supers (s.comp)) < 2 ^ 32 → FitsLength supers × CompFits s.comp
    by_parts true [] h = (omega arith, comp_fits s.comp h)
    by_parts true (x ∷ xs) h = with_supers (x ∷ xs) (omega (arith, h))
    by_parts false supers h = with_supers supers (omega (arith, h))

comp_long : (c : entries.Comp) → 1 ≤ length (comp_bytes c)
comp_long (entries.Function t) = omega arith
comp_long (entries.Struct fields) = omega arith
comp_long (entries.Array field) = omega arith

sub_long : (s : entries.Sub) → 1 ≤ length (sub_bytes s)
sub_long s = by_parts s.is_final s.supers
  where
    by_parts : (final : Bool) (supers : List ℕ) → 1 ≤ length (sub_spelled final supers (s.comp))
    by_parts true [] = comp_long s.comp
    by_parts true (x ∷ xs) = omega arith
    by_parts false supers = omega arith

group_long : (g : entries.Group) → 1 ≤ length (group_bytes g)
group_long [] = omega arith
group_long (s ∷ []) = sub_long s
group_long (s ∷ t ∷ rest) = omega arith

pub small : 2 ^ 32 ≤ 2 ^ 32
small = omega arith

group_fits : (g : entries.Group) → length (group_bytes g) < 2 ^ 32 → GroupFits g
group_fits [] lt = (omega arith, tt)
group_fits (s ∷ []) lt = (omega arith, (sub_fits s lt, tt))
group_fits (s ∷ t ∷ rest) lt = vector_fits sub_bytes sub_long (λ x. Unit {0}) SubFits (2 ^ 32) (λ x u h. sub_fits x h) (s ∷ t ∷ rest) small (any (s ∷ t ∷ rest)) (omega (arith, lt))

-- the others

import_fits : (x : entries.Import) → DescFits x.desc → length (import_bytes x) < 2 ^ 32 → ImportFits x
import_fits x h lt =
    let one = length-append (block_bytes x.from ++ block_bytes x.name) (desc_bytes x.desc) in
    let two = length-append (block_bytes x.from) (block_bytes x.name) in
    (omega (arith, one, two, lt, block_long x.from), omega (arith, one, two, lt, block_long x.name), h)

import_long : (x : entries.Import) → 1 ≤ length (import_bytes x)
import_long x = omega (arith, length-append (block_bytes x.from ++ block_bytes x.name) (desc_bytes x.desc), length-append (block_bytes x.from) (block_bytes x.name), block_long x.from)

limits_long : (l : RawLimits) → 1 ≤ length (limits_bytes l)
limits_long l = omega arith

table_long : (t : entries.Table) → 1 ≤ length (table_bytes t)
table_long t = by_part t.initial
  where
    by_part : (o : Option entries.Expression) → 1 ≤ length (table_spelled o (table_type_bytes t.ty))
    by_part None = omega (arith, length-append (reference_bytes t.ty.element) (limits_bytes t.ty.limits), reference_long t.ty.element)
    by_part (Some e) = omega arith

expression_long : (e : entries.Expression) → 1 ≤ length (expression_bytes e)
expression_long e = omega (arith, length-append (row_bytes const_bytes e) (0x0B ∷ []))

global_long : (g : entries.Global) → 1 ≤ length (global_bytes g)
global_long g = omega (arith, length-append (global_type_bytes g.ty) (expression_bytes g.initial), expression_long g.initial)

export_fits : (e : entries.Export) → length (export_bytes e) < 2 ^ 32 → ExportFits e
export_fits e lt = omega (arith, lt, length-append (block_bytes e.name) (kind_byte e.kind ∷ number_bytes e.index), block_long e.name)

export_long : (e : entries.Export) → 1 ≤ length (export_bytes e)
export_long e = omega (arith, length-append (block_bytes e.name) (kind_byte e.kind ∷ number_bytes e.index), block_long e.name)

pub behind_less : (front back : List ℕ) (top : ℕ) → length (front ++ back) < top → length back < top
behind_less front back top lt = omega (arith, lt, length-append front back)

fewer : (n top : ℕ) → suc n < top → n < top
fewer n top lt = omega (arith, lt)

element_fits : (m : ElementMode) (i : Items) → length (element_spelled m i) < 2 ^ 32 → ItemsFit i
element_fits (ActiveElements None offset) (entries.Functions fs) lt = length_fits number_bytes number_long fs (behind_less (expression_bytes offset) _ _ (fewer _ _ lt))
element_fits PassiveElements (entries.Functions fs) lt = length_fits number_bytes number_long fs (fewer _ _ (fewer _ _ lt))
element_fits (ActiveElements (Some table) offset) (entries.Functions fs) lt = length_fits number_bytes number_long fs (fewer _ _ (behind_less (number_bytes table ++ expression_bytes offset) _ _ (fewer _ _ lt)))
element_fits DeclaredElements (entries.Functions fs) lt = length_fits number_bytes number_long fs (fewer _ _ (fewer _ _ lt))
element_fits (ActiveElements None offset) (entries.Expressions ty es) lt = length_fits expression_bytes expression_long es (behind_less (expression_bytes offset) _ _ (fewer _ _ lt))
element_fits PassiveElements (entries.Expressions ty es) lt = length_fits expression_bytes expression_long es (behind_less (reference_bytes ty) _ _ (fewer _ _ lt))
element_fits (ActiveElements (Some table) offset) (entries.Expressions ty es) lt = length_fits expression_bytes expression_long es (behind_less (number_bytes table ++ expression_bytes offset ++ reference_bytes ty) _ _ (fewer _ _ lt))
element_fits DeclaredElements (entries.Expressions ty es) lt = length_fits expression_bytes expression_long es (behind_less (reference_bytes ty) _ _ (fewer _ _ lt))

mode_long : (m : ElementMode) (i : Items) → 1 ≤ length (element_spelled m i)
mode_long (ActiveElements None offset) (entries.Functions fs) = omega arith
mode_long PassiveElements (entries.Functions fs) = omega arith
mode_long (ActiveElements (Some table) offset) (entries.Functions fs) = omega arith
mode_long DeclaredElements (entries.Functions fs) = omega arith
mode_long (ActiveElements None offset) (entries.Expressions ty es) = omega arith
mode_long PassiveElements (entries.Expressions ty es) = omega arith
mode_long (ActiveElements (Some table) offset) (entries.Expressions ty es) = omega arith
mode_long DeclaredElements (entries.Expressions ty es) = omega arith

element_long : (e : entries.Element) → 1 ≤ length (element_bytes e)
element_long e = mode_long e.mode e.items

data_fits : (d : entries.Segment) → length (data_bytes d) < 2 ^ 32 → DataFits d
data_fits d lt = omega (arith, lt, length-append (data_mode_bytes d.mode) (block_bytes d.bytes), block_long d.bytes)

data_long : (d : entries.Segment) → 1 ≤ length (data_bytes d)
data_long d = omega (arith, length-append (data_mode_bytes d.mode) (block_bytes d.bytes), block_long d.bytes)

body_fits : (b : wire.Body) → length (body_bytes b) < 2 ^ 32 → FitsLength b.bytes
body_fits b lt = omega (arith, lt, block_long b.bytes)

body_long : (b : wire.Body) → 1 ≤ length (body_bytes b)
body_long b = omega (arith, block_long b.bytes)

tag_long : (t : ℕ) → 1 ≤ length (tag_bytes t)
tag_long t = omega arith

-- limits that aren't wide fit
abbrev LimitsAreFine : Section → Type 0
LimitsAreFine (frames.Imports xs) = AllByRecursion (λ (x : entries.Import). DescFits x.desc) xs
LimitsAreFine (frames.Tables ts) = AllByRecursion TableFits ts
LimitsAreFine (frames.Memories ls) = AllByRecursion LimitsFit ls
LimitsAreFine s = Unit {0}

entries_fit : (s : Section) → LimitsAreFine s → length (content_bytes s) < 2 ^ 32 → EntriesFit s
entries_fit (CustomSection c) h lt = omega (arith, lt, length-append (block_bytes c.name) c.bytes, block_long c.name)
entries_fit (frames.Types gs) h lt = vector_fits group_bytes group_long (λ x. Unit {0}) GroupFits (2 ^ 32) (λ x u l. group_fits x l) gs small (any gs) lt
entries_fit (frames.Imports xs) h lt = vector_fits import_bytes import_long (λ (x : entries.Import). DescFits x.desc) ImportFits (2 ^ 32) import_fits xs small h lt
entries_fit (frames.Functions fs) h lt = length_fits number_bytes number_long fs lt
entries_fit (frames.Tables ts) h lt = vector_fits table_bytes table_long TableFits TableFits (2 ^ 32) (λ x u l. u) ts small h lt
entries_fit (frames.Memories ls) h lt = vector_fits limits_bytes limits_long LimitsFit LimitsFit (2 ^ 32) (λ x u l. u) ls small h lt
entries_fit (frames.Globals gs) h lt = length_fits global_bytes global_long gs lt
entries_fit (frames.Exports es) h lt = vector_fits export_bytes export_long (λ x. Unit {0}) ExportFits (2 ^ 32) (λ x u l. export_fits x l) es small (any es) lt
entries_fit (frames.Start f) h lt = tt
entries_fit (frames.Elements es) h lt = vector_fits element_bytes element_long (λ x. Unit {0}) ElementFits (2 ^ 32) (λ x u l. element_fits x.mode x.items l) es small (any es) lt
entries_fit (frames.Code bs) h lt = vector_fits body_bytes body_long (λ x. Unit {0}) (λ (b : wire.Body). FitsLength b.bytes) (2 ^ 32) (λ x u l. body_fits x l) bs small (any bs) lt
entries_fit (frames.DataSegments ds) h lt = vector_fits data_bytes data_long (λ x. Unit {0}) DataFits (2 ^ 32) (λ x u l. data_fits x l) ds small (any ds) lt
entries_fit (frames.DataCount n) h lt = tt
entries_fit (frames.Tags ts) h lt = length_fits tag_bytes tag_long ts lt

-- ---- limits fit, since what was read has none past 32 bits

minimum_fits : (n top : ℕ) → (top ≤ n → ⊥) → n < top
minimum_fits n top not = by_test (ltb n top) refl
  where
    by_test : (t : Bool) → ltb n top ≡ t → n < top
    by_test true e = ltb-true n top e
    by_test false e = absurd (not (ltb-false n top e))

limits_fit : (l : RawLimits) → (PassesLimit (limits_of l) → ⊥) → LimitsFit l
limits_fit l not = by_width l.wide refl
  where
    maximum : (o : Option ℕ) → l.wide ≡ false → l.maximum ≡ o → MaximumFits false o
    maximum None e is = tt
    maximum (Some n) e is = minimum_fits n (2 ^ 32) (λ big. not (e, inr (n, (is, big))))

    by_width : (w : Bool) → l.wide ≡ w → LimitsFit l
    by_width true e = (subst (λ w. FitsWide w l.minimum) (sym e) tt, subst (λ w. MaximumFits w l.maximum) (sym e) (wide l.maximum))
      where
        wide : (o : Option ℕ) → MaximumFits true o
        wide None = tt
        wide (Some n) = tt
    by_width false e = (subst (λ w. FitsWide w l.minimum) (sym e) (minimum_fits l.minimum (2 ^ 32) (λ big. not (e, inl big))), subst (λ w. MaximumFits w l.maximum) (sym e) (maximum l.maximum e refl))

abbrev TableFine : Table → Type 0
TableFine t = PassesLimit t.ty.limits → ⊥

abbrev MemoryFine : Memory → Type 0
MemoryFine t = PassesLimit t.ty.limits → ⊥

desc_fits : (i : ℕ) (d : RawDesc) → AllByRecursion TableFine (option_to_list (imported_table i d)) → AllByRecursion MemoryFine (option_to_list (imported_memory i d)) → DescFits d
desc_fits i (descs.Function ty) h k = tt
desc_fits i (descs.Table ty) h k = limits_fit ty.limits h.0
desc_fits i (descs.Memory l) h k = limits_fit l k.0
desc_fits i (descs.Global ty) h k = tt
desc_fits i (descs.Tag ty) h k = tt

pub all_each : {X : Type 0} (P : X → Type 0) (xs : List X) → ((i : ℕ) (x : X) → slice_get xs i ≡ Some x → P x) → AllByRecursion P xs
all_each P [] h = tt
all_each P (x ∷ xs) h = (h 0 x refl, all_each P xs (λ i y e. h (suc i) y e))

pub all_front : {X : Type 0} (P : X → Type 0) (xs ys : List X) → AllByRecursion P (xs ++ ys) → AllByRecursion P xs
all_front P [] ys h = tt
all_front P (x ∷ xs) ys h = (h.0, all_front P xs ys h.1)

pub all_back : {X : Type 0} (P : X → Type 0) (xs ys : List X) → AllByRecursion P (xs ++ ys) → AllByRecursion P ys
all_back P [] ys h = h
all_back P (x ∷ xs) ys h = all_back P xs ys h.1

imports_fit : (i : ℕ) (xs : List entries.Import) → AllByRecursion TableFine (imported imported_table i xs) → AllByRecursion MemoryFine (imported imported_memory i xs) → AllByRecursion (λ (x : entries.Import). DescFits x.desc) xs
imports_fit i [] h k = tt
imports_fit i (x ∷ xs) h k = (
  desc_fits i x.desc (all_front TableFine (option_to_list (imported_table i x.desc)) (imported imported_table (i + 1) xs) h) (all_front MemoryFine (option_to_list (imported_memory i x.desc)) (imported imported_memory (i + 1) xs) k),
  imports_fit (i + 1) xs (all_back TableFine (option_to_list (imported_table i x.desc)) (imported imported_table (i + 1) xs) h) (all_back MemoryFine (option_to_list (imported_memory i x.desc)) (imported imported_memory (i + 1) xs) k),
)

tables_fit : (ts : List entries.Table) → AllByRecursion TableFine (map table_of ts) → AllByRecursion TableFits ts
tables_fit [] h = tt
tables_fit (t ∷ ts) h = (limits_fit t.ty.limits h.0, tables_fit ts h.1)

memories_fit : (ls : List RawLimits) → AllByRecursion MemoryFine (map memory_of ls) → AllByRecursion LimitsFit ls
memories_fit [] h = tt
memories_fit (l ∷ ls) h = (limits_fit l h.0, memories_fit ls h.1)

-- ---- all sections of a text

list_fine : {A : Type 0} (make : List A → Section) (xs : List A) → LimitsAreFine (make xs) → AllByRecursion LimitsAreFine (listed make xs)
list_fine make [] h = tt
list_fine make (x ∷ xs) h = (h, tt)

some_fine : (make : ℕ → Section) (o : Option ℕ) → ((n : ℕ) → LimitsAreFine (make n)) → AllByRecursion LimitsAreFine (if_some make o)
some_fine make None h = tt
some_fine make (Some n) h = (h n, tt)

customs_fine : (cs : List wire.Custom) → AllByRecursion LimitsAreFine (map CustomSection cs)
customs_fine [] = tt
customs_fine (c ∷ cs) = (tt, customs_fine cs)

module _ (t : Text) (imports : AllByRecursion (λ (x : entries.Import). DescFits x.desc) t.imports) (tables : AllByRecursion TableFits t.tables) (memories : AllByRecursion LimitsFit t.memories) where
  join : (xs ys : List Section) → AllByRecursion LimitsAreFine xs → AllByRecursion LimitsAreFine ys → AllByRecursion LimitsAreFine (xs ++ ys)
  join xs ys h k = all_append LimitsAreFine xs ys h k

  fine : AllByRecursion LimitsAreFine (sections_of t)
  fine =
      join _ _ (join _ _ (join _ _ (join _ _ (join _ _ (join _ _ (join _ _ (join _ _ (join _ _ (join _ _ (join _ _ (join _ _ (join _ _ (join _ _ (join _ _ (join _ _ (customs_fine t.dylinks)
      (list_fine frames.Types t.types tt)) (list_fine frames.Imports t.imports imports)) (list_fine frames.Functions t.functions tt)) (list_fine frames.Tables t.tables tables))
      (list_fine frames.Memories t.memories memories)) (list_fine frames.Tags t.tags tt)) (list_fine frames.Globals t.globals tt)) (list_fine frames.Exports t.exports tt))
      (some_fine frames.Start t.start (λ n. tt))) (list_fine frames.Elements t.elements tt)) (some_fine frames.DataCount t.data_count (λ n. tt))) (list_fine frames.Code (map unplaced t.bodies) tt))
      (list_fine frames.DataSegments t.data_segments tt)) (list_fine (λ bytes. custom (codes "name") bytes) (names_bytes t.names) tt))
      (list_fine (λ fields. custom (codes "producers") (vector_bytes producer_bytes fields)) t.producers tt)) (customs_fine t.others)

text_fine : (n : Abstract) (t : Text) → n ≡ told t → Fits n → AllByRecursion LimitsAreFine (sections_of t)
text_fine n t is fits =
    let own : Fits (told t) = subst Fits is fits in
    let tables = all_each TableFine (imported imported_table 0 t.imports ++ map table_of t.tables) own.tables in
    let memories = all_each MemoryFine (imported imported_memory 0 t.imports ++ map memory_of t.memories) own.memories in
    fine t
    (imports_fit 0 t.imports (all_front TableFine (imported imported_table 0 t.imports) (map table_of t.tables) tables) (all_front MemoryFine (imported imported_memory 0 t.imports) (map memory_of t.memories) memories))
    (tables_fit t.tables (all_back TableFine (imported imported_table 0 t.imports) (map table_of t.tables) tables))
    (memories_fit t.memories (all_back MemoryFine (imported imported_memory 0 t.imports) (map memory_of t.memories) memories))

pub spelled_fits : SpelledFits
spelled_fits c n t s spells back at =
    let framed = back.framed in
    let rest : all_spelled (sections_of t) ≡ framed.rest = cut_same header header (all_spelled (sections_of t)) framed.rest refl framed.headed in
    let sizes = sizes_fit (sections_of t) 8 framed.rest framed.parts (sym rest) framed.framed in
    let size = each_in (λ x. length (content_bytes x) < 2 ^ 32) (sections_of t) s sizes at in
    (entries_fit s (each_in LimitsAreFine (sections_of t) s (text_fine n t (spells.says ∙ as_told t) (read_fits c (written_as t) n back)) at) size, size)
