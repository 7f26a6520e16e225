-- Groups are told by the types that they read as: none is empty, and each stands.
use Rattle.std.proofs.Common.{◌≡◌, ℕ, ◌+◌, true, List, [], ◌∷◌, ◌++◌, map, length, refl, sym, ap, ap₂, ◌∙◌, arith}
use Rattle.std.specs.Prelude.{◌≢◌, All}
use Rattle.std.specs.List.{range_with_len}
use Rattle.std.proofs.lemmas.List.{length-map}
use Rattle.std.proofs.lemmas.List.Elements.{All-head, All-tail}
use Rattle.std.proofs.lemmas.List.FromFn.{length-range_with_len}
use Rattle.wasm_forms.specs.Types.{ValueStands, HeapStands}
use Rattle.wasm_forms.specs.declared.types.RawHeap.TheVariants as raw_heap
use Rattle.wasm_forms.specs.declared.types.RawVal.{RawVal}
use Rattle.wasm_forms.specs.declared.types.RawVal.TheVariants as raw_val
use Rattle.wasm_forms.specs.declared.types.RawHeap.{RawHeap}
use Rattle.walrus_code.specs.Standing.{heap_spells, value_spells}
use Rattle.wasm_entries.specs.declared.record.RawFieldType.{RawFieldType}
use Rattle.wasm_entries.specs.declared.record.RawStorage.{RawStorage}
use Rattle.wasm_entries.specs.declared.record.RawStorage.TheVariants as storages
use Rattle.wasm_entries.specs.Record.{Comp, Function, Struct, Array, Sub, Group}
use Rattle.wasm_entries.specs.TypeSpelling.{StorageStands, FieldStands, CompStands, SubStands, GroupStands}
use Rattle.walrus_base.specs.Types.{StorageType, Unpacked, I8, I16, FieldType, CompType, SubType}
use Rattle.walrus_base.specs.Types as types
use Rattle.walrus_base.specs.TypeDef.{TypeDef}
use Rattle.walrus_code.specs.FromRaw.{val_of}
use Rattle.walrus_groups.specs.Groups.{storage_of, field_of, comp_of, sub_of, members_of, types_from}
use Rattle.walrus_base.proofs.Lists.{map-map}
use Rattle.walrus_code.proofs.OneText.{raw_val_of, val_back}

-- ---- lists

pub map_back : {A B : Type 0} (f : A → B) (g : B → A) (P : A → Type 0) → ((x : A) → P x → g (f x) ≡ x) → (xs : List A) → All P xs → map g (map f xs) ≡ xs
map_back f g P back [] h = refl
map_back f g P back (x ∷ xs) h = ap₂ ◌∷◌ (back x (All-head P x xs h)) (map_back f g P back xs (All-tail P x xs h))

-- two lists of two parts, of which the first ones are as long
pub split_same : {A : Type 0} (xs ys cs ds : List A) → length xs ≡ length ys → xs ++ cs ≡ ys ++ ds → (xs ≡ ys) × (cs ≡ ds)
split_same [] [] cs ds long e = (refl, e)
split_same [] (y ∷ ys) cs ds long e = absurd (omega (arith, long))
split_same (x ∷ xs) [] cs ds long e = absurd (omega (arith, long))
split_same (x ∷ xs) (y ∷ ys) cs ds long e =
    let first : x ≡ y = cc in
    let rest : xs ++ cs ≡ ys ++ ds = cc in
    let parts = split_same xs ys cs ds (omega (arith, long)) rest in
    (ap₂ ◌∷◌ first parts.0, parts.1)

-- ---- a type back as it is spelled

pub heap_stands : (h : RawHeap) → HeapStands h → heap_spells h ≡ true
heap_stands (raw_heap.Abstract b) is = is
heap_stands (raw_heap.Index t) is = refl

pub val_stands : (v : RawVal) → ValueStands v → value_spells v ≡ true
val_stands raw_val.I32 is = refl
val_stands raw_val.I64 is = refl
val_stands raw_val.F32 is = refl
val_stands raw_val.F64 is = refl
val_stands raw_val.V128 is = refl
val_stands (raw_val.Ref r) is = heap_stands r.heap is

vals_back : (vs : List RawVal) → All ValueStands vs → map raw_val_of (map val_of vs) ≡ vs
vals_back vs h = map_back val_of raw_val_of ValueStands (λ v is. val_back v (val_stands v is)) vs h

abbrev raw_storage_of : StorageType ℕ → RawStorage
raw_storage_of (Unpacked v) = storages.Val (raw_val_of v)
raw_storage_of I8 = storages.I8
raw_storage_of I16 = storages.I16

storage_back : (s : RawStorage) → StorageStands s → raw_storage_of (storage_of s) ≡ s
storage_back (storages.Val v) is = ap storages.Val (val_back v (val_stands v is))
storage_back storages.I8 is = refl
storage_back storages.I16 is = refl

abbrev raw_field_of : FieldType ℕ → RawFieldType
raw_field_of f = record { storage = raw_storage_of f.storage; mutable = f.mutable }

field_back : (f : RawFieldType) → FieldStands f → raw_field_of (field_of f) ≡ f
field_back f is = ap (λ (s : RawStorage). record { storage = s; mutable = f.mutable }) (storage_back f.storage is)

abbrev raw_comp_of : CompType ℕ → Comp
raw_comp_of (types.Func params results) = Function (record { params = map raw_val_of params; results = map raw_val_of results })
raw_comp_of (types.Struct fields) = Struct (map raw_field_of fields)
raw_comp_of (types.Array element) = Array (raw_field_of element)

comp_back : (c : Comp) → CompStands c → raw_comp_of (comp_of c) ≡ c
comp_back (Function t) is = ap₂ (λ (ps rs : List RawVal). Function (record { params = ps; results = rs })) (vals_back t.params is.0) (vals_back t.results is.1)
comp_back (Struct fields) is = ap Struct (map_back field_of raw_field_of FieldStands field_back fields is)
comp_back (Array element) is = ap Array (field_back element is)

abbrev raw_sub_of : SubType ℕ → Sub
raw_sub_of s = record { is_final = s.is_final; supers = s.supertypes; comp = raw_comp_of s.comp }

sub_back : (s : Sub) → SubStands s → raw_sub_of (sub_of s) ≡ s
sub_back s is = ap (λ (c : Comp). record { is_final = s.is_final; supers = s.supers; comp = c }) (comp_back s.comp is.1)

-- ---- groups

subs_of : (first : ℕ) (g : Group) → map (λ (x : TypeDef). x.sub) (members_of first g) ≡ map sub_of g
subs_of first g = map-map (λ (x : TypeDef). x.sub) (λ (s : Sub). record { group = range_with_len first (length g); sub = sub_of s }) g

one_group : (first : ℕ) (g h : Group) → GroupStands g → GroupStands h → members_of first g ≡ members_of first h → g ≡ h
one_group first g h is also same =
    let subs : map sub_of g ≡ map sub_of h = sym (subs_of first g) ∙ ap (map (λ (x : TypeDef). x.sub)) same ∙ subs_of first h in
    sym (map_back sub_of raw_sub_of SubStands sub_back g is) ∙ ap (map raw_sub_of) subs ∙ map_back sub_of raw_sub_of SubStands sub_back h also

-- the group of the first one
abbrev head_group : List TypeDef → List ℕ
head_group [] = []
head_group (x ∷ xs) = x.group

as_long : (first m n : ℕ) → range_with_len first m ≡ range_with_len first n → m ≡ n
as_long first m n e = sym (length-range_with_len first m) ∙ ap length e ∙ length-range_with_len first n

long_as : (first : ℕ) (g : Group) → length (members_of first g) ≡ length g
long_as first g = length-map g (λ (s : Sub). record { group = range_with_len first (length g); sub = sub_of s })

-- the types of groups tell the groups
pub one_grouping : (first : ℕ) (gs hs : List Group) → All (λ g. g ≢ []) gs → All (λ g. g ≢ []) hs → All GroupStands gs → All GroupStands hs → types_from first gs ≡ types_from first hs → gs ≡ hs
one_grouping first [] [] full filled stand also e = refl
one_grouping first [] ([] ∷ hs) full filled stand also e = absurd (All-head (λ (g : Group). g ≢ []) [] hs filled refl)
one_grouping first [] ((t ∷ h) ∷ hs) full filled stand also e = absurd cc
one_grouping first ([] ∷ gs) hs full filled stand also e = absurd (All-head (λ (g : Group). g ≢ []) [] gs full refl)
one_grouping first ((s ∷ g) ∷ gs) [] full filled stand also e = absurd cc
one_grouping first ((s ∷ g) ∷ gs) ([] ∷ hs) full filled stand also e = absurd (All-head (λ (g : Group). g ≢ []) [] hs filled refl)
one_grouping first ((s ∷ g) ∷ gs) ((t ∷ h) ∷ hs) full filled stand also e =
    let long : length (s ∷ g) ≡ length (t ∷ h) = as_long first (length (s ∷ g)) (length (t ∷ h)) (ap head_group e) in
    let members : length (members_of first (s ∷ g)) ≡ length (members_of first (t ∷ h)) = long_as first (s ∷ g) ∙ long ∙ sym (long_as first (t ∷ h)) in
    let parts = split_same (members_of first (s ∷ g)) (members_of first (t ∷ h)) (types_from (first + length (s ∷ g)) gs) (types_from (first + length (t ∷ h)) hs) members e in
    let group : s ∷ g ≡ t ∷ h = one_group first (s ∷ g) (t ∷ h) (All-head GroupStands (s ∷ g) gs stand) (All-head GroupStands (t ∷ h) hs also) parts.0 in
    let rest : types_from (first + length (s ∷ g)) gs ≡ types_from (first + length (s ∷ g)) hs = parts.1 ∙ ap (λ (n : ℕ). types_from (first + n) hs) (sym long) in
    ap₂ ◌∷◌ group
    (one_grouping (first + length (s ∷ g)) gs hs (All-tail (λ (g : Group). g ≢ []) (s ∷ g) gs full) (All-tail (λ (g : Group). g ≢ []) (t ∷ h) hs filled) (All-tail GroupStands (s ∷ g) gs stand) (All-tail GroupStands (t ∷ h) hs also) rest)
