-- What the test of types and constant expressions tells: bytes spell them all, or there is one that they don't.
use Rattle.std.proofs.Common.{◌≡◌, ◌≢◌, ◌⊎◌, inl, inr, ⊎_elim, ℕ, Bool, true, false, not, ◌&&◌, ◌||◌, List, [], ◌∷◌, ◌++◌, map, Some, None, refl, sym, ◌∙◌, subst}
use Rattle.std.specs.Prelude.{Contains, Option, flat_map, is_some, option_map}
use Rattle.std.specs.List.{list_all}
use Rattle.std.proofs.lemmas.Bool.{false≢true}
use Rattle.std.proofs.lemmas.List.Elements.{Contains-append_cases, Contains-append_left, Contains-append_right}
use Rattle.std.proofs.lemmas.List.Folds.{list_all-map}
use Rattle.std.proofs.Math.Bool.{and-true}
use Rattle.walrus_base.specs.Arena.{entries, item_at, items}
use Rattle.walrus_base.specs.Types.{CompType, Func, Struct, Array, FieldType, HeapType, OfHeap, Concrete, Exact, IsNotExact, StorageType, Unpacked, I8, I16, ValType, I32, I64, F32, F64, V128, Ref, comp_heaps, field_heaps, storage_heaps, val_heaps}
use Rattle.walrus_base.specs.ConstOps.{const_op, const_ops}
use Rattle.walrus_base.specs.ModuleTypes.{type_slots}
use Rattle.walrus_base.specs.Operators.{Byte, Types, Functions, Tables, Memories, Tags, Globals, Elements, DataSegments, Item, Op}
use Rattle.walrus_base.specs.TypeDef.{TypeDef}
use Rattle.walrus_base.specs.Value.{heap_type, ref_type}
use Rattle.walrus_base.specs.declared.const_expr.Value.TheVariants as constants
use Rattle.walrus_base.specs.declared.const_expr.ConstOp.{ConstOp}
use Rattle.walrus_base.specs.declared.const_expr.ConstOp.TheVariants as ops
use Rattle.walrus_base.specs.declared.const_expr.ConstExpr.{ConstExpr}
use Rattle.walrus_base.specs.declared.const_expr.ConstExpr.TheVariants as expressions
use Rattle.walrus_code.specs.Results.{heap_is_exact}
use Rattle.walrus_items.specs.Data.{DataValue, data_segments}
use Rattle.walrus_items.specs.declared.segments.DataKind.{DataKind}
use Rattle.walrus_items.specs.declared.segments.DataKind.TheVariants as data_kinds
use Rattle.walrus_items.specs.declared.segments.ElementItems.{ElementItems}
use Rattle.walrus_items.specs.declared.segments.ElementItems.TheVariants as element_contents
use Rattle.walrus_items.specs.declared.segments.ElementKind.{ElementKind}
use Rattle.walrus_items.specs.declared.segments.ElementKind.TheVariants as element_kinds
use Rattle.walrus_items.specs.Elements.{ElementValue, elements}
use Rattle.walrus_items.specs.Globals.{GlobalValue, globals}
use Rattle.walrus_items.specs.Tables.{TableValue, tables}
use Rattle.walrus_contents.specs.View.{contents_view, data_kind_of, data_of, element_items_of, element_kind_of, element_of, global_of, own_initialiser, table_of}
use Rattle.walrus_contents.specs.declared.parts.Contents.{Contents}
use Rattle.walrus_model.proofs.Slots.{entry_in, item_seen}
use Rattle.walrus_model.specs.Abstract as abstract
use Rattle.walrus_model.specs.Abstract.{Abstract}
use Rattle.walrus_model.specs.Config.{Config}
use Rattle.walrus_model.specs.WellMade.{arg_heaps, consts_by, consts_in, data_kind_consts, element_item_consts, element_item_heaps, element_kind_consts, heaps_by, heaps_in, op_heaps, option_consts}
use Rattle.walrus_base.proofs.Lists.{Contains-head, Contains-map, Contains-none, Contains-uncons}
use Rattle.walrus_theorem.specs.Refused.{EmptyConstant, ExactConstant, ExactType, HasUnspelled}
use Rattle.walrus_plan.proofs.ReadsBefore.{each_passes, one_fails}
use Rattle.walrus_module.specs.Tested.{comp_is_spelled, const_is_spelled, data_is_spelled, data_kind_is_spelled, element_is_spelled, element_items_are_spelled, element_kind_is_spelled, entry_is_spelled, field_is_spelled, forms_are_spelled, global_is_spelled, is_nothing, op_is_spelled, option_is_spelled, storage_is_spelled, table_is_spelled, type_is_spelled, val_is_spelled}

-- ---- each of a list is good, or one of them is bad

module _ {X : Type 0} (Good Bad : X → Type 0) where
  abbrev Tells : Bool → List X → Type 0
  Tells true xs = (x : X) → Contains xs x → Good x
  Tells false xs = (x : X) × (Contains xs x × Bad x)

  none : Tells true []
  none x at = absurd (Contains-none x at)

  one : (x : X) → Good x → Tells true (x ∷ [])
  one x good y at = ⊎_elim (λ (e : x ≡ y). subst Good e good) (λ later. absurd (Contains-none y later)) (Contains-uncons x y [] at)

  other : (x : X) → Bad x → Tells false (x ∷ [])
  other x bad = (x, (Contains-head x [], bad))

  both : (a b : Bool) (xs ys : List X) → Tells a xs → Tells b ys → Tells (a && b) (xs ++ ys)
  both true true xs ys h k = λ x at. ⊎_elim (h x) (k x) (Contains-append_cases xs ys x at)
  both true false xs ys h k = (k.0, (Contains-append_right xs ys k.0 k.1.0, k.1.1))
  both false b xs ys h k = (h.0, (Contains-append_left xs ys h.0 h.1.0, h.1.1))

  flat : {A : Type 0} (f : A → List X) (p : A → Bool) → ((a : A) → Tells (p a) (f a)) → (all : List A) → Tells (list_all p all) (flat_map f all)
  flat f p h [] = none
  flat f p h (a ∷ all) = both (p a) (list_all p all) (f a) (flat_map f all) (h a) (flat f p h all)

-- ---- heap types

abbrev IsExact : HeapType ℕ → Type 0
IsExact h = IsNotExact h → ⊥

abbrev Plain : Bool → List (HeapType ℕ) → Type 0
Plain b hs = Tells (λ (h : HeapType ℕ). IsNotExact h) IsExact b hs

plain_none : Plain true []
plain_none = none (λ (h : HeapType ℕ). IsNotExact h) IsExact

plain_both : (a b : Bool) (xs ys : List (HeapType ℕ)) → Plain a xs → Plain b ys → Plain (a && b) (xs ++ ys)
plain_both = both (λ (h : HeapType ℕ). IsNotExact h) IsExact

plain_flat : {A : Type 0} (f : A → List (HeapType ℕ)) (p : A → Bool) → ((a : A) → Plain (p a) (f a)) → (all : List A) → Plain (list_all p all) (flat_map f all)
plain_flat = flat (λ (h : HeapType ℕ). IsNotExact h) IsExact

heap_plain : (h : HeapType ℕ) → Plain (not (heap_is_exact h)) (h ∷ [])
heap_plain (OfHeap k) = one (λ (h : HeapType ℕ). IsNotExact h) IsExact (OfHeap k) tt
heap_plain (Concrete t) = one (λ (h : HeapType ℕ). IsNotExact h) IsExact (Concrete t) tt
heap_plain (Exact t) = other (λ (h : HeapType ℕ). IsNotExact h) IsExact (Exact t) (λ n. n)

val_plain : (v : ValType ℕ) → Plain (val_is_spelled v) (val_heaps v)
val_plain (Ref r) = heap_plain r.heap
val_plain I32 = plain_none
val_plain I64 = plain_none
val_plain F32 = plain_none
val_plain F64 = plain_none
val_plain V128 = plain_none

field_plain : (x : FieldType ℕ) → Plain (field_is_spelled x) (field_heaps x)
field_plain x = storage_plain x.storage
  where
    storage_plain : (s : StorageType ℕ) → Plain (storage_is_spelled s) (storage_heaps s)
    storage_plain (Unpacked v) = val_plain v
    storage_plain I8 = plain_none
    storage_plain I16 = plain_none

comp_plain : (x : CompType ℕ) → Plain (comp_is_spelled x) (comp_heaps x)
comp_plain (Func params results) =
    plain_both (list_all val_is_spelled params) (list_all val_is_spelled results) (flat_map val_heaps params) (flat_map val_heaps results)
    (plain_flat val_heaps val_is_spelled val_plain params) (plain_flat val_heaps val_is_spelled val_plain results)
comp_plain (Struct fields) = plain_flat field_heaps field_is_spelled field_plain fields
comp_plain (Array element) = field_plain element

-- ---- constant expressions

bytes_plain : (bytes : List ℕ) → Plain true (flat_map arg_heaps (map Byte bytes))
bytes_plain [] = plain_none
bytes_plain (b ∷ bytes) = bytes_plain bytes

op_plain : (o : ConstOp) → Plain (op_is_spelled o) (op_heaps (const_op o))
op_plain (ops.RefNull heap) = heap_plain (heap_type heap)
op_plain (ops.V128Const bytes) = bytes_plain bytes
op_plain (ops.GlobalGet id) = plain_none
op_plain (ops.I32Const n) = plain_none
op_plain (ops.I64Const n) = plain_none
op_plain (ops.F32Const n) = plain_none
op_plain (ops.F64Const n) = plain_none
op_plain (ops.RefFunc id) = plain_none
op_plain ops.I32Add = plain_none
op_plain ops.I32Sub = plain_none
op_plain ops.I32Mul = plain_none
op_plain ops.I64Add = plain_none
op_plain ops.I64Sub = plain_none
op_plain ops.I64Mul = plain_none
op_plain (ops.StructNew id) = plain_none
op_plain (ops.StructNewDefault id) = plain_none
op_plain (ops.ArrayNew id) = plain_none
op_plain (ops.ArrayNewDefault id) = plain_none
op_plain (ops.ArrayNewFixed id n) = plain_none
op_plain ops.AnyConvertExtern = plain_none
op_plain ops.ExternConvertAny = plain_none
op_plain ops.RefI31 = plain_none

ops_plain : (os : List ConstOp) → Plain (list_all op_is_spelled os) (flat_map op_heaps (map const_op os))
ops_plain [] = plain_none
ops_plain (o ∷ os) = plain_both (op_is_spelled o) (list_all op_is_spelled os) (op_heaps (const_op o)) (flat_map op_heaps (map const_op os)) (op_plain o) (ops_plain os)

abbrev IsFine : List Op → Type 0
IsFine os = (os ≢ []) × ((h : HeapType ℕ) → Contains (flat_map op_heaps os) h → IsNotExact h)

abbrev IsUnfit : List Op → Type 0
IsUnfit os = (os ≡ []) ⊎ ((h : HeapType ℕ) × (Contains (flat_map op_heaps os) h × IsExact h))

abbrev Judged : Bool → List Op → Type 0
Judged true os = IsFine os
Judged false os = IsUnfit os

judged : (b : Bool) (os : List Op) → os ≢ [] → Plain b (flat_map op_heaps os) → Judged b os
judged true os some plain = (some, plain)
judged false os some plain = inr plain

some_op : (o : ConstOp) (os : List ConstOp) → map const_op (o ∷ os) ≢ []
some_op o os e = cc

alone : (o : ConstOp) → Judged (op_is_spelled o) (const_op o ∷ [])
alone o = subst (λ (b : Bool). Judged b (const_op o ∷ [])) (and-true (op_is_spelled o)) (judged (op_is_spelled o && true) (const_op o ∷ []) (some_op o []) (ops_plain (o ∷ [])))

listed : (os : List ConstOp) → Judged (not (is_nothing os) && list_all op_is_spelled os) (map const_op os)
listed [] = inl refl
listed (o ∷ os) = judged (list_all op_is_spelled (o ∷ os)) (map const_op (o ∷ os)) (some_op o os) (ops_plain (o ∷ os))

const_judged : (e : ConstExpr) → Judged (const_is_spelled e) (const_ops e)
const_judged (expressions.Value (constants.I32 n)) = alone (ops.I32Const n)
const_judged (expressions.Value (constants.I64 n)) = alone (ops.I64Const n)
const_judged (expressions.Value (constants.F32 n)) = alone (ops.F32Const n)
const_judged (expressions.Value (constants.F64 n)) = alone (ops.F64Const n)
const_judged (expressions.Value (constants.V128 n)) = alone (ops.V128Const n)
const_judged (expressions.Global id) = alone (ops.GlobalGet id)
const_judged (expressions.RefNull ty) = alone (ops.RefNull ty.heap_type)
const_judged (expressions.RefFunc id) = alone (ops.RefFunc id)
const_judged (expressions.Extended all) = listed all.items

abbrev Fit : Bool → List (List Op) → Type 0
Fit b es = Tells IsFine IsUnfit b es

fit_none : Fit true []
fit_none = none IsFine IsUnfit

fit_by : (b : Bool) (os : List Op) → Judged b os → Fit b (os ∷ [])
fit_by true os fine = one IsFine IsUnfit os fine
fit_by false os unfit = other IsFine IsUnfit os unfit

const_fit : (e : ConstExpr) → Fit (const_is_spelled e) (const_ops e ∷ [])
const_fit e = fit_by (const_is_spelled e) (const_ops e) (const_judged e)

consts_fit : (es : List ConstExpr) → Fit (list_all const_is_spelled es) (map const_ops es)
consts_fit [] = fit_none
consts_fit (e ∷ es) = both IsFine IsUnfit (const_is_spelled e) (list_all const_is_spelled es) (const_ops e ∷ []) (map const_ops es) (const_fit e) (consts_fit es)

option_fit : (e : Option ConstExpr) → Fit (option_is_spelled e) (option_consts (option_map const_ops e))
option_fit None = fit_none
option_fit (Some e) = const_fit e

-- ---- items: their heap types, and their constant expressions

abbrev Whole : Bool → List (HeapType ℕ) → List (List Op) → Type 0
Whole true hs es = Plain true hs × Fit true es
Whole false hs es = Plain false hs ⊎ Fit false es

whole : (a b : Bool) (hs : List (HeapType ℕ)) (es : List (List Op)) → Plain a hs → Fit b es → Whole (a && b) hs es
whole true true hs es h f = (h, f)
whole true false hs es h f = inr f
whole false b hs es h f = inl h

table_whole : (t : TableValue) → Whole (table_is_spelled t) ((table_of t).ty.element.heap ∷ []) (option_consts (table_of t).initialiser)
table_whole t = whole (not (heap_is_exact t.element.heap)) (is_some t.imported_by || option_is_spelled t.initialiser) (t.element.heap ∷ []) (option_consts (own_initialiser t.imported_by (option_map const_ops t.initialiser))) (heap_plain t.element.heap) (own t.imported_by)
  where
    own : (o : Option ℕ) → Fit (is_some o || option_is_spelled t.initialiser) (option_consts (own_initialiser o (option_map const_ops t.initialiser)))
    own None = option_fit t.initialiser
    own (Some i) = fit_none

global_whole : (g : GlobalValue) → Whole (global_is_spelled g) (val_heaps (global_of g).ty.value) (option_consts (global_of g).initialiser)
global_whole g = whole (val_is_spelled g.ty) (option_is_spelled g.initialiser) (val_heaps g.ty) (option_consts (option_map const_ops g.initialiser)) (val_plain g.ty) (option_fit g.initialiser)

kind_fit : (k : ElementKind) → Fit (element_kind_is_spelled k) (element_kind_consts (element_kind_of k))
kind_fit (element_kinds.Active table offset) = const_fit offset
kind_fit element_kinds.Passive = fit_none
kind_fit element_kinds.Declared = fit_none

held_whole : (x : ElementItems) → Whole (element_items_are_spelled x) (element_item_heaps (element_items_of x)) (element_item_consts (element_items_of x))
held_whole (element_contents.Functions fs) = (plain_none, fit_none)
held_whole (element_contents.Expressions ty es) = whole (not (heap_is_exact (ref_type ty).heap)) (list_all const_is_spelled es.items) ((ref_type ty).heap ∷ []) (map const_ops es.items) (heap_plain (ref_type ty).heap) (consts_fit es.items)

with_offset : (a b : Bool) (hs : List (HeapType ℕ)) (os es : List (List Op)) → Fit a os → Whole b hs es → Whole (a && b) hs (os ++ es)
with_offset true true hs os es f w = (w.0, both IsFine IsUnfit true true os es f w.1)
with_offset true false hs os es f (inl h) = inl h
with_offset true false hs os es f (inr e) = inr (both IsFine IsUnfit true false os es f e)
with_offset false true hs os es f w = inr (both IsFine IsUnfit false true os es f w.1)
with_offset false false hs os es f (inl h) = inl h
with_offset false false hs os es f (inr e) = inr (both IsFine IsUnfit false false os es f e)

element_whole : (e : ElementValue) → Whole (element_is_spelled e) (element_item_heaps (element_of e).items) (element_kind_consts (element_of e).kind ++ element_item_consts (element_of e).items)
element_whole e = with_offset (element_kind_is_spelled e.kind) (element_items_are_spelled e.items) (element_item_heaps (element_items_of e.items)) (element_kind_consts (element_kind_of e.kind)) (element_item_consts (element_items_of e.items)) (kind_fit e.kind) (held_whole e.items)

data_whole : (d : DataValue) → Whole (data_is_spelled d) [] (data_kind_consts (data_of d).kind)
data_whole d = by d.kind
  where
    placed : (b : Bool) (es : List (List Op)) → Fit b es → Whole b [] es
    placed true es f = (plain_none, f)
    placed false es f = inr f

    by : (k : DataKind) → Whole (data_kind_is_spelled k) [] (data_kind_consts (data_kind_of k))
    by (data_kinds.Active memory offset) = placed (const_is_spelled offset) (const_ops offset ∷ []) (const_fit offset)
    by data_kinds.Passive = (plain_none, fit_none)

type_whole : (t : TypeDef) → Whole (type_is_spelled t) (comp_heaps t.sub.comp) []
type_whole t = by (type_is_spelled t) (comp_plain t.sub.comp)
  where
    by : (b : Bool) → Plain b (comp_heaps t.sub.comp) → Whole b (comp_heaps t.sub.comp) []
    by true h = (h, fit_none)
    by false h = inl h

-- ---- all items of an index space

module _ {A Y : Type 0} (f : A → Y) (p : A → Bool) (hs : Option Y → List (HeapType ℕ)) (es : Option Y → List (List Op)) (at_none : Whole true (hs None) (es None))
    (tells : (x : A) → Whole (p x) (hs (Some (f x))) (es (Some (f x)))) (slots : List (Option A)) where
  abbrev Here : Bool → ℕ → Type 0
  Here b i = Whole b (hs (option_map f (item_at slots i))) (es (option_map f (item_at slots i)))

  spelled_at : list_all p (items slots) ≡ true → (i : ℕ) (o : Option A) → item_at slots i ≡ o → Whole true (hs (option_map f o)) (es (option_map f o))
  spelled_at h i None at = at_none
  spelled_at h i (Some x) at =
      subst (λ (b : Bool). Whole b (hs (Some (f x))) (es (Some (f x))))
      (each_passes p (items slots) x h (Contains-map (λ (e : ℕ × A). e.1) (i, x) (entries slots) (entry_in slots i x at))) (tells x)

  spelled : list_all p (items slots) ≡ true → (i : ℕ) → Here true i
  spelled h i = spelled_at h i (item_at slots i) refl

  unspelled : list_all p (items slots) ≡ false → (i : ℕ) × Here false i
  unspelled h =
      let x = one_fails p (items slots) h in
      let i = item_seen slots x.0 x.1.0 in
      (i.0, subst (λ (o : Option A). Whole false (hs (option_map f o)) (es (option_map f o))) (sym i.1) (subst (λ (b : Bool). Whole b (hs (Some (f x.0))) (es (Some (f x.0)))) x.1.1 (tells x.0)))

module _ (c : Contents) where
  abbrev V : Abstract
  V = contents_view c

  abbrev TypesWhole : Bool → ℕ → Type 0
  TypesWhole b i = Whole b (heaps_in V (Types, i)) []

  abbrev ItemWhole : Bool → Item → Type 0
  ItemWhole b x = Whole b (heaps_in V x) (consts_in V x)

  types_told : (types : Bool) → types ≡ list_all entry_is_spelled (entries (type_slots c.types)) → types ≡ list_all type_is_spelled (items (type_slots c.types))
  types_told types e = e ∙ sym (list_all-map type_is_spelled (λ (x : ℕ × TypeDef). x.1) (entries (type_slots c.types)))

  abbrev type_heaps : Option TypeDef → List (HeapType ℕ)
  type_heaps o = heaps_by (λ (t : TypeDef). comp_heaps t.sub.comp) o

  same_def : (o : Option TypeDef) → option_map (λ (t : TypeDef). t) o ≡ o
  same_def None = refl
  same_def (Some t) = refl

  types_spelled : list_all type_is_spelled (items (type_slots c.types)) ≡ true → (i : ℕ) → Whole true (heaps_in V (Types, i)) (consts_in V (Types, i))
  types_spelled h i = subst (λ (o : Option TypeDef). Whole true (type_heaps o) []) (same_def (V.types i)) (spelled (λ (t : TypeDef). t) type_is_spelled type_heaps (λ o. []) (plain_none, fit_none) type_whole (type_slots c.types) h i)

  types_unspelled : list_all type_is_spelled (items (type_slots c.types)) ≡ false → (x : Item) × Whole false (heaps_in V x) (consts_in V x)
  types_unspelled h =
      let i = unspelled (λ (t : TypeDef). t) type_is_spelled type_heaps (λ o. []) (plain_none, fit_none) type_whole (type_slots c.types) h in
      ((Types, i.0), subst (λ (o : Option TypeDef). Whole false (type_heaps o) []) (same_def (V.types i.0)) i.1)

  abbrev table_heaps : Option abstract.Table → List (HeapType ℕ)
  table_heaps o = heaps_by (λ (t : abstract.Table). t.ty.element.heap ∷ []) o

  abbrev table_consts : Option abstract.Table → List (List Op)
  table_consts o = consts_by (λ (t : abstract.Table). option_consts t.initialiser) o

  abbrev global_heaps : Option abstract.Global → List (HeapType ℕ)
  global_heaps o = heaps_by (λ (g : abstract.Global). val_heaps g.ty.value) o

  abbrev global_consts : Option abstract.Global → List (List Op)
  global_consts o = consts_by (λ (g : abstract.Global). option_consts g.initialiser) o

  abbrev element_heaps : Option abstract.Element → List (HeapType ℕ)
  element_heaps o = heaps_by (λ (e : abstract.Element). element_item_heaps e.items) o

  abbrev element_consts : Option abstract.Element → List (List Op)
  element_consts o = consts_by (λ (e : abstract.Element). element_kind_consts e.kind ++ element_item_consts e.items) o

  abbrev data_consts : Option abstract.DataSegment → List (List Op)
  data_consts o = consts_by (λ (d : abstract.DataSegment). data_kind_consts d.kind) o

  -- the tests of each kind, together
  record AllSpelled : Type 0 where
    types : list_all type_is_spelled (items (type_slots c.types)) ≡ true
    tables : list_all table_is_spelled (items (tables c.tables)) ≡ true
    globals : list_all global_is_spelled (items (globals c.globals)) ≡ true
    elements : list_all element_is_spelled (items (elements c.elements)) ≡ true
    data_segments : list_all data_is_spelled (items (data_segments c.data_)) ≡ true

  item_spelled : AllSpelled → (x : Item) → x.0 ≢ Functions → ItemWhole true x
  item_spelled all (Types, i) other = types_spelled all.types i
  item_spelled all (Functions, i) other = absurd (other refl)
  item_spelled all (Tables, i) other = spelled table_of table_is_spelled table_heaps table_consts (plain_none, fit_none) table_whole (tables c.tables) all.tables i
  item_spelled all (Memories, i) other = (plain_none, fit_none)
  item_spelled all (Tags, i) other = (plain_none, fit_none)
  item_spelled all (Globals, i) other = spelled global_of global_is_spelled global_heaps global_consts (plain_none, fit_none) global_whole (globals c.globals) all.globals i
  item_spelled all (Elements, i) other = spelled element_of element_is_spelled element_heaps element_consts (plain_none, fit_none) element_whole (elements c.elements) all.elements i
  item_spelled all (DataSegments, i) other = spelled data_of data_is_spelled (λ o. []) data_consts (plain_none, fit_none) data_whole (data_segments c.data_) all.data_segments i

  -- one that no bytes spell
  abbrev OneUnspelled : Type 0
  OneUnspelled = (x : Item) × ItemWhole false x

  tables_unspelled : list_all table_is_spelled (items (tables c.tables)) ≡ false → OneUnspelled
  tables_unspelled h = let i = unspelled table_of table_is_spelled table_heaps table_consts (plain_none, fit_none) table_whole (tables c.tables) h in ((Tables, i.0), i.1)

  globals_unspelled : list_all global_is_spelled (items (globals c.globals)) ≡ false → OneUnspelled
  globals_unspelled h = let i = unspelled global_of global_is_spelled global_heaps global_consts (plain_none, fit_none) global_whole (globals c.globals) h in ((Globals, i.0), i.1)

  elements_unspelled : list_all element_is_spelled (items (elements c.elements)) ≡ false → OneUnspelled
  elements_unspelled h = let i = unspelled element_of element_is_spelled element_heaps element_consts (plain_none, fit_none) element_whole (elements c.elements) h in ((Elements, i.0), i.1)

  data_unspelled : list_all data_is_spelled (items (data_segments c.data_)) ≡ false → OneUnspelled
  data_unspelled h = let i = unspelled data_of data_is_spelled (λ o. []) data_consts (plain_none, fit_none) data_whole (data_segments c.data_) h in ((DataSegments, i.0), i.1)

  cause : (config : Config) → OneUnspelled → HasUnspelled config V
  cause config (x, inl h) = ExactType x h.0 h.1.0 h.1.1
  cause config (x, inr e) = ⊎_elim
      (λ (empty : e.0 ≡ []). EmptyConstant x (subst (λ (os : List Op). Contains (consts_in V x) os) empty e.1.0))
      (λ h. ExactConstant x e.0 h.0 e.1.0 h.1.0 h.1.1)
      e.1.1

  -- of five tests, all pass or one fails
  sorted_out : (a b d e f : Bool) → a ≡ list_all type_is_spelled (items (type_slots c.types)) → b ≡ list_all table_is_spelled (items (tables c.tables)) → d ≡ list_all global_is_spelled (items (globals c.globals))
      → e ≡ list_all element_is_spelled (items (elements c.elements)) → f ≡ list_all data_is_spelled (items (data_segments c.data_))
      → ((a && b && d && e && f) ≡ true → AllSpelled) × ((a && b && d && e && f) ≡ false → OneUnspelled)
  sorted_out true true true true true p q r s t = (λ h. record { types = sym p; tables = sym q; globals = sym r; elements = sym s; data_segments = sym t }, λ h. absurd (false≢true (sym h)))
  sorted_out false b d e f p q r s t = (λ h. absurd (false≢true h), λ h. types_unspelled (sym p))
  sorted_out true false d e f p q r s t = (λ h. absurd (false≢true h), λ h. tables_unspelled (sym q))
  sorted_out true true false e f p q r s t = (λ h. absurd (false≢true h), λ h. globals_unspelled (sym r))
  sorted_out true true true false f p q r s t = (λ h. absurd (false≢true h), λ h. elements_unspelled (sym s))
  sorted_out true true true true false p q r s t = (λ h. absurd (false≢true h), λ h. data_unspelled (sym t))

  told : (forms_are_spelled c ≡ true → AllSpelled) × (forms_are_spelled c ≡ false → OneUnspelled)
  told = sorted_out (list_all entry_is_spelled (entries (type_slots c.types))) (list_all table_is_spelled (items (tables c.tables))) (list_all global_is_spelled (items (globals c.globals)))
      (list_all element_is_spelled (items (elements c.elements))) (list_all data_is_spelled (items (data_segments c.data_)))
      (types_told (list_all entry_is_spelled (entries (type_slots c.types))) refl) refl refl refl refl

  const_fine : AllSpelled → (x : Item) (os : List Op) → Contains (consts_in V x) os → IsFine os
  const_fine all (Functions, i) os at = absurd (Contains-none os at)
  const_fine all (Types, i) os at = absurd (Contains-none os at)
  const_fine all (Memories, i) os at = absurd (Contains-none os at)
  const_fine all (Tags, i) os at = absurd (Contains-none os at)
  const_fine all (Tables, i) os at = (item_spelled all (Tables, i) (λ e. cc)).1 os at
  const_fine all (Globals, i) os at = (item_spelled all (Globals, i) (λ e. cc)).1 os at
  const_fine all (Elements, i) os at = (item_spelled all (Elements, i) (λ e. cc)).1 os at
  const_fine all (DataSegments, i) os at = (item_spelled all (DataSegments, i) (λ e. cc)).1 os at

  -- what the test answers

  pub heaps_fine : forms_are_spelled c ≡ true → (x : Item) (h : HeapType ℕ) → x.0 ≢ Functions → Contains (heaps_in V x) h → IsNotExact h
  heaps_fine e x h other at = (item_spelled (told.0 e) x other).0 h at

  pub const_heaps_fine : forms_are_spelled c ≡ true → (x : Item) (os : List Op) (h : HeapType ℕ) → Contains (consts_in V x) os → Contains (flat_map op_heaps os) h → IsNotExact h
  const_heaps_fine e x os h at has = (const_fine (told.0 e) x os at).1 h has

  pub consts_fine : forms_are_spelled c ≡ true → (x : Item) (os : List Op) → Contains (consts_in V x) os → os ≢ []
  consts_fine e x os at = (const_fine (told.0 e) x os at).0

  pub has_unspelled : forms_are_spelled c ≡ false → (config : Config) → HasUnspelled config V
  has_unspelled e config = cause config (told.1 e)
