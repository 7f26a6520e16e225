-- The functions that ref.func names, those that exports and segments declare, and those that are named and not declared.
use Rattle.std.proofs.Common.{◌≡◌, ◌<◌, ◌==◌, ◌||◌, ◌⊎◌, ◌+◌, ℕ, zero, suc, Bool, true, false, List, [], ◌∷◌, length, map, drop, get_or, inl, inr, refl, sym, ap, ◌∙◌, ⊎_elim, subst, eqb-true, eq-eqb, drop-cons, add-one, zero-add, arith}
use Rattle.std.specs.Prelude.{filter_map, flat_map, filter, not, Contains, AllPairs, IsSome, Option, Some, None, option_map, slice_index_or, Result, Ok, Err, IfOk, if◌then◌else◌}
use Rattle.std.specs.List.{AllByRecursion, cons_option}
use Rattle.std.proofs.lemmas.Bool.{false≢true, or_left, or_right}
use Rattle.std.proofs.lemmas.List.Elements.{All-from_recursion, Contains-append_cases, Contains-append_left, Contains-append_right}
use Rattle.std.proofs.lemmas.List.Kept.{AllPairs-cons, AllPairs-filter}
use Rattle.walrus_base.specs.Arena.{item_at, items, entries}
use Rattle.walrus_base.specs.Marks.{marked_from}
use Rattle.walrus_items.specs.Function.{body_of}
use Rattle.walrus_base.specs.ConstOps.{const_ops, value_op}
use Rattle.walrus_base.specs.Operators.{Types, Functions, Tables, Memories, Tags, Globals, Elements, DataSegments, Arg, Index, Label, Local, Number, Count, Byte, S32, S64, Bits32, Bits64, Value as ValueArg, Heap, Block, Access, Item, Op, function_item}
use Rattle.walrus_base.proofs.ShapesEnd.{has_contained}
use Rattle.walrus_items.specs.LocalFunction.{LocalFunction}
use Rattle.walrus_items.specs.Exports.{ExportValue, exports}
use Rattle.walrus_items.specs.Kinds.{exported}
use Rattle.walrus_items.specs.Elements.{ElementValue, elements}
use Rattle.walrus_items.specs.Functions.{FunctionValue, functions}
use Rattle.walrus_items.specs.Globals.{GlobalValue, globals}
use Rattle.walrus_items.specs.declared.function_kind.FunctionKind.{FunctionKind}
use Rattle.walrus_items.specs.declared.function_kind.FunctionKind.TheVariants as kind
use Rattle.walrus_items.specs.declared.segments.ElementItems.{ElementItems}
use Rattle.walrus_items.specs.declared.segments.ElementItems.TheVariants as element_contents
use Rattle.walrus_model.specs.Abstract.{Abstract, Body, Export}
use Rattle.walrus_model.specs.Abstract as abstract
use Rattle.walrus_model.specs.Declared.{ref_func, AreUndeclared, IsRefInBody, IsRefInGlobal, IsUndeclared, Lists}
use Rattle.walrus_model.specs.Live.{IsLive}
use Rattle.walrus_model.specs.Names.{body_of as body_in, body_of_function}
use Rattle.walrus_base.proofs.Lists.{Contains-head, Contains-tail, Contains-uncons, Contains-none, Contains-map}
use Rattle.walrus_model.proofs.Reach.{Contains-unmap}
use Rattle.walrus_base.proofs.Standing.{some_inj}
use Rattle.walrus_model.proofs.TypeRules.{Contains-flat_map}
use Rattle.walrus_base.proofs.Filters.{from_filter, in_filter}
use Rattle.walrus_base.proofs.Lookups.{mapped_some}
use Rattle.walrus_model.proofs.Slots.{entry_in, item_seen}
use Rattle.walrus_contents.specs.declared.parts.Contents.{Contents}
use Rattle.walrus_contents.specs.View.{export_of, body, kind_of, element_items_of, element_of, function, global_of, contents_view}
use Rattle.walrus_base.specs.PlaceList.{has}
use Rattle.walrus_base.specs.declared.const_expr.ConstExpr.{ConstExpr}
use Rattle.walrus_base.specs.declared.const_expr.Value.{Value}
use Rattle.walrus_base.specs.declared.const_expr.Value.TheVariants as constant
use Rattle.walrus_contents.specs.References.{arg_ref, args_ref, op_ref, kind_refs, init_refs, function_refs, global_refs, named_refs, declared_refs, export_refs, function_number, listed_in, listed_refs, only_ref}

-- a constant isn't ref.func
pub value_refs : (v : Value) → filter_map op_ref (value_op v ∷ []) ≡ []
value_refs (constant.I32 n) = refl
value_refs (constant.I64 n) = refl
value_refs (constant.F32 bits) = refl
value_refs (constant.F64 bits) = refl
value_refs (constant.V128 bytes) = refl

-- nor does one stand alone as ref.func does
pub value_alone : (v : Value) → only_ref (value_op v ∷ []) ≡ None
value_alone (constant.I32 n) = refl
value_alone (constant.I64 n) = refl
value_alone (constant.F32 bits) = refl
value_alone (constant.F64 bits) = refl
value_alone (constant.V128 bytes) = refl

-- an expression that is one that names none so
pub no_ref : (e x : ConstExpr) → e ≡ x → only_ref (const_ops x) ≡ None → None ≡ only_ref (const_ops e)
no_ref e x is none = sym (ap (λ (y : ConstExpr). only_ref (const_ops y)) is ∙ none)

-- each of these places is below n, or still to come
abbrev pub Bounds : List ℕ → List ℕ → ℕ → Type 0
Bounds all left n = (f : ℕ) → has all f ≡ true → (f < n) ⊎ (has left f ≡ true)

-- ---- marks of places

-- the places behind one of a slice, seen through a view
pub left_at : {X : Type 0} (value : X → ℕ) (xs : List X) (i : ℕ) (d : X) → i < length xs → map value (drop i xs) ≡ value (get_or xs i d) ∷ map value (drop (i + 1) xs)
left_at value xs i d lt = ap (map value) (let whole : drop i xs ≡ get_or xs i d ∷ drop (i + 1) xs = rw add-one (drop-cons xs i d lt) in whole)

pub room_here : (left rest : List ℕ) (x n : ℕ) → left ≡ x ∷ rest → ((f : ℕ) → has left f ≡ true → f < n) → x < n
room_here left rest x n is room = room x (subst (λ (xs : List ℕ). has xs x ≡ true) (sym is) (or_left (x == x) (has rest x) (eq-eqb x x refl)))

pub room_later : (left rest : List ℕ) (x n m : ℕ) → left ≡ x ∷ rest → m ≡ n → ((f : ℕ) → has left f ≡ true → f < n) → (f : ℕ) → has rest f ≡ true → f < m
room_later left rest x n m is same room f at = subst (λ (k : ℕ). f < k) (sym same) (room f (subst (λ (xs : List ℕ). has xs f ≡ true) (sym is) (or_right (x == f) (has rest f) at)))

swapped : (a b c : Bool) → (b || (a || c)) ≡ ((a || b) || c)
swapped true true c = refl
swapped true false c = refl
swapped false b c = refl

pub marks_go : (left rest : List ℕ) (x : ℕ) (old new all : ℕ → Bool) → left ≡ x ∷ rest → ((f : ℕ) → new f ≡ ((x == f) || old f)) → ((f : ℕ) → (has left f || old f) ≡ all f) → (f : ℕ) → (has rest f || new f) ≡ all f
marks_go left rest x old new all is marked so_far f =
    ap (λ (b : Bool). has rest f || b) (marked f) ∙ swapped (x == f) (has rest f) (old f)
    ∙ ap (λ (xs : List ℕ). has xs f || old f) (sym is) ∙ so_far f

all_above : (bs : List Bool) (s q : ℕ) → q < s → AllByRecursion (λ (y : ℕ). q < y) (marked_from s bs)
all_above [] s q lt = tt
all_above (false ∷ bs) s q lt = all_above bs (s + 1) q (omega (arith, lt))
all_above (true ∷ bs) s q lt = (lt, all_above bs (s + 1) q (omega (arith, lt)))

marks_rise : (bs : List Bool) (s : ℕ) → AllPairs (λ i j. i < j) (marked_from s bs)
marks_rise [] s = λ i j d less low. absurd (omega (arith, low))
marks_rise (false ∷ bs) s = marks_rise bs (s + 1)
marks_rise (true ∷ bs) s = AllPairs-cons (λ i j. i < j) s (marked_from (s + 1) bs) (All-from_recursion (λ (y : ℕ). s < y) (marked_from (s + 1) bs) (all_above bs (s + 1) s (omega arith))) (marks_rise bs (s + 1))

in_marked : (bs : List Bool) (s p q : ℕ) → q ≡ s + p → slice_index_or bs p false ≡ true → Contains (marked_from s bs) q
in_marked [] s p q e h = absurd (false≢true h)
in_marked (false ∷ bs) s zero q e h = absurd (false≢true h)
in_marked (false ∷ bs) s (suc p) q e h = in_marked bs (s + 1) p q (omega (arith, e)) h
in_marked (true ∷ bs) s zero q e h = let same : s ≡ q = omega (arith, e) in subst (λ (x : ℕ). Contains (s ∷ marked_from (s + 1) bs) x) same (Contains-head s (marked_from (s + 1) bs))
in_marked (true ∷ bs) s (suc p) q e h = Contains-tail s q (marked_from (s + 1) bs) (in_marked bs (s + 1) p q (omega (arith, e)) h)

from_marked : (bs : List Bool) (s q : ℕ) → Contains (marked_from s bs) q → (p : ℕ) × (q ≡ s + p) × (slice_index_or bs p false ≡ true)
from_marked [] s q at = absurd (Contains-none q at)
from_marked (false ∷ bs) s q at = let f = from_marked bs (s + 1) q at in (suc f.0, (let e : q ≡ (s + 1) + f.0 = f.1 in omega (arith, e)), f.2)
from_marked (true ∷ bs) s q at = ⊎_elim
    (λ (same : s ≡ q). (0, (omega (arith, same)), refl))
    (λ later. let f = from_marked bs (s + 1) q later in (suc f.0, (let e : q ≡ (s + 1) + f.0 = f.1 in omega (arith, e)), f.2))
    (Contains-uncons s q (marked_from (s + 1) bs) at)

-- ---- lists

pub contained_has : (ns : List ℕ) (p : ℕ) → has ns p ≡ true → Contains ns p
contained_has [] p h = absurd (false≢true h)
contained_has (n ∷ ns) p h = by (n == p) refl h (contained_has ns p)
  where
    by : (t : Bool) → (n == p) ≡ t → (t || has ns p) ≡ true → (has ns p ≡ true → Contains ns p) → Contains (n ∷ ns) p
    by true e h rest = subst (Contains (n ∷ ns)) (eqb-true n p e) (Contains-head n ns)
    by false e h rest = Contains-tail n p ns (rest h)

from_flat : {A : Type 0} (f : A → List ℕ) (xs : List A) (y : ℕ) → Contains (flat_map f xs) y → (x : A) × Contains xs x × Contains (f x) y
from_flat f [] y at = absurd (Contains-none y at)
from_flat f (x ∷ xs) y at = ⊎_elim
    (λ (here : Contains (f x) y). (x, Contains-head x xs, here))
    (λ later. let r = from_flat f xs y later in (r.0, Contains-tail x r.0 xs r.1, r.2))
    (Contains-append_cases (f x) (flat_map f xs) y at)

module _ {X : Type 0} (g : X → Option ℕ) where
  from_filter_map : (xs : List X) (f : ℕ) → Contains (filter_map g xs) f → (x : X) × Contains xs x × (g x ≡ Some f)
  from_filter_map [] f at = absurd (Contains-none f at)
  from_filter_map (x ∷ xs) f at = by (g x) refl at (from_filter_map xs f)
    where
      by : (r : Option ℕ) → g x ≡ r → Contains (cons_option r (filter_map g xs)) f → (Contains (filter_map g xs) f → (y : X) × Contains xs y × (g y ≡ Some f)) → (y : X) × Contains (x ∷ xs) y × (g y ≡ Some f)
      by None e at rest = let r = rest at in (r.0, Contains-tail x r.0 xs r.1, r.2)
      by (Some n) e at rest = ⊎_elim
          (λ (same : n ≡ f). (x, Contains-head x xs, e ∙ ap (λ (k : ℕ). Some k) same))
          (λ later. let r = rest later in (r.0, Contains-tail x r.0 xs r.1, r.2))
          (Contains-uncons n f (filter_map g xs) at)

  in_filter_map : (xs : List X) (x : X) (f : ℕ) → Contains xs x → g x ≡ Some f → Contains (filter_map g xs) f
  in_filter_map [] x f at is = absurd (Contains-none x at)
  in_filter_map (y ∷ xs) x f at is = ⊎_elim
      (λ (same : y ≡ x). here (g y) (ap g same ∙ is))
      (λ later. past (g y) (in_filter_map xs x f later is))
      (Contains-uncons y x xs at)
    where
      here : (r : Option ℕ) → r ≡ Some f → Contains (cons_option r (filter_map g xs)) f
      here None e = absurd (cc)
      here (Some n) e = subst (λ (k : ℕ). Contains (k ∷ filter_map g xs) f) (sym (some_inj n f e)) (Contains-head f (filter_map g xs))

      past : (r : Option ℕ) → Contains (filter_map g xs) f → Contains (cons_option r (filter_map g xs)) f
      past None at = at
      past (Some n) at = Contains-tail n f (filter_map g xs) at

-- ---- operators

arg_is : (a : Arg) (f : ℕ) → arg_ref a ≡ Some f → a ≡ Index (function_item f)
arg_is (Index (Functions, g)) f h = ap (λ (k : ℕ). Index (function_item k)) (some_inj g f h)
arg_is (Index (Types, i)) f h = absurd cc
arg_is (Index (Tables, i)) f h = absurd cc
arg_is (Index (Memories, i)) f h = absurd cc
arg_is (Index (Tags, i)) f h = absurd cc
arg_is (Index (Globals, i)) f h = absurd cc
arg_is (Index (Elements, i)) f h = absurd cc
arg_is (Index (DataSegments, i)) f h = absurd cc
arg_is (Label n) f h = absurd cc
arg_is (Local n) f h = absurd cc
arg_is (Number n) f h = absurd cc
arg_is (Count n) f h = absurd cc
arg_is (Byte n) f h = absurd cc
arg_is (S32 n) f h = absurd cc
arg_is (S64 n) f h = absurd cc
arg_is (Bits32 n) f h = absurd cc
arg_is (Bits64 n) f h = absurd cc
arg_is (ValueArg v) f h = absurd cc
arg_is (Heap v) f h = absurd cc
arg_is (Block v) f h = absurd cc
arg_is (Access flags memory offset) f h = absurd cc

args_are : (xs : List Arg) (f : ℕ) → args_ref xs ≡ Some f → xs ≡ Index (function_item f) ∷ []
args_are [] f h = absurd cc
args_are (a ∷ []) f h = ap (λ (b : Arg). b ∷ []) (arg_is a f h)
args_are (a ∷ b ∷ rest) f h = absurd cc

op_is : (o : Op) (f : ℕ) → op_ref o ≡ Some f → o ≡ ref_func f
op_is o f h = by_test (o.op == 0xD2) refl h
  where
    made : (n : ℕ) (xs : List Arg) → n ≡ 0xD2 → xs ≡ Index (function_item f) ∷ [] → (let x : Op = record { op = n; args = xs } in x) ≡ ref_func f
    made n xs e d = subst (λ m. (let x : Op = record { op = m; args = xs } in x) ≡ ref_func f) (sym e) (ap (λ (bs : List Arg). (let x : Op = record { op = 0xD2; args = bs } in x)) d)

    by_test : (b : Bool) → (o.op == 0xD2) ≡ b → (if b then args_ref o.args else None) ≡ Some f → o ≡ ref_func f
    by_test true is h = made o.op o.args (eqb-true o.op 0xD2 is) (args_are o.args f h)
    by_test false is h = absurd cc

ops_name : (os : List Op) (f : ℕ) → Contains (filter_map op_ref os) f → Contains os (ref_func f)
ops_name os f at = let r = from_filter_map op_ref os f at in subst (λ (o : Op). Contains os o) (op_is r.0 f r.2) r.1

ops_named : (os : List Op) (f : ℕ) → Contains os (ref_func f) → Contains (filter_map op_ref os) f
ops_named os f at = in_filter_map op_ref os (ref_func f) f at refl

only_is : (os : List Op) (f : ℕ) → only_ref os ≡ Some f → os ≡ ref_func f ∷ []
only_is [] f h = absurd cc
only_is (o ∷ []) f h = ap (λ (x : Op). x ∷ []) (op_is o f h)
only_is (o ∷ other ∷ rest) f h = absurd cc

-- ---- exports

number_is : (x : Item) (f : ℕ) → function_number x ≡ Some f → x ≡ function_item f
number_is (Functions, g) f h = ap function_item (some_inj g f h)
number_is (Types, i) f h = absurd cc
number_is (Tables, i) f h = absurd cc
number_is (Memories, i) f h = absurd cc
number_is (Tags, i) f h = absurd cc
number_is (Globals, i) f h = absurd cc
number_is (Elements, i) f h = absurd cc
number_is (DataSegments, i) f h = absurd cc

-- an export leads to each of these functions
ref_exported : (es : List ExportValue) (f : ℕ) → Contains (export_refs es) f → (e : Export) × Contains (map export_of es) e × (e.item ≡ function_item f)
ref_exported es f at =
    let r = from_filter_map (λ (e : ExportValue). function_number (exported e.item)) es f at in
    (export_of r.0, Contains-map export_of r.0 es r.1, number_is (exported r.0.item) f r.2)

-- and each that an export leads to is one of them
exported_ref : (es : List ExportValue) (f : ℕ) (e : Export) → Contains (map export_of es) e → e.item ≡ function_item f → Contains (export_refs es) f
exported_ref es f e at is =
    let r = Contains-unmap export_of es e at in
    in_filter_map (λ (x : ExportValue). function_number (exported x.item)) es r.0 f r.1 (ap function_number (ap (λ (y : Export). y.item) r.2 ∙ is))

-- ---- what a segment lists

ref_listed : (held : ElementItems) (f : ℕ) → Contains (listed_in held) f → Lists (element_items_of held) f
ref_listed (element_contents.Functions fs) f at = at
ref_listed (element_contents.Expressions ty es) f at =
    let r = from_filter_map only_ref (map const_ops es.items) f at in
    subst (λ (ops : List Op). Contains (map const_ops es.items) ops) (only_is r.0 f r.2) r.1

listed_ref : (held : ElementItems) (f : ℕ) → Lists (element_items_of held) f → Contains (listed_in held) f
listed_ref (element_contents.Functions fs) f at = at
listed_ref (element_contents.Expressions ty es) f at = in_filter_map only_ref (map const_ops es.items) (ref_func f ∷ []) f at refl

-- ---- results

pub if_ok : {A E : Type 0} (P Q : A → Type 0) (r : Result A E) → ((a : A) → P a → Q a) → IfOk r P → IfOk r Q
if_ok P Q (Ok a) step h = step a h
if_ok P Q (Err e) step h = h

-- ---- the module

module _ (c : Contents) where
  abbrev V : Abstract
  V = contents_view c

  abbrev IsNamed : ℕ → Type 0
  IsNamed f = IsRefInBody (IsLive V) V f ⊎ IsRefInGlobal (IsLive V) V f

  item_in : {X : Type 0} (slots : List (Option X)) (i : ℕ) (x : X) → item_at slots i ≡ Some x → Contains (items slots) x
  item_in {X} slots i x e = Contains-map (λ (entry : ℕ × X). entry.1) (i, x) (entries slots) (entry_in slots i x e)

  by_kind : (value : FunctionValue) (i : ℕ) → item_at (functions c.funcs) i ≡ Some value → (k : FunctionKind) → value.kind ≡ k → (f : ℕ) → Contains (kind_refs k) f → IsRefInBody (IsLive V) V f
  by_kind value i e (kind.Import m) is f at = absurd (Contains-none f at)
  by_kind value i e (kind.Uninitialized ty) is f at = absurd (Contains-none f at)
  by_kind value i e (kind.Local l) is f at =
      let there : V.functions i ≡ Some (function c.locals value) = ap (option_map (function c.locals)) e in
      let found : body_in V i ≡ Some (body c.locals l) = ap body_of_function there ∙ ap (λ (x : FunctionKind). body_of_function (Some (let g : abstract.Function = record { ty = (function c.locals value).ty; kind = kind_of c.locals x } in g))) is in
      (i, body c.locals l, subst (λ o. IsSome o) (sym there) refl, found, ops_name (body_of l) f at)

  body_named : (f : ℕ) → Contains (function_refs (items (functions c.funcs))) f → IsRefInBody (IsLive V) V f
  body_named f at =
      let q = from_flat (λ (v : FunctionValue). kind_refs v.kind) (items (functions c.funcs)) f at in
      let s = item_seen (functions c.funcs) q.0 q.1 in
      by_kind q.0 s.0 s.1 q.0.kind refl f q.2

  by_init : (value : GlobalValue) (i : ℕ) → item_at (globals c.globals) i ≡ Some value → (o : Option (List Op)) → option_map const_ops value.initialiser ≡ o → (f : ℕ) → Contains (init_refs o) f → IsRefInGlobal (IsLive V) V f
  by_init value i e None is f at = absurd (Contains-none f at)
  by_init value i e (Some ops) is f at =
      let there : V.globals i ≡ Some (global_of value) = ap (option_map global_of) e in
      (i, global_of value, ops, subst (λ o. IsSome o) (sym there) refl, there, is, ops_name ops f at)

  global_named : (f : ℕ) → Contains (global_refs (items (globals c.globals))) f → IsRefInGlobal (IsLive V) V f
  global_named f at =
      let q = from_flat (λ (v : GlobalValue). init_refs (option_map const_ops v.initialiser)) (items (globals c.globals)) f at in
      let s = item_seen (globals c.globals) q.0 q.1 in
      by_init q.0 s.0 s.1 (option_map const_ops q.0.initialiser) refl f q.2

  abbrev N : List ℕ
  N = named_refs (items (functions c.funcs)) (items (globals c.globals))

  is_named : (f : ℕ) → Contains N f → IsNamed f
  is_named f at = ⊎_elim (λ d. inl (body_named f d)) (λ d. inr (global_named f d)) (Contains-append_cases (function_refs (items (functions c.funcs))) (global_refs (items (globals c.globals))) f at)

  -- the body at a place, seen
  slot_at : (o : Option FunctionValue) (b : Body) → body_of_function (option_map (function c.locals) o) ≡ Some b → (value : FunctionValue) × (l : LocalFunction) × (o ≡ Some value) × (value.kind ≡ kind.Local l) × (b ≡ body c.locals l)
  slot_at None b e = absurd (cc)
  slot_at (Some value) b e = by_kind value.kind refl e
    where
      by_kind : (k : FunctionKind) → value.kind ≡ k → body_of_function (Some (let f : abstract.Function = record { ty = (function c.locals value).ty; kind = kind_of c.locals k } in f)) ≡ Some b → (v : FunctionValue) × (l : LocalFunction) × (Some value ≡ Some v) × (v.kind ≡ kind.Local l) × (b ≡ body c.locals l)
      by_kind (kind.Local l) is e = let same : body c.locals l ≡ b = cc in (value, l, refl, is, sym same)
      by_kind (kind.Import i) is e = absurd (cc)
      by_kind (kind.Uninitialized ty) is e = absurd (cc)

  in_body : (f : ℕ) → IsRefInBody (IsLive V) V f → Contains (function_refs (items (functions c.funcs))) f
  in_body f r =
      let s = slot_at (item_at (functions c.funcs) r.0) r.1 r.3 in
      let at : Contains (body_of s.1) (ref_func f) = subst (λ (b : Body). Contains b.operators (ref_func f)) s.4 r.4 in
      Contains-flat_map (λ (v : FunctionValue). kind_refs v.kind) (items (functions c.funcs)) s.0 f (item_in (functions c.funcs) r.0 s.0 s.2)
      (subst (λ (k : FunctionKind). Contains (kind_refs k) f) (sym s.3) (ops_named (body_of s.1) f at))

  in_global : (f : ℕ) → IsRefInGlobal (IsLive V) V f → Contains (global_refs (items (globals c.globals))) f
  in_global f r =
      let s = mapped_some global_of (item_at (globals c.globals) r.0) r.1 r.4 in
      let is : option_map const_ops s.0.initialiser ≡ Some r.2 = ap (λ (g : abstract.Global). g.initialiser) (sym s.2) ∙ r.5 in
      Contains-flat_map (λ (v : GlobalValue). init_refs (option_map const_ops v.initialiser)) (items (globals c.globals)) s.0 f (item_in (globals c.globals) r.0 s.0 s.1)
      (subst (λ (o : Option (List Op)). Contains (init_refs o) f) (sym is) (ops_named r.2 f r.6))

  has_name : (f : ℕ) → IsRefInBody (IsLive V) V f ⊎ IsRefInGlobal (IsLive V) V f → Contains N f
  has_name f (inl r) = Contains-append_left (function_refs (items (functions c.funcs))) (global_refs (items (globals c.globals))) f (in_body f r)
  has_name f (inr r) = Contains-append_right (function_refs (items (functions c.funcs))) (global_refs (items (globals c.globals))) f (in_global f r)

  -- ---- what is declared

  -- a function is listed where a segment of the module lists it
  listed_there : (f : ℕ) → Contains (listed_refs (items (elements c.elements))) f → (i : ℕ) × (e : abstract.Element) × (V.elements i ≡ Some e) × Lists e.items f
  listed_there f at =
      let q = from_flat (λ (e : ElementValue). listed_in e.items) (items (elements c.elements)) f at in
      let s = item_seen (elements c.elements) q.0 q.1 in
      (s.0, element_of q.0, ap (option_map element_of) s.1, ref_listed q.0.items f q.2)

  there_listed : (f i : ℕ) (e : abstract.Element) → V.elements i ≡ Some e → Lists e.items f → Contains (listed_refs (items (elements c.elements))) f
  there_listed f i e is at =
      let s = mapped_some element_of (item_at (elements c.elements) i) e is in
      Contains-flat_map (λ (x : ElementValue). listed_in x.items) (items (elements c.elements)) s.0 f (item_in (elements c.elements) i s.0 s.1)
      (listed_ref s.0.items f (subst (λ (x : abstract.Element). Lists x.items f) s.2 at))

  abbrev D : List ℕ
  D = declared_refs (items (exports c.exports)) (items (elements c.elements))

  export_declares : (f : ℕ) (e : Export) → Contains V.exports e → e.item ≡ function_item f → Contains D f
  export_declares f e at is = Contains-append_left (export_refs (items (exports c.exports))) (listed_refs (items (elements c.elements))) f (exported_ref (items (exports c.exports)) f e at is)

  segment_declares : (f i : ℕ) (e : abstract.Element) → V.elements i ≡ Some e → Lists e.items f → Contains D f
  segment_declares f i e is at = Contains-append_right (export_refs (items (exports c.exports))) (listed_refs (items (elements c.elements))) f (there_listed f i e is at)

  -- what is undeclared isn't among what is declared
  undeclared_not : (f : ℕ) → IsUndeclared (IsLive V) V f → Contains D f → ⊥
  undeclared_not f u at = ⊎_elim
      (λ at_export. let x = ref_exported (items (exports c.exports)) f at_export in u.not_exported x.0 x.1 x.2)
      (λ at_segment. let x = listed_there f at_segment in u.not_listed x.0 x.1 (subst (λ (o : Option abstract.Element). IsSome o) (sym x.2) refl) x.2 x.3)
      (Contains-append_cases (export_refs (items (exports c.exports))) (listed_refs (items (elements c.elements))) f at)

  negated : (b : Bool) → not b ≡ true → b ≡ false
  negated true e = absurd (false≢true e)
  negated false e = refl

  module _ (bs : List Bool) (holds : ℕ → Bool) (named declared : List ℕ) (names : named ≡ N) (declares : declared ≡ D)
      (marks : (f : ℕ) → slice_index_or bs f false ≡ has named f) (held : (f : ℕ) → holds f ≡ has declared f) where
    abbrev left : List ℕ
    left = filter (λ f. not (holds f)) (marked_from 0 bs)

    not_held : (f : ℕ) → not (holds f) ≡ true → Contains D f → ⊥
    not_held f passes at = false≢true (sym (negated (holds f) passes) ∙ held f ∙ has_contained declared f (subst (λ (xs : List ℕ). Contains xs f) (sym declares) at))

    told : (f : ℕ) → Contains left f → IsUndeclared (IsLive V) V f
    told f at =
        let q = from_filter (λ f. not (holds f)) (marked_from 0 bs) f at in
        let m = from_marked bs 0 f q.0 in
        let same : f ≡ m.0 = m.1 ∙ zero-add m.0 in
        let marked : slice_index_or bs f false ≡ true = subst (λ (k : ℕ). slice_index_or bs k false ≡ true) (sym same) m.2 in
        let at_all : Contains N f = subst (λ (xs : List ℕ). Contains xs f) names (contained_has named f (sym (marks f) ∙ marked)) in
        record {
          named = is_named f at_all;
          not_exported = λ e at is. not_held f q.1 (export_declares f e at is);
          not_listed = λ i e live is at. not_held f q.1 (segment_declares f i e is at);
        }

    found : (f : ℕ) → IsUndeclared (IsLive V) V f → Contains left f
    found f u =
        let at : Contains named f = subst (λ (xs : List ℕ). Contains xs f) (sym names) (has_name f u.named) in
        let marked : slice_index_or bs f false ≡ true = marks f ∙ has_contained named f at in
        in_filter (λ f. not (holds f)) (marked_from 0 bs) f (in_marked bs 0 f f (sym (zero-add f)) marked) (by (holds f) refl)
      where
        by : (b : Bool) → holds f ≡ b → not (holds f) ≡ true
        by false e = ap not e
        by true e = absurd (undeclared_not f u (subst (λ (xs : List ℕ). Contains xs f) declares (contained_has declared f (sym (held f) ∙ e))))

    -- what is marked, where that is what is named, but for what is declared
    pub undeclared : (fs : List ℕ) → fs ≡ left → AreUndeclared (IsLive V) V fs
    undeclared fs is = subst (λ (xs : List ℕ). AreUndeclared (IsLive V) V xs) (sym is) (record {
      rising = AllPairs-filter (λ i j. i < j) (λ f. not (holds f)) (marked_from 0 bs) (marks_rise bs 0);
      are = λ f. (told f, found f);
    })

  -- nothing, where nothing is named
  pub none_named : (fs : List ℕ) → fs ≡ N → length fs ≡ 0 → AreUndeclared (IsLive V) V fs
  none_named [] same e = undeclared [] (has D) [] D same refl (λ f. refl) (λ f. refl) [] refl
  none_named (f ∷ fs) same e = absurd (omega (arith, e))
