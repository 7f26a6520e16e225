-- No exact heap type stands in the types that were read, nor in those that legacy handlers need.
use Rattle.std.proofs.Common.{◌≡◌, ℕ, ◌+◌, Bool, true, false, List, [], ◌∷◌, ◌++◌, length, map, refl, subst, ⊎_elim}
use Rattle.std.specs.Prelude.{Option, Some, None, Contains, flat_map, nat_le, nat_lt, ◌==◌, if◌then◌else◌}
use Rattle.std.specs.List.{AllByRecursion, range_with_len}
use Rattle.wasm_forms.specs.declared.types.RawHeap.{RawHeap}
use Rattle.wasm_forms.specs.declared.types.RawHeap.TheVariants as heaps
use Rattle.wasm_forms.specs.declared.types.RawVal.{RawVal}
use Rattle.wasm_forms.specs.declared.types.RawVal.TheVariants as vals
use Rattle.wasm_entries.specs.declared.record.RawStorage.{RawStorage}
use Rattle.wasm_entries.specs.declared.record.RawStorage.TheVariants as storages
use Rattle.wasm_entries.specs.declared.record.RawFieldType.{RawFieldType}
use Rattle.wasm_entries.specs.Record as entries
use Rattle.walrus_base.specs.Types.{HeapType, ValType, CompType, Func, Struct, Array, IsNotExact, val_heaps, storage_heaps, field_heaps, comp_heaps}
use Rattle.walrus_base.specs.Composite.{FunctionType, function_comp}
use Rattle.walrus_base.specs.Operators.{BlockType, NoResult, OneResult, OfType, Arg, Block, Index, Op}
use Rattle.walrus_base.specs.TypeDef.{TypeDef, type_params, type_results}
use Rattle.walrus_functions.specs.FromRaw.{heap_of, val_of}
use Rattle.walrus_functions.specs.Handlers.{params_of, results_of, OpenBlock, Try, OtherBlock, opens_other, closes, without_innermost, catch_type, catch_all_type, tag_params, block_results, opened_results, caught_params, blocks_after, handler_at, handlers_from}
use Rattle.walrus_groups.specs.Groups.{storage_of, field_of, comp_of, sub_of, members_of, types_from}
use Rattle.walrus_model.specs.WellMade.{block_heaps, arg_heaps, op_heaps}
use Rattle.walrus_base.proofs.Lists.{Contains-none, Contains-uncons}
use Rattle.walrus_functions.proofs.LawNamed.{each_append as all_append}

abbrev pub Plain : List (HeapType ℕ) → Type 0
Plain hs = AllByRecursion (λ (h : HeapType ℕ). IsNotExact h) hs

abbrev NE : HeapType ℕ → Type 0
NE h = IsNotExact h

pub plain_append : (xs ys : List (HeapType ℕ)) → Plain xs → Plain ys → Plain (xs ++ ys)
plain_append xs ys p q = all_append NE xs ys p q

pub plain_left : (xs ys : List (HeapType ℕ)) → Plain (xs ++ ys) → Plain xs
plain_left [] ys h = tt
plain_left (x ∷ xs) ys h = (h.0, plain_left xs ys h.1)

pub plain_right : (xs ys : List (HeapType ℕ)) → Plain (xs ++ ys) → Plain ys
plain_right [] ys h = h
plain_right (x ∷ xs) ys h = plain_right xs ys h.1

-- ---- what was read

pub heap_plain : (h : RawHeap) → IsNotExact (heap_of h)
heap_plain (heaps.Abstract b) = tt
heap_plain (heaps.Index t) = tt

pub val_plain : (v : RawVal) → Plain (val_heaps (val_of v))
val_plain vals.I32 = tt
val_plain vals.I64 = tt
val_plain vals.F32 = tt
val_plain vals.F64 = tt
val_plain vals.V128 = tt
val_plain (vals.Ref r) = (heap_plain r.heap, tt)

vals_plain : (vs : List RawVal) → Plain (flat_map val_heaps (map val_of vs))
vals_plain [] = tt
vals_plain (v ∷ vs) = plain_append (val_heaps (val_of v)) (flat_map val_heaps (map val_of vs)) (val_plain v) (vals_plain vs)

storage_plain : (s : RawStorage) → Plain (storage_heaps (storage_of s))
storage_plain (storages.Val v) = val_plain v
storage_plain storages.I8 = tt
storage_plain storages.I16 = tt

fields_plain : (fs : List RawFieldType) → Plain (flat_map field_heaps (map field_of fs))
fields_plain [] = tt
fields_plain (f ∷ fs) = plain_append (storage_heaps (storage_of f.storage)) (flat_map field_heaps (map field_of fs)) (storage_plain f.storage) (fields_plain fs)

comp_plain : (k : entries.Comp) → Plain (comp_heaps (comp_of k))
comp_plain (entries.Function t) = plain_append (flat_map val_heaps (map val_of t.params)) (flat_map val_heaps (map val_of t.results)) (vals_plain t.params) (vals_plain t.results)
comp_plain (entries.Struct fields) = fields_plain fields
comp_plain (entries.Array field) = storage_plain field.storage

abbrev pub TypePlain : TypeDef → Type 0
TypePlain x = Plain (comp_heaps x.sub.comp)

members_plain : (group : List ℕ) (g : entries.Group) → AllByRecursion TypePlain (map (λ (s : entries.Sub). record { group = group; sub = sub_of s }) g)
members_plain group [] = tt
members_plain group (s ∷ g) = (comp_plain s.comp, members_plain group g)

pub types_plain : (first : ℕ) (gs : List entries.Group) → AllByRecursion TypePlain (types_from first gs)
types_plain first [] = tt
types_plain first (g ∷ gs) = all_append TypePlain (members_of first g) (types_from (first + length g) gs) (members_plain (range_with_len first (length g)) g) (types_plain (first + length g) gs)

-- ---- legacy handlers

abbrev pub ValsPlain : List (ValType ℕ) → Type 0
ValsPlain vs = Plain (flat_map val_heaps vs)

abbrev BothPlain : FunctionType → Type 0
BothPlain f = ValsPlain f.params × ValsPlain f.results

abbrev AllPlain : List FunctionType → Type 0
AllPlain fs = AllByRecursion BothPlain fs

abbrev TriesPlain : List OpenBlock → Type 0
TriesPlain [] = Unit {0}
TriesPlain (Try r ∷ blocks) = ValsPlain r × TriesPlain blocks
TriesPlain (OtherBlock ∷ blocks) = TriesPlain blocks

comp_params_plain : (k : CompType ℕ) → Plain (comp_heaps k) → ValsPlain (type_params k)
comp_params_plain (Func ps rs) h = plain_left (flat_map val_heaps ps) (flat_map val_heaps rs) h
comp_params_plain (Struct fields) h = tt
comp_params_plain (Array element) h = tt

comp_results_plain : (k : CompType ℕ) → Plain (comp_heaps k) → ValsPlain (type_results k)
comp_results_plain (Func ps rs) h = plain_right (flat_map val_heaps ps) (flat_map val_heaps rs) h
comp_results_plain (Struct fields) h = tt
comp_results_plain (Array element) h = tt

one_if : (b : Bool) (f : FunctionType) → BothPlain f → AllPlain (if b then [] else f ∷ [])
one_if true f h = tt
one_if false f h = (h, tt)

one_if_2 : (b : Bool) (f : FunctionType) → BothPlain f → AllPlain (if b then f ∷ [] else [])
one_if_2 true f h = (h, tt)
one_if_2 false f h = tt

catch_plain : (p r : List (ValType ℕ)) → ValsPlain p → ValsPlain r → AllPlain (catch_type p r)
catch_plain [] r hp hr = one_if (nat_le (length r) 1) (record { params = []; results = r }) (tt, hr)
catch_plain (v ∷ p) r hp hr = ((hp, hr), tt)

catch_all_plain : (r : List (ValType ℕ)) → ValsPlain r → AllPlain (catch_all_type r)
catch_all_plain r hr = one_if_2 (nat_lt 1 (length r)) (record { params = []; results = r }) (tt, hr)

two_plain : (a b : Bool) (xs ys : List FunctionType) → AllPlain xs → AllPlain ys → AllPlain (if a then xs else (if b then ys else []))
two_plain true b xs ys h k = h
two_plain false true xs ys h k = k
two_plain false false xs ys h k = tt

inner_plain : (blocks : List OpenBlock) → TriesPlain blocks → TriesPlain (without_innermost blocks)
inner_plain [] h = tt
inner_plain (OtherBlock ∷ blocks) h = h
inner_plain (Try results ∷ blocks) h = h.1

after_plain : (six opens shuts : Bool) (r : List (ValType ℕ)) (blocks : List OpenBlock) → ValsPlain r → TriesPlain blocks → TriesPlain (if six then Try r ∷ blocks else (if opens then OtherBlock ∷ blocks else (if shuts then without_innermost blocks else blocks)))
after_plain true opens shuts r blocks hr h = (hr, h)
after_plain false true shuts r blocks hr h = h
after_plain false false true r blocks hr h = inner_plain blocks h
after_plain false false false r blocks hr h = h

module _ (types : ℕ → Option TypeDef) (tags : ℕ → Option ℕ) (fine : (t : ℕ) (x : TypeDef) → types t ≡ Some x → TypePlain x) where
  pub params_plain : (o : Option TypeDef) → ((x : TypeDef) → o ≡ Some x → TypePlain x) → ValsPlain (params_of o)
  params_plain None h = tt
  params_plain (Some x) h = comp_params_plain x.sub.comp (h x refl)

  results_plain : (o : Option TypeDef) → ((x : TypeDef) → o ≡ Some x → TypePlain x) → ValsPlain (results_of o)
  results_plain None h = tt
  results_plain (Some x) h = comp_results_plain x.sub.comp (h x refl)

  block_plain : (b : BlockType) → Plain (block_heaps b) → ValsPlain (block_results types tags b)
  block_plain NoResult h = tt
  block_plain (OneResult v) h = plain_append (val_heaps v) [] h tt
  block_plain (OfType t) h = results_plain (types t) (fine t)

  opened_plain : (args : List Arg) → Plain (flat_map arg_heaps args) → ValsPlain (opened_results types tags args)
  opened_plain [] h = tt
  opened_plain (Block b ∷ args) h = block_plain b (plain_left (block_heaps b) (flat_map arg_heaps args) h)
  opened_plain (a ∷ args) h = tt

  tag_plain : (o : Option ℕ) → ValsPlain (tag_params types tags o)
  tag_plain None = tt
  tag_plain (Some t) = params_plain (types t) (fine t)

  caught_plain : (args : List Arg) → ValsPlain (caught_params types tags args)
  caught_plain [] = tt
  caught_plain (Index x ∷ args) = tag_plain (tags x.1)
  caught_plain (a ∷ args) = tt

  at_plain : (blocks : List OpenBlock) (o : Op) → TriesPlain blocks → AllPlain (handler_at types tags blocks o)
  at_plain [] o blocks = tt
  at_plain (OtherBlock ∷ around) o blocks = tt
  at_plain (Try r ∷ around) o blocks = two_plain (o.op == 0x07) (o.op == 0x19) (catch_type (caught_params types tags o.args) r) (catch_all_type r) (catch_plain (caught_params types tags o.args) r (caught_plain o.args) blocks.0) (catch_all_plain r blocks.0)

  from_plain : (blocks : List OpenBlock) (ops : List Op) → Plain (flat_map op_heaps ops) → TriesPlain blocks → AllPlain (handlers_from types tags blocks ops)
  from_plain blocks [] h tries = tt
  from_plain blocks (o ∷ ops) h tries =
      all_append BothPlain (handler_at types tags blocks o) (handlers_from types tags (blocks_after types tags blocks o) ops)
      (at_plain blocks o tries)
      (from_plain (blocks_after types tags blocks o) ops (plain_right (op_heaps o) (flat_map op_heaps ops) h)
      (after_plain (o.op == 0x06) (opens_other o.op) (closes o.op) (opened_results types tags o.args) blocks (opened_plain o.args (plain_left (op_heaps o) (flat_map op_heaps ops) h)) tries))

  each_comp : (fs : List FunctionType) → AllPlain fs → (k : CompType ℕ) → Contains (map function_comp fs) k → Plain (comp_heaps k)
  each_comp [] h k at = absurd (Contains-none k at)
  each_comp (f ∷ fs) h k at = ⊎_elim
      (λ e. subst (λ (x : CompType ℕ). Plain (comp_heaps x)) e (plain_append (flat_map val_heaps f.params) (flat_map val_heaps f.results) h.0.0 h.0.1))
      (λ rest. each_comp fs h.1 k rest)
      (Contains-uncons (function_comp f) k (map function_comp fs) at)

  pub handlers_plain : (ops : List Op) → Plain (flat_map op_heaps ops) → (k : CompType ℕ) → Contains (map function_comp (handlers_from types tags (OtherBlock ∷ []) ops)) k → Plain (comp_heaps k)
  handlers_plain ops h k at = each_comp (handlers_from types tags (OtherBlock ∷ []) ops) (from_plain (OtherBlock ∷ []) ops h tt) k at
