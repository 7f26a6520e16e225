-- Indices below so many items of each space: what constant expressions and types of items name.
use Rattle.std.proofs.Common.{◌≡◌, ℕ, ◌<◌, ◌≤◌, List, [], ◌∷◌, ◌++◌, map, refl, subst, arith}
use Rattle.std.specs.Prelude.{Contains, flat_map}
use Rattle.std.specs.List.{AllByRecursion}
use Rattle.std.proofs.lemmas.List.Elements.{recursion_from_All, All-from_recursion}
use Rattle.wasm_forms.specs.declared.types.RawHeap.{RawHeap}
use Rattle.wasm_forms.specs.declared.types.RawHeap.TheVariants as heaps
use Rattle.wasm_forms.specs.declared.types.RawVal.{RawVal}
use Rattle.wasm_forms.specs.declared.types.RawVal.TheVariants as vals
use Rattle.wasm_entries.specs.declared.record.RawConst.{RawConst}
use Rattle.wasm_entries.specs.declared.record.RawConst.TheVariants as ops
use Rattle.wasm_entries.specs.Record.{Expression}
use Rattle.wasm_wire.specs.declared.rules.counts.Counts.{Counts}
use Rattle.wasm_wire.specs.Indices.{HeapHolds, ValueHolds, ConstHolds, ExpressionHolds, with_globals}
use Rattle.walrus_base.specs.Types.{heap_names, val_names}
use Rattle.walrus_base.specs.Operators.{Space, Types, Functions, Tables, Memories, Tags, Globals, Elements, DataSegments, Item, Byte, type_item, arg_names, op_names, names_of}
use Rattle.walrus_code.specs.FromRaw.{heap_of, val_of}
use Rattle.walrus_model.specs.Constants.{const_of, consts_of}
use Rattle.walrus_bodies.proofs.Lists.{all_in, all_flat, all_unflat}
use Rattle.walrus_model.proofs.Parsing.{each_in}

-- ---- so many of each space

abbrev pub number : Counts → (elements segments : ℕ) → Space → ℕ
number c elements segments Types = c.types
number c elements segments Functions = c.functions
number c elements segments Tables = c.tables
number c elements segments Memories = c.memories
number c elements segments Tags = c.tags
number c elements segments Globals = c.globals
number c elements segments Elements = elements
number c elements segments DataSegments = segments

-- the item is one of them
abbrev pub Within : Counts → (elements segments : ℕ) → Item → Type 0
Within c elements segments y = y.1 < number c elements segments y.0

module _ (c : Counts) (e d : ℕ) where
  abbrev W : Item → Type 0
  W y = Within c e d y

  -- ---- types

  pub heap_within : (h : RawHeap) → HeapHolds c.types h → AllByRecursion W (map type_item (heap_names (heap_of h)))
  heap_within (heaps.Index t) a = (a, tt)
  heap_within (heaps.Abstract b) a = tt

  pub heap_holds : (h : RawHeap) → AllByRecursion W (map type_item (heap_names (heap_of h))) → HeapHolds c.types h
  heap_holds (heaps.Index t) a = a.0
  heap_holds (heaps.Abstract b) a = tt

  heap_alone : (h : RawHeap) → HeapHolds c.types h → AllByRecursion W (map type_item (heap_names (heap_of h) ++ []))
  heap_alone (heaps.Index t) a = (a, tt)
  heap_alone (heaps.Abstract b) a = tt

  alone_holds : (h : RawHeap) → AllByRecursion W (map type_item (heap_names (heap_of h) ++ [])) → HeapHolds c.types h
  alone_holds (heaps.Index t) a = a.0
  alone_holds (heaps.Abstract b) a = tt

  pub value_within : (v : RawVal) → ValueHolds c.types v → AllByRecursion W (map type_item (val_names (val_of v)))
  value_within (vals.Ref r) a = heap_alone r.heap a
  value_within vals.I32 a = tt
  value_within vals.I64 a = tt
  value_within vals.F32 a = tt
  value_within vals.F64 a = tt
  value_within vals.V128 a = tt

  pub value_holds : (v : RawVal) → AllByRecursion W (map type_item (val_names (val_of v))) → ValueHolds c.types v
  value_holds (vals.Ref r) a = alone_holds r.heap a
  value_holds vals.I32 a = tt
  value_holds vals.I64 a = tt
  value_holds vals.F32 a = tt
  value_holds vals.F64 a = tt
  value_holds vals.V128 a = tt

  -- ---- constants

  no_names : (bytes : List ℕ) → AllByRecursion W (flat_map arg_names (map Byte bytes))
  no_names [] = tt
  no_names (b ∷ bytes) = no_names bytes

  const_within : (k : RawConst) → ConstHolds c k → AllByRecursion W (op_names (const_of k))
  const_within (ops.GlobalGet g) a = (a, tt)
  const_within (ops.RefFunc f) a = (a, tt)
  const_within (ops.RefNull (heaps.Index t)) a = (a, tt)
  const_within (ops.RefNull (heaps.Abstract b)) a = tt
  const_within (ops.StructNew t) a = (a, tt)
  const_within (ops.StructNewDefault t) a = (a, tt)
  const_within (ops.ArrayNew t) a = (a, tt)
  const_within (ops.ArrayNewDefault t) a = (a, tt)
  const_within (ops.ArrayNewFixed t n) a = (a, tt)
  const_within (ops.I32Const z) a = tt
  const_within (ops.I64Const z) a = tt
  const_within (ops.F32Const bits) a = tt
  const_within (ops.F64Const bits) a = tt
  const_within (ops.V128Const bytes) a = no_names bytes
  const_within ops.I32Add a = tt
  const_within ops.I32Sub a = tt
  const_within ops.I32Mul a = tt
  const_within ops.I64Add a = tt
  const_within ops.I64Sub a = tt
  const_within ops.I64Mul a = tt
  const_within ops.AnyConvertExtern a = tt
  const_within ops.ExternConvertAny a = tt
  const_within ops.RefI31 a = tt

  const_holds : (k : RawConst) → AllByRecursion W (op_names (const_of k)) → ConstHolds c k
  const_holds (ops.GlobalGet g) a = a.0
  const_holds (ops.RefFunc f) a = a.0
  const_holds (ops.RefNull (heaps.Index t)) a = a.0
  const_holds (ops.RefNull (heaps.Abstract b)) a = tt
  const_holds (ops.StructNew t) a = a.0
  const_holds (ops.StructNewDefault t) a = a.0
  const_holds (ops.ArrayNew t) a = a.0
  const_holds (ops.ArrayNewDefault t) a = a.0
  const_holds (ops.ArrayNewFixed t n) a = a.0
  const_holds (ops.I32Const z) a = tt
  const_holds (ops.I64Const z) a = tt
  const_holds (ops.F32Const bits) a = tt
  const_holds (ops.F64Const bits) a = tt
  const_holds (ops.V128Const bytes) a = tt
  const_holds ops.I32Add a = tt
  const_holds ops.I32Sub a = tt
  const_holds ops.I32Mul a = tt
  const_holds ops.I64Add a = tt
  const_holds ops.I64Sub a = tt
  const_holds ops.I64Mul a = tt
  const_holds ops.AnyConvertExtern a = tt
  const_holds ops.ExternConvertAny a = tt
  const_holds ops.RefI31 a = tt

  pub expression_within : (x : Expression) → ExpressionHolds c x → AllByRecursion W (names_of (consts_of x))
  expression_within x h = all_flat (ConstHolds c) W const_of op_names const_within x (recursion_from_All (ConstHolds c) x h)

  pub expression_holds : (x : Expression) → AllByRecursion W (names_of (consts_of x)) → ExpressionHolds c x
  expression_holds x a = All-from_recursion (ConstHolds c) x (all_unflat (ConstHolds c) W const_of op_names const_holds x a)

-- ---- with fewer globals in scope

module _ (c : Counts) (e d n : ℕ) where
  wider : n ≤ c.globals → (y : Item) → Within (with_globals c n) e d y → Within c e d y
  wider few (Types, i) h = h
  wider few (Functions, i) h = h
  wider few (Tables, i) h = h
  wider few (Memories, i) h = h
  wider few (Tags, i) h = h
  wider few (Globals, i) h = let lt : i < n = h in omega (arith, lt, few)
  wider few (Elements, i) h = h
  wider few (DataSegments, i) h = h

  narrower : (y : Item) → Within c e d y → ((g : ℕ) → y ≡ (Globals, g) → g < n) → Within (with_globals c n) e d y
  narrower (Types, i) h low = h
  narrower (Functions, i) h low = h
  narrower (Tables, i) h low = h
  narrower (Memories, i) h low = h
  narrower (Tags, i) h low = h
  narrower (Globals, i) h low = low i refl
  narrower (Elements, i) h low = h
  narrower (DataSegments, i) h low = h

  pub scoped_within : n ≤ c.globals → (x : Expression) → ExpressionHolds (with_globals c n) x → AllByRecursion (λ y. Within c e d y) (names_of (consts_of x))
  scoped_within few x h = all_in (λ y. Within c e d y) (names_of (consts_of x)) (λ y at. wider few y (each_in (λ y. Within (with_globals c n) e d y) (names_of (consts_of x)) y (expression_within (with_globals c n) e d x h) at))

  -- the globals that it names
  pub scoped_low : (x : Expression) → ExpressionHolds (with_globals c n) x → (g : ℕ) → Contains (names_of (consts_of x)) (Globals, g) → g < n
  scoped_low x h g at = each_in (λ y. Within (with_globals c n) e d y) (names_of (consts_of x)) (Globals, g) (expression_within (with_globals c n) e d x h) at

  pub scoped_holds : (x : Expression) → AllByRecursion (λ y. Within c e d y) (names_of (consts_of x)) → ((g : ℕ) → Contains (names_of (consts_of x)) (Globals, g) → g < n) → ExpressionHolds (with_globals c n) x
  scoped_holds x a low =
      expression_holds (with_globals c n) e d x (all_in (λ y. Within (with_globals c n) e d y) (names_of (consts_of x))
      (λ y at. narrower y (each_in (λ y. Within c e d y) (names_of (consts_of x)) y a at) (λ g is. low g (subst (λ (z : Item). Contains (names_of (consts_of x)) z) is at))))
