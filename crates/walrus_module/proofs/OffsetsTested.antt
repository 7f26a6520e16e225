-- What the test of offsets tells: one operator that gives a value at once gives an address.
use Rattle.std.proofs.Common.{◌≡◌, ◌⊎◌, inl, inr, ⊎_elim, ℕ, ◌≤◌, Bool, true, false, not, List, [], ◌∷◌, map, Some, None, refl, sym, ap, ◌∙◌, subst, arith}
use Rattle.std.specs.Prelude.{Option, option_map}
use Rattle.std.specs.Bool.{Decides}
use Rattle.std.specs.List.{list_all}
use Rattle.std.proofs.lemmas.Bool.{false≢true}
use Rattle.wasm_opcodes.specs.declared.one_byte.TheConstants.{GLOBAL_GET}
use Rattle.walrus_base.specs.Arena.{item_at, items}
use Rattle.walrus_base.specs.Id.{place}
use Rattle.walrus_base.specs.Types.{ValType, I32, I64, F32, F64, V128, Ref}
use Rattle.walrus_base.specs.ConstOps.{const_op, const_ops, value_op}
use Rattle.walrus_base.specs.Operators.{Arg, Globals, Index, Item, Op}
use Rattle.walrus_base.specs.declared.const_expr.Value.{Value as Constant}
use Rattle.walrus_base.specs.declared.const_expr.Value.TheVariants as constants
use Rattle.walrus_base.specs.declared.const_expr.ConstOp.{ConstOp}
use Rattle.walrus_base.specs.declared.const_expr.ConstOp.TheVariants as ops
use Rattle.walrus_base.specs.declared.const_expr.ConstExpr.{ConstExpr}
use Rattle.walrus_base.specs.declared.const_expr.ConstExpr.TheVariants as expressions
use Rattle.walrus_items.specs.Data.{DataValue, data_segments}
use Rattle.walrus_items.specs.declared.segments.DataKind.{DataKind}
use Rattle.walrus_items.specs.declared.segments.DataKind.TheVariants as data_kinds
use Rattle.walrus_items.specs.declared.segments.ElementKind.{ElementKind}
use Rattle.walrus_items.specs.declared.segments.ElementKind.TheVariants as element_kinds
use Rattle.walrus_items.specs.Elements.{ElementValue, elements}
use Rattle.walrus_items.specs.Globals.{GlobalValue, globals}
use Rattle.walrus_items.specs.Memories.{MemoryValue, memories}
use Rattle.walrus_items.specs.Tables.{TableValue, tables}
use Rattle.walrus_contents.specs.View.{contents_view, data_kind_of, data_of, element_kind_of, element_of, global_of, memory_of, table_of}
use Rattle.walrus_contents.specs.declared.parts.Contents.{Contents}
use Rattle.walrus_base.proofs.Lookups.{mapped_some}
use Rattle.walrus_model.specs.Abstract as abstract
use Rattle.walrus_model.specs.Abstract.{Abstract, ActiveData, ActiveElements}
use Rattle.walrus_model.specs.Rules.{IsGetOf, IsPlainOp, OffsetHolds, OffsetsHold, offset_const, offset_type}
use Rattle.walrus_base.proofs.Standing.{some_inj}
use Rattle.walrus_module.specs.Tested.{data_is_placed, element_is_placed, global_gives, is_address, memory_takes, offset_gives, op_gives, ops_give, table_takes, value_gives}
use Rattle.walrus_model.proofs.Deciding.{passed, passes}

-- ---- operators that give a value at once

-- their numbers are 65 to 68, 35, 208, 210, and one behind the prefix of vectors
not_plain : (n : ℕ) → 69 ≤ n → (n ≤ 207) ⊎ (211 ≤ n) → n ≤ 16580619 → IsPlainOp n → ⊥
not_plain n least either most (inl r) = let low : n ≤ 68 = r.1 in omega (arith, least, low)
not_plain n least either most (inr (inl e)) = let is : n ≡ 16580620 = e in omega (arith, most, is)
not_plain n least either most (inr (inr (inl e))) = let is : n ≡ 35 = e in omega (arith, least, is)
not_plain n least (inl low) most (inr (inr (inr (inl e)))) = let is : n ≡ 208 = e in omega (arith, low, is)
not_plain n least (inr high) most (inr (inr (inr (inl e)))) = let is : n ≡ 208 = e in omega (arith, high, is)
not_plain n least (inl low) most (inr (inr (inr (inr e)))) = let is : n ≡ 210 = e in omega (arith, low, is)
not_plain n least (inr high) most (inr (inr (inr (inr e)))) = let is : n ≡ 210 = e in omega (arith, high, is)

-- the two constants of offsets
const_is : (wide : Bool) → (offset_const wide ≡ 65) ⊎ (offset_const wide ≡ 66)
const_is true = inr refl
const_is false = inl refl

address_decides : (wide : Bool) (v : ValType ℕ) → Decides (is_address wide v) (v ≡ offset_type wide)
address_decides false I32 = (λ e. refl, λ h. refl)
address_decides true I64 = (λ e. refl, λ h. refl)
address_decides true I32 = (λ e. absurd (false≢true e), λ h. absurd (cc))
address_decides false I64 = (λ e. absurd (false≢true e), λ h. absurd (cc))
address_decides true F32 = (λ e. absurd (false≢true e), λ h. absurd (cc))
address_decides false F32 = (λ e. absurd (false≢true e), λ h. absurd (cc))
address_decides true F64 = (λ e. absurd (false≢true e), λ h. absurd (cc))
address_decides false F64 = (λ e. absurd (false≢true e), λ h. absurd (cc))
address_decides true V128 = (λ e. absurd (false≢true e), λ h. absurd (cc))
address_decides false V128 = (λ e. absurd (false≢true e), λ h. absurd (cc))
address_decides true (Ref r) = (λ e. absurd (false≢true e), λ h. absurd (cc))
address_decides false (Ref r) = (λ e. absurd (false≢true e), λ h. absurd (cc))

module _ (c : Contents) where
  abbrev V : Abstract
  V = contents_view c

  abbrev slots : List (Option GlobalValue)
  slots = globals c.globals

  abbrev Gives : Bool → Op → Type 0
  Gives wide o = (o.op ≡ offset_const wide) ⊎ IsGetOf V (offset_type wide) o

  abbrev PlainGives : Bool → Op → Type 0
  PlainGives wide o = IsPlainOp o.op → Gives wide o

  -- neither a constant of offsets nor global.get
  no_address : (wide : Bool) (o : Op) → 67 ≤ o.op → Gives wide o → ⊥
  no_address wide o high (inl e) = ⊎_elim
      (λ (is : offset_const wide ≡ 65). let at : o.op ≡ 65 = e ∙ is in omega (arith, high, at))
      (λ (is : offset_const wide ≡ 66). let at : o.op ≡ 66 = e ∙ is in omega (arith, high, at))
      (const_is wide)
  no_address wide o high (inr get) = let is : o.op ≡ 35 = get.0 in omega (arith, high, is)

  -- one that gives another value at once, and one that doesn't give one at once
  another : (wide : Bool) (o : Op) → 67 ≤ o.op → IsPlainOp o.op → Decides false (PlainGives wide o)
  another wide o high plain = (λ e. absurd (false≢true e), λ law. absurd (no_address wide o high (law plain)))

  later : (wide : Bool) (o : Op) → (IsPlainOp o.op → ⊥) → Decides true (PlainGives wide o)
  later wide o not = (λ e plain. absurd (not plain), λ law. refl)

  i32_decides : (wide : Bool) (o : Op) → o.op ≡ 65 → Decides (not wide) (PlainGives wide o)
  i32_decides false o is = (λ e plain. inl is, λ law. refl)
  i32_decides true o is = (λ e. absurd (false≢true e), λ law. absurd (wrong (law (inl ((let l : 65 ≤ o.op = omega (arith, is) in l), (let h : o.op ≤ 68 = omega (arith, is) in h))))))
    where
      wrong : Gives true o → ⊥
      wrong (inl e) = let at : o.op ≡ 66 = e in omega (arith, is, at)
      wrong (inr get) = let at : o.op ≡ 35 = get.0 in omega (arith, is, at)

  i64_decides : (wide : Bool) (o : Op) → o.op ≡ 66 → Decides wide (PlainGives wide o)
  i64_decides true o is = (λ e plain. inl is, λ law. refl)
  i64_decides false o is = (λ e. absurd (false≢true e), λ law. absurd (wrong (law (inl ((let l : 65 ≤ o.op = omega (arith, is) in l), (let h : o.op ≤ 68 = omega (arith, is) in h))))))
    where
      wrong : Gives false o → ⊥
      wrong (inl e) = let at : o.op ≡ 65 = e in omega (arith, is, at)
      wrong (inr get) = let at : o.op ≡ 35 = get.0 in omega (arith, is, at)

  abbrev GlobalGives : Bool → ℕ → Type 0
  GlobalGives wide g = (x : abstract.Global) × (V.globals g ≡ Some x) × (x.ty.value ≡ offset_type wide)

  global_by : (wide : Bool) (g : ℕ) (o : Option GlobalValue) → item_at slots g ≡ o → Decides (global_gives wide o) (GlobalGives wide g)
  global_by wide g None at = (
    λ e. absurd (false≢true e),
    λ h. absurd (let no : ◌≡◌ {A = Option abstract.Global} None (Some h.0) = sym (ap (option_map global_of) at) ∙ h.1 in cc),
  )
  global_by wide g (Some x) at = (
    λ e. (global_of x, ap (option_map global_of) at, (address_decides wide x.ty).0 e),
    λ h. (address_decides wide x.ty).1 (ap (λ (y : abstract.Global). y.ty.value) (some_inj (global_of x) h.0 (sym (ap (option_map global_of) at) ∙ h.1)) ∙ h.2),
  )

  global_decides : (wide : Bool) (g : ℕ) → Decides (global_gives wide (item_at slots g)) (GlobalGives wide g)
  global_decides wide g = global_by wide g (item_at slots g) refl

  abbrev get_op : ℕ → Op
  get_op g = record { op = GLOBAL_GET; args = Index (Globals, g) ∷ [] }

  same_global : (g h : ℕ) → ◌≡◌ {A = List Arg} (Index (Globals, g) ∷ []) (Index (Globals, h) ∷ []) → g ≡ h
  same_global g h e = let p : ◌≡◌ {A = Item} (Globals, g) (Globals, h) = cc in ap (λ (x : Item). x.1) p

  const_no_get : (wide : Bool) → GLOBAL_GET ≡ offset_const wide → ⊥
  const_no_get true e = let is : 35 ≡ 66 = e in omega (arith, is)
  const_no_get false e = let is : 35 ≡ 65 = e in omega (arith, is)

  get_decides : (wide : Bool) (g : ℕ) → Decides (global_gives wide (item_at slots g)) (PlainGives wide (get_op g))
  get_decides wide g = (
    λ e plain. let x = (global_decides wide g).0 e in inr (refl, (g, x.0, refl, x.1, x.2)),
    λ law. (global_decides wide g).1 (gets (law (inr (inr (inl refl))))),
  )
    where
      gets : Gives wide (get_op g) → GlobalGives wide g
      gets (inl e) = absurd (const_no_get wide e)
      gets (inr get) = subst (GlobalGives wide) (sym (same_global g get.1.0 get.1.2)) (get.1.1, get.1.3, get.1.4)

  op_decides : (wide : Bool) (o : ConstOp) → Decides (op_gives slots wide o) (PlainGives wide (const_op o))
  op_decides wide (ops.GlobalGet id) = get_decides wide (place id)
  op_decides wide (ops.I32Const n) = i32_decides wide (const_op (ops.I32Const n)) refl
  op_decides wide (ops.I64Const n) = i64_decides wide (const_op (ops.I64Const n)) refl
  op_decides wide (ops.F32Const n) = another wide (const_op (ops.F32Const n)) (omega arith) (inl (omega arith, omega arith))
  op_decides wide (ops.F64Const n) = another wide (const_op (ops.F64Const n)) (omega arith) (inl (omega arith, omega arith))
  op_decides wide (ops.V128Const n) = another wide (const_op (ops.V128Const n)) (omega arith) (inr (inl refl))
  op_decides wide (ops.RefNull n) = another wide (const_op (ops.RefNull n)) (omega arith) (inr (inr (inr (inl refl))))
  op_decides wide (ops.RefFunc n) = another wide (const_op (ops.RefFunc n)) (omega arith) (inr (inr (inr (inr refl))))
  op_decides wide ops.I32Add = later wide (const_op ops.I32Add) (not_plain 106 (omega arith) (inl (omega arith)) (omega arith))
  op_decides wide ops.I32Sub = later wide (const_op ops.I32Sub) (not_plain 107 (omega arith) (inl (omega arith)) (omega arith))
  op_decides wide ops.I32Mul = later wide (const_op ops.I32Mul) (not_plain 108 (omega arith) (inl (omega arith)) (omega arith))
  op_decides wide ops.I64Add = later wide (const_op ops.I64Add) (not_plain 124 (omega arith) (inl (omega arith)) (omega arith))
  op_decides wide ops.I64Sub = later wide (const_op ops.I64Sub) (not_plain 125 (omega arith) (inl (omega arith)) (omega arith))
  op_decides wide ops.I64Mul = later wide (const_op ops.I64Mul) (not_plain 126 (omega arith) (inl (omega arith)) (omega arith))
  op_decides wide (ops.StructNew id) = later wide (const_op (ops.StructNew id)) (not_plain 16449536 (omega arith) (inr (omega arith)) (omega arith))
  op_decides wide (ops.StructNewDefault id) = later wide (const_op (ops.StructNewDefault id)) (not_plain 16449537 (omega arith) (inr (omega arith)) (omega arith))
  op_decides wide (ops.ArrayNew id) = later wide (const_op (ops.ArrayNew id)) (not_plain 16449542 (omega arith) (inr (omega arith)) (omega arith))
  op_decides wide (ops.ArrayNewDefault id) = later wide (const_op (ops.ArrayNewDefault id)) (not_plain 16449543 (omega arith) (inr (omega arith)) (omega arith))
  op_decides wide (ops.ArrayNewFixed id n) = later wide (const_op (ops.ArrayNewFixed id n)) (not_plain 16449544 (omega arith) (inr (omega arith)) (omega arith))
  op_decides wide ops.AnyConvertExtern = later wide (const_op ops.AnyConvertExtern) (not_plain 16449562 (omega arith) (inr (omega arith)) (omega arith))
  op_decides wide ops.ExternConvertAny = later wide (const_op ops.ExternConvertAny) (not_plain 16449563 (omega arith) (inr (omega arith)) (omega arith))
  op_decides wide ops.RefI31 = later wide (const_op ops.RefI31) (not_plain 16449564 (omega arith) (inr (omega arith)) (omega arith))

  value_decides : (wide : Bool) (v : Constant) → Decides (value_gives wide v) (PlainGives wide (value_op v))
  value_decides wide (constants.I32 n) = op_decides wide (ops.I32Const n)
  value_decides wide (constants.I64 n) = op_decides wide (ops.I64Const n)
  value_decides wide (constants.F32 n) = op_decides wide (ops.F32Const n)
  value_decides wide (constants.F64 n) = op_decides wide (ops.F64Const n)
  value_decides wide (constants.V128 n) = op_decides wide (ops.V128Const n)

  ops_decide : (wide : Bool) (all : List ConstOp) → Decides (ops_give slots wide all) (OffsetHolds V wide (map const_op all))
  ops_decide wide [] = (λ e. tt, λ h. refl)
  ops_decide wide (o ∷ []) = op_decides wide o
  ops_decide wide (o ∷ next ∷ rest) = (λ e. tt, λ h. refl)

  offset_decides : (wide : Bool) (e : ConstExpr) → Decides (offset_gives slots wide e) (OffsetHolds V wide (const_ops e))
  offset_decides wide (expressions.Value v) = value_decides wide v
  offset_decides wide (expressions.Global id) = get_decides wide (place id)
  offset_decides wide (expressions.RefNull ty) = op_decides wide (ops.RefNull ty.heap_type)
  offset_decides wide (expressions.RefFunc id) = op_decides wide (ops.RefFunc id)
  offset_decides wide (expressions.Extended all) = ops_decide wide all.items

  -- ---- segments

  abbrev ElementPlaced : ElementKind → Type 0
  ElementPlaced k = (table : ℕ) (t : abstract.Table) (offset : List Op) → element_kind_of k ≡ ActiveElements table offset → V.tables table ≡ Some t → OffsetHolds V t.ty.limits.wide offset

  table_by : (o : Option TableValue) (e : ConstExpr) → Decides (table_takes slots o e) ((t : abstract.Table) → option_map table_of o ≡ Some t → OffsetHolds V t.ty.limits.wide (const_ops e))
  table_by None e = (λ h t at. absurd (let no : ◌≡◌ {A = Option abstract.Table} None (Some t) = at in cc), λ h. refl)
  table_by (Some x) e = (
    λ h t at. subst (λ (u : abstract.Table). OffsetHolds V u.ty.limits.wide (const_ops e)) (some_inj (table_of x) t at) ((offset_decides x.table64 e).0 h),
    λ law. (offset_decides x.table64 e).1 (law (table_of x) refl),
  )

  element_decides : (k : ElementKind) → Decides (element_is_placed slots (tables c.tables) k) (ElementPlaced k)
  element_decides (element_kinds.Active table e) = (
    λ h n t offset is at. in_table h n t offset (let p : place table ≡ n = cc in p) (let q : const_ops e ≡ offset = cc in q) at,
    λ law. (table_by (item_at (tables c.tables) (place table)) e).1 (λ t at. law (place table) t (const_ops e) refl at),
  )
    where
      in_table : table_takes slots (item_at (tables c.tables) (place table)) e ≡ true → (n : ℕ) (t : abstract.Table) (offset : List Op) → place table ≡ n → const_ops e ≡ offset → V.tables n ≡ Some t → OffsetHolds V t.ty.limits.wide offset
      in_table h n t offset is same at = subst (λ (l : List Op). OffsetHolds V t.ty.limits.wide l) same
          ((table_by (item_at (tables c.tables) (place table)) e).0 h t (subst (λ (k : ℕ). V.tables k ≡ Some t) (sym is) at))
  element_decides element_kinds.Passive = (λ h n t offset is. absurd (cc), λ law. refl)
  element_decides element_kinds.Declared = (λ h n t offset is. absurd (cc), λ law. refl)

  abbrev DataPlaced : DataKind → Type 0
  DataPlaced k = (memory : ℕ) (x : abstract.Memory) (offset : List Op) → data_kind_of k ≡ ActiveData memory offset → V.memories memory ≡ Some x → OffsetHolds V x.ty.limits.wide offset

  memory_by : (o : Option MemoryValue) (e : ConstExpr) → Decides (memory_takes slots o e) ((t : abstract.Memory) → option_map memory_of o ≡ Some t → OffsetHolds V t.ty.limits.wide (const_ops e))
  memory_by None e = (λ h t at. absurd (let no : ◌≡◌ {A = Option abstract.Memory} None (Some t) = at in cc), λ h. refl)
  memory_by (Some x) e = (
    λ h t at. subst (λ (u : abstract.Memory). OffsetHolds V u.ty.limits.wide (const_ops e)) (some_inj (memory_of x) t at) ((offset_decides x.memory64 e).0 h),
    λ law. (offset_decides x.memory64 e).1 (law (memory_of x) refl),
  )

  data_decides : (k : DataKind) → Decides (data_is_placed slots (memories c.memories) k) (DataPlaced k)
  data_decides (data_kinds.Active memory e) = (
    λ h n t offset is at. in_memory h n t offset (let p : place memory ≡ n = cc in p) (let q : const_ops e ≡ offset = cc in q) at,
    λ law. (memory_by (item_at (memories c.memories) (place memory)) e).1 (λ t at. law (place memory) t (const_ops e) refl at),
  )
    where
      in_memory : memory_takes slots (item_at (memories c.memories) (place memory)) e ≡ true → (n : ℕ) (t : abstract.Memory) (offset : List Op) → place memory ≡ n → const_ops e ≡ offset → V.memories n ≡ Some t → OffsetHolds V t.ty.limits.wide offset
      in_memory h n t offset is same at = subst (λ (l : List Op). OffsetHolds V t.ty.limits.wide l) same
          ((memory_by (item_at (memories c.memories) (place memory)) e).0 h t (subst (λ (k : ℕ). V.memories k ≡ Some t) (sym is) at))
  data_decides data_kinds.Passive = (λ h n t offset is. absurd (cc), λ law. refl)

  abbrev elements_test : Bool
  elements_test = list_all (λ (e : ElementValue). element_is_placed slots (tables c.tables) e.kind) (items (elements c.elements))

  abbrev data_test : Bool
  data_test = list_all (λ (d : DataValue). data_is_placed slots (memories c.memories) d.kind) (items (data_segments c.data_))

  pub offsets_hold : elements_test ≡ true → data_test ≡ true → OffsetsHold V
  offsets_hold a b = record {
    elements = λ i n e t offset at is here. let x = mapped_some element_of (item_at (elements c.elements) i) e at in
        passed (λ (y : ElementValue). element_is_placed slots (tables c.tables) y.kind) (λ y. ElementPlaced y.kind) (λ y. element_decides y.kind) (elements c.elements) a i x.0 x.1
        n t offset (ap (λ (u : abstract.Element). u.kind) (sym x.2) ∙ is) here;
    data_segments = λ i n d t offset at is here. let x = mapped_some data_of (item_at (data_segments c.data_) i) d at in
        passed (λ (y : DataValue). data_is_placed slots (memories c.memories) y.kind) (λ y. DataPlaced y.kind) (λ y. data_decides y.kind) (data_segments c.data_) b i x.0 x.1
        n t offset (ap (λ (u : abstract.DataSegment). u.kind) (sym x.2) ∙ is) here;
  }

  pub elements_kept : OffsetsHold V → elements_test ≡ true
  elements_kept rules = passes (λ (y : ElementValue). element_is_placed slots (tables c.tables) y.kind) (λ y. ElementPlaced y.kind) (λ y. element_decides y.kind) (elements c.elements)
      (λ i x at n t offset is here. rules.elements i n (element_of x) t offset (ap (option_map element_of) at) is here)

  pub data_kept : OffsetsHold V → data_test ≡ true
  data_kept rules = passes (λ (y : DataValue). data_is_placed slots (memories c.memories) y.kind) (λ y. DataPlaced y.kind) (λ y. data_decides y.kind) (data_segments c.data_)
      (λ i x at n t offset is here. rules.data_segments i n (data_of x) t offset (ap (option_map data_of) at) is here)
