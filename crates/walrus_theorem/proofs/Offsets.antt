-- The rule on offsets of segments is the same on records.
use Rattle.std.proofs.Common.{inl, inr, ◌≡◌, ◌⊎◌, ℕ, ◌≤◌, Bool, true, false, List, [], ◌∷◌, refl, sym, ap, subst, ◌∙◌, arith}
use Rattle.std.specs.Prelude.{Option, Some, None, All, slice_get, option_map, unwrap_or}
use Rattle.std.proofs.lemmas.List.Elements.{recursion_from_All, All-from_recursion}
use Rattle.wasm_forms.specs.declared.types.RawVal.{RawVal}
use Rattle.wasm_forms.specs.declared.types.RawVal.TheVariants as vals
use Rattle.wasm_entries.specs.declared.record.RawConst.{RawConst}
use Rattle.wasm_entries.specs.declared.record.RawConst.TheVariants as ops
use Rattle.wasm_entries.specs.declared.record.RawGlobalType.{RawGlobalType}
use Rattle.wasm_entries.specs.declared.record.RawLimits.{RawLimits}
use Rattle.wasm_entries.specs.declared.record.RawTableType.{RawTableType}
use Rattle.wasm_entries.specs.Record as entries
use Rattle.wasm_entries.specs.Record.{Expression}
use Rattle.wasm_frames.specs.Record as wire
use Rattle.wasm_wire.specs.Context.{context_of}
use Rattle.wasm_wire.specs.Rules as records
use Rattle.walrus_base.specs.Operators.{Globals, Item, Arg, Index, Op}
use Rattle.walrus_code.specs.FromRaw.{val_of}
use Rattle.walrus_model.specs.Abstract.{Abstract, Global, GlobalType, Table, TableType, Memory, MemoryType, Element, ActiveElements, DataSegment, ActiveData}
use Rattle.walrus_model.specs.Constants.{const_of, consts_of}
use Rattle.walrus_model.specs.Rules.{IsPlainOp, IsGetOf, OffsetHolds, offset_type, offset_const}
use Rattle.walrus_model.specs.Sections.{Said, tables_of, memories_of, globals_of, elements_of, data_segments_of, element_of, element_kind, data_of, data_kind, table_type_of, memory_type_of, global_type_of, module_of}
use Rattle.walrus_base.proofs.Standing.{some_inj}
use Rattle.walrus_theorem.proofs.TextShaped.{all_at}
use Rattle.walrus_theorem.proofs.SpelledFits.{all_each}
use Rattle.walrus_base.proofs.Lookups.{mapped_some, got_map}
use Rattle.walrus_theorem.proofs.Images.{tables_look, memories_look, globals_look}
use Rattle.walrus_bodies.proofs.Lists.{looked_at}

-- ---- types of addresses

address_by : (wide : Bool) (v : RawVal) → records.IsAddress wide v → val_of v ≡ offset_type wide
address_by true v h = ap val_of h
address_by false v h = ap val_of h

address_was : (wide : Bool) (v : RawVal) → val_of v ≡ offset_type wide → records.IsAddress wide v
address_was true vals.I64 e = refl
address_was true vals.I32 e = absurd (cc)
address_was true vals.F32 e = absurd (cc)
address_was true vals.F64 e = absurd (cc)
address_was true vals.V128 e = absurd (cc)
address_was true (vals.Ref r) e = absurd (cc)
address_was false vals.I32 e = refl
address_was false vals.I64 e = absurd (cc)
address_was false vals.F32 e = absurd (cc)
address_was false vals.F64 e = absurd (cc)
address_was false vals.V128 e = absurd (cc)
address_was false (vals.Ref r) e = absurd (cc)

abbrev Same : Option Global → Option RawGlobalType → Type 0
Same o y = option_map (λ (g : Global). g.ty) o ≡ option_map global_type_of y

get_by : (wide : Bool) (o : Option Global) (y : Option RawGlobalType) → Same o y → records.GlobalIsAddress wide y → (x : Global) × (o ≡ Some x) × (x.ty.value ≡ offset_type wide)
get_by wide o None same h = absurd h
get_by wide None (Some y) same h = absurd (cc)
get_by wide (Some x) (Some y) same h = (x, refl, ap (λ (t : GlobalType). t.value) (some_inj x.ty (global_type_of y) same) ∙ address_by wide y.value h)

get_was : (wide : Bool) (o : Option Global) (y : Option RawGlobalType) → Same o y → (x : Global) → o ≡ Some x → x.ty.value ≡ offset_type wide → records.GlobalIsAddress wide y
get_was wide o None same x is v = let p : Some x.ty ≡ None = sym (ap (option_map (λ (g : Global). g.ty)) is) ∙ same in absurd (cc)
get_was wide o (Some y) same x is v =
    let t : x.ty ≡ global_type_of y = some_inj x.ty (global_type_of y) (sym (ap (option_map (λ (g : Global). g.ty)) is) ∙ same) in
    address_was wide y.value (sym (ap (λ (t : GlobalType). t.value) t) ∙ v)

-- ---- operators by their numbers

-- the numbers of the plain ones are 65 to 68, 35, 208, 210, and one behind the prefix of vectors
low_odd : {A : Type 0} (n : ℕ) → 69 ≤ n → n ≤ 207 → IsPlainOp n → A
low_odd n least most (inl r) = absurd (let low : n ≤ 68 = r.1 in omega (arith, least, low))
low_odd n least most (inr (inl e)) = absurd (let is : n ≡ 16580620 = e in omega (arith, most, is))
low_odd n least most (inr (inr (inl e))) = absurd (let is : n ≡ 35 = e in omega (arith, least, is))
low_odd n least most (inr (inr (inr (inl e)))) = absurd (let is : n ≡ 208 = e in omega (arith, most, is))
low_odd n least most (inr (inr (inr (inr e)))) = absurd (let is : n ≡ 210 = e in omega (arith, most, is))

high_odd : {A : Type 0} (n : ℕ) → 211 ≤ n → n ≤ 16580619 → IsPlainOp n → A
high_odd n least most (inl r) = absurd (let low : n ≤ 68 = r.1 in omega (arith, least, low))
high_odd n least most (inr (inl e)) = absurd (let is : n ≡ 16580620 = e in omega (arith, most, is))
high_odd n least most (inr (inr (inl e))) = absurd (let is : n ≡ 35 = e in omega (arith, least, is))
high_odd n least most (inr (inr (inr (inl e)))) = absurd (let is : n ≡ 208 = e in omega (arith, least, is))
high_odd n least most (inr (inr (inr (inr e)))) = absurd (let is : n ≡ 210 = e in omega (arith, least, is))

narrow_only : (wide : Bool) → 65 ≡ offset_const wide → wide ≡ false
narrow_only true e = absurd (let is : 65 ≡ 66 = e in omega (arith, is))
narrow_only false e = refl

wide_only : (wide : Bool) → 66 ≡ offset_const wide → wide ≡ true
wide_only true e = refl
wide_only false e = absurd (let is : 66 ≡ 65 = e in omega (arith, is))

high_const : (wide : Bool) (n : ℕ) → 67 ≤ n → n ≡ offset_const wide → ⊥
high_const true n least e = let is : n ≡ 66 = e in omega (arith, least, is)
high_const false n least e = let is : n ≡ 65 = e in omega (arith, least, is)

low_const : (wide : Bool) (n : ℕ) → n ≤ 64 → n ≡ offset_const wide → ⊥
low_const true n most e = let is : n ≡ 66 = e in omega (arith, most, is)
low_const false n most e = let is : n ≡ 65 = e in omega (arith, most, is)

-- ---- offsets

module _ (s : wire.Module) (bodies : List Said) where
  abbrev M : Abstract
  M = module_of s bodies

  abbrev types : List RawGlobalType
  types = (context_of s).globals

  global_at : (g : ℕ) → Same (slice_get (globals_of s) g) (slice_get types g)
  global_at g = looked_at (λ (x : Global). x.ty) global_type_of (globals_of s) types (globals_look s) g

  abbrev Gives : Bool → Op → Type 0
  Gives wide o = (o.op ≡ offset_const wide) ⊎ IsGetOf M (offset_type wide) o

  single_by : (wide : Bool) (k : RawConst) → records.SingleHolds types wide k → IsPlainOp (const_of k).op → Gives wide (const_of k)
  single_by wide (ops.I32Const z) h plain = inl (ap offset_const (sym h))
  single_by wide (ops.I64Const z) h plain = inl (ap offset_const (sym h))
  single_by wide (ops.F32Const bits) h plain = absurd h
  single_by wide (ops.F64Const bits) h plain = absurd h
  single_by wide (ops.V128Const bytes) h plain = absurd h
  single_by wide (ops.RefNull x) h plain = absurd h
  single_by wide (ops.RefFunc f) h plain = absurd h
  single_by wide (ops.GlobalGet g) h plain = let q = get_by wide (slice_get (globals_of s) g) (slice_get types g) (global_at g) h in inr (refl, (g, q.0, refl, q.1, q.2))
  single_by wide ops.I32Add h plain = low_odd 106 (omega arith) (omega arith) plain
  single_by wide ops.I32Sub h plain = low_odd 107 (omega arith) (omega arith) plain
  single_by wide ops.I32Mul h plain = low_odd 108 (omega arith) (omega arith) plain
  single_by wide ops.I64Add h plain = low_odd 124 (omega arith) (omega arith) plain
  single_by wide ops.I64Sub h plain = low_odd 125 (omega arith) (omega arith) plain
  single_by wide ops.I64Mul h plain = low_odd 126 (omega arith) (omega arith) plain
  single_by wide (ops.StructNew t) h plain = high_odd 16449536 (omega arith) (omega arith) plain
  single_by wide (ops.StructNewDefault t) h plain = high_odd 16449537 (omega arith) (omega arith) plain
  single_by wide (ops.ArrayNew t) h plain = high_odd 16449542 (omega arith) (omega arith) plain
  single_by wide (ops.ArrayNewDefault t) h plain = high_odd 16449543 (omega arith) (omega arith) plain
  single_by wide (ops.ArrayNewFixed t n) h plain = high_odd 16449544 (omega arith) (omega arith) plain
  single_by wide ops.AnyConvertExtern h plain = high_odd 16449562 (omega arith) (omega arith) plain
  single_by wide ops.ExternConvertAny h plain = high_odd 16449563 (omega arith) (omega arith) plain
  single_by wide ops.RefI31 h plain = high_odd 16449564 (omega arith) (omega arith) plain

  -- a constant that is plain and no address is refused
  refused : (wide : Bool) (o : Op) → 67 ≤ o.op → Gives wide o → ⊥
  refused wide o high (inl e) = high_const wide o.op high e
  refused wide o high (inr get) = let is : o.op ≡ 35 = get.0 in omega (arith, high, is)

  single_was : (wide : Bool) (k : RawConst) → (IsPlainOp (const_of k).op → Gives wide (const_of k)) → records.SingleHolds types wide k
  single_was wide (ops.I32Const z) h = narrow_by (h (inl (omega arith, omega arith)))
    where
      narrow_by : Gives wide (const_of (ops.I32Const z)) → wide ≡ false
      narrow_by (inl e) = narrow_only wide e
      narrow_by (inr get) = absurd (let is : 65 ≡ 35 = get.0 in omega (arith, is))
  single_was wide (ops.I64Const z) h = wide_by (h (inl (omega arith, omega arith)))
    where
      wide_by : Gives wide (const_of (ops.I64Const z)) → wide ≡ true
      wide_by (inl e) = wide_only wide e
      wide_by (inr get) = absurd (let is : 66 ≡ 35 = get.0 in omega (arith, is))
  single_was wide (ops.F32Const bits) h = refused wide (const_of (ops.F32Const bits)) (omega arith) (h (inl (omega arith, omega arith)))
  single_was wide (ops.F64Const bits) h = refused wide (const_of (ops.F64Const bits)) (omega arith) (h (inl (omega arith, omega arith)))
  single_was wide (ops.V128Const bytes) h = refused wide (const_of (ops.V128Const bytes)) (omega arith) (h (inr (inl refl)))
  single_was wide (ops.RefNull x) h = refused wide (const_of (ops.RefNull x)) (omega arith) (h (inr (inr (inr (inl refl)))))
  single_was wide (ops.RefFunc f) h = refused wide (const_of (ops.RefFunc f)) (omega arith) (h (inr (inr (inr (inr refl)))))
  single_was wide (ops.GlobalGet g) h = got_by (h (inr (inr (inl refl))))
    where
      same_index : (g j : ℕ) → ◌≡◌ {A = List Arg} (Index (Globals, g) ∷ []) (Index (Globals, j) ∷ []) → g ≡ j
      same_index g j e = let p : ◌≡◌ {A = Item} (Globals, g) (Globals, j) = cc in ap (λ (x : Item). x.1) p

      got_by : Gives wide (const_of (ops.GlobalGet g)) → records.GlobalIsAddress wide (slice_get types g)
      got_by (inl e) = absurd (low_const wide 35 (omega arith) e)
      got_by (inr get) =
          let is : g ≡ get.1.0 = same_index g get.1.0 get.1.2 in
          get_was wide (slice_get (globals_of s) g) (slice_get types g) (global_at g) get.1.1 (ap (slice_get (globals_of s)) is ∙ get.1.3) get.1.4
  single_was wide ops.I32Add h = tt
  single_was wide ops.I32Sub h = tt
  single_was wide ops.I32Mul h = tt
  single_was wide ops.I64Add h = tt
  single_was wide ops.I64Sub h = tt
  single_was wide ops.I64Mul h = tt
  single_was wide (ops.StructNew t) h = tt
  single_was wide (ops.StructNewDefault t) h = tt
  single_was wide (ops.ArrayNew t) h = tt
  single_was wide (ops.ArrayNewDefault t) h = tt
  single_was wide (ops.ArrayNewFixed t n) h = tt
  single_was wide ops.AnyConvertExtern h = tt
  single_was wide ops.ExternConvertAny h = tt
  single_was wide ops.RefI31 h = tt

  offset_by : (wide : Bool) (x : Expression) → records.OffsetHolds types wide x → OffsetHolds M wide (consts_of x)
  offset_by wide [] h = tt
  offset_by wide (k ∷ []) h = single_by wide k h
  offset_by wide (k ∷ next ∷ rest) h = tt

  offset_was : (wide : Bool) (x : Expression) → OffsetHolds M wide (consts_of x) → records.OffsetHolds types wide x
  offset_was wide [] h = tt
  offset_was wide (k ∷ []) h = single_was wide k h
  offset_was wide (k ∷ next ∷ rest) h = tt

  -- ---- element segments

  abbrev SameTable : Option Table → Option RawTableType → Type 0
  SameTable o y = option_map (λ (t : Table). t.ty) o ≡ option_map table_type_of y

  abbrev tables : List RawTableType
  tables = (context_of s).tables

  table_at : (t : ℕ) → SameTable (slice_get (tables_of s) t) (slice_get tables t)
  table_at t = looked_at (λ (x : Table). x.ty) table_type_of (tables_of s) tables (tables_look s) t

  table_by : (o : Option Table) (y : Option RawTableType) (x : Expression) → SameTable o y → records.TableOffsetHolds types y x → (t : Table) → o ≡ Some t → OffsetHolds M t.ty.limits.wide (consts_of x)
  table_by o None x same h t is = let p : Some t.ty ≡ None = sym (ap (option_map (λ (t : Table). t.ty)) is) ∙ same in absurd (cc)
  table_by o (Some y) x same h t is =
      let e : t.ty ≡ table_type_of y = some_inj t.ty (table_type_of y) (sym (ap (option_map (λ (t : Table). t.ty)) is) ∙ same) in
      subst (λ (a : TableType). OffsetHolds M a.limits.wide (consts_of x)) (sym e) (offset_by y.limits.wide x h)

  table_was : (o : Option Table) (y : Option RawTableType) (x : Expression) → SameTable o y → ((t : Table) → o ≡ Some t → OffsetHolds M t.ty.limits.wide (consts_of x)) → records.TableOffsetHolds types y x
  table_was o None x same h = tt
  table_was None (Some y) x same h = absurd (cc)
  table_was (Some t) (Some y) x same h =
      offset_was y.limits.wide x (subst (λ (a : TableType). OffsetHolds M a.limits.wide (consts_of x)) (some_inj t.ty (table_type_of y) same) (h t refl))

  mode_by : (m : entries.ElementMode) → records.ElementModeOffsetHolds tables types m → (table : ℕ) (offset : List Op) (t : Table) → element_kind m ≡ ActiveElements table offset → slice_get (tables_of s) table ≡ Some t → OffsetHolds M t.ty.limits.wide offset
  mode_by (entries.ActiveElements table x) h u offset t k there =
      let same : unwrap_or table 0 ≡ u = cc in
      let is : consts_of x ≡ offset = cc in
      subst (λ (l : List Op). OffsetHolds M t.ty.limits.wide l) is
      (table_by (slice_get (tables_of s) (unwrap_or table 0)) (slice_get tables (unwrap_or table 0)) x (table_at (unwrap_or table 0)) h t (ap (slice_get (tables_of s)) same ∙ there))
  mode_by entries.PassiveElements h u offset t k there = absurd (cc)
  mode_by entries.DeclaredElements h u offset t k there = absurd (cc)

  mode_was : (m : entries.ElementMode) → ((table : ℕ) (offset : List Op) (t : Table) → element_kind m ≡ ActiveElements table offset → slice_get (tables_of s) table ≡ Some t → OffsetHolds M t.ty.limits.wide offset) → records.ElementModeOffsetHolds tables types m
  mode_was (entries.ActiveElements table x) h =
      table_was (slice_get (tables_of s) (unwrap_or table 0)) (slice_get tables (unwrap_or table 0)) x (table_at (unwrap_or table 0)) (λ t is. h (unwrap_or table 0) (consts_of x) t refl is)
  mode_was entries.PassiveElements h = tt
  mode_was entries.DeclaredElements h = tt

  pub elements_hold : All (records.ElementOffsetHolds tables types) s.elements → (i table : ℕ) (e : Element) (t : Table) (offset : List Op) → slice_get (elements_of s) i ≡ Some e → e.kind ≡ ActiveElements table offset → slice_get (tables_of s) table ≡ Some t → OffsetHolds M t.ty.limits.wide offset
  elements_hold h i table e t offset at k there =
      let w = mapped_some element_of (slice_get s.elements i) e (sym (got_map element_of s.elements i) ∙ at) in
      mode_by w.0.mode (all_at (records.ElementOffsetHolds tables types) s.elements i w.0 (recursion_from_All (records.ElementOffsetHolds tables types) s.elements h) w.1) table offset t (sym (ap (λ (x : Element). x.kind) w.2) ∙ k) there

  pub elements_held : ((i table : ℕ) (e : Element) (t : Table) (offset : List Op) → slice_get (elements_of s) i ≡ Some e → e.kind ≡ ActiveElements table offset → slice_get (tables_of s) table ≡ Some t → OffsetHolds M t.ty.limits.wide offset) → All (records.ElementOffsetHolds tables types) s.elements
  elements_held h =
      All-from_recursion (records.ElementOffsetHolds tables types) s.elements (all_each (records.ElementOffsetHolds tables types) s.elements
      (λ i x at. mode_was x.mode (λ table offset t k there. h i table (element_of x) t offset (got_map element_of s.elements i ∙ ap (option_map element_of) at) k there)))

  -- ---- data segments

  abbrev SameMemory : Option Memory → Option RawLimits → Type 0
  SameMemory o y = option_map (λ (m : Memory). m.ty) o ≡ option_map memory_type_of y

  abbrev memories : List RawLimits
  memories = (context_of s).memories

  memory_at : (i : ℕ) → SameMemory (slice_get (memories_of s) i) (slice_get memories i)
  memory_at i = looked_at (λ (x : Memory). x.ty) memory_type_of (memories_of s) memories (memories_look s) i

  memory_by : (o : Option Memory) (y : Option RawLimits) (x : Expression) → SameMemory o y → records.MemoryOffsetHolds types y x → (m : Memory) → o ≡ Some m → OffsetHolds M m.ty.limits.wide (consts_of x)
  memory_by o None x same h m is = let p : Some m.ty ≡ None = sym (ap (option_map (λ (m : Memory). m.ty)) is) ∙ same in absurd (cc)
  memory_by o (Some y) x same h m is =
      let e : m.ty ≡ memory_type_of y = some_inj m.ty (memory_type_of y) (sym (ap (option_map (λ (m : Memory). m.ty)) is) ∙ same) in
      subst (λ (a : MemoryType). OffsetHolds M a.limits.wide (consts_of x)) (sym e) (offset_by y.wide x h)

  memory_was : (o : Option Memory) (y : Option RawLimits) (x : Expression) → SameMemory o y → ((m : Memory) → o ≡ Some m → OffsetHolds M m.ty.limits.wide (consts_of x)) → records.MemoryOffsetHolds types y x
  memory_was o None x same h = tt
  memory_was None (Some y) x same h = absurd (cc)
  memory_was (Some m) (Some y) x same h =
      offset_was y.wide x (subst (λ (a : MemoryType). OffsetHolds M a.limits.wide (consts_of x)) (some_inj m.ty (memory_type_of y) same) (h m refl))

  data_mode_by : (d : entries.DataMode) → records.DataModeOffsetHolds memories types d → (memory : ℕ) (offset : List Op) (m : Memory) → data_kind d ≡ ActiveData memory offset → slice_get (memories_of s) memory ≡ Some m → OffsetHolds M m.ty.limits.wide offset
  data_mode_by (entries.ActiveData memory x) h u offset m k there =
      let same : memory ≡ u = cc in
      let is : consts_of x ≡ offset = cc in
      subst (λ (l : List Op). OffsetHolds M m.ty.limits.wide l) is
      (memory_by (slice_get (memories_of s) memory) (slice_get memories memory) x (memory_at memory) h m (ap (slice_get (memories_of s)) same ∙ there))
  data_mode_by entries.PassiveData h u offset m k there = absurd (cc)

  data_mode_was : (d : entries.DataMode) → ((memory : ℕ) (offset : List Op) (m : Memory) → data_kind d ≡ ActiveData memory offset → slice_get (memories_of s) memory ≡ Some m → OffsetHolds M m.ty.limits.wide offset) → records.DataModeOffsetHolds memories types d
  data_mode_was (entries.ActiveData memory x) h =
      memory_was (slice_get (memories_of s) memory) (slice_get memories memory) x (memory_at memory) (λ m is. h memory (consts_of x) m refl is)
  data_mode_was entries.PassiveData h = tt

  pub data_hold : All (records.DataOffsetHolds memories types) s.data_segments → (i memory : ℕ) (d : DataSegment) (m : Memory) (offset : List Op) → slice_get (data_segments_of s) i ≡ Some d → d.kind ≡ ActiveData memory offset → slice_get (memories_of s) memory ≡ Some m → OffsetHolds M m.ty.limits.wide offset
  data_hold h i memory d m offset at k there =
      let w = mapped_some data_of (slice_get s.data_segments i) d (sym (got_map data_of s.data_segments i) ∙ at) in
      data_mode_by w.0.mode (all_at (records.DataOffsetHolds memories types) s.data_segments i w.0 (recursion_from_All (records.DataOffsetHolds memories types) s.data_segments h) w.1) memory offset m (sym (ap (λ (x : DataSegment). x.kind) w.2) ∙ k) there

  pub data_held : ((i memory : ℕ) (d : DataSegment) (m : Memory) (offset : List Op) → slice_get (data_segments_of s) i ≡ Some d → d.kind ≡ ActiveData memory offset → slice_get (memories_of s) memory ≡ Some m → OffsetHolds M m.ty.limits.wide offset) → All (records.DataOffsetHolds memories types) s.data_segments
  data_held h =
      All-from_recursion (records.DataOffsetHolds memories types) s.data_segments (all_each (records.DataOffsetHolds memories types) s.data_segments
      (λ i x at. data_mode_was x.mode (λ memory offset m k there. h i memory (data_of x) m offset (got_map data_of s.data_segments i ∙ ap (option_map data_of) at) k there)))
