-- Where each item has the place of its index, what the rules on indices hold of looks up to itself.
use Rattle.std.proofs.Common.{◌≡◌, ℕ, ◌+◌, ◌<◌, ◌≤◌, List, [], ◌∷◌, map, length, get_or, Option, Some, None, refl, ap, ap₂, arith}
use Rattle.std.specs.Prelude.{option_and_then, option_map, unwrap_or}
use Rattle.std.proofs.lemmas.List.Elements.{All-head, All-tail}
use Rattle.wasm_forms.specs.Reading.{◌>>=◌}
use Rattle.wasm_forms.specs.declared.types.RawHeap.{RawHeap}
use Rattle.wasm_forms.specs.declared.types.RawHeap.TheVariants as heaps
use Rattle.wasm_forms.specs.declared.types.RawRef.{RawRef}
use Rattle.wasm_forms.specs.declared.types.RawVal.{RawVal}
use Rattle.wasm_forms.specs.declared.types.RawVal.TheVariants as vals
use Rattle.wasm_entries.specs.declared.record.RawConst.{RawConst}
use Rattle.wasm_entries.specs.declared.record.RawConst.TheVariants as ops
use Rattle.wasm_entries.specs.declared.record.RawDesc.{RawDesc}
use Rattle.wasm_entries.specs.declared.record.RawDesc.TheVariants as descs
use Rattle.wasm_entries.specs.declared.record.RawExportKind.{RawExportKind}
use Rattle.wasm_entries.specs.declared.record.RawExportKind.TheVariants as kinds
use Rattle.wasm_entries.specs.Record as entries
use Rattle.wasm_frames.specs.Record as wire
use Rattle.wasm_wire.specs.Indices.{HeapHolds, ValueHolds, ConstHolds, ExpressionHolds, ElementHolds, ElementModeHolds, ItemsHold, DataModeHolds, InitialHolds, TableHolds, GlobalHolds, DescHolds, IndicesHold, StartExists, count_of, with_globals}
use Rattle.wasm_wire.specs.declared.rules.counts.Counts.{Counts}
use Rattle.walrus_base.specs.Types.{HeapType, Concrete, RefType, ValType, Ref}
use Rattle.walrus_base.specs.Operators.{Space, Types, Functions, Globals, Arg, Index, Number, Byte, Heap, Op}
use Rattle.walrus_code.specs.FromRaw.{heap_of}
use Rattle.walrus_code.specs.Names.{Lookup, named_args, named_heap}
use Rattle.walrus_constants.specs.Named.{named_const_op, named_initialiser}
use Rattle.walrus_model.specs.Abstract.{Global, Table}
use Rattle.walrus_model.specs.Constants.{const_of, consts_of, plain}
use Rattle.walrus_model.specs.Sections.{global_of, space_of, table_of}
use Rattle.walrus_reading.specs.Stays.{AllStay, AreNumbered, ConstStays, DescStays, ElementStays, GlobalStays, ItemsStay, ModeStays, PlaceStays, RefStays, TableStays, ValStays}

module _ (names : Lookup) where
  -- ---- an operator, by what its arguments look up to

  made : ℕ → Option (List Arg) → Option Op
  made op found = found >>= λ args. Some (plain op args)

  one_index : (op : ℕ) (space : Space) (n : ℕ) (more : List Arg) → names space n ≡ Some n → named_args names (λ x. Some x) more ≡ Some more → named_const_op names (plain op (Index (space, n) ∷ more)) ≡ Some (plain op (Index (space, n) ∷ more))
  one_index op space n more e rest =
      ap₂ (λ (o : Option ℕ) (found : Option (List Arg)). ((o >>= λ k. Some (Index (space, k))) >>= λ arg. found >>= λ others. Some (arg ∷ others)) >>= λ args. Some (plain op args)) e rest

  bytes_stay : (bytes : List ℕ) → named_args names (λ x. Some x) (map Byte bytes) ≡ Some (map Byte bytes)
  bytes_stay [] = refl
  bytes_stay (b ∷ bytes) = ap (λ (found : Option (List Arg)). found >>= λ others. Some (Byte b ∷ others)) (bytes_stay bytes)

  -- ---- what names types

  module _ (types : ℕ) (numbered : (n : ℕ) → n < types → names Types n ≡ Some n) where
    heap_stays : (h : RawHeap) → HeapHolds types h → named_heap names (heap_of h) ≡ Some (heap_of h)
    heap_stays (heaps.Index t) lt = ap (λ (o : Option ℕ). o >>= λ found. Some (Concrete found)) (numbered t lt)
    heap_stays (heaps.Abstract b) h = refl

    ref_stays : (r : RawRef) → HeapHolds types r.heap → RefStays names r
    ref_stays r h = ap (λ (o : Option (HeapType ℕ)). o >>= λ heap. Some (let found : RefType ℕ = record { nullable = r.nullable; heap = heap } in found)) (heap_stays r.heap h)

    val_stays : (v : RawVal) → ValueHolds types v → ValStays names v
    val_stays (vals.Ref r) h = ap (λ (o : Option (HeapType ℕ)). o >>= λ heap. Some (Ref (record { nullable = r.nullable; heap = heap }))) (heap_stays r.heap h)
    val_stays vals.I32 h = refl
    val_stays vals.I64 h = refl
    val_stays vals.F32 h = refl
    val_stays vals.F64 h = refl
    val_stays vals.V128 h = refl

    -- what an import brings
    pub desc_stays : (d : RawDesc) → DescHolds types d → DescStays names d
    desc_stays (descs.Function t) h = numbered t h
    desc_stays (descs.Table t) h = ref_stays t.element h
    desc_stays (descs.Memory l) h = tt
    desc_stays (descs.Global g) h = val_stays g.value h
    desc_stays (descs.Tag t) h = numbered t h

  -- ---- constant expressions

  module _ (c : Counts) (numbered : AreNumbered names c) where
    const_stays : (op : RawConst) → ConstHolds c op → named_const_op names (const_of op) ≡ Some (const_of op)
    const_stays (ops.GlobalGet g) h = one_index _ Globals g [] (numbered.globals g h) refl
    const_stays (ops.RefFunc f) h = one_index _ Functions f [] (numbered.functions f h) refl
    const_stays (ops.RefNull heap) h = ap (λ (o : Option (HeapType ℕ)). ((o >>= λ found. Some (Heap found)) >>= λ arg. Some (arg ∷ [])) >>= λ args. Some (plain (const_of (ops.RefNull heap)).op args)) (heap_stays c.types numbered.types heap h)
    const_stays (ops.StructNew t) h = one_index _ Types t [] (numbered.types t h) refl
    const_stays (ops.StructNewDefault t) h = one_index _ Types t [] (numbered.types t h) refl
    const_stays (ops.ArrayNew t) h = one_index _ Types t [] (numbered.types t h) refl
    const_stays (ops.ArrayNewDefault t) h = one_index _ Types t [] (numbered.types t h) refl
    const_stays (ops.ArrayNewFixed t n) h = one_index _ Types t (Number n ∷ []) (numbered.types t h) refl
    const_stays (ops.V128Const bytes) h = ap (λ (o : Option (List Arg)). o >>= λ args. Some (plain (const_of (ops.V128Const bytes)).op args)) (bytes_stay bytes)
    const_stays (ops.I32Const z) h = refl
    const_stays (ops.I64Const z) h = refl
    const_stays (ops.F32Const bits) h = refl
    const_stays (ops.F64Const bits) h = refl
    const_stays ops.I32Add h = refl
    const_stays ops.I32Sub h = refl
    const_stays ops.I32Mul h = refl
    const_stays ops.I64Add h = refl
    const_stays ops.I64Sub h = refl
    const_stays ops.I64Mul h = refl
    const_stays ops.AnyConvertExtern h = refl
    const_stays ops.ExternConvertAny h = refl
    const_stays ops.RefI31 h = refl

    expression_stays : (e : entries.Expression) → ExpressionHolds c e → ConstStays names e
    expression_stays [] h = refl
    expression_stays (op ∷ e) h =
        ap₂ (λ (o : Option Op) (rest : Option (List Op)). o >>= λ found. rest >>= λ others. Some (found ∷ others)) (const_stays op (All-head (ConstHolds c) op e h)) (expression_stays e (All-tail (ConstHolds c) op e h))

    initial_stays : (e : Option entries.Expression) → InitialHolds c e → named_initialiser names (option_map consts_of e) ≡ Some (option_map consts_of e)
    initial_stays None h = refl
    initial_stays (Some e) h = ap (λ (o : Option (List Op)). o >>= λ found. Some (Some found)) (expression_stays e h)

  -- fewer globals in scope are numbered too
  fewer : (c : Counts) (n : ℕ) → n ≤ c.globals → AreNumbered names c → AreNumbered names (with_globals c n)
  fewer c n le a = record { types = a.types; functions = a.functions; tables = a.tables; memories = a.memories; tags = a.tags; globals = λ k lt. a.globals k (omega (arith, le, lt)) }

  -- ---- items

  module _ (c : Counts) (a : AreNumbered names c) where
    table_stays : (t : entries.Table) → c.imported_globals ≤ c.globals → TableHolds c t → TableStays names t
    table_stays t le h =
        let x : Table = table_of t in
        ap₂ (λ (o : Option (RefType ℕ)) (i : Option (Option (List Op))). o >>= λ element. i >>= λ initialiser. Some (let found : Table = record { origin = x.origin; ty = record { limits = x.ty.limits; element = element }; initialiser = initialiser } in found))
        (ref_stays c.types a.types t.ty.element h.0) (initial_stays (with_globals c c.imported_globals) (fewer c c.imported_globals le a) t.initial h.1)

    global_stays : (n : ℕ) (g : entries.Global) → n ≤ c.globals → GlobalHolds c n g → GlobalStays names g
    global_stays n g le h =
        let x : Global = global_of g in
        ap₂ (λ (o : Option (ValType ℕ)) (i : Option (List Op)). o >>= λ value. (i >>= λ found. Some (Some found)) >>= λ initialiser. Some (let found : Global = record { origin = x.origin; ty = record { value = value; mutable = x.ty.mutable; shared = x.ty.shared }; initialiser = initialiser } in found))
        (val_stays c.types a.types g.ty.value h.0) (expression_stays (with_globals c n) (fewer c n le a) g.initial h.1)

    place_stays : (m : entries.ElementMode) → ElementModeHolds c m → PlaceStays names m
    place_stays (entries.ActiveElements table offset) h = (a.tables (unwrap_or table 0) h.0, expression_stays c a offset h.1)
    place_stays entries.PassiveElements h = tt
    place_stays entries.DeclaredElements h = tt

    items_stay : (xs : entries.Items) → ItemsHold c xs → ItemsStay names xs
    items_stay (entries.Functions fs) h = λ i d lt. a.functions (get_or fs i d) (h i d lt)
    items_stay (entries.Expressions ty es) h = (ref_stays c.types a.types ty h.0, λ i d lt. expression_stays c a (get_or es i d) (h.1 i d lt))

    element_stays : (e : entries.Element) → ElementHolds c e → ElementStays names e
    element_stays e h = (place_stays e.mode h.0, items_stay e.items h.1)

    mode_stays : (m : entries.DataMode) → DataModeHolds c m → ModeStays names m
    mode_stays (entries.ActiveData memory offset) h = (a.memories memory h.0, expression_stays c a offset h.1)
    mode_stays entries.PassiveData h = tt

    kind_stays : (k : RawExportKind) (n : ℕ) → n < count_of c k → names (space_of k) n ≡ Some n
    kind_stays kinds.Function n lt = a.functions n lt
    kind_stays kinds.Table n lt = a.tables n lt
    kind_stays kinds.Memory n lt = a.memories n lt
    kind_stays kinds.Global n lt = a.globals n lt
    kind_stays kinds.Tag n lt = a.tags n lt

    start_stays : (start : Option ℕ) → StartExists c start → option_and_then (names Functions) start ≡ start
    start_stays None h = refl
    start_stays (Some f) lt = a.functions f lt

    pub all_stay : (m : wire.Module) → c.imported_globals + length m.globals ≡ c.globals → IndicesHold c m → AllStay names m
    all_stay m count h = record {
      imports = λ i d lt. desc_stays c.types a.types (get_or m.imports i d).desc (h.imports i d lt);
      functions = λ i d lt. a.types (get_or m.functions i d) (h.functions i d lt);
      tables = λ i d lt. table_stays (get_or m.tables i d) (omega (arith, count)) (h.tables i d lt);
      tags = λ i d lt. a.types (get_or m.tags i d) (h.tags i d lt);
      globals = λ i d lt. global_stays (c.imported_globals + i) (get_or m.globals i d) (omega (arith, count, lt)) (h.globals i d lt);
      exports = λ i d lt. kind_stays (get_or m.exports i d).kind (get_or m.exports i d).index (h.exports i d lt);
      start = start_stays m.start h.start;
      elements = λ i d lt. element_stays (get_or m.elements i d) (h.elements i d lt);
      data_segments = λ i d lt. mode_stays (get_or m.data_segments i d).mode (h.data_segments i d lt);
    }
